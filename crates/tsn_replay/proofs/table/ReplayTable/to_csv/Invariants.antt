use Rattle.std.proofs.Common.{◌≡◌, ◌++◌, take, string_bytes}
use Rattle.std.specs.List.{flat_map}
use Rattle.tsn_replay.specs.Csv.{header_text, record_text}
use Rattle.tsn_replay.proofs.table.ReplayTable.to_csv.Given as goal

abbrev pub invariant-loop-row : goal.invariant-loop-row
invariant-loop-row l = string_bytes l.text ≡ header_text ++ flat_map (record_text l.problem) (take l.row-index l.self)
