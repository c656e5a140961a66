-- The lines of a list's table, up to some entry.
use Rattle.std.proofs.Common.{ℕ, List, ◌++◌, length}
use Rattle.std.specs.List.{flat_map}
use Rattle.tsn_model.specs.declared.GateEntry.{GateEntry}
use Rattle.tsn_model.specs.Network.{link_at}
use Rattle.tsn_model.specs.Bridge.{LinkGates}
use Rattle.tsn_timing.specs.Problem.{NamedNetwork}
use Rattle.tsn_gate.specs.Table.{head_text, entry_text, name_at}

-- the head, and the lines of these entries
abbrev pub lines_of : NamedNetwork → LinkGates → List GateEntry → List ℕ
lines_of problem list entries =
    let link = link_at problem.network list.link in
    head_text list.link (name_at problem link.from) (name_at problem link.to) (length list.entries) ++ flat_map entry_text entries
