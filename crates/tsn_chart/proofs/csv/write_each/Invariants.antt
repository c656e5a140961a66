use Rattle.std.proofs.Common.{◌≡◌, ◌++◌, take, string_bytes}
use Rattle.std.specs.List.{flat_map}
use Rattle.tsn_chart.specs.Csv.{listener_record}
use Rattle.tsn_chart.proofs.csv.write_each.Given as goal

abbrev pub invariant-loop-listener : goal.invariant-loop-listener
invariant-loop-listener l =
    string_bytes l.text ≡ string_bytes l.initial.text ++ flat_map (listener_record l.problem l.stream) (take l.listener-index l.listeners)
