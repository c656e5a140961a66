use Rattle.std.proofs.Common.{◌≡◌, ◌+◌, ◌≤◌, take, fold}
use Rattle.tsn_model.specs.Gates.{cycle_of}
use Rattle.tsn_chart.specs.Rest.{go_on}
use Rattle.tsn_chart.proofs.rest.go_through.Given as goal

abbrev pub invariant-loop-entry : goal.invariant-loop-entry
invariant-loop-entry l = record {
  so_far : l.run ≡ fold go_on l.fn.begun (take l.entry-index l.entries);
  bound : l.run.current ≤ l.fn.begun.current + cycle_of (take l.entry-index l.entries);
}
