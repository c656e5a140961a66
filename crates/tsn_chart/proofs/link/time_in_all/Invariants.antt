use Rattle.std.proofs.Common.{◌≡◌, take}
use Rattle.tsn_chart.specs.Shares.{time_of}
use Rattle.tsn_chart.proofs.link.time_in_all.Given as goal

abbrev pub invariant-loop-entry : goal.invariant-loop-entry
invariant-loop-entry l = l.time ≡ time_of l.octet (take l.entry-index l.entries)
