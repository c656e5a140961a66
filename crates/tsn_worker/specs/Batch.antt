-- How a worker goes on behind a batch.
--     IsGoingOn       at the node where the walk stands
use Rattle.tsn_worker.specs.declared.batch.Advance.{Advance}
use Rattle.tsn_worker.specs.declared.batch.Advance.TheVariants as turn

abbrev pub IsGoingOn : Advance → Type 0
IsGoingOn turn.GoesOn = Unit {0}
IsGoingOn turn.LooksAgain = ⊥
IsGoingOn turn.Finished = ⊥
IsGoingOn turn.Ends = ⊥
