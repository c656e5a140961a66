use Rattle.std.proofs.Common.{◌≡◌, take, length}
use Rattle.tsn_replay.proofs.cycles.openings_of.Given as goal

abbrev pub invariant-loop-list : goal.invariant-loop-list
invariant-loop-list l = record { so_far : l.gates.items ≡ take l.list-index l.lists; last : l.list-index-end ≡ length l.lists }
