use Rattle.std.proofs.Common.{◌≡◌, ◌-◌, drop, length}
use Rattle.std.specs.List.{find, range_with_len}
use Rattle.tsn_net.specs.DocumentView.{texts_view}
use Rattle.tsn_net.specs.Conditions.{repeats}
use Rattle.tsn_net.specs.Matter.{stands_again, first_again}
use Rattle.tsn_net.proofs.routes.repeated.Given as goal

-- whether a name of the rest stands twice is whether one of all does, and the first that does is that of all
abbrev pub invariant-loop-i : goal.invariant-loop-i
invariant-loop-i l =
    let route = texts_view l.names in
    (repeats (drop l.i route) ≡ repeats route) × (find (stands_again route) (range_with_len l.i (length route - l.i)) ≡ first_again route)
