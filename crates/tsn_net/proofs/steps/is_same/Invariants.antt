use Rattle.std.proofs.Common.{◌≡◌, drop}
use Rattle.tsn_net.specs.DocumentView.{texts_view}
use Rattle.tsn_net.specs.Conditions.{is_same}
use Rattle.tsn_net.proofs.steps.is_same.Given as goal

-- whether the rests are the same is whether all are
abbrev pub invariant-loop-k : goal.invariant-loop-k
invariant-loop-k l =
    is_same (drop l.k (texts_view l.route)) (drop l.k (texts_view l.other)) ≡ is_same (texts_view l.route) (texts_view l.other)
