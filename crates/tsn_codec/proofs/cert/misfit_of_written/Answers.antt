use Rattle.std.proofs.Common.{◌≡◌, true, arith}
use Rattle.tsn_codec.proofs.Pairs.{told_too}
use Rattle.tsn_codec.proofs.Written.{tree_refused}
use Rattle.tsn_codec.proofs.cert.misfit_of_written.Goals as goal

pub returns-then-ends : goal.returns-then-ends
returns-then-ends c =
    let ends : c.in_ok-ends.ends ≡ true = grind arith in
    let e = c.in_ok-ends.ensures ends in
    told_too _ c.misfit_of_nodes.ensures (λ m h. tree_refused _ m c.requires h e)
