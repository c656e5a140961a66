use Rattle.std.proofs.Common.{◌≡◌, ◌+◌, arith}
use Rattle.tsn_model.proofs.Lists.{range_more}
use Rattle.tsn_conflict.proofs.uses.links_of.Goals as goal

pub loop-link-preserved : goal.loop-link-preserved
loop-link-preserved c =
    let link = c.loop-link.link in
    let same : link ≡ 0 + link = omega arith in
    grind (arith, range_more)
