use Rattle.std.proofs.Common.{◌≡◌, sym, ap, ◌∙◌, arith}
use Rattle.tsn_model.specs.Network.{stream_count}
use Rattle.tsn_conflict.proofs.Triples.{conflicts_first, conflicts_first-more, conflicts_of_is}
use Rattle.tsn_conflict.proofs.listing.triples_of.Goals as goal

pub loop-left-preserved : goal.loop-left-preserved
loop-left-preserved c = grind (arith, conflicts_first-more)

pub returns : goal.returns
returns c =
    let all : c.loop-left.left ≡ stream_count c.args.timing.now = omega arith in
    c.loop-left.invariant.so_far ∙ ap (conflicts_first c.args.timing.now) all ∙ sym (conflicts_of_is c.args.timing.now)
