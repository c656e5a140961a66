use Rattle.std.proofs.Common.{◌+◌, List, take, sym, subst}
use Rattle.tsn_model.specs.Bridge.{LinkGates}
use Rattle.tsn_gate.specs.GateLists.{IsUsed}
use Rattle.tsn_chart.specs.declared.link.LinkShare.{LinkShare}
use Rattle.tsn_chart.specs.Shares.{AreLinkShares}
use Rattle.tsn_chart.proofs.Listing.{AreLinkShares-push}
use Rattle.tsn_chart.proofs.link.link_shares.Goals as goal

pub loop-list-preserved : goal.loop-list-preserved
loop-list-preserved c =
    let lists = c.args.lists.now in
    let i = c.loop-list.list-index in
    subst (λ xs. AreLinkShares c.args.timing.now c.args.valid.now (take (i + 1) lists) xs) (sym {A = List LinkShare} c.in_ok-add.ensures)
    (AreLinkShares-push c.args.timing.now c.args.valid.now lists c.loop-list.shares.items i c.list-item.result c.in_ok-share.share
    c.loop-list-test.true c.list-item.is c.loop-list.invariant c.in_ok-share.ensures)

pub link_share-requires-clause-used : goal.link_share-requires-clause-used
link_share-requires-clause-used c =
    subst (λ (list : LinkGates). IsUsed c.args.timing.now list.link) (sym c.list-item.is)
    (c.requires.used c.loop-list.list-index c.list-item.result c.loop-list-test.true)

pub link_share-requires-clause-valid : goal.link_share-requires-clause-valid
link_share-requires-clause-valid c = c.requires.valid
