use Rattle.std.proofs.Common.{All, subst, sym}
use Rattle.std.proofs.lemmas.Result.{IfOk-weaker}
use Rattle.tsn_gate.specs.GateLists.{IsUsed}
use Rattle.tsn_model.specs.Bridge.{LinkGates}
use Rattle.tsn_chart.specs.Shares.{AreLinkShares}
use Rattle.tsn_chart.proofs.Wholes.{shares_whole, shares_exist}
use Rattle.tsn_chart.proofs.shares.of_links.Goals as goal

pub returns-clause-whole : goal.returns-clause-whole
returns-clause-whole c =
    IfOk-weaker c.link_shares-shares.result (λ shares. AreLinkShares c.timing.result.now c.args.valid.now c.deref.result.now shares.items) _
    (λ shares are. shares_whole c.args.problem.now.network c.args.valid.now c.in_ok-lists.lists.items shares.items c.in_ok-lists.ensures.lists
    (subst (λ n. AreLinkShares n c.args.valid.now c.in_ok-lists.lists.items shares.items) c.timing.ensures
    (subst (λ lists. AreLinkShares c.timing.result.now c.args.valid.now lists shares.items) c.deref.ensures.value are))) c.link_shares-shares.ensures

pub returns-clause-exist : goal.returns-clause-exist
returns-clause-exist c =
    IfOk-weaker c.link_shares-shares.result (λ shares. AreLinkShares c.timing.result.now c.args.valid.now c.deref.result.now shares.items) _
    (λ shares are. shares_exist c.args.problem.now.network c.args.valid.now _ c.in_ok-lists.lists.items shares.items c.in_ok-lists.ensures.exist
    (subst (λ n. AreLinkShares n c.args.valid.now c.in_ok-lists.lists.items shares.items) c.timing.ensures
    (subst (λ lists. AreLinkShares c.timing.result.now c.args.valid.now lists shares.items) c.deref.ensures.value are))) c.link_shares-shares.ensures

pub link_shares-shares-requires-clause-used : goal.link_shares-shares-requires-clause-used
link_shares-shares-requires-clause-used c =
    subst (λ n. All (λ (list : LinkGates). IsUsed n list.link) c.deref.result.now) (sym c.timing.ensures)
    (subst (All (λ (list : LinkGates). IsUsed c.args.problem.now.network list.link)) (sym c.deref.ensures.value) c.in_ok-lists.ensures.lists.used)
