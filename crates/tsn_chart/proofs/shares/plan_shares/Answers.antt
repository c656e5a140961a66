use Rattle.std.proofs.Common.{ℕ, ◌≤◌, ◌<◌, ◌↔◌, All, length, sym, subst}
use Rattle.tsn_model.specs.Network.{IsWellFormed}
use Rattle.tsn_chart.specs.declared.link.LinkShare.{LinkShare}
use Rattle.tsn_chart.proofs.Slacks.{some_share, all_tolerate}
use Rattle.tsn_chart.proofs.shares.plan_shares.Goals as goal

pub least_slack-slack-requires : goal.least_slack-slack-requires
least_slack-slack-requires c =
    subst (λ xs. 0 < length xs) (sym c.deref-2.ensures.value)
    (some_share c.args.problem.now.network (subst IsWellFormed c.deref.ensures c.cycle-limits.ensures.well_formed) c.args.valid.now
    c.in_ok-links.links.items c.in_ok-links.ensures.value)

pub returns-clause-slack : goal.returns-clause-slack
returns-clause-slack c =
    let least = c.least_slack-slack.result in
    all_tolerate c.args.problem.now.network (subst IsWellFormed c.deref.ensures c.cycle-limits.ensures.well_formed) c.args.valid.now
    c.in_ok-links.links.items c.in_ok-links.ensures.value least
    (subst (λ xs. (n : ℕ) → All (λ (share : LinkShare). n ≤ share.slack) xs ↔ (n ≤ least)) c.deref-2.ensures.value c.least_slack-slack.ensures)

pub of_streams-requires : goal.of_streams-requires
of_streams-requires c = c.requires

pub of_links-requires : goal.of_links-requires
of_links-requires c = c.requires
