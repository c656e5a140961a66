use Rattle.std.proofs.Common.{ℕ, ◌≤◌, ◌<◌, All, get_or}
use Rattle.tsn_chart.specs.declared.link.LinkShare.{LinkShare}
use Rattle.tsn_chart.proofs.link.least_slack.Given as goal

abbrev pub invariant-loop-share : goal.invariant-loop-share
invariant-loop-share l = record {
  least : (k : ℕ) (d : LinkShare) → k < l.share-index → l.least ≤ (get_or l.shares k d).slack;
  greatest : (n : ℕ) → All (λ (share : LinkShare). n ≤ share.slack) l.shares → n ≤ l.least;
}
