use Rattle.std.proofs.Common.{◌≡◌, ◌<◌, ℕ}
use Rattle.tsn_model.specs.Network.{stream_count}
use Rattle.tsn_timing.specs.Judgement.{ArePairApart}
use Rattle.tsn_timing.proofs.timing.Timing.first_overlap_of.Given as goal

abbrev pub invariant-loop-right : goal.invariant-loop-right
invariant-loop-right l = record {
  apart : (j : ℕ) → j < l.right → ArePairApart l.self l.offsets l.left j;
  end : l.right-end ≡ stream_count l.self;
}
