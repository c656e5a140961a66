use Rattle.std.proofs.Common.{◌≡◌, ◌<◌, ℕ}
use Rattle.tsn_model.specs.Network.{stream_count}
use Rattle.tsn_timing.specs.Judgement.{HasNoOverlap}
use Rattle.tsn_timing.proofs.timing.Timing.first_overlap.Given as goal

abbrev pub invariant-loop-left : goal.invariant-loop-left
invariant-loop-left l = record {
  apart : (i : ℕ) → i < l.left → HasNoOverlap l.self l.offsets i;
  end : l.left-end ≡ stream_count l.self;
}
