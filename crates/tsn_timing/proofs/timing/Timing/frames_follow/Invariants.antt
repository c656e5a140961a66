use Rattle.std.proofs.Common.{◌≡◌, ◌<◌, ℕ, length}
use Rattle.tsn_timing.specs.Neighbours.{AreApartAt}
use Rattle.tsn_timing.proofs.timing.Timing.frames_follow.Given as goal

abbrev pub invariant-loop-link : goal.invariant-loop-link
invariant-loop-link l = record {
  apart : (link : ℕ) → link < l.link → AreApartAt l.self l.offsets link;
  end : l.link-end ≡ length l.self.links;
}
