use Rattle.std.proofs.Common.{◌≡◌}
use Rattle.tsn_walk.proofs.below.Below.share.Given as goal

abbrev pub invariant-loop-depth : goal.invariant-loop-depth
invariant-loop-depth g l = record {
  descent : l.self.descent ≡ l.initial.self.descent;
  from : l.self.from ≡ l.initial.self.from;
}
