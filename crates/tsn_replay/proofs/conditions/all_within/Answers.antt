use Rattle.std.proofs.Common.{refl, sym, ◌∙◌, subst}
use Rattle.tsn_replay.specs.Faults.{IsWithin}
use Rattle.tsn_model.proofs.Rest.{all_more, all_done}
use Rattle.tsn_replay.proofs.conditions.all_within.Goals as goal

pub loop-frame-preserved : goal.loop-frame-preserved
loop-frame-preserved c = record {
  so_far = all_more (IsWithin c.args.end) c.args.frames.now c.loop-frame.frame-index c.frame-item.result c.loop-frame-test.true c.loop-frame.invariant.so_far
      (subst (IsWithin c.args.end) c.frame-item.is (c.is_within.ensures.0 c.if-not-is_within.false));
  last = refl;
}

pub returns-then-not-is_within : goal.returns-then-not-is_within
returns-then-not-is_within c = (
  λ yes. absurd (cc yes),
  λ all. sym c.if-not-is_within.true ∙ c.is_within.ensures.1 (subst (IsWithin c.args.end) (sym c.frame-item.is)
      (all c.loop-frame.frame-index c.frame-item.result c.loop-frame-test.true)),
)

pub returns : goal.returns
returns c = (
  λ yes. all_done (IsWithin c.args.end) c.args.frames.now c.loop-frame.frame-index c.loop-frame-test.false c.loop-frame.invariant.so_far,
  λ all. refl,
)
