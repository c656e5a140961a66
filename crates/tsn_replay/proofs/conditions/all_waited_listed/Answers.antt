use Rattle.std.proofs.Common.{◌≡◌, get_or, sym, ap, ◌∙◌, subst, arith, inl, inr, refl, true≢false}
use Rattle.std.proofs.lemmas.Bool.{cases_lt}
use Rattle.std.proofs.lemmas.List.{get_or_default}
use Rattle.tsn_replay.specs.Values.{FrameValue}
use Rattle.tsn_replay.specs.Faults.{IsListed}
use Rattle.tsn_replay.proofs.conditions.all_waited_listed.Goals as goal

pub returns-then-not-is_listed : goal.returns-then-not-is_listed
returns-then-not-is_listed c =
    let here : c.frame.inside.link ≡ (get_or c.args.frames.now c.loop-frame.frame-index c.frame-item.result).link = ap (λ (f : FrameValue). f.link) (c.frame.view_is ∙ c.frame-item.is) in (
      λ never. absurd (true≢false (sym never)),
      λ all.
          let listed = c.is_listed.ensures.1 (subst (IsListed c.args.lists.now) (sym here) (all c.loop-frame.frame-index c.frame-item.result c.loop-frame-test.true)) in
          sym c.if-not-is_listed.true ∙ listed,
    )

pub loop-frame-preserved : goal.loop-frame-preserved
loop-frame-preserved c =
    let below = c.loop-frame-test.true in
    let listed = c.is_listed.ensures.0 c.if-not-is_listed.false in
    record {
      done = λ k d upto. elim (cases_lt k c.loop-frame.frame-index) [
        | inl old ↦ c.loop-frame.invariant.done k d old
        | inr new ↦
            let same : c.loop-frame.frame-index ≡ k = omega arith in
            let here : c.frame.inside.link ≡ (get_or c.args.frames.now k d).link =
            ap (λ (f : FrameValue). f.link) (c.frame.view_is ∙ (c.frame-item.is ∙ (get_or_default c.args.frames.now c.loop-frame.frame-index c.frame-item.result d below ∙ ap (λ n. get_or c.args.frames.now n d) same))) in
            subst (IsListed c.args.lists.now) here listed
      ];
      last = refl;
    }
