use Rattle.std.proofs.Common.{◌≡◌, subst, sym, arith, inl, inr}
use Rattle.std.proofs.lemmas.Bool.{cases_lt}
use Rattle.tsn_timing.specs.Judgement.{IsFirstOverlapWith, IsOverlapOf}
use Rattle.tsn_timing.proofs.timing.Timing.first_overlap_of.Goals as goal

pub returns-in-Some : goal.returns-in-Some
returns-in-Some c =
    let same = c.in-Some.ensures.same_right in
    record {
      first = subst (λ j. IsFirstOverlapWith c.args.self.now c.args.offsets.now c.args.left j c.in-Some.triple) (sym same) c.in-Some.ensures;
      apart_before = λ right less. c.loop-right.invariant.apart right (omega arith);
    }

pub loop-right-preserved : goal.loop-right-preserved
loop-right-preserved c = record {
  apart = λ j below link lag overlap. elim (cases_lt j c.loop-right.right) [
    | inl earlier ↦ c.loop-right.invariant.apart j earlier link lag overlap
    | inr at ↦
        let is : j ≡ c.loop-right.right = omega arith in
        c.in_default.ensures link lag (subst (λ m. IsOverlapOf c.args.self.now c.args.offsets.now c.args.left m link lag) is overlap)
  ];
  end = c.loop-right.invariant.end;
}

pub returns : goal.returns
returns c =
    λ right link lag overlap.
    c.loop-right.invariant.apart right (omega arith) link lag overlap
