use Rattle.std.proofs.Common.{◌≡◌, subst, arith, inl, inr}
use Rattle.std.proofs.lemmas.Bool.{cases_lt}
use Rattle.tsn_timing.specs.Judgement.{IsOverlapOf}
use Rattle.tsn_timing.proofs.Judging.{first_from}
use Rattle.tsn_timing.proofs.timing.Timing.first_overlap.Goals as goal

pub returns-in-Some : goal.returns-in-Some
returns-in-Some c = first_from c.args.self.now c.args.offsets.now c.loop-left.left c.in-Some.triple c.loop-left.invariant.apart c.in-Some.ensures

pub loop-left-preserved : goal.loop-left-preserved
loop-left-preserved c = record {
  apart = λ i below right link lag overlap. elim (cases_lt i c.loop-left.left) [
    | inl earlier ↦ c.loop-left.invariant.apart i earlier right link lag overlap
    | inr at ↦
        let is : i ≡ c.loop-left.left = omega arith in
        c.in_default.ensures right link lag (subst (λ m. IsOverlapOf c.args.self.now c.args.offsets.now m right link lag) is overlap)
  ];
  end = c.loop-left.invariant.end;
}

pub returns : goal.returns
returns c =
    λ triple conflict overlaps.
    c.loop-left.invariant.apart triple.left (omega arith) triple.right triple.link triple.lag (conflict, overlaps)
