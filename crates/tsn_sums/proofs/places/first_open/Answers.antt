use Rattle.std.proofs.Common.{inl, inr, arith}
use Rattle.std.proofs.lemmas.Bool.{cases_lt}
use Rattle.tsn_sums.proofs.places.first_open.Goals as goal

pub loop-place-preserved : goal.loop-place-preserved
loop-place-preserved c =
    let old = c.loop-place.invariant in
    let next = c.next_place-place.ensures in
    let started = old.from in
    let further = next.further in record {
      from = omega (arith, started, further);
      full = λ x after below. elim (cases_lt x c.loop-place.place) [
        | inl before ↦ old.full x after before
        | inr here ↦ next.full x here below
      ];
    }

pub returns : goal.returns
returns c = λ x after below. c.loop-place.invariant.full x after (omega (arith, below, c.loop-place-test.false))
