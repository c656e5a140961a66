use Rattle.std.proofs.Common.{◌≡◌, ℕ, ◌+◌, ◌-◌, ◌/◌, ◌≤◌, ◌<◌, drop, get_or, length, false, refl, sym, ap, ◌∙◌, subst, inl, inr, arith}
use Rattle.std.proofs.lemmas.Bool.{cases_lt}
use Rattle.std.proofs.lemmas.List.{drop_all}
use Rattle.tsn_sums.specs.Sums.{TellsReached, marked}
use Rattle.tsn_sums.proofs.Sums.{none_reached, marked_is, marked_none, one_more, units_fit, some_units}
use Rattle.tsn_sums.proofs.table.reach_all.Goals as goal

pub loop-step-init : goal.loop-step-init
loop-step-init c =
    let none = drop_all (length c.args.works.now - 0) c.args.works.now (omega arith) in record {
      even = refl;
      within = omega arith;
      past = λ k after within. c.clear.ensures.others k (omega (arith, after));
      tells = subst (λ works. TellsReached works c.args.unit c.args.units c.clear.new.reached) (sym none)
          (none_reached c.args.unit c.args.units c.clear.new.reached c.requires.unit.some c.clear.ensures.first c.clear.ensures.others);
    }

pub mark-requires-clause-some : goal.mark-requires-clause-some
mark-requires-clause-some c =
    let here = c.requires.unit.each (length c.args.works.now - (c.loop-step.step + 1)) (0, 0) (omega arith) in
    some_units c.args.unit _ c.requires.unit.some here.1 here.0

pub mark-requires-clause-fits : goal.mark-requires-clause-fits
mark-requires-clause-fits c =
    let here = c.requires.unit.each (length c.args.works.now - (c.loop-step.step + 1)) (0, 0) (omega arith) in
    λ k within. units_fit c.args.unit _ _ k c.requires.unit.some here.1 (omega arith) within

pub loop-step-preserved : goal.loop-step-preserved
loop-step-preserved c =
    let old = c.loop-step.invariant in
    let works = c.args.works.now in
    let place = length works - (c.loop-step.step + 1) in
    let here = c.requires.unit.each place (0, 0) (omega arith) in
    let more = one_more works c.loop-step.step (0, 0) (omega arith) in
    let before = c.loop-step.reached in
    let row = get_or works place (0, 0) in
    let none : (k : ℕ) → c.min-most.result < k → k ≤ c.args.units → get_or c.mark.new.reached k false ≡ false = λ k after within.
    c.mark.ensures.past k after ∙ old.past k (omega (arith, after, within)) within in
    let all : (k : ℕ) → k ≤ c.args.units → get_or c.mark.new.reached k false ≡ marked before (row.0 + row.1) (row.1 / c.args.unit) c.args.unit k = λ k within.
    elim (cases_lt c.min-most.result k) [
      | inr reached ↦ c.mark.ensures.marked k reached
      | inl after ↦
          none k after within
          ∙ sym (marked_none before (row.0 + row.1) (row.1 / c.args.unit) c.args.unit k (old.past k (omega (arith, after, within)) within)
          (old.past (k - row.1 / c.args.unit) (omega (arith, after, within)) (omega (arith, within))))
    ] in
    record {
      even = c.mark.ensures.length ∙ old.even;
      within = omega arith;
      past = none;
      tells = subst (λ list. TellsReached list c.args.unit c.args.units c.mark.new.reached) (sym more)
          (λ k within. all k within
          ∙ marked_is c.args.unit c.args.units (drop (length works - c.loop-step.step) works) before old.tells c.requires.unit.some row here.1 k within);
    }

pub returns-clause-tells : goal.returns-clause-tells
returns-clause-tells c =
    let all : length c.args.works.now - c.loop-step.step ≡ 0 = omega arith in
    subst (λ list. TellsReached list c.args.unit c.args.units c.loop-step.reached) (ap (λ n. drop n c.args.works.now) all) c.loop-step.invariant.tells
