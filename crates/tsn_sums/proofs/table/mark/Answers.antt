use Rattle.std.proofs.Common.{ℕ, ◌-◌, ◌+◌, ◌<◌, get_or, length, false, sym, ap, ◌∙◌, inl, inr, arith}
use Rattle.std.proofs.lemmas.Bool.{cases_eq, cases_lt}
use Rattle.std.proofs.lemmas.List.{length-set, get_or-set_other}
use Rattle.std.proofs.lemmas.Grind.{get_or-set_at}
use Rattle.std.proofs.lemmas.Nat.{mul-le}
use Rattle.tsn_sums.specs.Sums.{marked}
use Rattle.tsn_sums.proofs.Sums.{marked_below, marked_already, marked_more, set_as}
use Rattle.tsn_sums.proofs.table.mark.Goals as goal
use Rattle.tsn_sums.proofs.table.mark.Goals.{then-not-reached-place, else-not-reached-place}

pub loop-step-preserved : goal.loop-step-preserved
loop-step-preserved c =
    let old = c.loop-step.invariant in
    let now = c.loop-step.reached in
    let first = c.args.reached.now in
    let place = c.args.units - c.loop-step.step in
    elim c.if-not-reached-place.branch [
      | then-not-reached-place w ↦
          let mark = marked first c.args.need c.args.back c.args.unit place in
          let none = sym (old.todo place (omega arith)) ∙ w.if-not-reached-place.true in
          let more = marked_more first c.args.need c.args.back c.args.unit place none (omega arith) in
          let is = set_as now c.if-not-reached-place.reached place _ mark w.reached-is
          (old.todo _ (omega arith) ∙ ap (λ n. get_or first n false) (omega arith) ∙ sym more) in
          let within : place < length now = let even = old.even in omega arith in
          let at = λ (k : ℕ). ap (λ list. get_or list k false) is in
          record {
            even = ap length is ∙ length-set now place mark ∙ old.even;
            done = λ k below reached. elim (cases_eq k place) [
              | inl same ↦ at k ∙ get_or-set_at now place k mark false same within ∙ ap (marked first c.args.need c.args.back c.args.unit) (sym same)
              | inr other ↦ at k ∙ get_or-set_other now place k mark false other ∙ old.done k below (omega (arith, reached, other))
            ];
            past = λ k after. at k ∙ get_or-set_other now place k mark false (λ same. omega (arith, same, after)) ∙ old.past k after;
            todo = λ k below. at k ∙ get_or-set_other now place k mark false (λ same. omega (arith, same, below)) ∙ old.todo k (omega (arith, below));
          }
      | else-not-reached-place w ↦
          let at = λ (k : ℕ). ap (λ list. get_or list k false) w.reached-is in
          let there = sym (old.todo place (omega arith)) ∙ w.if-not-reached-place.false in
          let is = w.if-not-reached-place.false ∙ sym (marked_already first c.args.need c.args.back c.args.unit place there) in
          record {
            even = ap length w.reached-is ∙ old.even;
            done = λ k below reached. elim (cases_eq k place) [
              | inl same ↦ at k ∙ ap (λ n. get_or now n false) same ∙ is ∙ ap (marked first c.args.need c.args.back c.args.unit) (sym same)
              | inr other ↦ at k ∙ old.done k below (omega (arith, reached, other))
            ];
            past = λ k after. at k ∙ old.past k after;
            todo = λ k below. at k ∙ old.todo k (omega (arith, below));
          }
    ]

pub returns-then-need-place-clause-marked : goal.returns-then-need-place-clause-marked
returns-then-need-place-clause-marked c = λ k within.
    let old = c.loop-step.invariant in
    let first = c.args.reached.now in
    elim (cases_lt c.args.units (k + c.loop-step.step)) [
      | inl past ↦ old.done k within past
      | inr not_past ↦
          let more = mul-le k c.args.unit (c.args.units - c.loop-step.step) c.args.unit (omega arith) (omega arith) in
          old.todo k not_past ∙ sym (marked_below first c.args.need c.args.back c.args.unit k (omega arith))
    ]
