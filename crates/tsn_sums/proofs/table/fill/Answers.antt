use Rattle.std.proofs.Common.{◌≡◌, ◌<◌, length, sym, ap, ◌∙◌, inl, inr, arith}
use Rattle.std.proofs.lemmas.Bool.{cases_lt}
use Rattle.std.proofs.lemmas.List.{length-set, get_or-set_other}
use Rattle.std.proofs.lemmas.Grind.{get_or-set_at}
use Rattle.tsn_sums.specs.Sums.{most_marked}
use Rattle.tsn_sums.proofs.Sums.{most_next}
use Rattle.tsn_sums.proofs.table.fill.Goals as goal

pub loop-place-preserved : goal.loop-place-preserved
loop-place-preserved c =
    let old = c.loop-place.invariant in
    let place = c.loop-place.place in
    let filled = c.loop-place.filled in
    let most = c.most_at-most.result in
    let is : most ≡ most_marked c.args.reached.now c.args.unit place =
    c.most_at-most.ensures ∙ most_next c.args.reached.now c.args.unit place c.loop-place.most old.none old.last in
    let within : place < length filled = let even = old.even in omega arith in
    record {
      even = length-set filled place most ∙ old.even;
      none = λ zero. absurd (omega (arith, zero));
      last = λ k next. let same : k ≡ place = omega (arith, next) in is ∙ ap (most_marked c.args.reached.now c.args.unit) (sym same);
      done = λ k below. elim (cases_lt k place) [
        | inl before ↦ get_or-set_other filled place k most 0 (λ same. omega (arith, same, before)) ∙ old.done k before
        | inr here ↦
            let same : k ≡ place = omega (arith, below, here) in
            get_or-set_at filled place k most 0 same within ∙ is ∙ ap (most_marked c.args.reached.now c.args.unit) (sym same)
      ];
    }
