-- proofs/merged/merge_all/Answers.antt
use Rattle.std.proofs.Common.{◌≡◌, ◌<◌, List, ◌++◌, ◌∷◌, [], length, get_or, sym, ap, ◌∙◌, subst, arith, inl, inr}
use Rattle.std.proofs.lemmas.Bool.{cases_lt}
use Rattle.std.proofs.lemmas.List.{get_or_default, length-append}
use Rattle.std.proofs.Math.ListN.{get_or-append}
use Rattle.std.proofs.Math.Seq.{get_or-append_seam}
use Rattle.tsn_model.specs.Bridge.{LinkGates}
use Rattle.tsn_gate.specs.Merged.{IsMerged}
use Rattle.tsn_gate.proofs.merged.merge_all.Goals as goal

pub loop-list-preserved : goal.loop-list-preserved
loop-list-preserved c =
    let lists = c.args.lists.now in
    let at = c.loop-list.list-index in
    let old = c.loop-list.merged.items in
    let made = c.in_ok-merge.field-0 in
    let item = c.list-item.result in
    let items = c.in_ok-push.ensures.items in
    let count = c.loop-list.invariant.count in record {
      count = omega (arith, ap length items, length-append old (made ∷ []));
      each = λ k d below. elim (cases_lt k at) [
        | inl early ↦
            let inside : k < length old = omega arith in
            subst (IsMerged c.args.least (get_or lists k d)) (sym (ap (λ (xs : List LinkGates). get_or xs k d) items ∙ get_or-append old (made ∷ []) d k inside)) (c.loop-list.invariant.each k d early)
        | inr late ↦
            let here : at ≡ k = omega arith in
            let last : length old ≡ k = omega arith in
            let first = c.list-item.is ∙ (get_or_default lists at item d c.loop-list-test.true ∙ ap (λ n. get_or lists n d) here) in
            let second = sym (ap (λ (xs : List LinkGates). get_or xs k d) items ∙ (ap (λ n. get_or (old ++ made ∷ []) n d) (sym last) ∙ get_or-append_seam old made [] d)) in
            subst (IsMerged c.args.least (get_or lists k d)) second (subst (λ l. IsMerged c.args.least l made) first c.in_ok-merge.ensures)
      ];
    }
