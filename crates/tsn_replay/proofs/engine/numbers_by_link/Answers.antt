use Rattle.std.proofs.Common.{◌≡◌, get_or, slice_set, refl, sym, ap, ◌∙◌, arith, inl, inr}
use Rattle.std.proofs.lemmas.Bool.{cases_lt}
use Rattle.std.proofs.lemmas.List.{get_or_default, get_or-set_same, get_or-set_other, length-set}
use Rattle.tsn_model.specs.Bridge.{LinkGates}
use Rattle.tsn_replay.proofs.engine.numbers_by_link.Goals as goal

pub loop-number-preserved : goal.loop-number-preserved
loop-number-preserved c =
    let below = c.loop-number-test.true in
    let numbers = c.loop-number.numbers.items in
    let number = c.loop-number.number in
    let count = c.loop-number.invariant.count in
    let link : (d : LinkGates) → (get_or c.args.gates.now number d).link ≡ c.link-link.result =
    λ d. sym (c.link-link.ensures ∙ ap (λ (g : LinkGates). g.link) (c.index-gates-number.is ∙ get_or_default c.args.gates.now number c.index-gates-number.result d below)) in
    record {
      count = length-set numbers c.link-link.result number ∙ count;
      of_list = λ other d upto. elim (cases_lt other number) [
        | inl earlier ↦
            get_or-set_other numbers c.link-link.result (get_or c.args.gates.now other d).link number 0 (λ same. c.requires.distinct other number d earlier below (same ∙ sym (link d)))
            ∙ c.loop-number.invariant.of_list other d earlier
        | inr here ↦
            let same : other ≡ number = omega arith in
            let exists = c.requires.exist number d below in
            let within = link d in
            ap (λ l. get_or (slice_set numbers c.link-link.result number) l 0) (ap (λ n. (get_or c.args.gates.now n d).link) same ∙ link d)
            ∙ (get_or-set_same numbers c.link-link.result number 0 (omega arith) ∙ sym same)
      ];
      last = refl;
    }
