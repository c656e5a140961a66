use Rattle.std.proofs.Common.{◌≡◌, get_or, sym, ap, ◌∙◌, arith, inl, inr, refl, true≢false}
use Rattle.std.proofs.lemmas.Bool.{cases_lt}
use Rattle.std.proofs.lemmas.List.{get_or_default}
use Rattle.tsn_model.specs.Bridge.{LinkGates}
use Rattle.tsn_replay.proofs.ListLemmas.{taken_at, taken_below, at_taken}
use Rattle.tsn_replay.proofs.conditions.are_distinct.Goals as goal

pub returns-then-is_listed : goal.returns-then-is_listed
returns-then-is_listed c =
    let below = c.loop-number-test.true in (
      λ never. absurd (true≢false (sym never)),
      λ pairs.
          let some = c.is_listed.ensures.0 c.if-is_listed.true in
          let before = taken_below c.loop-number.number c.args.lists.now some.0 some.2 in
          let at : get_or c.args.lists.now some.0 some.1 ≡ some.1 = sym (taken_at c.loop-number.number c.args.lists.now some.0 some.1 before) ∙ some.3 in
          let here : c.index-lists-number.result ≡ get_or c.args.lists.now c.loop-number.number some.1 = c.index-lists-number.is ∙ get_or_default c.args.lists.now c.loop-number.number c.index-lists-number.result some.1 below in
          absurd (pairs some.0 c.loop-number.number some.1 before below (ap (λ (g : LinkGates). g.link) at ∙ (some.4 ∙ (c.link.ensures ∙ ap (λ (g : LinkGates). g.link) here)))),
    )

pub loop-number-preserved : goal.loop-number-preserved
loop-number-preserved c =
    let below = c.loop-number-test.true in
    record {
      done = λ i j d less upto same. elim (cases_lt j c.loop-number.number) [
        | inl old ↦ c.loop-number.invariant.done i j d less old same
        | inr new ↦
            let last : j ≡ c.loop-number.number = omega arith in
            let here : c.index-lists-number.result ≡ get_or c.args.lists.now j d = c.index-lists-number.is ∙ (get_or_default c.args.lists.now c.loop-number.number c.index-lists-number.result d below ∙ ap (λ n. get_or c.args.lists.now n d) (sym last)) in
            let some = at_taken c.loop-number.number c.args.lists.now i (get_or c.args.lists.now i d) (omega arith) (omega arith) in
            let is : get_or c.args.lists.now i (get_or c.args.lists.now i d) ≡ get_or c.args.lists.now i d = get_or_default c.args.lists.now i (get_or c.args.lists.now i d) d (omega arith) in
            let listed = c.is_listed.ensures.1 (i, get_or c.args.lists.now i d, some.0, some.1 ∙ is, same ∙ sym (c.link.ensures ∙ ap (λ (g : LinkGates). g.link) here)) in
            true≢false (sym listed ∙ c.if-is_listed.false)
      ];
      last = refl;
    }
