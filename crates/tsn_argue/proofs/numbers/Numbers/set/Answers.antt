use Rattle.std.proofs.Common.{◌≡◌, ℕ, ◌<◌, List, [], ◌∷◌, ◌++◌, length, set, ℤ, pos, inl, inr, sym, ◌∙◌, subst, Contains}
use Rattle.std.proofs.lemmas.Bool.{cases_eq}
use Rattle.std.proofs.lemmas.List.{length-set, get_or-set_other}
use Rattle.std.proofs.lemmas.List.Elements.{All-push, Contains-append_left, Contains-push}
use Rattle.tsn_argue.specs.Numbers.{Pair, AreTouched}
use Rattle.tsn_argue.proofs.numbers.Numbers.set.Goals as goal

-- one number more that differs, whose stream is touched
touched_more : (base view : List ℤ) (touched : List ℕ) (i : ℕ) (v : ℤ) → i < length view → AreTouched base view touched
    → AreTouched base (set view i v) (touched ++ i ∷ [])
touched_more base view touched i v below are = record {
  even = length-set view i v ∙ are.even;
  inside = All-push (λ k. k < length base) touched i are.inside (subst (λ n. i < n) are.even below);
  same = λ k. elim (cases_eq k i) [
    | inl is ↦ inr (subst (Contains (touched ++ i ∷ [])) (sym is) (Contains-push touched i))
    | inr other ↦ elim (are.same k) [
      | inl same ↦ inl (get_or-set_other view i k v (pos 0) other ∙ same)
      | inr has ↦ inr (Contains-append_left touched (i ∷ []) k has)
    ]
  ];
}

pub invariant_of-self-2 : goal.invariant_of-self-2
invariant_of-self-2 c =
    let old = c.self.inside in
    rw c.in_default.ensures.items
    (touched_more old.base.items old.view.items old.touched.items c.args.stream _
    (subst (λ (p : Pair). c.args.stream < length p.view) (sym c.self.view_is) c.requires) c.self.invariant)
