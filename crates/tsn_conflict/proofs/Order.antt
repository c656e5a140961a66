-- The first overlap, by the order of the triples.
use Rattle.std.proofs.Common.{◌≡◌, ℕ, ◌≤◌, ◌<◌, List, length, get_or, Contains, sym, ◌∙◌, subst, arith, inl, inr}
use Rattle.std.proofs.lemmas.Bool.{cases_order}
use Rattle.std.proofs.lemmas.Int.{ints}
use Rattle.std.proofs.lemmas.List.{get_or_default}
use Rattle.tsn_model.specs.declared.Triple.{Triple}
use Rattle.tsn_model.specs.Network.{Network, IsWellFormed}
use Rattle.tsn_model.specs.Schedule.{IsFirstOverlap, Overlaps, TripleBefore, AreApart}
use Rattle.tsn_model.specs.Arcs.{conflicts_of}
use Rattle.tsn_model.proofs.Conflicts.{conflict_listed, listed_conflict, conflicts_ordered}

-- two triples aren't each before the other
never_both : (a b : Triple) → TripleBefore a b → TripleBefore b a → ⊥
never_both a b (inl x0) (inl y0) = omega arith
never_both a b (inl x0) (inr (inl (y0, y1))) = omega arith
never_both a b (inl x0) (inr (inr (inl (y0, y1, y2)))) = omega arith
never_both a b (inl x0) (inr (inr (inr (y0, y1, y2, y3)))) = omega arith
never_both a b (inr (inl (x0, x1))) (inl y0) = omega arith
never_both a b (inr (inl (x0, x1))) (inr (inl (y0, y1))) = omega arith
never_both a b (inr (inl (x0, x1))) (inr (inr (inl (y0, y1, y2)))) = omega arith
never_both a b (inr (inl (x0, x1))) (inr (inr (inr (y0, y1, y2, y3)))) = omega arith
never_both a b (inr (inr (inl (x0, x1, x2)))) (inl y0) = omega arith
never_both a b (inr (inr (inl (x0, x1, x2)))) (inr (inl (y0, y1))) = omega arith
never_both a b (inr (inr (inl (x0, x1, x2)))) (inr (inr (inl (y0, y1, y2)))) = omega arith
never_both a b (inr (inr (inl (x0, x1, x2)))) (inr (inr (inr (y0, y1, y2, y3)))) = omega arith
never_both a b (inr (inr (inr (x0, x1, x2, x3)))) (inl y0) = omega arith
never_both a b (inr (inr (inr (x0, x1, x2, x3)))) (inr (inl (y0, y1))) = omega arith
never_both a b (inr (inr (inr (x0, x1, x2, x3)))) (inr (inr (inl (y0, y1, y2)))) = omega arith
never_both a b (inr (inr (inr (x0, x1, x2, x3)))) (inr (inr (inr (y0, y1, y2, y3)))) = omega (arith, ints)

-- the frames of the first n triples don't overlap
abbrev pub AreApartBefore : Network → List ℕ → ℕ → Type 0
AreApartBefore network offsets n = (k : ℕ) (d : Triple) → k < n → k < length (conflicts_of network) → Overlaps network offsets (get_or (conflicts_of network) k d) → ⊥

module _ (network : Network) (offsets : List ℕ) (formed : IsWellFormed network) where
  pub all_apart : (n : ℕ) → length (conflicts_of network) ≤ n → AreApartBefore network offsets n → AreApart network offsets
  all_apart n past apart triple conflict overlaps = grind (arith, conflict_listed)

  pub first_from : (n : ℕ) (triple : Triple) → n < length (conflicts_of network) → get_or (conflicts_of network) n triple ≡ triple → Overlaps network offsets triple → AreApartBefore network offsets n → IsFirstOverlap network offsets triple
  first_from n triple below is overlaps apart = record {
    conflict = listed_conflict network triple (n, below, is);
    overlaps = overlaps;
    none_before = λ earlier before conflict also.
        let listed = conflict_listed network formed earlier conflict in
        elim (cases_order listed.0 n) [
          | inl same ↦
              let at : get_or (conflicts_of network) n earlier ≡ earlier = subst (λ k. get_or (conflicts_of network) k earlier ≡ earlier) same listed.2 in
              never_both earlier triple before (later_or_same earlier before at)
          | inr differ ↦ elim differ [
            | inl less ↦ apart listed.0 earlier less listed.1 (subst (Overlaps network offsets) (sym listed.2) also)
            | inr more ↦ never_both earlier triple before (after earlier listed more)
          ]
        ];
  }
    where
      later_or_same : (earlier : Triple) → TripleBefore earlier triple → get_or (conflicts_of network) n earlier ≡ earlier → TripleBefore triple earlier
      later_or_same earlier before at =
          let same : earlier ≡ triple = sym at ∙ get_or_default (conflicts_of network) n earlier triple below ∙ is in
          subst (λ t. TripleBefore t earlier) same (subst (λ t. TripleBefore earlier t) (sym same) before)

      after : (earlier : Triple) (listed : Contains (conflicts_of network) earlier) → n < listed.0 → TripleBefore triple earlier
      after earlier listed more =
          let here : get_or (conflicts_of network) n earlier ≡ triple = get_or_default (conflicts_of network) n earlier triple below ∙ is in
          subst (λ t. TripleBefore t earlier) here
          (subst (λ t. TripleBefore (get_or (conflicts_of network) n earlier) t) listed.2 (conflicts_ordered network n listed.0 earlier more listed.1))
