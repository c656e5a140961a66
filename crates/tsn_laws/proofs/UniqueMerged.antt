-- The merged lists of a schedule are one list of lists alone.
use Rattle.std.proofs.Common.{arith, ◌≡◌, ℕ, List, sym, ap₂, ◌∙◌, subst, inl, inr}
use Rattle.std.specs.Prelude.{Option, Some, None}
use Rattle.tsn_model.specs.declared.GateEntry.{GateEntry}
use Rattle.tsn_model.specs.Network.{Network}
use Rattle.tsn_model.specs.Bridge.{LinkGates}
use Rattle.tsn_gate.specs.declared.windows.Window.{Window}
use Rattle.tsn_gate.specs.Merged.{IsMergedOctet, IsWidened, IsMerged, IsMergedList, AreMergedLists, AreListsBy}
use Rattle.tsn_gate.proofs.Merging.{all_or_not}
use Rattle.tsn_gate.proofs.Unique.{same_entries, same_list, listed_once, one_list_of_lists}

merged_once : (least : ℕ) (wanted : List GateEntry) (kept : List Window) (t a b : ℕ) → IsMergedOctet least wanted kept t a
    → IsMergedOctet least wanted kept t b → a ≡ b
merged_once least wanted kept t a b (inl (spared, p)) (inl (_, q)) = p ∙ sym q
merged_once least wanted kept t a b (inl (spared, p)) (inr (inl (taken, _, q))) = absurd (taken spared)
merged_once least wanted kept t a b (inl (spared, p)) (inr (inr (taken, _, q))) = absurd (taken spared)
merged_once least wanted kept t a b (inr (inl (taken, _, p))) (inl (spared, q)) = absurd (taken spared)
merged_once least wanted kept t a b (inr (inl (_, stays, p))) (inr (inl (_, _, q))) = p ∙ sym q
merged_once least wanted kept t a b (inr (inl (_, stays, p))) (inr (inr (_, outside, q))) = absurd (outside stays)
merged_once least wanted kept t a b (inr (inr (taken, _, p))) (inl (spared, q)) = absurd (taken spared)
merged_once least wanted kept t a b (inr (inr (_, outside, p))) (inr (inl (_, stays, q))) = absurd (outside stays)
merged_once least wanted kept t a b (inr (inr (_, _, p))) (inr (inr (_, _, q))) = p ∙ sym q

same_widened : (least : ℕ) (wanted a b : List GateEntry) → IsWidened least wanted a → IsWidened least wanted b → a ≡ b
same_widened least wanted a b first second = grind (arith, same_entries, merged_once)

same_merged : (least : ℕ) (wanted a b : LinkGates) → IsMerged least wanted a → IsMerged least wanted b → a ≡ b
same_merged least wanted a b first second =
    let made : ℕ → List GateEntry → LinkGates = λ link entries. record { link = link; entries = entries } in
    ap₂ made (first.same_link ∙ sym second.same_link) (elim (all_or_not least wanted.entries) [
      | inl all ↦ first.same all ∙ sym (second.same all)
      | inr not_all ↦ same_widened least wanted.entries a.entries b.entries (first.widened not_all) (second.widened not_all)
    ])

module _ (network : Network) (offsets : List ℕ) (least : ℕ) where
  once : (a b : LinkGates) → a.link ≡ b.link → IsMergedList network offsets least a → IsMergedList network offsets least b → a ≡ b
  once a b links (wanted, is, merged) (other, other_is, other_merged) =
      let same : other ≡ wanted = same_list network offsets other wanted (sym other_merged.same_link ∙ (sym links ∙ merged.same_link)) other_is is in
      same_merged least wanted a b merged (subst (λ w. IsMerged least w b) same other_merged)

  pub one_merged_list_of_lists : (lists others : List LinkGates) → AreMergedLists network offsets least lists → AreMergedLists network offsets least others
      → lists ≡ others
  one_merged_list_of_lists lists others are others_are = listed_once network (IsMergedList network offsets least) once lists others
      (record { each = are.merged; used = are.used; all_used = are.all_used; in_order = are.in_order })
      (record { each = others_are.merged; used = others_are.used; all_used = others_are.all_used; in_order = others_are.in_order })

pub lists_by_once : (merge : Option ℕ) (network : Network) (offsets : List ℕ) (lists others : List LinkGates) → AreListsBy merge network offsets lists
    → AreListsBy merge network offsets others → lists ≡ others
lists_by_once None network offsets lists others are others_are = one_list_of_lists network offsets lists others are others_are
lists_by_once (Some least) network offsets lists others are others_are = one_merged_list_of_lists network offsets least lists others are others_are
