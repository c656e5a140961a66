-- A list's share behind those of the lists before it.
use Rattle.std.proofs.Common.{◌≡◌, ℕ, ◌+◌, ◌<◌, List, [], ◌∷◌, ◌++◌, length, get_or, take, sym, ap, ◌∙◌, subst, arith, inl, inr}
use Rattle.std.proofs.lemmas.Bool.{cases_lt}
use Rattle.std.proofs.lemmas.List.{length-append, get_or_append_left, get_or-take, get_or_default, length-take-le}
use Rattle.std.proofs.Math.Seq.{get_or-append_seam}
use Rattle.tsn_model.specs.Network.{Network}
use Rattle.tsn_model.specs.Bridge.{LinkGates}
use Rattle.tsn_chart.specs.declared.link.LinkShare.{LinkShare}
use Rattle.tsn_chart.specs.Shares.{IsLinkShare, AreLinkShares}

pub AreLinkShares-push : (network : Network) (offsets : List ℕ) (lists : List LinkGates) (shares : List LinkShare) (i : ℕ) (list : LinkGates)
    (share : LinkShare) → i < length lists → list ≡ get_or lists i list
    → AreLinkShares network offsets (take i lists) shares → IsLinkShare network offsets list share
    → AreLinkShares network offsets (take (i + 1) lists) (shares ++ share ∷ [])
AreLinkShares-push network offsets lists shares i list share below is are has =
    let count : length shares ≡ i = are.count ∙ length-take-le i lists (omega arith) in
    let longer = length-append shares (share ∷ []) in
    let taken = length-take-le (i + 1) lists (omega arith) in
    let before = length-take-le i lists (omega arith) in record {
      count = omega arith;
      right = λ k l s inside. elim (cases_lt k i) [
        | inl early ↦
            let low : k < length shares = omega arith in
            let in_taken : k < length (take i lists) = omega arith in
            let more : k < i + 1 = omega arith in
            subst (λ x. IsLinkShare network offsets x (get_or (shares ++ share ∷ []) k s))
            (get_or-take i lists k l early ∙ sym (get_or-take (i + 1) lists k l more))
            (subst (λ y. IsLinkShare network offsets (get_or (take i lists) k l) y) (sym (get_or_append_left shares (share ∷ []) s k low))
            (are.right k l s in_taken))
        | inr late ↦
            let here : k ≡ i = omega arith in
            let more : k < i + 1 = omega arith in
            let at : length shares ≡ k = omega arith in
            let found : get_or (take (i + 1) lists) k l ≡ list =
            get_or-take (i + 1) lists k l more ∙ (ap (λ n. get_or lists n l) here ∙ (get_or_default lists i l list below ∙ sym is)) in
            subst (λ x. IsLinkShare network offsets x (get_or (shares ++ share ∷ []) k s)) (sym found)
            (subst (λ y. IsLinkShare network offsets list y)
            (sym (ap (λ n. get_or (shares ++ share ∷ []) n s) (sym at) ∙ get_or-append_seam shares share [] s)) has)
      ];
    }
