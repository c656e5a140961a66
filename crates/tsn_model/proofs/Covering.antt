-- The leaves and the open paths of a legal history cover every valid schedule.
use Rattle.std.proofs.Common.{ℕ, List, [], ◌∷◌, ◌++◌, Any, sym, ap, ◌∙◌, subst, ◌⊎◌, inl, inr}
use Rattle.std.proofs.lemmas.Bool.{cases_Bool, both_ways}
use Rattle.std.proofs.lemmas.List.Elements.{All-nil, Contains-append_cases, Contains-append_left, Contains-append_right}
use Rattle.tsn_model.specs.declared.Side.TheVariants.{Left, Right}
use Rattle.tsn_model.specs.declared.Decision.{Decision}
use Rattle.tsn_model.specs.Network.{Network, IsWellFormed}
use Rattle.tsn_model.specs.Schedule.{IsValid}
use Rattle.tsn_model.specs.Arcs.{Holds, HoldsAll, arcs_of}
use Rattle.tsn_model.specs.Certificate.{decided}
use Rattle.tsn_model.specs.Search.{Covers, Outcome, split, solved, pruned, tied, refuted, Settlement, path_eq, children_of, ends_of, made_paths, is_settled, open_paths, leaf_paths, IsRight, IsAllowed, IsLegal}
use Rattle.tsn_model.proofs.Orders.{conflict_decided, HoldsAll-decided}
use Rattle.tsn_model.proofs.Lists.{Contains-head, Contains-more}
use Rattle.tsn_model.proofs.SearchLists.{Any-from_Contains, Contains-from_Any, Contains-Without}
use Rattle.tsn_model.proofs.Paths.{path_eq-true, path_eq-refl}
use Rattle.tsn_model.proofs.Histories.{legal_induction, leaf_paths-snoc, open_paths-snoc, open_but, open_but-Without}

-- some path among them whose arcs the offsets hold
abbrev pub OnSome : Network → List ℕ → List (List Decision) → Type 0
OnSome network offsets paths = Any (λ path. HoldsAll offsets (arcs_of network path)) paths

OnSome-left : (network : Network) (offsets : List ℕ) (xs ys : List (List Decision)) → OnSome network offsets xs → OnSome network offsets (xs ++ ys)
OnSome-left network offsets xs ys some =
    Any-from_Contains (λ path. HoldsAll offsets (arcs_of network path)) (xs ++ ys) some.1
    (Contains-append_left xs ys some.1 (Contains-from_Any (λ path. HoldsAll offsets (arcs_of network path)) xs some)) some.4

OnSome-right : (network : Network) (offsets : List ℕ) (xs ys : List (List Decision)) → OnSome network offsets ys → OnSome network offsets (xs ++ ys)
OnSome-right network offsets xs ys some =
    Any-from_Contains (λ path. HoldsAll offsets (arcs_of network path)) (xs ++ ys) some.1
    (Contains-append_right xs ys some.1 (Contains-from_Any (λ path. HoldsAll offsets (arcs_of network path)) ys some)) some.4

OnSome-cases : (network : Network) (offsets : List ℕ) (xs ys : List (List Decision)) → OnSome network offsets (xs ++ ys) → OnSome network offsets xs ⊎ OnSome network offsets ys
OnSome-cases network offsets xs ys some =
    let holds = λ (path : List Decision). HoldsAll offsets (arcs_of network path) in
    elim (Contains-append_cases xs ys some.1 (Contains-from_Any holds (xs ++ ys) some)) [
      | inl at ↦ inl (Any-from_Contains holds xs some.1 at some.4)
      | inr at ↦ inr (Any-from_Contains holds ys some.1 at some.4)
    ]

-- a valid schedule on an event's path is on one of its children, or on its leaf
ends_or_children : (network : Network) (history : List Settlement) (path : List Decision) (outcome : Outcome) → IsWellFormed network → IsRight network history path outcome
    → (offsets : List ℕ) → IsValid network offsets → HoldsAll offsets (arcs_of network path) → OnSome network offsets (ends_of path outcome) ⊎ OnSome network offsets (children_of path outcome)
unfolding ends_of children_of
ends_or_children network history path (split triple) formed right offsets valid held =
    let holds = λ (path : List Decision). HoldsAll offsets (arcs_of network path) in
    let left : List Decision = decided path triple Left in
    let right' : List Decision = decided path triple Right in
    inr (elim (conflict_decided network offsets triple formed valid right.0) [
      | inl first ↦ Any-from_Contains holds (left ∷ right' ∷ []) left (Contains-head left (right' ∷ [])) (HoldsAll-decided network offsets path triple Left held first)
      | inr second ↦
          Any-from_Contains holds (left ∷ right' ∷ []) right' (Contains-more left (right' ∷ []) right' (Contains-head right' [])) (HoldsAll-decided network offsets path triple Right held second)
    ])
ends_or_children network history path (solved schedule bound leaf chains) formed right offsets valid held = inl (Any-from_Contains (λ path. HoldsAll offsets (arcs_of network path)) (path ∷ []) path (Contains-head path []) held)
ends_or_children network history path (pruned bound leaf) formed right offsets valid held = inl (Any-from_Contains (λ path. HoldsAll offsets (arcs_of network path)) (path ∷ []) path (Contains-head path []) held)
ends_or_children network history path (tied bound leaf chains) formed right offsets valid held = inl (Any-from_Contains (λ path. HoldsAll offsets (arcs_of network path)) (path ∷ []) path (Contains-head path []) held)
ends_or_children network history path (refuted leaf) formed right offsets valid held = inl (Any-from_Contains (λ path. HoldsAll offsets (arcs_of network path)) (path ∷ []) path (Contains-head path []) held)

covers_start : (network : Network) → Covers network (leaf_paths [] ++ open_paths [])
unfolding leaf_paths open_paths made_paths is_settled arcs_of
covers_start network = record {
  some_path = λ offsets valid.
      Any-from_Contains (λ path. HoldsAll offsets (arcs_of network path)) ([] ∷ []) [] (Contains-head [] []) (All-nil (Holds offsets));
}

covers_step : (network : Network) (history : List Settlement) (settlement : Settlement) → IsWellFormed network → IsLegal network history → IsAllowed network history settlement.event
    → Covers network (leaf_paths history ++ open_paths history) → Covers network (leaf_paths (history ++ settlement ∷ []) ++ open_paths (history ++ settlement ∷ []))
covers_step network history settlement formed legal allowed before = record {
  some_path = λ offsets valid.
      let path : List Decision = settlement.event.path in
      let outcome : Outcome = settlement.event.outcome in
      let holds = λ (p : List Decision). HoldsAll offsets (arcs_of network p) in
      let leaves : List (List Decision) = leaf_paths history in
      let ends : List (List Decision) = ends_of path outcome in
      let others : List (List Decision) = open_but history path in
      let children : List (List Decision) = children_of path outcome in
      let in_leaf = λ (some : OnSome network offsets leaves). OnSome-left network offsets (leaves ++ ends) (others ++ children) (OnSome-left network offsets leaves ends some) in
      let in_end = λ (some : OnSome network offsets ends). OnSome-left network offsets (leaves ++ ends) (others ++ children) (OnSome-right network offsets leaves ends some) in
      let in_other = λ (some : OnSome network offsets others). OnSome-right network offsets (leaves ++ ends) (others ++ children) (OnSome-left network offsets others children some) in
      let in_child = λ (some : OnSome network offsets children). OnSome-right network offsets (leaves ++ ends) (others ++ children) (OnSome-right network offsets others children some) in
      let result : OnSome network offsets ((leaves ++ ends) ++ (others ++ children)) =
      elim (OnSome-cases network offsets leaves (open_paths history) (before.some_path offsets valid)) [
        | inl leaf ↦ in_leaf leaf
        | inr open' ↦
            elim (cases_Bool (path_eq path open'.1)) [
              | inl same ↦
                  elim (ends_or_children network history path outcome formed allowed.is_right offsets valid (subst holds (sym (path_eq-true path open'.1 same)) open'.4)) [
                    | inl end ↦ in_end end
                    | inr child ↦ in_child child
                  ]
              | inr other ↦ in_other (Any-from_Contains holds others open'.1
                  (Contains-Without path open'.1 (open_paths history) others (open_but-Without network history path legal allowed.is_open)
                  (Contains-from_Any holds (open_paths history) open') (λ same. both_ways (path_eq path open'.1) other (ap (path_eq path) (sym same) ∙ path_eq-refl path))) open'.4)
            ]
      ] in
      subst (OnSome network offsets) (λ i. sym (leaf_paths-snoc history settlement) i ++ sym (open_paths-snoc network history settlement legal allowed) i) result;
}

pub legal_covers : (network : Network) → IsWellFormed network → (history : List Settlement) → IsLegal network history → Covers network (leaf_paths history ++ open_paths history)
legal_covers network formed =
    legal_induction network (λ history. Covers network (leaf_paths history ++ open_paths history)) (covers_start network)
    (λ history settlement legal allowed before. covers_step network history settlement formed legal allowed before)
