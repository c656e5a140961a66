-- What every legal history keeps.
use Rattle.std.proofs.Common.{◌≡◌, List, [], ◌∷◌, ◌++◌, length, All, AllPairs, Contains, true, false, not, ◌||◌, filter, refl, sym, ap, ◌∙◌, subst, arith, append_assoc, inl, inr, ◌≢◌}
use Rattle.std.specs.List.{flat_map}
use Rattle.std.proofs.lemmas.Bool.{both_ways, not-true, not_from_false, or_cases, or_from, not-false, false_from_ne_true}
use Rattle.std.proofs.lemmas.List.{length-append, same_from_push}
use Rattle.std.proofs.lemmas.List.Folds.{list_any-from_Any}
use Rattle.std.proofs.lemmas.List.Quantifiers.{all_pairs_push}
use Rattle.std.proofs.lemmas.List.Elements.{All-nil, All-cons, filter-append, filter_agree, Contains-append_left}
use Rattle.std.proofs.lemmas.List.Kept.{AllPairs-cons, AllPairs-filter}
use Rattle.tsn_model.specs.declared.Triple.{Triple}
use Rattle.tsn_model.specs.declared.Side.{Side}
use Rattle.tsn_model.specs.declared.Side.TheVariants.{Left, Right}
use Rattle.tsn_model.specs.declared.Decision.{Decision}
use Rattle.tsn_model.specs.Network.{Network}
use Rattle.tsn_model.specs.Certificate.{decided}
use Rattle.tsn_model.specs.Search.{Outcome, split, solved, pruned, tied, refuted, Event, Settlement, path_eq, children_of, ends_of, made_paths, is_settled, open_paths, leaf_paths, IsAllowed, IsLegal}
use Rattle.tsn_model.proofs.Lists.{Contains-cons_cases, Contains-nil, from_flat_map, Contains-filter, from_filter}
use Rattle.tsn_model.proofs.SearchLists.{flat_map-snoc, list_any-snoc, snoc_induction, snoc_cases, Contains-pair, Any-from_Contains, All-from_Contains, filter-filter, filter-all, Without, filter-Without, AllPairs-nil, AllPairs-append_each}
use Rattle.tsn_model.proofs.Paths.{path_eq-true, path_eq-refl, path_eq-false, decided-parts, decided-ne, nil-ne-decided, left-ne-right}

-- ---- a legal history, one settlement at a time

pub legal_nil : (network : Network) → IsLegal network []
legal_nil network = record {
  each = λ before after settlement same.
      let e : length {A = Settlement} [] ≡ length (before ++ settlement ∷ after) = ap length same in
      absurd (omega (arith, length-append before (settlement ∷ after)));
}

pub legal_snoc : (network : Network) (history : List Settlement) (settlement : Settlement) → IsLegal network history → IsAllowed network history settlement.event → IsLegal network (history ++ settlement ∷ [])
legal_snoc network history settlement legal allowed = record {
  each = λ before after other same.
      elim (snoc_cases after) [
        | inl none ↦
            let parts = same_from_push history before settlement other (same ∙ ap (λ xs. before ++ other ∷ xs) none) in
            subst (λ past. IsAllowed network past other.event) parts.0 (subst (λ (latest : Settlement). IsAllowed network history latest.event) parts.1 allowed)
        | inr some ↦
            let regrouped = ap (λ xs. before ++ other ∷ xs) some.2 ∙ sym (append_assoc before (other ∷ some.0) (some.1 ∷ [])) in
            let parts = same_from_push history (before ++ other ∷ some.0) settlement some.1 (same ∙ regrouped) in
            legal.each before some.0 other parts.0
      ];
}

pub legal_front : (network : Network) (history : List Settlement) (settlement : Settlement) → IsLegal network (history ++ settlement ∷ []) → IsLegal network history
legal_front network history settlement legal = record {
  each = λ before after other same.
      legal.each before (after ++ settlement ∷ []) other
      (ap (λ xs. xs ++ settlement ∷ []) same ∙ append_assoc before (other ∷ after) (settlement ∷ []));
}

pub legal_last : (network : Network) (history : List Settlement) (settlement : Settlement) → IsLegal network (history ++ settlement ∷ []) → IsAllowed network history settlement.event
legal_last network history settlement legal = legal.each history [] settlement refl

-- what holds of the empty history, and is kept by each allowed settlement, holds of every legal history
pub legal_induction : (network : Network) (P : List Settlement → Type 0) → P []
    → ((history : List Settlement) (settlement : Settlement) → IsLegal network history → IsAllowed network history settlement.event → P history → P (history ++ settlement ∷ []))
    → (history : List Settlement) → IsLegal network history → P history
legal_induction network P start step =
    snoc_induction (λ history. IsLegal network history → P history) (λ legal. start)
    (λ history settlement known legal.
    step history settlement (legal_front network history settlement legal) (legal_last network history settlement legal) (known (legal_front network history settlement legal)))

-- ---- made, settled and open paths

pub made_paths-snoc : (history : List Settlement) (settlement : Settlement) → made_paths (history ++ settlement ∷ []) ≡ made_paths history ++ children_of settlement.event.path settlement.event.outcome
unfolding made_paths
made_paths-snoc history settlement =
    ap (λ paths. [] ∷ paths) (flat_map-snoc (λ (s : Settlement). children_of s.event.path s.event.outcome) history settlement)

pub leaf_paths-snoc : (history : List Settlement) (settlement : Settlement) → leaf_paths (history ++ settlement ∷ []) ≡ leaf_paths history ++ ends_of settlement.event.path settlement.event.outcome
unfolding leaf_paths
leaf_paths-snoc history settlement = flat_map-snoc (λ (s : Settlement). ends_of s.event.path s.event.outcome) history settlement

pub is_settled-snoc : (history : List Settlement) (settlement : Settlement) (path : List Decision) → is_settled (history ++ settlement ∷ []) path ≡ (is_settled history path || path_eq settlement.event.path path)
unfolding is_settled
is_settled-snoc history settlement path = list_any-snoc (λ (s : Settlement). path_eq s.event.path path) history settlement

pub open_is_made : (history : List Settlement) (path : List Decision) → Contains (open_paths history) path → Contains (made_paths history) path
unfolding open_paths
open_is_made history path found = (from_filter (λ p. not (is_settled history p)) (made_paths history) path found).0

pub open_not_settled : (history : List Settlement) (path : List Decision) → Contains (open_paths history) path → is_settled history path ≡ false
unfolding open_paths
open_not_settled history path found = not-true (is_settled history path) (from_filter (λ p. not (is_settled history p)) (made_paths history) path found).1

pub open_from_made : (history : List Settlement) (path : List Decision) → Contains (made_paths history) path → is_settled history path ≡ false → Contains (open_paths history) path
unfolding open_paths
open_from_made history path made unsettled = Contains-filter (λ p. not (is_settled history p)) (made_paths history) path made (not_from_false (is_settled history path) unsettled)

-- ---- what is settled was made, and what has a made child was settled

children_parent : (q p : List Decision) (outcome : Outcome) (triple : Triple) (side : Side) → Contains (children_of q outcome) (decided p triple side) → q ≡ p
unfolding children_of
children_parent q p (split made) triple side found =
    elim (Contains-pair (decided q made Left) (decided q made Right) (decided p triple side) found) [
      | inl is ↦ (decided-parts q p made triple Left side is).0
      | inr is ↦ (decided-parts q p made triple Right side is).0
    ]
children_parent q p (solved offsets bound leaf chains) triple side found = absurd (Contains-nil (decided p triple side) found)
children_parent q p (pruned bound leaf) triple side found = absurd (Contains-nil (decided p triple side) found)
children_parent q p (tied bound leaf chains) triple side found = absurd (Contains-nil (decided p triple side) found)
children_parent q p (refuted leaf) triple side found = absurd (Contains-nil (decided p triple side) found)

pub settled_at : (history : List Settlement) (settlement : Settlement) → Contains history settlement → is_settled history settlement.event.path ≡ true
unfolding is_settled
settled_at history settlement found =
    list_any-from_Any (λ (s : Settlement). path_eq s.event.path settlement.event.path) history
    (Any-from_Contains (λ (s : Settlement). path_eq s.event.path settlement.event.path ≡ true) history settlement found (path_eq-refl settlement.event.path))

-- a made child's parent is settled
pub parent_settled : (history : List Settlement) (path : List Decision) (triple : Triple) (side : Side) → Contains (made_paths history) (decided path triple side) → is_settled history path ≡ true
unfolding made_paths
parent_settled history path triple side found =
    elim (Contains-cons_cases [] (flat_map (λ (s : Settlement). children_of s.event.path s.event.outcome) history) (decided path triple side) found) [
      | inl is ↦ absurd (nil-ne-decided path triple side is)
      | inr later ↦
          let from = from_flat_map (λ (s : Settlement). children_of s.event.path s.event.outcome) history (decided path triple side) later in
          let same = children_parent from.0.event.path path from.0.event.outcome triple side from.2 in
          subst (λ p. is_settled history p ≡ true) same (settled_at history from.0 from.1)
    ]

none_settled : (path : List Decision) → is_settled [] path ≡ true → ⊥
unfolding is_settled
none_settled path known = cc

pub settled_is_made : (network : Network) (history : List Settlement) → IsLegal network history → (path : List Decision) → is_settled history path ≡ true → Contains (made_paths history) path
settled_is_made network =
    legal_induction network (λ history. (path : List Decision) → is_settled history path ≡ true → Contains (made_paths history) path)
    (λ path known. absurd (none_settled path known))
    (λ history settlement legal allowed before path known.
    subst (λ paths. Contains paths path) (sym (made_paths-snoc history settlement))
    (Contains-append_left (made_paths history) (children_of settlement.event.path settlement.event.outcome) path
    (elim (or_cases (is_settled history path) (path_eq settlement.event.path path) (sym (is_settled-snoc history settlement path) ∙ known)) [
      | inl earlier ↦ before path earlier
      | inr now ↦ subst (Contains (made_paths history)) (path_eq-true settlement.event.path path now) (open_is_made history settlement.event.path allowed.is_open)
    ])))

-- no path is settled twice
pub settled_once : (network : Network) (history : List Settlement) → IsLegal network history → AllPairs (λ (a b : Settlement). a.event.path ≢ b.event.path) history
settled_once network =
    legal_induction network (λ history. AllPairs (λ (a b : Settlement). a.event.path ≢ b.event.path) history)
    (AllPairs-nil (λ (a b : Settlement). a.event.path ≢ b.event.path))
    (λ history settlement legal allowed before.
    all_pairs_push (λ (a b : Settlement). a.event.path ≢ b.event.path) history settlement before
    (All-from_Contains (λ (s : Settlement). s.event.path ≢ settlement.event.path) history (λ s found same.
    both_ways (is_settled history settlement.event.path) (open_not_settled history settlement.event.path allowed.is_open)
    (subst (λ path. is_settled history path ≡ true) same (settled_at history s found)))))

-- ---- the children of a settlement

-- the path is a child of a split node
pub record IsChild (parent : List Decision) (outcome : Outcome) (path : List Decision) : Type 0 where
  pub triple : Triple
  pub side : Side
  pub was_split : outcome ≡ split triple
  pub is : decided parent triple side ≡ path

pub child_of : (parent : List Decision) (outcome : Outcome) (path : List Decision) → Contains (children_of parent outcome) path → IsChild parent outcome path
unfolding children_of
child_of parent (split triple) path found =
    elim (Contains-pair (decided parent triple Left) (decided parent triple Right) path found) [
      | inl is ↦ record { triple = triple; side = Left; was_split = refl; is = is }
      | inr is ↦ record { triple = triple; side = Right; was_split = refl; is = is }
    ]
child_of parent (solved offsets bound leaf chains) path found = absurd (Contains-nil path found)
child_of parent (pruned bound leaf) path found = absurd (Contains-nil path found)
child_of parent (tied bound leaf chains) path found = absurd (Contains-nil path found)
child_of parent (refuted leaf) path found = absurd (Contains-nil path found)

pub children_apart : (parent : List Decision) (outcome : Outcome) → AllPairs ◌≢◌ (children_of parent outcome)
unfolding children_of
children_apart parent (split triple) =
    AllPairs-cons ◌≢◌ (decided parent triple Left) (decided parent triple Right ∷ [])
    (All-cons (λ path. decided parent triple Left ≢ path) (decided parent triple Right) [] (left-ne-right parent triple) (All-nil (λ path. decided parent triple Left ≢ path)))
    (AllPairs-cons ◌≢◌ (decided parent triple Right) [] (All-nil (λ path. decided parent triple Right ≢ path)) (AllPairs-nil ◌≢◌))
children_apart parent (solved offsets bound leaf chains) = AllPairs-nil ◌≢◌
children_apart parent (pruned bound leaf) = AllPairs-nil ◌≢◌
children_apart parent (tied bound leaf chains) = AllPairs-nil ◌≢◌
children_apart parent (refuted leaf) = AllPairs-nil ◌≢◌

-- a child of an open node was never made before
pub child_not_made : (history : List Settlement) (event : Event) → Contains (open_paths history) event.path → (path : List Decision) → Contains (children_of event.path event.outcome) path → Contains (made_paths history) path → ⊥
child_not_made history event is_open path child made =
    let of = child_of event.path event.outcome path child in
    both_ways (is_settled history event.path) (open_not_settled history event.path is_open)
    (parent_settled history event.path of.triple of.side (subst (Contains (made_paths history)) (sym of.is) made))

pub child_not_settled : (network : Network) (history : List Settlement) (event : Event) → IsLegal network history → Contains (open_paths history) event.path → (path : List Decision) → Contains (children_of event.path event.outcome) path → is_settled history path ≡ false
child_not_settled network history event legal is_open path child =
    false_from_ne_true (is_settled history path) (λ known. child_not_made history event is_open path child (settled_is_made network history legal path known))

pub child_ne_parent : (parent : List Decision) (outcome : Outcome) (path : List Decision) → Contains (children_of parent outcome) path → parent ≢ path
child_ne_parent parent outcome path child same =
    let of = child_of parent outcome path child in
    decided-ne parent of.triple of.side (same ∙ sym of.is)

-- the made paths of a legal history are all different
pub made_apart : (network : Network) (history : List Settlement) → IsLegal network history → AllPairs ◌≢◌ (made_paths history)
unfolding made_paths
made_apart network =
    legal_induction network (λ history. AllPairs ◌≢◌ (made_paths history))
    (AllPairs-cons ◌≢◌ [] [] (All-nil (λ (path : List Decision). [] ≢ path)) (AllPairs-nil ◌≢◌))
    (λ history settlement legal allowed before.
    subst (AllPairs ◌≢◌) (sym (made_paths-snoc history settlement))
    (AllPairs-append_each ◌≢◌ (made_paths history) (children_of settlement.event.path settlement.event.outcome) before (children_apart settlement.event.path settlement.event.outcome)
    (λ x y made child same. child_not_made history settlement.event allowed.is_open y child (subst (Contains (made_paths history)) same made))))

-- so are its open paths
pub open_apart : (network : Network) (history : List Settlement) → IsLegal network history → AllPairs ◌≢◌ (open_paths history)
unfolding open_paths
open_apart network history legal = AllPairs-filter ◌≢◌ (λ path. not (is_settled history path)) (made_paths history) (made_apart network history legal)

-- ---- what is open after one more settlement

-- what is open and isn't the path
unfoldable pub open_but : List Settlement → List Decision → List (List Decision)
open_but history path = filter (λ other. not (path_eq path other)) (open_paths history)

pub open_paths-snoc : (network : Network) (history : List Settlement) (settlement : Settlement) → IsLegal network history → IsAllowed network history settlement.event
    → open_paths (history ++ settlement ∷ []) ≡ open_but history settlement.event.path ++ children_of settlement.event.path settlement.event.outcome
unfolding open_paths open_but
open_paths-snoc network history settlement legal allowed =
    let path : List Decision = settlement.event.path in
    let children : List (List Decision) = children_of settlement.event.path settlement.event.outcome in
    let still = λ (p : List Decision). not (is_settled history p || path_eq path p) in
    let children_open : All (λ p. still p ≡ true) children = All-from_Contains (λ p. still p ≡ true) children (λ p child.
    not_from_false (is_settled history p || path_eq path p)
    (or_from (is_settled history p) (path_eq path p)
    (child_not_settled network history settlement.event legal allowed.is_open p child)
    (path_eq-false path p (child_ne_parent path settlement.event.outcome p child)))) in
    filter_agree (λ p. not (is_settled (history ++ settlement ∷ []) p)) still (λ p. ap not (is_settled-snoc history settlement p)) (made_paths (history ++ settlement ∷ []))
    ∙ ap (filter still) (made_paths-snoc history settlement)
    ∙ filter-append still (made_paths history) children
    ∙ ap (λ kept. kept ++ filter still children) (filter-filter (is_settled history) (path_eq path) (made_paths history))
    ∙ ap (λ kept. open_but history path ++ kept) (filter-all still children children_open)

-- the open paths but one that is open
pub open_but-Without : (network : Network) (history : List Settlement) (path : List Decision) → IsLegal network history → Contains (open_paths history) path → Without path (open_paths history) (open_but history path)
unfolding open_but
open_but-Without network history path legal is_open =
    filter-Without (λ other. not (path_eq path other)) path (open_paths history) (ap not (path_eq-refl path))
    (λ other fails. path_eq-true path other (not-false (path_eq path other) fails))
    (open_apart network history legal) is_open

pub open_but_parts : (history : List Settlement) (path other : List Decision) → Contains (open_but history path) other → Contains (open_paths history) other × (path ≢ other)
unfolding open_but
open_but_parts history path other found =
    let parts = from_filter (λ p. not (path_eq path p)) (open_paths history) other found in
    (parts.0, λ same. both_ways (path_eq path other) (not-true (path_eq path other) parts.1) (ap (path_eq path) (sym same) ∙ path_eq-refl path))
