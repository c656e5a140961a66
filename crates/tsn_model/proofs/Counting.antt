-- How long a legal history can be.
use Rattle.std.proofs.Common.{◌≡◌, ◌≢◌, ℕ, suc, ◌+◌, ◌-◌, ◌^◌, ◌≤◌, ◌<◌, List, [], ◌∷◌, ◌++◌, map, length, sum_by, All, AllPairs, Contains, sym, ap, ◌∙◌, subst, arith, inl, inr}
use Rattle.std.proofs.Math.Nat.{pow-succ'}
use Rattle.std.proofs.lemmas.Nat.{pow_pos}
use Rattle.std.proofs.lemmas.List.{length-map, length_push}
use Rattle.std.proofs.lemmas.List.Elements.{All-nil, All-push, All-map, All-weaker, Contains-append_cases}
use Rattle.std.proofs.lemmas.List.Quantifiers.{all_pairs_push}
use Rattle.std.proofs.lemmas.List.Sums.{sum_by-append, sum_by-cons}
use Rattle.tsn_model.specs.declared.Triple.{Triple}
use Rattle.tsn_model.specs.declared.Side.{Side}
use Rattle.tsn_model.specs.declared.Side.TheVariants.{Left, Right}
use Rattle.tsn_model.specs.declared.Decision.{Decision}
use Rattle.tsn_model.specs.Network.{Network}
use Rattle.tsn_model.specs.Schedule.{IsConflict}
use Rattle.tsn_model.specs.Certificate.{decided}
use Rattle.tsn_model.specs.Search.{Outcome, split, solved, pruned, tied, refuted, Settlement, children_of, made_paths, is_settled, open_paths, IsRight, IsLegal}
use Rattle.tsn_model.proofs.Lists.{AllPairs-map}
use Rattle.tsn_model.proofs.Decisions.{length-decided}
use Rattle.tsn_model.proofs.SearchLists.{Contains-one, AllPairs-nil, sum_by-Without, length-le-of_different}
use Rattle.tsn_model.proofs.Histories.{legal_induction, made_paths-snoc, open_paths-snoc, open_but, open_but-Without, open_is_made, IsChild, child_of}

-- the path decides conflicts, none of them twice
pub record DecidesConflicts (network : Network) (path : List Decision) : Type 0 where
  pub different : AllPairs (λ (a b : Decision). a.triple ≢ b.triple) path
  pub conflicts : All (λ (decision : Decision). IsConflict network decision.triple) path

decides_more : (network : Network) (path : List Decision) (triple : Triple) (side : Side) → DecidesConflicts network path
    → IsConflict network triple → All (λ decision. decision.triple ≢ triple) path → DecidesConflicts network (decided path triple side)
unfolding decided
decides_more network path triple side before conflict undecided = record {
  different = all_pairs_push (λ (a b : Decision). a.triple ≢ b.triple) path (record { triple = triple; side = side }) before.different undecided;
  conflicts = All-push (λ (decision : Decision). IsConflict network decision.triple) path (record { triple = triple; side = side }) before.conflicts conflict;
}

child_decides : (network : Network) (history : List Settlement) (path : List Decision) (outcome : Outcome) (child : List Decision) → IsRight network history path outcome
    → DecidesConflicts network path → IsChild path outcome child → DecidesConflicts network child
child_decides network history path outcome child right before of =
    let right' : IsRight network history path (split of.triple) = subst (IsRight network history path) of.was_split right in
    subst (DecidesConflicts network) of.is (decides_more network path of.triple of.side before right'.0 right'.1)

root_decides : (network : Network) → DecidesConflicts network []
root_decides network = record {
  different = AllPairs-nil (λ (a b : Decision). a.triple ≢ b.triple);
  conflicts = All-nil (λ (decision : Decision). IsConflict network decision.triple);
}

root_made : (path : List Decision) → Contains (made_paths []) path → [] ≡ path
unfolding made_paths
root_made path made = Contains-one [] path made

-- each made path of a legal history does
pub made_decides : (network : Network) (history : List Settlement) → IsLegal network history → (path : List Decision) → Contains (made_paths history) path → DecidesConflicts network path
made_decides network =
    legal_induction network (λ history. (path : List Decision) → Contains (made_paths history) path → DecidesConflicts network path)
    (λ path made. subst (DecidesConflicts network) (root_made path made) (root_decides network))
    (λ history settlement legal allowed before path made.
    elim (Contains-append_cases (made_paths history) (children_of settlement.event.path settlement.event.outcome) path
    (subst (λ paths. Contains paths path) (made_paths-snoc history settlement) made)) [
      | inl earlier ↦ before path earlier
      | inr child ↦ child_decides network history settlement.event.path settlement.event.outcome path allowed.is_right
          (before settlement.event.path (open_is_made history settlement.event.path allowed.is_open))
          (child_of settlement.event.path settlement.event.outcome path child)
    ])

-- so it is no longer than there are conflicts
pub length-le-conflicts : (network : Network) (conflicts : List Triple) → ((triple : Triple) → IsConflict network triple → Contains conflicts triple)
    → (path : List Decision) → DecidesConflicts network path → length path ≤ length conflicts
length-le-conflicts network conflicts listed path decides =
    let triples : List Triple = map (λ (d : Decision). d.triple) path in
    let fits : length triples ≤ length conflicts =
    length-le-of_different triples conflicts
    (AllPairs-map ◌≢◌ (λ (d : Decision). d.triple) path decides.different)
    (All-map (Contains conflicts) (λ (d : Decision). d.triple) path
    (All-weaker (λ (d : Decision). IsConflict network d.triple) (λ (d : Decision). Contains conflicts d.triple) (λ d is. listed d.triple is) path decides.conflicts)) in
    omega (arith, length-map path (λ (d : Decision). d.triple), fits)

-- ---- the bound

-- how many settlements a node at the end of the path can still lead to, where no path is longer than t
unfoldable pub room_of : ℕ → List Decision → ℕ
room_of t path = 2 ^ (t + 1 - length path) - 1

doubled : (k : ℕ) → 2 ^ suc k - 1 ≡ 1 + (2 ^ k - 1) + (2 ^ k - 1)
doubled k = omega (arith, pow-succ' 2 k, pow_pos k)

room-split : (t : ℕ) (path : List Decision) (triple : Triple) (left right : Side) → length path + 1 ≤ t
    → room_of t path ≡ 1 + room_of t (decided path triple left) + room_of t (decided path triple right)
unfolding room_of
room-split t path triple left right short =
    let above : t + 1 - length path ≡ suc (t - length path) = omega arith in
    let first : t + 1 - length (decided path triple left) ≡ t - length path = omega (arith, length-decided path triple left) in
    let second : t + 1 - length (decided path triple right) ≡ t - length path = omega (arith, length-decided path triple right) in
    ap (λ k. 2 ^ k - 1) above ∙ doubled (t - length path) ∙ (λ i. 1 + (2 ^ sym first i - 1) + (2 ^ sym second i - 1))

room-pos : (t : ℕ) (path : List Decision) → length path ≤ t → 1 ≤ room_of t path
unfolding room_of
room-pos t path short =
    let above : t + 1 - length path ≡ suc (t - length path) = omega arith in
    let is : 2 ^ (t + 1 - length path) - 1 ≡ 1 + (2 ^ (t - length path) - 1) + (2 ^ (t - length path) - 1) = ap (λ k. 2 ^ k - 1) above ∙ doubled (t - length path) in
    omega (arith, is)

-- the room that an event takes, its children's added
room-event : (network : Network) (conflicts : List Triple) → ((triple : Triple) → IsConflict network triple → Contains conflicts triple)
    → (history : List Settlement) (path : List Decision) (outcome : Outcome) → DecidesConflicts network path → IsRight network history path outcome
    → 1 + sum_by (room_of (length conflicts)) (children_of path outcome) ≤ room_of (length conflicts) path
unfolding children_of
room-event network conflicts listed history path (split triple) before right =
    let t : ℕ = length conflicts in
    let fits = length-le-conflicts network conflicts listed (decided path triple Left) (decides_more network path triple Left before right.0 right.1) in
    let is = room-split t path triple Left Right (omega (arith, length-decided path triple Left, fits)) in
    omega (arith, is, sum_by-cons (room_of t) (decided path triple Left) (decided path triple Right ∷ []), sum_by-cons (room_of t) (decided path triple Right) [])
room-event network conflicts listed history path (solved offsets bound leaf chains) before right =
    omega (arith, room-pos (length conflicts) path (length-le-conflicts network conflicts listed path before))
room-event network conflicts listed history path (pruned bound leaf) before right =
    omega (arith, room-pos (length conflicts) path (length-le-conflicts network conflicts listed path before))
room-event network conflicts listed history path (tied bound leaf chains) before right =
    omega (arith, room-pos (length conflicts) path (length-le-conflicts network conflicts listed path before))
room-event network conflicts listed history path (refuted leaf) before right =
    omega (arith, room-pos (length conflicts) path (length-le-conflicts network conflicts listed path before))

room-start : (t : ℕ) → length {A = Settlement} [] + sum_by (room_of t) (open_paths []) ≤ 2 ^ (t + 1) - 1
unfolding open_paths made_paths is_settled room_of
room-start t =
    let whole : t + 1 - length {A = Decision} [] ≡ t + 1 = omega arith in
    omega (arith, sum_by-cons (room_of t) [] [], ap (λ k. 2 ^ k - 1) whole)

-- the settlements and the room of what is open are never more than the room of the root
pub settled_and_room : (network : Network) (conflicts : List Triple) → ((triple : Triple) → IsConflict network triple → Contains conflicts triple)
    → (history : List Settlement) → IsLegal network history → length history + sum_by (room_of (length conflicts)) (open_paths history) ≤ 2 ^ (length conflicts + 1) - 1
settled_and_room network conflicts listed =
    legal_induction network (λ history. length history + sum_by (room_of (length conflicts)) (open_paths history) ≤ 2 ^ (length conflicts + 1) - 1)
    (room-start (length conflicts))
    (λ history settlement legal allowed before.
    let t : ℕ = length conflicts in
    let path : List Decision = settlement.event.path in
    let children : List (List Decision) = children_of path settlement.event.outcome in
    let decides = made_decides network history legal path (open_is_made history path allowed.is_open) in
    let event = room-event network conflicts listed history path settlement.event.outcome decides allowed.is_right in
    let gone = sum_by-Without (room_of t) path (open_paths history) (open_but history path) (open_but-Without network history path legal allowed.is_open) in
    let opened : sum_by (room_of t) (open_paths (history ++ settlement ∷ [])) ≡ sum_by (room_of t) (open_but history path) + sum_by (room_of t) children =
    ap (sum_by (room_of t)) (open_paths-snoc network history settlement legal allowed) ∙ sum_by-append (room_of t) (open_but history path) children in
    omega (arith, length_push history settlement, event, gone, opened, before))

-- a legal history has at most as many settlements as a tree over the conflicts has nodes
pub length-legal : (network : Network) (conflicts : List Triple) → ((triple : Triple) → IsConflict network triple → Contains conflicts triple)
    → (history : List Settlement) → IsLegal network history → length history ≤ 2 ^ (length conflicts + 1) - 1
length-legal network conflicts listed history legal = omega (arith, settled_and_room network conflicts listed history legal)

-- and fewer where a node is open
pub length-legal_open : (network : Network) (conflicts : List Triple) → ((triple : Triple) → IsConflict network triple → Contains conflicts triple)
    → (history : List Settlement) → IsLegal network history → (path : List Decision) → Contains (open_paths history) path → length history < 2 ^ (length conflicts + 1) - 1
length-legal_open network conflicts listed history legal path is_open =
    let t : ℕ = length conflicts in
    let some = room-pos t path (length-le-conflicts network conflicts listed path (made_decides network history legal path (open_is_made history path is_open))) in
    let gone = sum_by-Without (room_of t) path (open_paths history) (open_but history path) (open_but-Without network history path legal is_open) in
    omega (arith, some, gone, settled_and_room network conflicts listed history legal)
