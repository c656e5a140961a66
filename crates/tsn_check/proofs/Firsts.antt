-- A plan and a certificate have at most one first fault.
use Rattle.std.proofs.Common.{◌≡◌, ◌≢◌, ℕ, zero, suc, ◌<◌, ◌≤◌, List, [], ◌∷◌, length, take, All, Any, Some, None, inl, inr, refl, sym, ap, ◌∙◌, subst, arith, Option}
use Rattle.std.specs.Prelude.{slice_get}
use Rattle.std.proofs.lemmas.Bool.{cases_lt}
use Rattle.std.proofs.lemmas.List.{take_all, take-take}
use Rattle.tsn_model.specs.declared.Decision.{Decision}
use Rattle.tsn_model.specs.Network.{Network}
use Rattle.tsn_model.specs.Schedule.{flowspan}
use Rattle.tsn_model.specs.Certificate.{Leaf, late, overrun, positive_cycle, load, overload, Entry, AreEntries, Node, split_node, leaf_node, tie_node, IsNodeShown}
use Rattle.tsn_cert.specs.declared.plan.Plan.{Plan}
use Rattle.tsn_cert.specs.declared.cert.Cert.{Cert}
use Rattle.tsn_model.specs.Places.{next_places, places_from, places_after, AreRight}
use Rattle.tsn_check.specs.Steps.{IsRightEntry}
use Rattle.tsn_check.specs.Numbers.{code_of}
use Rattle.tsn_check.specs.Plans.{offsets_in}
use Rattle.tsn_check.specs.Certified.{leaf_target, tie_plan}
use Rattle.tsn_check.specs.Faults.{IsWrongEntry, IsFirstWrong, HasChains, IsWrongPart, IsNoTie, IsWrongNode, Stands, IsWrongTree, IsWhy, IsFirstFault}
use Rattle.tsn_check.specs.declared.why.NodeFault.{NodeFault}
use Rattle.tsn_check.specs.declared.why.NodeFault.TheVariants as kinds
use Rattle.tsn_check.specs.declared.why.TreeFault.{TreeFault}
use Rattle.tsn_check.specs.declared.why.TreeFault.TheVariants as why
use Rattle.tsn_check.specs.declared.fault.CheckFault.{CheckFault}
use Rattle.tsn_check.proofs.Plans.{claim_refutes, one_claim}
use Rattle.tsn_check.proofs.Refusals.{there_below, entry_right, off_link, wrong_not_right, has_chains, part_refutes, node_refutes}

there_is : (nodes : List Node) (k : ℕ) → k < length nodes → (node : Node) × (slice_get nodes k ≡ Some node)
there_is [] k below = absurd (omega arith)
there_is (first ∷ nodes) zero below = (first, refl)
there_is (first ∷ nodes) (suc k) below = there_is nodes k (omega arith)

there_taken : {X : Type 0} (xs : List X) (k m : ℕ) (x : X) → k < m → slice_get xs k ≡ Some x → slice_get (take m xs) k ≡ Some x
there_taken [] zero m x below at = cc
there_taken [] (suc k) m x below at = cc
there_taken (first ∷ xs) k zero x below at = absurd (omega arith)
there_taken (first ∷ xs) zero (suc m) x below at = at
there_taken (first ∷ xs) (suc k) (suc m) x below at = there_taken xs k m x (omega arith) at

-- no frame is among others that it differs from
none_repeated : (before : List Entry) (entry : Entry) → Any (λ other. other.frame ≡ entry.frame) before → All (λ other. other.frame ≢ entry.frame) before → ⊥
none_repeated before entry some none = none some.0 some.1 some.2 (ap (λ e. e.frame) some.3 ∙ some.4)

-- ---- of one node

module _ (network : Network) (path : List Decision) (link : ℕ) where
  -- an entry is wrong in one way
  one_entry : (before : List Entry) (entry : Entry) (one other : NodeFault) → IsWrongEntry network path link before entry one
      → IsWrongEntry network path link before entry other → one ≡ other
  one_entry before entry kinds.NotSent kinds.NotSent is another = refl
  one_entry before entry kinds.NotSent kinds.NotOnLink is (inl past) = absurd (omega arith)
  one_entry before entry kinds.NotSent kinds.NotOnLink is (inr off) = absurd (is.1 off.0)
  one_entry before entry kinds.NotSent kinds.StreamRepeated is another = absurd (is.1 another.0.sent)
  one_entry before entry kinds.NotSent kinds.ChainBroken is another = absurd (is.1 another.0.sent)
  one_entry before entry kinds.NotOnLink kinds.NotSent (inl past) another = absurd (omega arith)
  one_entry before entry kinds.NotOnLink kinds.NotSent (inr off) another = absurd (another.1 off.0)
  one_entry before entry kinds.NotOnLink kinds.NotOnLink is another = refl
  one_entry before entry kinds.NotOnLink kinds.StreamRepeated is another = absurd (off_link network path link before entry is another.0)
  one_entry before entry kinds.NotOnLink kinds.ChainBroken is another = absurd (off_link network path link before entry is another.0)
  one_entry before entry kinds.StreamRepeated kinds.NotSent is another = absurd (another.1 is.0.sent)
  one_entry before entry kinds.StreamRepeated kinds.NotOnLink is another = absurd (off_link network path link before entry another is.0)
  one_entry before entry kinds.StreamRepeated kinds.StreamRepeated is another = refl
  one_entry before entry kinds.StreamRepeated kinds.ChainBroken is another = absurd (none_repeated before entry is.1 another.1)
  one_entry before entry kinds.ChainBroken kinds.NotSent is another = absurd (another.1 is.0.sent)
  one_entry before entry kinds.ChainBroken kinds.NotOnLink is another = absurd (off_link network path link before entry another is.0)
  one_entry before entry kinds.ChainBroken kinds.StreamRepeated is another = absurd (none_repeated before entry another.1 is.1)
  one_entry before entry kinds.ChainBroken kinds.ChainBroken is another = refl
  one_entry before entry kinds.NotSent _ is another = absurd another
  one_entry before entry kinds.NotOnLink _ is another = absurd another
  one_entry before entry kinds.StreamRepeated _ is another = absurd another
  one_entry before entry kinds.ChainBroken _ is another = absurd another
  one_entry before entry _ other is another = absurd is

  entry_blocks : (entries : List Entry) (k m : ℕ) (entry : Entry) (fault : NodeFault) → slice_get entries k ≡ Some entry
      → IsWrongEntry network path link (take k entries) entry fault → k < m
      → AreEntries network path link (take m entries) → ⊥
  entry_blocks entries k m entry fault there wrong_there below are =
      let at : slice_get (take m entries) k ≡ Some entry = there_taken entries k m entry below there in
      let right = entry_right network path link (take m entries) k entry are at in
      let same : take k (take m entries) ≡ take k entries = take-take k m entries (omega arith) in
      wrong_not_right network path link (take k entries) entry fault wrong_there (subst (λ es. IsRightEntry network path link es entry) same right)

  -- and is the first that is wrong at one place
  one_first_wrong : (entries : List Entry) (one other : NodeFault) → IsFirstWrong network path link entries one → IsFirstWrong network path link entries other
      → one ≡ other
  one_first_wrong entries one other is another = elim (cases_lt is.k another.k) [
    | inl below ↦ absurd (entry_blocks entries is.k another.k is.entry one is.there is.wrong below another.right_before)
    | inr above ↦ elim (cases_lt another.k is.k) [
      | inl below ↦ absurd (entry_blocks entries another.k is.k another.entry other another.there another.wrong below is.right_before)
      | inr past ↦
          let place : is.k ≡ another.k = omega arith in
          let there : Some is.entry ≡ Some another.entry = sym is.there ∙ ap (slice_get entries) place ∙ another.there in
          let entry : is.entry ≡ another.entry = cc in
          one_entry (take another.k entries) another.entry one other
          (subst (λ e. IsWrongEntry network path link (take another.k entries) e one) entry
          (subst (λ n. IsWrongEntry network path link (take n entries) is.entry one) place is.wrong)) another.wrong
    ]
  ]

-- a leaf has one wrong part
one_part : (network : Network) (path : List Decision) (proof : Leaf) (one other : NodeFault) → IsWrongPart network path proof one
    → IsWrongPart network path proof other → one ≡ other
one_part network path (late i chain) one other is another = is.0 ∙ sym another.0
one_part network path (overrun i chain) one other is another = is.0 ∙ sym another.0
one_part network path (positive_cycle chain) one other is another = is.0 ∙ sym another.0
one_part network path (load link entries) one other is another = one_first_wrong network path link entries one other is another
one_part network path (overload link entries) one other is another = one_first_wrong network path link entries one other is another

no_tie_chains : (network : Network) (planned : Option (List ℕ)) (path : List Decision) (proof : Leaf) (chains : List (List ℕ)) (fault : NodeFault)
    → IsNoTie network planned path proof chains fault → HasChains network path proof
no_tie_chains network None path proof chains fault wrong = wrong.0
no_tie_chains network (Some offsets) path proof chains fault (inl low) = low.1.0
no_tie_chains network (Some offsets) path proof chains fault (inr sooner) = has_chains network (flowspan network offsets) path proof sooner.0

one_no_tie : (network : Network) (planned : Option (List ℕ)) (path : List Decision) (proof : Leaf) (chains : List (List ℕ)) (one other : NodeFault)
    → IsNoTie network planned path proof chains one → IsNoTie network planned path proof chains other → one ≡ other
one_no_tie network None path proof chains one other is another = is.1 ∙ sym another.1
one_no_tie network (Some offsets) path proof chains one other (inl is) (inl another) = is.2 ∙ ap kinds.TieTooLow (is.1.2 ∙ sym another.1.2) ∙ sym another.2
one_no_tie network (Some offsets) path proof chains one other (inl is) (inr another) = absurd (is.1.1 another.0)
one_no_tie network (Some offsets) path proof chains one other (inr is) (inl another) = absurd (another.1.1 is.0)
one_no_tie network (Some offsets) path proof chains one other (inr is) (inr another) = is.2 ∙ sym another.2

module _ (network : Network) (target : ℕ) (planned : Option (List ℕ)) (path : List Decision) where
  -- a node is wrong in one way
  one_node : (node : Node) (one other : NodeFault) → IsWrongNode network target planned path node one → IsWrongNode network target planned path node other
      → one ≡ other
  one_node (split_node triple) one other is another = is.0 ∙ sym another.0
  one_node (leaf_node proof) one other (inl is) (inl another) = one_part network path proof one other is another
  one_node (leaf_node proof) one other (inl is) (inr another) = absurd (part_refutes network path proof one is another.1.0)
  one_node (leaf_node proof) one other (inr is) (inl another) = absurd (part_refutes network path proof other another is.1.0)
  one_node (leaf_node proof) one other (inr is) (inr another) = is.2 ∙ ap kinds.TooLow (is.1.2 ∙ sym another.1.2) ∙ sym another.2
  one_node (tie_node proof chains) one other (inl is) (inl another) = one_part network path proof one other is another
  one_node (tie_node proof chains) one other (inl is) (inr (inl another)) = absurd (part_refutes network path proof one is another.0)
  one_node (tie_node proof chains) one other (inl is) (inr (inr another)) =
      absurd (part_refutes network path proof one is (no_tie_chains network planned path proof chains other another.1))
  one_node (tie_node proof chains) one other (inr (inl is)) (inl another) = absurd (part_refutes network path proof other another is.0)
  one_node (tie_node proof chains) one other (inr (inl is)) (inr (inl another)) = is.2 ∙ sym another.2
  one_node (tie_node proof chains) one other (inr (inl is)) (inr (inr another)) = absurd (is.1 another.0)
  one_node (tie_node proof chains) one other (inr (inr is)) (inl another) =
      absurd (part_refutes network path proof other another (no_tie_chains network planned path proof chains one is.1))
  one_node (tie_node proof chains) one other (inr (inr is)) (inr (inl another)) = absurd (another.1 is.0)
  one_node (tie_node proof chains) one other (inr (inr is)) (inr (inr another)) = one_no_tie network planned path proof chains one other is.1 another.1

-- ---- of a list of nodes

data Kind : Type 0 where
  unfinished : Kind
  too_long : Kind
  wrong : NodeFault → Kind

module _ (network : Network) (target : ℕ) (planned : Option (List ℕ)) where
  -- where the first m nodes are right, so is each of them
  right_from : (places : List (List Decision)) (nodes : List Node) (m k : ℕ) (node : Node) → AreRight (IsNodeShown network target planned) places (take m nodes) → k < m → slice_get nodes k ≡ Some node
      → (path : List Decision) × (rest : List (List Decision)) × (places_from places (take k nodes) ≡ path ∷ rest) × IsNodeShown network target planned path node
  unfolding places_from
  right_from places [] m zero node right below at = cc
  right_from places [] m (suc k) node right below at = cc
  right_from places (first ∷ nodes) zero k node right below at = absurd (omega arith)
  right_from [] (first ∷ nodes) (suc m) k node right below at = absurd right
  right_from (path ∷ paths) (first ∷ nodes) (suc m) zero node right below at =
      let is : first ≡ node = cc in
      (path, paths, refl, subst (IsNodeShown network target planned path) is right.0)
  right_from (path ∷ paths) (first ∷ nodes) (suc m) (suc k) node right below at =
      right_from (next_places (path ∷ paths) first) nodes m k node right.1 (omega arith) at

  right_there : (nodes : List Node) (m k : ℕ) (node : Node) → AreRight (IsNodeShown network target planned) ([] ∷ []) (take m nodes) → k < m → slice_get nodes k ≡ Some node
      → (path : List Decision) × (rest : List (List Decision)) × (places_after (take k nodes) ≡ path ∷ rest) × IsNodeShown network target planned path node
  unfolding places_after
  right_there nodes m k node right below at = right_from ([] ∷ []) nodes m k node right below at

  -- a node that isn't right where it stands is no node before which others are right
  stands_blocks : (nodes : List Node) (m k : ℕ) (path : List Decision) (node : Node) → Stands network target planned nodes k path node → (IsNodeShown network target planned path node → ⊥) → k < m
      → AreRight (IsNodeShown network target planned) ([] ∷ []) (take m nodes) → ⊥
  stands_blocks nodes m k path node stands isnt below right = grind (arith, right_there)

  -- ---- what a fault of the nodes says of a place

  fault_of : Kind → ℕ → TreeFault
  fault_of unfinished k = why.Unfinished k
  fault_of too_long k = why.TooLong k
  fault_of (wrong fault) k = why.Node k fault

  -- the nodes end and a place is open; a node stands after the tree's end; or a node isn't right where it stands
  Says : List Node → Kind → ℕ → Type 0
  Says nodes unfinished k = (k ≡ length nodes) × AreRight (IsNodeShown network target planned) ([] ∷ []) nodes
  Says nodes too_long k = (k < length nodes) × AreRight (IsNodeShown network target planned) ([] ∷ []) (take k nodes) × (places_after (take k nodes) ≡ [])
  Says nodes (wrong fault) k =
      (path : List Decision) × (node : Node) × Stands network target planned nodes k path node × IsWrongNode network target planned path node fault

  says : (nodes : List Node) (fault : TreeFault) → IsWrongTree network target planned nodes fault
      → (kind : Kind) × (k : ℕ) × (fault ≡ fault_of kind k) × Says nodes kind k
  unfolding fault_of Says
  says nodes (why.Unfinished k) is = (unfinished, k, refl, (is.0, is.1))
  says nodes (why.TooLong k) is = (too_long, k, refl, is)
  says nodes (why.Node k fault) is = (wrong fault, k, refl, is)
  says nodes _ is = absurd is

  reaches : (nodes : List Node) (kind : Kind) (k : ℕ) → Says nodes kind k → AreRight (IsNodeShown network target planned) ([] ∷ []) (take k nodes) × (k ≤ length nodes)
  unfolding Says
  reaches nodes unfinished k is =
      (subst (AreRight (IsNodeShown network target planned) ([] ∷ [])) (sym (take_all k nodes (omega arith))) is.1, omega arith)
  reaches nodes too_long k is = let below = is.0 in (is.1, omega arith)
  reaches nodes (wrong fault) k is = let below = there_below nodes k is.1 is.2.there in (is.2.right_before, omega arith)

  blocks : (nodes : List Node) (kind : Kind) (k m : ℕ) → Says nodes kind k → k < m → m ≤ length nodes → AreRight (IsNodeShown network target planned) ([] ∷ []) (take m nodes) → ⊥
  unfolding Says
  blocks nodes unfinished k m is below within right = omega arith
  blocks nodes too_long k m is below within right =
      let node = there_is nodes k is.0 in
      let found = right_there nodes m k node.0 right below node.1 in
      let clash : [] ≡ found.0 ∷ found.1 = sym is.2 ∙ found.2 in
      cc
  blocks nodes (wrong fault) k m is below within right =
      stands_blocks nodes m k is.0 is.1 is.2 (node_refutes network target planned is.0 is.1 fault is.3) below right

  same_place : (nodes : List Node) (one other : Kind) (k m : ℕ) → Says nodes one k → Says nodes other m → k ≡ m
  same_place nodes one other k m is is_other = grind (arith, reaches, blocks)

  -- ---- of two faults at one place

  same_stand : (nodes : List Node) (k m : ℕ) (path other : List Decision) (node another : Node) → Stands network target planned nodes k path node → Stands network target planned nodes m other another → k ≡ m
      → (path ≡ other) × (node ≡ another)
  same_stand nodes k m path other node another stands stands_other same = grind arith

  same_kind : (nodes : List Node) (one other : Kind) (k m : ℕ) → Says nodes one k → Says nodes other m → k ≡ m → one ≡ other
  unfolding Says
  same_kind nodes unfinished unfinished k m is another same = refl
  same_kind nodes unfinished too_long k m is another same = let below = another.0 in absurd (omega arith)
  same_kind nodes unfinished (wrong fault) k m is another same = let below = there_below nodes m another.1 another.2.there in absurd (omega arith)
  same_kind nodes too_long unfinished k m is another same = let below = is.0 in absurd (omega arith)
  same_kind nodes too_long too_long k m is another same = refl
  same_kind nodes too_long (wrong fault) k m is another same =
      let clash : [] ≡ another.0 ∷ another.2.waiting = sym is.2 ∙ ap (λ n. places_after (take n nodes)) same ∙ another.2.first_place in
      cc
  same_kind nodes (wrong fault) unfinished k m is another same = let below = there_below nodes k is.1 is.2.there in absurd (omega arith)
  same_kind nodes (wrong fault) too_long k m is another same =
      let clash : [] ≡ is.0 ∷ is.2.waiting = sym another.2 ∙ ap (λ n. places_after (take n nodes)) (sym same) ∙ is.2.first_place in
      cc
  same_kind nodes (wrong fault) (wrong other) k m is another same = grind (arith, same_stand, one_node)

  one_tree : (nodes : List Node) (one other : TreeFault) → IsWrongTree network target planned nodes one → IsWrongTree network target planned nodes other
      → one ≡ other
  one_tree nodes one other is another = grind (arith, says, same_place, same_kind, fault_of)

-- ---- of a plan and its tree

pub one_why : (network : Network) (plan : Plan) (cert : Cert) (one other : TreeFault) → IsWhy network plan cert one → IsWhy network plan cert other
    → one ≡ other
one_why network plan cert one other (inl is) (inl another) = is.2 ∙ ap why.Plan (one_claim network plan is.0 another.0 is.1 another.1) ∙ sym another.2
one_why network plan cert one other (inl is) (inr (inl another)) = absurd (claim_refutes network plan is.0 is.1 another.0)
one_why network plan cert one other (inl is) (inr (inr another)) = absurd (claim_refutes network plan is.0 is.1 another.0)
one_why network plan cert one other (inr (inl is)) (inl another) = absurd (claim_refutes network plan another.0 another.1 is.0)
one_why network plan cert one other (inr (inl is)) (inr (inl another)) = is.1.1 ∙ sym another.1.1
one_why network plan cert one other (inr (inl is)) (inr (inr another)) = absurd (is.1.0 another.1)
one_why network plan cert one other (inr (inr is)) (inl another) = absurd (claim_refutes network plan another.0 another.1 is.0)
one_why network plan cert one other (inr (inr is)) (inr (inl another)) = absurd (another.1.0 is.1)
one_why network plan cert one other (inr (inr is)) (inr (inr another)) =
    one_tree network (leaf_target network cert.format cert.target) (tie_plan cert.format (offsets_in plan)) cert.nodes one other is.2 another.2

pub one_first_fault : (network : Network) (plan : Plan) (cert : Cert) (one other : CheckFault) → IsFirstFault network plan cert one → IsFirstFault network plan cert other → one ≡ other
one_first_fault network plan cert one other is another = is.2 ∙ ap code_of (one_why network plan cert is.0 another.0 is.1 another.1) ∙ sym another.2
