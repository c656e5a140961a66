-- A first fault of a list of nodes shows that it doesn't fill the root's place.
use Rattle.std.proofs.Common.{◌≡◌, ℕ, zero, suc, ◌<◌, List, [], ◌∷◌, length, take, drop, get_or, refl, sym, ap, ◌∙◌, subst, arith, Some, Option, None, inl, inr}
use Rattle.std.specs.Prelude.{slice_get, IsSomeAnd}
use Rattle.std.proofs.lemmas.List.{take-append-drop, length-drop, length-take, get_or-take}
use Rattle.tsn_model.specs.declared.Decision.{Decision}
use Rattle.tsn_model.specs.Network.{Network}
use Rattle.tsn_model.specs.Certificate.{Leaf, late, overrun, positive_cycle, load, overload, Entry, IsFrameOn, LeadsTo, AreEntries, Proves, AreChains, Ties, Node, split_node, leaf_node, tie_node, IsNodeShown}
use Rattle.tsn_model.specs.Places.{Fills, places_after}
use Rattle.tsn_model.proofs.Places.{fills-append, right_from_fills}
use Rattle.tsn_model.specs.Schedule.{flowspan}
use Rattle.tsn_model.proofs.Routes.{UsesLink-counted}
use Rattle.tsn_check.specs.Faults.{IsWrongEntry, IsFirstWrong, HasChains, IsWrongPart, IsNoTie, IsWrongNode, Stands, IsWrongTree}
use Rattle.tsn_check.specs.Steps.{IsRightEntry}
use Rattle.tsn_check.specs.declared.why.NodeFault.{NodeFault}
use Rattle.tsn_check.specs.declared.why.NodeFault.TheVariants as kinds
use Rattle.tsn_check.specs.declared.why.TreeFault.{TreeFault}
use Rattle.tsn_check.specs.declared.why.TreeFault.TheVariants as why

at_take : (nodes : List Node) (k : ℕ) (node : Node) → slice_get nodes k ≡ Some node → drop k nodes ≡ node ∷ drop (suc k) nodes
at_take [] zero node at = cc
at_take [] (suc k) node at = cc
at_take (first ∷ nodes) zero node at = let is : first ≡ node = cc in ap (λ n. n ∷ nodes) is
at_take (first ∷ nodes) (suc k) node at = at_take nodes k node at

filled_none : (network : Network) (target : ℕ) (planned : Option (List ℕ)) (nodes : List Node) → Fills (IsNodeShown network target planned) [] nodes → nodes ≡ []
filled_none network target planned [] fills = refl
filled_none network target planned (node ∷ nodes) fills = absurd fills

-- where the nodes fill the root's place, a node is right where it stands
stands_right : (network : Network) (target : ℕ) (planned : Option (List ℕ)) (nodes : List Node) (k : ℕ) (path : List Decision) (node : Node) → Stands network target planned nodes k path node → Fills (IsNodeShown network target planned) ([] ∷ []) nodes
    → IsNodeShown network target planned path node
unfolding places_after
stands_right network target planned nodes k path node stands fills =
    let parts = fills-append (IsNodeShown network target planned) ([] ∷ []) (take k nodes) (drop k nodes) (subst (Fills (IsNodeShown network target planned) ([] ∷ [])) (sym (take-append-drop k nodes)) fills) in
    let here : Fills (IsNodeShown network target planned) (path ∷ stands.waiting) (node ∷ drop (suc k) nodes) =
    subst (Fills (IsNodeShown network target planned) (path ∷ stands.waiting)) (at_take nodes k node stands.there) (subst (λ ps. Fills (IsNodeShown network target planned) ps (drop k nodes)) stands.first_place parts.1) in
    here.0

pub has_chains : (network : Network) (target : ℕ) (path : List Decision) (proof : Leaf) → Proves network path target proof → HasChains network path proof
has_chains network target path (late i chain) proves = proves.0
has_chains network target path (overrun i chain) proves = proves.0
has_chains network target path (positive_cycle chain) proves = proves.0
has_chains network target path (load link entries) proves = proves.0
has_chains network target path (overload link entries) proves = proves.0

-- ---- the entries of a leaf

pub there_below : {X : Type 0} (xs : List X) (k : ℕ) (x : X) → slice_get xs k ≡ Some x → k < length xs
there_below [] zero x at = cc
there_below [] (suc k) x at = cc
there_below (first ∷ xs) zero x at = omega arith
there_below (first ∷ xs) (suc k) x at = let below = there_below xs k x at in omega arith

there_or : {X : Type 0} (xs : List X) (k : ℕ) (x d : X) → slice_get xs k ≡ Some x → get_or xs k d ≡ x
there_or [] zero x d at = cc
there_or [] (suc k) x d at = cc
there_or (first ∷ xs) zero x d at = cc
there_or (first ∷ xs) (suc k) x d at = there_or xs k x d at

module _ (network : Network) (path : List Decision) (link : ℕ) where
  -- each of some right entries is right behind those before it
  pub entry_right : (entries : List Entry) (k : ℕ) (entry : Entry) → AreEntries network path link entries → slice_get entries k ≡ Some entry → IsRightEntry network path link (take k entries) entry
  entry_right entries k entry are at =
      let below = there_below entries k entry at in
      let is : get_or entries k entry ≡ entry = there_or entries k entry entry at in
      record {
        on_link = subst (λ e. IsFrameOn network link e.frame) is (are.on_link k entry below);
        other_frame = λ i d before same.
            let within : i < k = omega (arith, length-take k entries) in
            are.different i k d within below
            (ap (λ e. e.frame) (sym (get_or-take k entries i d within)) ∙ same ∙ ap (λ e. e.frame) (sym (there_or entries k entry d at)));
        leads = subst (λ e. LeadsTo network path e.chain e.frame.stream) is (are.chains k entry below);
      }

  -- an entry that isn't on the link has no frame there
  pub off_link : (before : List Entry) (entry : Entry) → IsWrongEntry network path link before entry kinds.NotOnLink → IsFrameOn network link entry.frame → ⊥
  off_link before entry (inl past) on =
      let counted = UsesLink-counted network entry.frame.stream link on.uses in
      omega arith
  off_link before entry (inr off) on = off.1 on.uses

  -- a wrong entry isn't right
  pub wrong_not_right : (before : List Entry) (entry : Entry) (fault : NodeFault) → IsWrongEntry network path link before entry fault
      → IsRightEntry network path link before entry → ⊥
  wrong_not_right before entry kinds.NotSent wrong right = wrong.1 right.on_link.sent
  wrong_not_right before entry kinds.NotOnLink wrong right = off_link before entry wrong right.on_link
  wrong_not_right before entry kinds.StreamRepeated wrong right = right.other_frame wrong.1.0 wrong.1.1 wrong.1.2 (ap (λ e. e.frame) wrong.1.3 ∙ wrong.1.4)
  wrong_not_right before entry kinds.ChainBroken wrong right = wrong.2 right.leads
  wrong_not_right before entry _ wrong right = wrong

  pub first_wrong_refutes : (entries : List Entry) (fault : NodeFault) → IsFirstWrong network path link entries fault → AreEntries network path link entries → ⊥
  first_wrong_refutes entries fault first are = wrong_not_right (take first.k entries) first.entry fault first.wrong (entry_right entries first.k first.entry are first.there)

-- a leaf with a wrong part hasn't right chains
pub part_refutes : (network : Network) (path : List Decision) (proof : Leaf) (fault : NodeFault) → IsWrongPart network path proof fault
    → HasChains network path proof → ⊥
part_refutes network path (late i chain) fault wrong has = wrong.1 has
part_refutes network path (overrun i chain) fault wrong has = wrong.1 has
part_refutes network path (positive_cycle chain) fault wrong has = wrong.1 has
part_refutes network path (load link entries) fault wrong has = first_wrong_refutes network path link entries fault wrong has
part_refutes network path (overload link entries) fault wrong has = first_wrong_refutes network path link entries fault wrong has

-- ---- nodes

-- a tie's chains are right
tie_chains : (network : Network) (planned : Option (List ℕ)) (path : List Decision) (proof : Leaf) (chains : List (List ℕ)) → IsSomeAnd planned (λ offsets. Ties network path offsets proof chains)
    → HasChains network path proof × AreChains network path chains
tie_chains network None path proof chains ties = absurd ties
tie_chains network (Some offsets) path proof chains ties = (has_chains network (flowspan network offsets) path proof ties.bound, ties.are_chains)

no_tie_refutes : (network : Network) (planned : Option (List ℕ)) (path : List Decision) (proof : Leaf) (chains : List (List ℕ)) (fault : NodeFault)
    → IsNoTie network planned path proof chains fault → IsSomeAnd planned (λ offsets. Ties network path offsets proof chains) → ⊥
no_tie_refutes network None path proof chains fault wrong ties = ties
no_tie_refutes network (Some offsets) path proof chains fault (inl low) ties = low.1.1 ties.bound
no_tie_refutes network (Some offsets) path proof chains fault (inr sooner) ties = sooner.1 ties.after

-- a wrong node isn't right
pub node_refutes : (network : Network) (target : ℕ) (planned : Option (List ℕ)) (path : List Decision) (node : Node) (fault : NodeFault)
    → IsWrongNode network target planned path node fault → IsNodeShown network target planned path node → ⊥
node_refutes network target planned path (split_node triple) fault wrong right = wrong.1 right
node_refutes network target planned path (leaf_node proof) fault (inl part) right =
    part_refutes network path proof fault part (has_chains network target path proof right)
node_refutes network target planned path (leaf_node proof) fault (inr low) right = low.1.1 right
node_refutes network target planned path (tie_node proof chains) fault (inl part) right =
    part_refutes network path proof fault part (tie_chains network planned path proof chains right).0
node_refutes network target planned path (tie_node proof chains) fault (inr (inl unled)) right = unled.1 (tie_chains network planned path proof chains right).1
node_refutes network target planned path (tie_node proof chains) fault (inr (inr low)) right =
    no_tie_refutes network planned path proof chains fault low.1 right

pub tree_refutes : (network : Network) (target : ℕ) (planned : Option (List ℕ)) (nodes : List Node) (fault : TreeFault)
    → IsWrongTree network target planned nodes fault → Fills (IsNodeShown network target planned) ([] ∷ []) nodes → ⊥
unfolding places_after
tree_refutes network target planned nodes (why.Unfinished k) fault fills =
    fault.2 (right_from_fills (IsNodeShown network target planned) ([] ∷ []) nodes fills).1
tree_refutes network target planned nodes (why.TooLong k) fault fills =
    let parts = fills-append (IsNodeShown network target planned) ([] ∷ []) (take k nodes) (drop k nodes) (subst (Fills (IsNodeShown network target planned) ([] ∷ [])) (sym (take-append-drop k nodes)) fills) in
    let empty = filled_none network target planned (drop k nodes) (subst (λ ps. Fills (IsNodeShown network target planned) ps (drop k nodes)) fault.2 parts.1) in
    omega (arith, length-drop k nodes, ap length empty)
tree_refutes network target planned nodes (why.Node k wrong) fault fills =
    node_refutes network target planned fault.0 fault.1 wrong fault.3 (stands_right network target planned nodes k fault.0 fault.1 fault.2 fills)
tree_refutes network target planned nodes _ fault fills = absurd fault
