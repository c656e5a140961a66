-- The numbers of right plans and of accepted trees are within the limits of a file.
use Rattle.std.proofs.Common.{◌≡◌, ◌≤◌, ◌<◌, ◌+◌, ℕ, List, [], ◌∷◌, ◌++◌, Bool, true, length, map, get_or, Option, Some, None, refl, ◌∙◌, arith, length-append}
use Rattle.std.specs.Prelude.{ℤ, nat_le, ◌&&◌, All, IsSomeAnd}
use Rattle.std.proofs.lemmas.Int.{ints}
use Rattle.std.specs.List.{list_all}
use Rattle.std.proofs.lemmas.Bool.{and_from, le-leb}
use Rattle.std.proofs.lemmas.List.{length-map, get_or_default}
use Rattle.std.proofs.lemmas.List.Elements.{All-nil, All-cons, All-head, All-tail}
use Rattle.std.proofs.lemmas.List.Folds.{list_all-append}
use Rattle.tsn_model.specs.declared.Decision.{Decision}
use Rattle.tsn_model.specs.declared.Side.TheVariants.{Left, Right}
use Rattle.tsn_model.specs.Network.{Network, IsWellFormed, stream_count}
use Rattle.tsn_model.specs.Timing.{UsesLink}
use Rattle.tsn_model.specs.Schedule.{IsLag, flowspan, target_of}
use Rattle.tsn_model.specs.Arcs.{arc_of, arcs_of}
use Rattle.tsn_model.specs.Certificate.{Leaf, late, overrun, positive_cycle, load, overload, Entry, IsFrameOn, LeadsTo, AreEntries, AreChains, Proves, Ties, Tree, leaf, tie, branch, Node, split_node, leaf_node, tie_node, IsNodeShown, AcceptsBy, preorder, decided}
use Rattle.tsn_model.proofs.Routes.{UsesLink-exists}
use Rattle.tsn_model.proofs.Shifts.{period-le-cycle}
use Rattle.tsn_model.proofs.Schedules.{flowspan-le-cycle, offsets_within}
use Rattle.tsn_cert.specs.Json.{all_within}
use Rattle.tsn_cert.specs.Plan.{max_time}
use Rattle.tsn_cert.specs.Cert.{max_number, lag_fits, entry_fits, leaf_fits, node_fits}
use Rattle.tsn_cert.specs.Laws.{IsInGrammar, AreInGrammar}
use Rattle.tsn_cert.specs.declared.plan.Plan.{Plan}
use Rattle.tsn_cert.specs.declared.plan.Plan.TheVariants as plan
use Rattle.tsn_check.proofs.Shifts.{shift_short}
use Rattle.tsn_check.specs.Plans.{offsets_in, IsPlanRight}
use Rattle.tsn_check.specs.Limits.{RightPlansFit, CertifiedTreesFit}

all_true : {X : Type 0} (test : X → Bool) (P : X → Type 0) → ((x : X) → P x → test x ≡ true) → (xs : List X) → All P xs → list_all test xs ≡ true
all_true test P each [] all = refl
all_true test P each (x ∷ xs) all =
    and_from (test x) (list_all test xs) (each x (All-head P x xs all)) (all_true test P each xs (All-tail P x xs all))

all_front : {X : Type 0} (P : X → Type 0) (xs ys : List X) → All P (xs ++ ys) → All P xs
all_front P [] ys all = All-nil P
all_front P (x ∷ xs) ys all = All-cons P x xs (All-head P x (xs ++ ys) all) (all_front P xs ys (All-tail P x (xs ++ ys) all))

all_back : {X : Type 0} (P : X → Type 0) (xs ys : List X) → All P (xs ++ ys) → All P ys
all_back P [] ys all = all
all_back P (x ∷ xs) ys all = all_back P xs ys (All-tail P x (xs ++ ys) all)

-- ---- plans

pub right_fits : RightPlansFit
right_fits network plan.None formed right = refl
right_fits network (plan.Schedule span offsets) formed right =
    let own : span ≡ flowspan network offsets = right.1 in
    let low = flowspan-le-cycle network offsets right.0 in
    and_from (nat_le span max_time) (all_within max_time offsets) (le-leb span max_time (omega arith))
    (all_true (λ n. nat_le n max_time) (λ n. n ≤ network.cycle) (λ n below. le-leb n max_time (omega arith)) offsets (offsets_within network offsets right.0))

-- ---- trees

some_node : (tree : Tree) → 0 < length (preorder tree)
unfolding preorder
some_node (leaf proof) = omega arith
some_node (tie proof chains) = omega arith
some_node (branch triple first second) = omega arith

module _ (network : Network) (formed : IsWellFormed network) where
  stream_fits : (i : ℕ) → i < stream_count network → nat_le i max_number ≡ true
  stream_fits i below = le-leb i max_number (omega arith)

  link_fits : (i link : ℕ) → UsesLink network i link → nat_le link max_number ≡ true
  link_fits i link uses =
      let exists = UsesLink-exists network i link formed uses in
      le-leb link max_number (omega arith)

  -- the lag of two frames is less than a cycle
  lag_within : (i j : ℕ) (lag : ℤ) → IsLag network i j lag → lag_fits lag ≡ true
  lag_within i j lag is = grind (arith, period-le-cycle, le-leb, ints)

  module _ (path : List Decision) (low : length path ≤ max_number) where
    chain_fits : (chain : List ℕ) → All (λ place. place < length (arcs_of network path)) chain → all_within max_number chain ≡ true
    unfolding arcs_of
    chain_fits chain places =
        let long = length-map path (arc_of network) in
        all_true (λ n. nat_le n max_number) (λ place. place < length (map (arc_of network) path))
        (λ n below. le-leb n max_number (omega (arith, long))) chain places

    lead_fits : (chain : List ℕ) (i : ℕ) → LeadsTo network path chain i → nat_le i max_number && all_within max_number chain ≡ true
    lead_fits chain i leads = and_from (nat_le i max_number) (all_within max_number chain) (stream_fits i leads.stream) (chain_fits chain leads.chain_to.places)

    one_entry_fits : (link : ℕ) (entry : Entry) → IsFrameOn network link entry.frame → LeadsTo network path entry.chain entry.frame.stream
        → entry_fits entry ≡ true
    one_entry_fits link entry on leads =
        let short = shift_short network entry.frame.stream entry.frame.shift formed on.sent leads.stream in
        grind (arith, and_from, stream_fits, le-leb, chain_fits)

    entries_fit : (link : ℕ) (entries : List Entry) → All (λ entry. IsFrameOn network link entry.frame) entries
        → All (λ entry. LeadsTo network path entry.chain entry.frame.stream) entries → list_all entry_fits entries ≡ true
    entries_fit link [] on chains = refl
    entries_fit link (entry ∷ entries) on chains =
        and_from (entry_fits entry) (list_all entry_fits entries)
        (one_entry_fits link entry (All-head (λ (e : Entry). IsFrameOn network link e.frame) entry entries on)
        (All-head (λ (e : Entry). LeadsTo network path e.chain e.frame.stream) entry entries chains))
        (entries_fit link entries (All-tail (λ (e : Entry). IsFrameOn network link e.frame) entry entries on)
        (All-tail (λ (e : Entry). LeadsTo network path e.chain e.frame.stream) entry entries chains))

    some_entries_fit : (link : ℕ) (entries : List Entry) → (entries ≡ [] → ⊥) → AreEntries network path link entries
        → nat_le link max_number && list_all entry_fits entries ≡ true
    some_entries_fit link [] some are = absurd (some refl)
    some_entries_fit link (entry ∷ entries) some are =
        and_from (nat_le link max_number) (list_all entry_fits (entry ∷ entries))
        (link_fits entry.frame.stream link (All-head (λ (e : Entry). IsFrameOn network link e.frame) entry entries are.on_link).uses)
        (entries_fit link (entry ∷ entries) are.on_link are.chains)

    chains_fit : (chains : List (List ℕ)) → AreChains network path chains → list_all (all_within max_number) chains ≡ true
    chains_fit chains are =
        all_true (all_within max_number) (λ chain. all_within max_number chain ≡ true) (λ chain fits. fits) chains (λ k d below. each k d below)
      where
        each : (k : ℕ) (d : List ℕ) → k < length chains → all_within max_number (get_or chains k d) ≡ true
        each k d below = rw (get_or_default chains k d [] below) (chain_fits (get_or chains k []) (are k below).chain_to.places)

    -- where the file's grammar has a leaf on a link's load, alone or in a tie, there are entries
    abbrev HasEntries : Leaf → Type 0
    HasEntries (late i chain) = Unit {0}
    HasEntries (overrun i chain) = Unit {0}
    HasEntries (positive_cycle chain) = Unit {0}
    HasEntries (load link entries) = entries ≡ [] → ⊥
    HasEntries (overload link entries) = entries ≡ [] → ⊥

    proved_fits : (target : ℕ) (proof : Leaf) → Proves network path target proof → HasEntries proof → leaf_fits proof ≡ true
    proved_fits target (late i chain) proves some = lead_fits chain i proves.0
    proved_fits target (overrun i chain) proves some = lead_fits chain i proves.0
    proved_fits target (positive_cycle chain) proves some = chain_fits chain proves.0.places
    proved_fits target (load link entries) proves some = some_entries_fit link entries some proves.0
    proved_fits target (overload link entries) proves some = some_entries_fit link entries some proves.0

    leaf_entries : (proof : Leaf) → IsInGrammar (leaf_node proof) → HasEntries proof
    leaf_entries (late i chain) has = tt
    leaf_entries (overrun i chain) has = tt
    leaf_entries (positive_cycle chain) has = tt
    leaf_entries (load link []) has = let nothing : None ≡ Some (leaf_node (load link [])) = has in absurd (cc)
    leaf_entries (load link (entry ∷ entries)) has = λ none. absurd (cc)
    leaf_entries (overload link []) has = let nothing : None ≡ Some (leaf_node (overload link [])) = has in absurd (cc)
    leaf_entries (overload link (entry ∷ entries)) has = λ none. absurd (cc)

    tie_entries : (proof : Leaf) (chains : List (List ℕ)) → IsInGrammar (tie_node proof chains) → HasEntries proof
    tie_entries (late i chain) chains has = tt
    tie_entries (overrun i chain) chains has = tt
    tie_entries (positive_cycle chain) chains has = tt
    tie_entries (load link []) chains has = let nothing : None ≡ Some (tie_node (load link []) chains) = has in absurd (cc)
    tie_entries (load link (entry ∷ entries)) chains has = λ none. absurd (cc)
    tie_entries (overload link []) chains has = let nothing : None ≡ Some (tie_node (overload link []) chains) = has in absurd (cc)
    tie_entries (overload link (entry ∷ entries)) chains has = λ none. absurd (cc)

    tied_fits : (planned : Option (List ℕ)) (proof : Leaf) (chains : List (List ℕ)) → IsSomeAnd planned (λ offsets. Ties network path offsets proof chains)
        → HasEntries proof → node_fits (tie_node proof chains) ≡ true
    tied_fits None proof chains ties some = absurd ties
    tied_fits (Some offsets) proof chains ties some =
        and_from (leaf_fits proof) (list_all (all_within max_number) chains)
        (proved_fits (flowspan network offsets) proof ties.bound some) (chains_fit chains ties.are_chains)

    shown_fits : (target : ℕ) (planned : Option (List ℕ)) (node : Node) → IsNodeShown network target planned path node → IsInGrammar node
        → node_fits node ≡ true
    shown_fits target planned (split_node triple) conflict has =
        and_from (nat_le triple.left max_number && nat_le triple.right max_number && nat_le triple.link max_number) (lag_fits triple.lag)
        (and_from (nat_le triple.left max_number && nat_le triple.right max_number) (nat_le triple.link max_number)
        (and_from (nat_le triple.left max_number) (nat_le triple.right max_number)
        (stream_fits triple.left (omega arith)) (stream_fits triple.right conflict.counted))
        (link_fits triple.left triple.link conflict.left_uses))
        (lag_within triple.left triple.right triple.lag conflict.lag)
    shown_fits target planned (leaf_node proof) proves has = proved_fits target proof proves (leaf_entries proof has)
    shown_fits target planned (tie_node proof chains) ties has = tied_fits planned proof chains ties (tie_entries proof chains has)

  module _ (target : ℕ) (planned : Option (List ℕ)) where
    one_fits : (path : List Decision) (node : Node) → IsNodeShown network target planned path node → AreInGrammar (node ∷ []) → length path + 1 ≤ max_number
        → list_all node_fits (node ∷ []) ≡ true
    one_fits path node shown has low =
        and_from (node_fits node) true (shown_fits path (omega arith) target planned node shown (All-head IsInGrammar node [] has)) refl

    tree_fits : (path : List Decision) (tree : Tree) → AcceptsBy (IsNodeShown network target planned) path tree → AreInGrammar (preorder tree)
        → length path + length (preorder tree) ≤ max_number → list_all node_fits (preorder tree) ≡ true
    unfolding preorder decided
    tree_fits path (leaf proof) accepted has low = one_fits path (leaf_node proof) accepted has (omega arith)
    tree_fits path (tie proof chains) accepted has low = one_fits path (tie_node proof chains) accepted has (omega arith)
    tree_fits path (branch triple first second) accepted has low =
        let left : Decision = record { triple = triple; side = Left } in
        let right : Decision = record { triple = triple; side = Right } in
        let rest = All-tail IsInGrammar (split_node triple) (preorder first ++ preorder second) has in
        let long = length-append (preorder first) (preorder second) in
        let longer_left = length-append path (left ∷ []) in
        let longer_right = length-append path (right ∷ []) in
        and_from (node_fits (split_node triple)) (list_all node_fits (preorder first ++ preorder second))
        (shown_fits path (omega arith) target planned (split_node triple) accepted.0
        (All-head IsInGrammar (split_node triple) (preorder first ++ preorder second) has))
        (list_all-append node_fits (preorder first) (preorder second)
        ∙ and_from (list_all node_fits (preorder first)) (list_all node_fits (preorder second))
        (tree_fits (path ++ left ∷ []) first accepted.1 (all_front IsInGrammar (preorder first) (preorder second) rest)
        (omega (arith, long, longer_left, some_node first, some_node second)))
        (tree_fits (path ++ right ∷ []) second accepted.2 (all_back IsInGrammar (preorder first) (preorder second) rest)
        (omega (arith, long, longer_right, some_node first, some_node second))))

target_fits : (network : Network) → IsWellFormed network → (stated : Plan) → IsPlanRight network stated → target_of network (offsets_in stated) ≤ max_time
unfolding target_of
target_fits network formed plan.None right = omega arith
target_fits network formed (plan.Schedule span offsets) right =
    let low = flowspan-le-cycle network offsets right.0 in
    omega arith

pub certified_fits : CertifiedTreesFit
certified_fits network stated cert formed certified has few = grind (arith, target_fits, tree_fits, and_from, le-leb)
