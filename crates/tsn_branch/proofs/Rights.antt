-- What a look finds is right whatever was settled before.
use Rattle.std.proofs.Common.{◌≡◌, ◌≢◌, ℕ, ◌≤◌, List, Option, None, Some, sym, subst, arith, inl, inr}
use Rattle.std.specs.Prelude.{IfSome, IsSomeAnd, Contains}
use Rattle.std.proofs.lemmas.Int.{ints}
use Rattle.std.proofs.lemmas.List.Elements.{All-weaker}
use Rattle.tsn_model.specs.declared.Triple.{Triple}
use Rattle.tsn_model.specs.declared.Side.{Side}
use Rattle.tsn_model.specs.declared.Side.TheVariants.{Left, Right}
use Rattle.tsn_model.specs.declared.Decision.{Decision}
use Rattle.tsn_model.specs.Network.{Network, IsWellFormed}
use Rattle.tsn_model.specs.Schedule.{flowspan, Overlaps}
use Rattle.tsn_model.specs.Arcs.{arc_on, arc_of, arcs_of, conflicts_of, Holds, HoldsAll}
use Rattle.tsn_model.specs.Certificate.{Leaf, late, overrun, positive_cycle, load, overload, late_bound, Overruns, Proves, HasBound, AreChains, ShowsAfter}
use Rattle.tsn_model.specs.Search.{Outcome, split, solved, pruned, tied, refuted, Refutes}
use Rattle.tsn_model.proofs.Conflicts.{conflict_listed}
use Rattle.tsn_model.proofs.Lists.{All-unmap}
use Rattle.tsn_model.proofs.Overlaps.{not_both_ways}
use Rattle.tsn_model.proofs.Ties.{shown_chains, shown_after}
use Rattle.tsn_timing.specs.Solution.{Solution, IsSolved}
use Rattle.tsn_conflict.specs.Path.{IsUndecided}
use Rattle.tsn_branch.proofs.Shown.{entries_shown, busy_shown, load_shown}
use Rattle.tsn_branch.specs.Look.{IsLook, IsRefutation, IsPruning, IsTie, ShowsFlowspan, SplitsAmong, PrunesFrom, SolvesBelow, TiesWith}
use Rattle.tsn_conflict.specs.Right.{HasProof, SplitsUndecided}

-- offsets that hold the arc of one side put the two frames apart
held_apart : (network : Network) (offsets : List ℕ) (triple : Triple) (side : Side) → Holds offsets (arc_on network triple side) → Overlaps network offsets triple → ⊥
held_apart network offsets triple Left held overlaps = not_both_ways network offsets triple overlaps (inl held)
held_apart network offsets triple Right held overlaps = not_both_ways network offsets triple overlaps (inr held)

-- so a triple whose frames overlap isn't decided
undecided : (network : Network) (path : List Decision) (offsets : List ℕ) (triple : Triple) → HoldsAll offsets (arcs_of network path) → Overlaps network offsets triple → IsUndecided path triple
unfolding arcs_of arc_of
undecided network path offsets triple held overlaps =
    All-weaker (λ decision. Holds offsets (arc_on network decision.triple decision.side)) (λ decision. decision.triple ≢ triple)
    (λ decision holds same. held_apart network offsets decision.triple decision.side holds (subst (Overlaps network offsets) (sym same) overlaps))
    path (All-unmap (Holds offsets) (λ decision. arc_on network decision.triple decision.side) path held)

shows_bound : (network : Network) (path : List Decision) (offsets : List ℕ) (bound : ℕ) (leaf : Leaf) → bound ≡ flowspan network offsets → ShowsFlowspan network path offsets leaf → Proves network path bound leaf
unfolding late_bound
shows_bound network path offsets bound (late i chain) is (last, shown) =
    let arrives = last.arrives in
    let sum = shown.sum in
    (shown.leads, omega (arith, ints, arrives, sum, is))
shows_bound network path offsets bound (overrun i chain) is never = absurd never
shows_bound network path offsets bound (positive_cycle chain) is never = absurd never
shows_bound network path offsets bound (load link entries) is never = absurd never
shows_bound network path offsets bound (overload link entries) is never = absurd never

prunes : (network : Network) (path : List Decision) (target bound : ℕ) (leaf : Leaf) → IsPruning network path target bound leaf → Proves network path bound leaf × (target ≤ bound)
prunes network path target bound (late i chain) (offsets, least, fit, is, met, shown) = (shows_bound network path offsets bound (late i chain) is shown, met)
prunes network path target bound (overrun i chain) never = absurd never
prunes network path target bound (positive_cycle chain) never = absurd never
prunes network path target bound (load link entries) (offsets, least, fit, below, first, within, is, met, shows) =
    let same = load_shown network path offsets link entries shows in
    ((entries_shown network path offsets link entries shows, omega (arith, ints, same, is)), met)
prunes network path target bound (overload link entries) never = absurd never

shown_bound : (network : Network) (path : List Decision) (offsets : List ℕ) (leaf : Leaf) → ShowsFlowspan network path offsets leaf → HasBound leaf
shown_bound network path offsets (late i chain) shown = tt
shown_bound network path offsets (overrun i chain) never = absurd never
shown_bound network path offsets (positive_cycle chain) never = absurd never
shown_bound network path offsets (load link entries) never = absurd never
shown_bound network path offsets (overload link entries) never = absurd never

pruned_bound : (network : Network) (path : List Decision) (target bound : ℕ) (leaf : Leaf) → IsPruning network path target bound leaf → HasBound leaf
pruned_bound network path target bound (late i chain) pruning = tt
pruned_bound network path target bound (overrun i chain) never = absurd never
pruned_bound network path target bound (positive_cycle chain) never = absurd never
pruned_bound network path target bound (load link entries) pruning = tt
pruned_bound network path target bound (overload link entries) never = absurd never

-- a tie's leaf is that of a pruned node, and its chains show the least offsets, which don't come before the best schedule
module _ (network : Network) (path : List Decision) (target bound : ℕ) (leaf : Leaf) (chains : List (List ℕ)) where
  tie_proof : (best : Option Solution) → IsSomeAnd best (λ solution. IsTie network path target solution bound leaf chains)
      → Proves network path bound leaf × HasBound leaf × AreChains network path chains
  tie_proof None never = absurd never
  tie_proof (Some solution) tie =
      let shown = tie.shown in (
        (prunes network path solution.flowspan bound leaf tie.pruned_by_best).0,
        pruned_bound network path solution.flowspan bound leaf tie.pruned_by_best,
        subst (AreChains network path) (sym shown.2) (shown_chains network path shown.0 tie.offsets solution.offsets shown.1),
      )

  ties_with : (best : Option Solution) → IfSome best (IsSolved network) → IsSomeAnd best (λ solution. IsTie network path target solution bound leaf chains)
      → IsSomeAnd best (λ solution. (solution.flowspan ≤ bound) × ShowsAfter network path chains solution.offsets)
  ties_with None solved_best never = absurd never
  ties_with (Some solution) solved_best tie =
      let shown = tie.shown in (
        (prunes network path solution.flowspan bound leaf tie.pruned_by_best).1,
        subst (λ cs. ShowsAfter network path cs solution.offsets) (sym shown.2)
            (shown_after network path shown.0 tie.offsets solution.offsets shown.1 tie.are_least.count solved_best.0.count tie.not_before),
      )

refutes : (network : Network) (path : List Decision) (target : ℕ) (leaf : Leaf) → IsRefutation network path target leaf → Refutes network path leaf
refutes network path target (late i chain) never = absurd never
refutes network path target (overrun i chain) (offsets, least, first, shown) =
    let sum = shown.sum in
    let overruns : Overruns network path i chain = elim first.past [ inl past ↦ inl (omega (arith, ints, past, sum)) | inr too_late ↦ inr (omega (arith, ints, too_late, sum)) ] in
    λ any. (shown.leads, overruns)
refutes network path target (positive_cycle chain) (none, proof) = proof
refutes network path target (load link entries) never = absurd never
refutes network path target (overload link entries) (offsets, least, fit, below, first, past, shows) =
    λ any. (entries_shown network path offsets link entries shows, rw (busy_shown network path offsets link entries shows) past)

pub HasProof-from : (network : Network) (path : List Decision) (target : ℕ) (best : Option Solution) (outcome : Outcome) → IsLook network path target best outcome → HasProof network path outcome
HasProof-from network path target best (split triple) found = tt
HasProof-from network path target best (solved offsets bound leaf chains) (least, valid, is, below, shown, unloaded, shows, untied) =
    (valid, sym is, shows_bound network path offsets bound leaf is shown, shown_bound network path offsets leaf shown, shows)
HasProof-from network path target best (pruned bound leaf) found = (prunes network path target bound leaf found).0
HasProof-from network path target best (tied bound leaf chains) found = tie_proof network path target bound leaf chains best found
HasProof-from network path target best (refuted leaf) found = refutes network path target leaf found

pub SplitsUndecided-from : (network : Network) (path : List Decision) (target : ℕ) (best : Option Solution) (outcome : Outcome) → IsLook network path target best outcome → SplitsUndecided network path outcome
SplitsUndecided-from network path target best (split triple) (offsets, least, fit, below, first, unloaded, untied) =
    (first.conflict, undecided network path offsets triple least.held first.overlaps)
SplitsUndecided-from network path target best (solved offsets bound leaf chains) found = tt
SplitsUndecided-from network path target best (pruned bound leaf) found = tt
SplitsUndecided-from network path target best (tied bound leaf chains) found = tt
SplitsUndecided-from network path target best (refuted leaf) found = tt

pub PrunesFrom-from : (network : Network) (path : List Decision) (target : ℕ) (best : Option Solution) (outcome : Outcome) → IsLook network path target best outcome → PrunesFrom target outcome
PrunesFrom-from network path target best (split triple) found = tt
PrunesFrom-from network path target best (solved offsets bound leaf chains) found = tt
PrunesFrom-from network path target best (pruned bound leaf) found = (prunes network path target bound leaf found).1
PrunesFrom-from network path target best (tied bound leaf chains) found = tt
PrunesFrom-from network path target best (refuted leaf) found = tt

pub SolvesBelow-from : (network : Network) (path : List Decision) (target : ℕ) (best : Option Solution) (outcome : Outcome) → IsLook network path target best outcome → SolvesBelow target outcome
SolvesBelow-from network path target best (split triple) found = tt
SolvesBelow-from network path target best (solved offsets bound leaf chains) (least, valid, is, below, shown, unloaded, shows, untied) = below
SolvesBelow-from network path target best (pruned bound leaf) found = tt
SolvesBelow-from network path target best (tied bound leaf chains) found = tt
SolvesBelow-from network path target best (refuted leaf) found = tt

pub TiesWith-from : (network : Network) (path : List Decision) (target : ℕ) (best : Option Solution) → IfSome best (IsSolved network) → (outcome : Outcome) → IsLook network path target best outcome
    → TiesWith network path best outcome
TiesWith-from network path target best is (split triple) found = tt
TiesWith-from network path target best is (solved offsets bound leaf chains) found = tt
TiesWith-from network path target best is (pruned bound leaf) found = tt
TiesWith-from network path target best is (tied bound leaf chains) found = ties_with network path target bound leaf chains best is found
TiesWith-from network path target best is (refuted leaf) found = tt

-- a conflict on which a node is split is among those of the network
pub SplitsAmong-from : (network : Network) (path : List Decision) (triples : List Triple) → IsWellFormed network → triples ≡ conflicts_of network → (outcome : Outcome) → SplitsUndecided network path outcome
    → SplitsAmong triples outcome
SplitsAmong-from network path triples formed is (split triple) right = subst (λ ts. Contains ts triple) (sym is) (conflict_listed network formed triple right.0)
SplitsAmong-from network path triples formed is (solved offsets bound leaf chains) right = tt
SplitsAmong-from network path triples formed is (pruned bound leaf) right = tt
SplitsAmong-from network path triples formed is (tied bound leaf chains) right = tt
SplitsAmong-from network path triples formed is (refuted leaf) right = tt
