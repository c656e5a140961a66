-- A tie with the best schedule, by its flowspan or by the load of a link.
use Rattle.std.proofs.Common.{◌≡◌, ℕ, ◌≤◌, ◌<◌, List, All, take, slice_get, Option, None, Some, MatchOption, pos, ◌≤ℤ◌, sym, ◌∙◌, subst, arith}
use Rattle.std.specs.Prelude.{IfSome}
use Rattle.std.proofs.lemmas.Int.{ints}
use Rattle.std.proofs.lemmas.List.Elements.{All-weaker}
use Rattle.std.proofs.lemmas.Option.{slice_get_within, get_or_from_slice_get}
use Rattle.tsn_model.specs.declared.Decision.{Decision}
use Rattle.tsn_model.specs.Network.{Network}
use Rattle.tsn_model.specs.Schedule.{flowspan, IsNotAfter}
use Rattle.tsn_model.specs.Arcs.{arcs_of}
use Rattle.tsn_model.specs.Certificate.{Leaf, late, load, Entry}
use Rattle.tsn_timing.specs.Solution.{Solution}
use Rattle.tsn_diff.specs.Offsets.{LeastOffsets, chain_of}
use Rattle.tsn_diff.specs.Answers.{Solves}
use Rattle.tsn_branch.specs.declared.loads.FirstLoad.{FirstLoad}
use Rattle.tsn_branch.specs.declared.loads.FirstLoad.TheVariants.{Overload, Load}
use Rattle.tsn_branch.specs.Releases.{releases_of}
use Rattle.tsn_branch.specs.Links.{shared_links, busy_by, load_by, IsUnloaded}
use Rattle.tsn_branch.specs.Loads.{IsFirstLoad, IsTightest, Reaches}
use Rattle.tsn_branch.specs.Look.{AllFit, IsFirstLast, IsShownBy, ShowsLink, ShowsUpto, IsPruning, IsTie}
use Rattle.tsn_branch.proofs.Leasts.{AreLeast-from, IsShownBy-from}

-- what a tie keeps besides its bound
pub record Remains (network : Network) (path : List Decision) (offsets : List ℕ) (target : ℕ) (best : Solution) (chains : List (List ℕ)) : Type 0 where
  pub fit : AllFit network offsets
  pub below : flowspan network offsets < target
  pub unloaded : All (IsUnloaded network offsets target) (shared_links network)
  pub not_before : IsNotAfter best.offsets offsets
  pub shown : ShowsUpto network path offsets best.offsets chains

module _ (network : Network) (path : List Decision) (lowest : LeastOffsets) (solves : Solves (releases_of network) (arcs_of network path) lowest) where
  pub tie_from : (target : ℕ) (best : Solution) (chains : List (List ℕ)) → Remains network path lowest.offsets target best chains → (bound : ℕ) (leaf : Leaf)
      → IsPruning network path best.flowspan bound leaf → IsTie network path target best bound leaf chains
  tie_from target best chains remains bound leaf pruning = record {
    pruned_by_best = pruning;
    offsets = lowest.offsets;
    are_least = AreLeast-from network path lowest solves;
    fit = remains.fit;
    below = remains.below;
    unloaded = remains.unloaded;
    not_before = remains.not_before;
    shown = remains.shown;
  }

  pub late_pruning : (limit last end : ℕ) (chain : List ℕ) → AllFit network lowest.offsets → IsFirstLast network lowest.offsets last
      → end ≡ flowspan network lowest.offsets → limit ≤ end → chain ≡ chain_of lowest last → IsPruning network path limit end (late last chain)
  late_pruning limit last end chain fit first is met same = (
    lowest.offsets,
    AreLeast-from network path lowest solves,
    fit,
    is,
    met,
    (first, subst (IsShownBy network path lowest.offsets last) (sym same) (IsShownBy-from network path lowest solves last first.counted)),
  )

  pub load_pruning : (limit place bound link : ℕ) (entries : List Entry) → AllFit network lowest.offsets → flowspan network lowest.offsets < limit
      → IsFirstLoad network lowest.offsets limit (Load place bound) → slice_get (shared_links network) place ≡ Some link
      → ShowsLink network path lowest.offsets link entries → IsPruning network path limit bound (load link entries)
  load_pruning limit place bound link entries fit below is there shows =
      let same_some : Some is.0 ≡ Some link = sym is.1.there ∙ there in
      let same : is.0 ≡ link = cc same_some in (
        lowest.offsets,
        AreLeast-from network path lowest solves,
        fit,
        below,
        record { link_index = place; there = there; unloaded_before = is.1.unloaded_before },
        subst (λ found. busy_by network lowest.offsets found ≤ℤ pos network.cycle) same is.2,
        subst (λ found. pos bound ≡ load_by network lowest.offsets found) same is.3,
        is.4,
        shows,
      )

-- a link that isn't loaded at one target is done within the cycle, so it isn't overloaded at another
pub not_overloaded : (network : Network) (offsets : List ℕ) (target other place : ℕ) → All (IsUnloaded network offsets target) (shared_links network) → IsFirstLoad network offsets other (Overload place) → ⊥
not_overloaded network offsets target other place unloaded is =
    let there = is.1.there in
    let here = subst (IsUnloaded network offsets target) (get_or_from_slice_get (shared_links network) place is.0 0 there) (unloaded place 0 (slice_get_within (shared_links network) place is.0 there)) in
    let within = here.within_cycle in
    let past = is.2 in
    omega (arith, ints, within, past)

-- a link that isn't loaded for a target isn't for a greater one
pub unloaded_for_more : (network : Network) (offsets : List ℕ) (low high : ℕ) → low ≤ high → (links : List ℕ) → All (IsUnloaded network offsets low) links → All (IsUnloaded network offsets high) links
unloaded_for_more network offsets low high order links =
    All-weaker (IsUnloaded network offsets low) (IsUnloaded network offsets high)
    (λ link here. let below = here.below_target in record { within_cycle = here.within_cycle; below_target = omega (arith, ints) }) links

-- the first link that is loaded for a target is the first for a greater one, where it is loaded for that
pub first_for_more : (network : Network) (offsets : List ℕ) (low high : ℕ) (found : FirstLoad) → low ≤ high → Reaches high found → IsFirstLoad network offsets low found → IsFirstLoad network offsets high found
first_for_more network offsets low high (Overload place) order reaches (link, at, busy) =
    (link, record { there = at.there; unloaded_before = unloaded_for_more network offsets low high order (take place (shared_links network)) at.unloaded_before }, busy)
first_for_more network offsets low high (Load place bound) order reaches (link, at, busy, is, met) =
    (link, record { there = at.there; unloaded_before = unloaded_for_more network offsets low high order (take place (shared_links network)) at.unloaded_before }, busy, is, reaches)

-- the first link that is loaded for a target is loaded for that target
pub reached_by : (network : Network) (offsets : List ℕ) (target : ℕ) (found : FirstLoad) → IsFirstLoad network offsets target found → Reaches target found
reached_by network offsets target (Overload place) is = tt
reached_by network offsets target (Load place bound) is = is.4

-- what is the first for the limit is the first for the best schedule, where there is one
pub tightest_for : (network : Network) (offsets : List ℕ) (target limit : ℕ) (best : Option Solution) (found : Option FirstLoad) → MatchOption best (limit ≡ target) (λ solution. limit ≡ solution.flowspan)
    → IsTightest network offsets limit found → IfSome best (λ solution. IsTightest network offsets solution.flowspan found)
tightest_for network offsets target limit None found same is = tt
tightest_for network offsets target limit (Some solution) found same is = subst (λ n. IsTightest network offsets n found) same is
