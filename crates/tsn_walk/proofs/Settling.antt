-- An open node of a search for a network fits its conflicts; and what is met.
use Rattle.std.proofs.Common.{◌≡◌, ℕ, ◌+◌, ◌<◌, ◌≤◌, ◌⊎◌, inl, inr, List, Contains, Option, Some, None, MatchOption, IsSomeAnd, slice_index_or, Bor, sym, subst}
use Rattle.std.specs.Prelude.{option_copied}
use Rattle.std.proofs.Math.Nat.{eq-or-lt_of_le}
use Rattle.tsn_model.specs.declared.Decision.{Decision}
use Rattle.tsn_model.specs.Network.{Network}
use Rattle.tsn_model.specs.Certificate.{beyond, ShowsAfter}
use Rattle.tsn_model.specs.Search.{Outcome, split, solved, pruned, tied, refuted, Settlement, open_paths, best_bound, kept_of, IsLegal}
use Rattle.tsn_model.proofs.Conflicts.{conflict_listed}
use Rattle.tsn_conflict.specs.Kept.{Kept, AreConflictsOf}
use Rattle.tsn_model.proofs.Histories.{open_is_made}
use Rattle.tsn_model.proofs.Counting.{made_decides}
use Rattle.tsn_conflict.specs.Path.{Fits}
use Rattle.tsn_timing.specs.Solution.{Solution, IsSolved}
use Rattle.tsn_branch.specs.Look.{PrunesFrom, TiesWith}
use Rattle.tsn_book.specs.Book.{IsMet}

-- an open node's path decides conflicts alone
pub open_fits : (network : Network) (kept : Kept) → AreConflictsOf network kept → (history : List Settlement) → IsLegal network history → (path : List Decision) → Contains (open_paths history) path
    → Fits kept.triples path
open_fits network kept of_network history legal path is_open = λ k d below.
    let decides = made_decides network history legal path (open_is_made history path is_open) in
    subst (λ triples. Contains triples (slice_index_or path k d).triple) (sym of_network.triples) (conflict_listed network of_network.formed (slice_index_or path k d).triple (decides.conflicts k d below))

-- ---- what is met

-- what a look finds at the target beyond what is kept, with that for the best schedule, isn't refused for what is kept
pub look_met : (network : Network) (history : List Settlement) (path : List Decision) (target : ℕ) (best : Option Solution) (outcome : Outcome)
    → target ≡ beyond network (best_bound network history)
    → MatchOption best (kept_of network history ≡ None) (λ solution. kept_of network history ≡ Some solution.offsets)
    → MatchOption best (best_bound network history ≡ network.cycle + 1) (λ solution. IsSolved network solution × (solution.flowspan ≡ best_bound network history))
    → PrunesFrom target outcome → TiesWith network path best outcome → IsMet network history path outcome
look_met network history path target best (split triple) is kept flowspan prunes ties = tt
look_met network history path target best (solved offsets bound leaf chains) is kept flowspan prunes ties = tt
look_met network history path target best (pruned bound leaf) is kept flowspan prunes ties = rw is at prunes
look_met network history path target None (tied bound leaf chains) is kept flowspan prunes ties = absurd ties
look_met network history path target (Some solution) (tied bound leaf chains) is kept flowspan prunes ties =
    let P : Option (List ℕ) → Type 0 = λ o. IsSomeAnd o (λ offsets. (best_bound network history < bound) ⊎ ((bound ≡ best_bound network history) × ShowsAfter network path chains offsets)) in
    let least : best_bound network history ≤ bound = rw flowspan.1 at ties.0 in
    subst P (sym kept) (elim (eq-or-lt_of_le least) [ inl same ↦ inr (sym same, ties.1) | inr less ↦ inl less ])
look_met network history path target best (refuted leaf) is kept flowspan prunes ties = tt

-- the same where the best schedule is lent
pub lent_met : (network : Network) (history : List Settlement) (path : List Decision) (target : ℕ) (lent : Option (Bor Solution)) (outcome : Outcome)
    → target ≡ beyond network (best_bound network history)
    → MatchOption lent (kept_of network history ≡ None) (λ solution. kept_of network history ≡ Some solution.now.offsets)
    → MatchOption lent (best_bound network history ≡ network.cycle + 1) (λ solution. IsSolved network solution.now × (solution.now.flowspan ≡ best_bound network history))
    → PrunesFrom target outcome → TiesWith network path (option_copied lent) outcome → IsMet network history path outcome
lent_met network history path target None outcome is kept flowspan prunes ties = look_met network history path target None outcome is kept flowspan prunes ties
lent_met network history path target (Some solution) outcome is kept flowspan prunes ties = look_met network history path target (Some solution.now) outcome is kept flowspan prunes ties
