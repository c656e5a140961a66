-- What a teller has solved, by the events of a book.
use Rattle.std.proofs.Common.{◌≡◌, ℕ, List, [], ◌∷◌, map, Any, Contains, sym, ap, ◌∙◌, subst}
use Rattle.std.specs.Prelude.{◌==◌}
use Rattle.std.proofs.lemmas.Bool.{eq-eqb, eqb-true}
use Rattle.tsn_model.specs.Search.{Outcome, split, solved, pruned, tied, refuted, Settlement, solved_bound, solved_bounds, settled_by}
use Rattle.tsn_model.proofs.Lists.{Contains-head, Contains-nil, Contains-flat_map, from_flat_map, Contains-filter, from_filter, Contains-map, from_map}
use Rattle.tsn_model.proofs.SearchLists.{Contains-one, Contains-from_Any, Any-from_Contains}
use Rattle.tsn_book.specs.declared.statuses.Origin.{Origin}
use Rattle.tsn_book.specs.declared.log.Settled.{Settled}
use Rattle.tsn_book.specs.Arena.{paths_of, settlement_of, history_of}
use Rattle.tsn_book.specs.Solving.{Solves, IsSolvedBy}

solves_bound : (outcome : Outcome) (flowspan : ℕ) → Solves flowspan outcome → Contains (solved_bound outcome) flowspan
unfolding solved_bound
solves_bound (split triple) flowspan is = absurd is
solves_bound (solved offsets bound leaf chains) flowspan is = subst (Contains (bound ∷ [])) is (Contains-head bound [])
solves_bound (pruned bound leaf) flowspan is = absurd is
solves_bound (tied bound leaf chains) flowspan is = absurd is
solves_bound (refuted leaf) flowspan is = absurd is

bound_solves : (outcome : Outcome) (flowspan : ℕ) → Contains (solved_bound outcome) flowspan → Solves flowspan outcome
unfolding solved_bound
bound_solves (split triple) flowspan found' = absurd (Contains-nil flowspan found')
bound_solves (solved offsets bound leaf chains) flowspan found' = Contains-one bound flowspan found'
bound_solves (pruned bound leaf) flowspan found' = absurd (Contains-nil flowspan found')
bound_solves (tied bound leaf chains) flowspan found' = absurd (Contains-nil flowspan found')
bound_solves (refuted leaf) flowspan found' = absurd (Contains-nil flowspan found')

-- the flowspan is among those that the teller has solved
pub solved_found : (origins : List Origin) (events : List Settled) (k flowspan : ℕ) → Any (IsSolvedBy k flowspan) events
    → Contains (solved_bounds (settled_by k (history_of origins events))) flowspan
unfolding history_of settlement_of settled_by solved_bounds
solved_found origins events k flowspan some =
    let paths = paths_of origins in
    let at = Contains-from_Any (IsSolvedBy k flowspan) events some in
    let s : Settlement = settlement_of paths some.1 in
    let mine = Contains-filter (λ (t : Settlement). t.teller == k) (map (settlement_of paths) events) s (Contains-map (settlement_of paths) events some.1 at)
    (eq-eqb s.teller k some.4.0) in
    Contains-flat_map (λ (t : Settlement). solved_bound t.event.outcome) (settled_by k (history_of origins events)) s flowspan mine
    (solves_bound s.event.outcome flowspan some.4.1)

pub found_solved : (origins : List Origin) (events : List Settled) (k flowspan : ℕ)
    → Contains (solved_bounds (settled_by k (history_of origins events))) flowspan → Any (IsSolvedBy k flowspan) events
unfolding history_of settlement_of settled_by solved_bounds
found_solved origins events k flowspan at =
    let paths = paths_of origins in
    let of = from_flat_map (λ (t : Settlement). solved_bound t.event.outcome) (settled_by k (history_of origins events)) flowspan at in
    let mine = from_filter (λ (t : Settlement). t.teller == k) (map (settlement_of paths) events) of.0 of.1 in
    let from = from_map (settlement_of paths) events of.0 mine.0 in
    let solves : Solves flowspan (settlement_of paths from.0).event.outcome =
    subst (λ (t : Settlement). Solves flowspan t.event.outcome) (sym from.2) (bound_solves of.0.event.outcome flowspan of.2) in
    let same : (settlement_of paths from.0).teller ≡ k = ap (λ (t : Settlement). t.teller) from.2 ∙ eqb-true of.0.teller k mine.1 in
    Any-from_Contains (IsSolvedBy k flowspan) events from.0 from.1 (same, solves)
