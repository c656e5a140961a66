-- A walk of which the first looks are settled, and the others wait.
use Rattle.std.proofs.Common.{pos, ◌≡◌, ℕ, ◌+◌, ◌≤◌, ◌<◌, List, [], ◌∷◌, ◌++◌, All, map, length, take, drop, sym, ap, ◌∙◌, subst, arith, append_assoc}
use Rattle.tsn_model.specs.declared.Decision.{Decision}
use Rattle.tsn_model.specs.Network.{Network}
use Rattle.tsn_model.specs.Search.{Event}
use Rattle.tsn_model.specs.Walk.{IsPlaceOf}
use Rattle.tsn_conflict.specs.declared.outcome.Look.{Look}
use Rattle.tsn_conflict.specs.declared.outcome.Look.TheVariants.{Split}
use Rattle.tsn_conflict.specs.Outcome.{outcome_of}
use Rattle.tsn_conflict.specs.Right.{HasProof, SplitsUndecided}
use Rattle.tsn_book.specs.declared.fault.BookFault.{BookFault}
use Rattle.tsn_book.specs.declared.ledger.Ledger.{Ledger}
use Rattle.tsn_book.specs.Arena.{settled_in}
use Rattle.tsn_book.specs.Below.{next_path, path_after, events_below, IsFaultAt}
use Rattle.tsn_book.specs.Book.{Progress, IsFault}
use Rattle.tsn_book.specs.Ledger.{IsLedger, progress_of, next_outcome, with_one, with_all}
use Rattle.tsn_book.specs.Log.{next_of}
use Rattle.tsn_book.proofs.Asking.{length-history_of}
use Rattle.tsn_book.proofs.Below.{settled_count, settled_below, walked, here_below, refused_looks, first_waits}

-- the looks that are taken are settled, and the walk stands at the place where it goes on
pub record IsPartway (start now : Ledger) (teller : ℕ) (from walk : List Decision) (place : ℕ) : Type 0 where
  pub agrees : IsLedger now
  pub taken : List Look
  pub all : start.tree.events.waiting ≡ taken ++ now.tree.events.waiting
  pub settled : progress_of now ≡ with_all start teller (events_below from (map outcome_of taken))
  pub stands : walk ≡ path_after from (map outcome_of taken)
  pub at : IsPlaceOf (settled_in now.tree) walk place

module _ {start now : Ledger} {teller : ℕ} {from walk : List Decision} {place : ℕ} (partway : IsPartway start now teller from walk place) where
  -- a refusal takes away nothing
  pub no_fewer : (after : Ledger) → progress_of after ≡ progress_of now → length start.tree.events.items ≤ length after.tree.events.items
  no_fewer after same =
      let many = settled_count (progress_of start) (progress_of after) teller (events_below from (map outcome_of partway.taken)) (same ∙ partway.settled) in
      omega (
        arith,
        many,
        length-history_of start.tree.places.origins start.tree.events.items,
        length-history_of after.tree.places.origins after.tree.events.items,
      )

module _ {start now : Ledger} {teller : ℕ} {from walk : List Decision} {place : ℕ} (partway : IsPartway start now teller from walk place)
    (some : 1 ≤ length now.tree.events.waiting) where
  -- the looks around the one that waits first
  next_waits : start.tree.events.waiting ≡ partway.taken ++ next_of now.tree.events ∷ drop 1 now.tree.events.waiting
  next_waits =
      partway.all
      ∙ ap (λ more. partway.taken ++ more) (first_waits now.tree.events.waiting (Split (record { left = 0; right = 0; link = 0; lag = pos 0 })) some)

  -- it is proved, where all are
  pub next_proof : All (λ event. HasProof start.tree.network event.path event.outcome × SplitsUndecided start.tree.network event.path event.outcome)
      (events_below from (map outcome_of start.tree.events.waiting))
      → HasProof now.tree.network walk (next_outcome now) × SplitsUndecided now.tree.network walk (next_outcome now)
  next_proof proofs =
      subst (λ (network : Network). HasProof network walk (next_outcome now) × SplitsUndecided network walk (next_outcome now))
      (sym (ap (λ (p : Progress). p.network) partway.settled))
      (here_below (λ (event : Event). HasProof start.tree.network event.path event.outcome × SplitsUndecided start.tree.network event.path event.outcome)
      from walk start.tree.events.waiting partway.taken (next_of now.tree.events) (drop 1 now.tree.events.waiting) next_waits partway.stands proofs)

  -- why it is refused, after so many
  pub next_refused : (after : Ledger) (stood : List Decision) (count : ℕ) (fault : BookFault) → progress_of after ≡ progress_of now → stood ≡ walk
      → length after.tree.events.items ≡ count + length start.tree.events.items
      → IsFault now.tree.network now.bounds.limit (settled_in now.tree) (record { path = walk; outcome = next_outcome now }) fault
      → let waiting = map outcome_of start.tree.events.waiting in
      ((count < length start.tree.events.waiting) × (progress_of after ≡ with_all start teller (take count (events_below from waiting)))
      × (stood ≡ path_after from (take count waiting)))
      × IsFaultAt start.tree.network start.bounds.limit (settled_in after.tree) (events_below from waiting) count fault
  next_refused after stood count fault same stays counted is =
      let stays_fault : IsFault after.tree.network after.bounds.limit (settled_in after.tree) (record { path = stood; outcome = next_outcome now }) fault =
      subst (λ (path : List Decision). IsFault after.tree.network after.bounds.limit (settled_in after.tree)
      (record { path = path; outcome = next_outcome now }) fault)
      (sym stays)
      (subst (λ (p : Progress). IsFault p.network p.limit p.history (record { path = walk; outcome = next_outcome now }) fault) (sym same) is) in
      let before = length-history_of start.tree.places.origins start.tree.events.items in
      let many = length-history_of after.tree.places.origins after.tree.events.items in
      refused_looks (progress_of start) (progress_of after) teller from stood start.tree.events.waiting partway.taken (drop 1 now.tree.events.waiting)
      (next_of now.tree.events) count fault next_waits (same ∙ partway.settled) (stays ∙ partway.stands) (omega (arith, counted, before, many)) stays_fault

  -- it is settled, and the walk goes on
  pub next_settled : (after : Ledger) (next : List Decision) (next_place : ℕ) → IsLedger after → progress_of after ≡ with_one now teller walk (next_outcome now)
      → after.tree.events.waiting ≡ drop 1 now.tree.events.waiting → next ≡ next_path walk (next_outcome now)
      → IsPlaceOf (settled_in after.tree) next next_place
      → IsPartway start after teller from next next_place
  next_settled after next next_place agrees one waiting goes_on at =
      let look = next_of now.tree.events in
      record {
        agrees = agrees;
        taken = partway.taken ++ look ∷ [];
        all = next_waits ∙ sym (append_assoc partway.taken (look ∷ []) (drop 1 now.tree.events.waiting))
            ∙ ap (λ more. (partway.taken ++ look ∷ []) ++ more) (sym waiting);
        settled = settled_below (progress_of start) (progress_of now) (progress_of after)
            teller from walk partway.taken look partway.settled partway.stands one;
        stands = walked from walk next partway.taken look partway.stands goes_on;
        at = at;
      }
