-- Nodes that are looked at together.
--     walked_over, walked_down, begun_at     where a walk stands
--     prunes_above                           what a look gives
--     IsCollecting, collected_more, collected     the looks of a batch, one after another
use Rattle.std.proofs.Common.{◌≡◌, ℕ, ◌<◌, ◌≤◌, List, [], ◌∷◌, ◌++◌, map, length, refl, sym, ap, ◌∙◌, subst, arith, length-append}
use Rattle.std.specs.Prelude.{All, Option, Some, None, MatchOption, MatchBool, Bool, true, false, slice_index_or, Result, Ok, Err, IfOk, IfSome}
use Rattle.std.proofs.lemmas.List.{map-append}
use Rattle.std.proofs.lemmas.List.Elements.{All-nil, All-push}
use Rattle.tsn_model.specs.declared.Triple.{Triple}
use Rattle.tsn_model.specs.declared.Decision.{Decision}
use Rattle.tsn_model.specs.Network.{Network}
use Rattle.tsn_model.specs.Places.{pending}
use Rattle.tsn_model.specs.declared.Side.TheVariants.{Left}
use Rattle.tsn_model.specs.Certificate.{beyond, decided}
use Rattle.tsn_model.specs.Search.{Outcome, split, solved, pruned, tied, refuted, Event}
use Rattle.tsn_model.specs.Core.{IsAboveSeen}
use Rattle.tsn_timing.specs.Solution.{Solution}
use Rattle.tsn_conflict.specs.Outcome.{outcome_of}
use Rattle.tsn_branch.specs.Look.{PrunesFrom}
use Rattle.tsn_conflict.specs.Path.{Fits}
use Rattle.tsn_branch.specs.Descent.{Position, Stands, IsAfter, Closes}
use Rattle.tsn_conflict.specs.declared.outcome.Look.{Look}
use Rattle.tsn_book.specs.Below.{next_path, after_leaf, path_after, events_below}
use Rattle.tsn_book.proofs.Below.{events_below-more, path_after-more}
use Rattle.tsn_conflict.specs.Outcome.{IsUnsolved}
use Rattle.tsn_walk.specs.Below.{StandsAt, IsProved, HoldsSchedule, EndsSolved, IsBatch}
use Rattle.tsn_walk.specs.declared.below.Batch.{Batch}

-- ---- walks

-- after a leaf the walk goes on at the first side that waits
closed_next : (path : List Decision) (outcome : Outcome) → Closes outcome → next_path path outcome ≡ after_leaf path
unfolding next_path
closed_next path (split triple) never = absurd never
closed_next path (solved offsets bound leaf chains) closes = refl
closed_next path (pruned bound leaf) closes = refl
closed_next path (tied bound leaf chains) closes = refl
closed_next path (refuted leaf) closes = refl

next_turned : (path next : List Decision) (others : List (List Decision)) (outcome : Outcome) → Closes outcome → pending path ≡ next ∷ others → next_path path outcome ≡ next
unfolding after_leaf
next_turned path next others outcome closes turned = closed_next path outcome closes ∙ ap (λ (paths : List (List Decision)). slice_index_or paths 0 []) turned

-- after a leaf the way stands as before
closed_stands : (network : Network) (outcome : Outcome) (position : Position) → Closes outcome → IsAfter network outcome position → Stands network position
closed_stands network (split triple) position never after = absurd never
closed_stands network (solved offsets bound leaf chains) position closes after = after
closed_stands network (pruned bound leaf) position closes after = after
closed_stands network (tied bound leaf chains) position closes after = after
closed_stands network (refuted leaf) position closes after = after

-- what goes on at a right side
pub walked_over : (network : Network) (triples : List Triple) (path : List Decision) (outcome : Outcome) (before after : Position) (more : Bool)
    → Closes outcome → before.path ≡ path → IsAfter network outcome before → Fits triples path
    → ((n : Network) → Stands n before → Stands n after) → ((ts : List Triple) → Fits ts before.path → Fits ts after.path)
    → MatchBool more (pending before.path ≡ after.path ∷ pending after.path) (Unit {0}) → MatchBool more (StandsAt network triples (next_path path outcome) after) (Unit {0})
walked_over network triples path outcome before after true closes same is fits stands fit turned = record {
  at = sym (next_turned path after.path (pending after.path) outcome closes (ap pending (sym same) ∙ turned));
  stands = stands network (closed_stands network outcome before closes is);
  fits = fit triples (rw same fits);
}
walked_over network triples path outcome before after false closes same is fits stands fit turned = tt

-- what goes on at a left child
pub walked_down : (network : Network) (triples : List Triple) (path : List Decision) (outcome : Outcome) (triple : Triple) (after : Position) → outcome ≡ split triple
    → after.path ≡ decided path triple Left → Stands network after → Fits triples after.path → StandsAt network triples (next_path path outcome) after
unfolding next_path
walked_down network triples path outcome triple after is at stands fits = record { at = at ∙ sym (ap (next_path path) is); stands = stands; fits = fits }

-- a way that was begun at a node
pub begun_at : {E : Type 0} (network : Network) (triples : List Triple) (copy node : List Decision) (result : Result (Option Position) E) → copy ≡ node → Fits triples copy
    → IfOk result (λ found. MatchOption found (Unit {0}) (λ position. position.path ≡ copy)) → IfOk result (λ found. MatchOption found (Unit {0}) (Stands network))
    → IfOk result (λ found. IfSome found (StandsAt network triples node))
begun_at network triples copy node (Ok None) same fits at stands = tt
begun_at network triples copy node (Ok (Some position)) same fits at stands = record { at = at ∙ same; stands = stands; fits = rw at fits }
begun_at network triples copy node (Err fault) same fits at stands = tt

-- ---- looks

-- what is pruned at the target beyond what was seen is worse than that
pub prunes_above : (network : Network) (seen target : ℕ) (outcome : Outcome) → target ≡ beyond network seen → PrunesFrom target outcome → IsAboveSeen network seen outcome
prunes_above network seen target (split triple) is prunes = tt
prunes_above network seen target (solved offsets bound leaf chains) is prunes = tt
prunes_above network seen target (pruned bound leaf) is prunes = rw is at prunes
prunes_above network seen target (tied bound leaf chains) is prunes = tt
prunes_above network seen target (refuted leaf) is prunes = tt

below_seen : (network : Network) (seen target flowspan : ℕ) → target ≡ beyond network seen → flowspan < target → flowspan ≤ seen
unfolding beyond
below_seen network seen target flowspan is below = omega (arith, is, below)

-- ---- the looks of a batch

-- a walk from that path came to this way by looks of which none is solved
pub record IsCollecting (network : Network) (triples : List Triple) (seen : ℕ) (from : List Decision) (looks : List Look) (position : Position) : Type 0 where
  pub here : StandsAt network triples (path_after from (map outcome_of looks)) position
  pub proofs : All (λ (event : Event). IsProved network event.path event.outcome) (events_below from (map outcome_of looks))
  pub above : All (IsAboveSeen network seen) (map outcome_of looks)
  pub unsolved : All IsUnsolved (map outcome_of looks)

pub collected_none : (network : Network) (triples : List Triple) (seen : ℕ) (from : List Decision) (position : Position) → StandsAt network triples from position → IsCollecting network triples seen from [] position
unfolding path_after events_below
collected_none network triples seen from position stands = record {
  here = stands;
  proofs = All-nil (λ (event : Event). IsProved network event.path event.outcome);
  above = All-nil (IsAboveSeen network seen);
  unsolved = All-nil IsUnsolved;
}

module _ (network : Network) (triples : List Triple) (seen target : ℕ) (from : List Decision) (looks : List Look) (position after : Position) (look : Look) (before : IsCollecting network triples seen from looks position)
    (is : target ≡ beyond network seen) (proof : IsProved network position.path (outcome_of look)) (prunes : PrunesFrom target (outcome_of look)) where
  outcomes_more : map outcome_of (looks ++ look ∷ []) ≡ map outcome_of looks ++ outcome_of look ∷ []
  outcomes_more = map-append outcome_of looks (look ∷ [])

  pub collected_proofs : All (λ (event : Event). IsProved network event.path event.outcome) (events_below from (map outcome_of (looks ++ look ∷ [])))
  collected_proofs =
      let P : Event → Type 0 = λ event. IsProved network event.path event.outcome in
      let outcomes = map outcome_of looks in
      let here : Event = record { path = path_after from outcomes; outcome = outcome_of look } in
      let all = All-push P (events_below from outcomes) here before.proofs (rw before.here.at at proof) in
      subst (λ os. All P (events_below from os)) (sym outcomes_more) (subst (All P) (sym (events_below-more from outcomes (outcome_of look))) all)

  pub collected_above : All (IsAboveSeen network seen) (map outcome_of (looks ++ look ∷ []))
  collected_above = subst (All (IsAboveSeen network seen)) (sym outcomes_more) (All-push (IsAboveSeen network seen) (map outcome_of looks) (outcome_of look) before.above (prunes_above network seen target (outcome_of look) is prunes))

  pub collected_next : StandsAt network triples (next_path position.path (outcome_of look)) after → StandsAt network triples (path_after from (map outcome_of (looks ++ look ∷ []))) after
  collected_next stands =
      let goes : path_after from (map outcome_of (looks ++ look ∷ [])) ≡ next_path position.path (outcome_of look) =
      ap (path_after from) outcomes_more ∙ path_after-more from (map outcome_of looks) (outcome_of look) ∙ ap (λ p. next_path p (outcome_of look)) (sym before.here.at) in
      record { at = stands.at ∙ sym goes; stands = stands.stands; fits = stands.fits }

  pub collected_on : (more : Bool) → MatchBool more (StandsAt network triples (next_path position.path (outcome_of look)) after) (Unit {0})
      → MatchBool more (StandsAt network triples (path_after from (map outcome_of (looks ++ look ∷ []))) after) (Unit {0})
  collected_on true stands = collected_next stands
  collected_on false stands = tt

  pub collected_unsolved : IsUnsolved (outcome_of look) → All IsUnsolved (map outcome_of (looks ++ look ∷ []))
  collected_unsolved unsolved = subst (All IsUnsolved) (sym outcomes_more) (All-push IsUnsolved (map outcome_of looks) (outcome_of look) before.unsolved unsolved)

  pub collected_more : IsUnsolved (outcome_of look) → StandsAt network triples (next_path position.path (outcome_of look)) after → IsCollecting network triples seen from (looks ++ look ∷ []) after
  collected_more unsolved stands = record {
    here = collected_next stands;
    proofs = collected_proofs;
    above = collected_above;
    unsolved = collected_unsolved unsolved;
  }

  -- the looks go on behind one that isn't solved
  pub collected_longer : (schedule : Option Solution) (on : Bool) (longer : List Look) → schedule ≡ None → on ≡ true → HoldsSchedule network target (outcome_of look) schedule
      → MatchBool on (StandsAt network triples (next_path position.path (outcome_of look)) after) (Unit {0}) → longer ≡ looks ++ look ∷ [] → IsCollecting network triples seen from longer after
  collected_longer None true longer none goes unsolved stands items = subst (λ (ls : List Look). IsCollecting network triples seen from ls after) (sym items) (collected_more unsolved stands)
  collected_longer None false longer none goes unsolved stands items = absurd (cc)
  collected_longer (Some solution) on longer none goes unsolved stands items = absurd (cc)

  pub collected_ends : (schedule : Option Solution) → HoldsSchedule network target (outcome_of look) schedule
      → MatchOption schedule (All IsUnsolved (map outcome_of (looks ++ look ∷ []))) (EndsSolved network seen (map outcome_of (looks ++ look ∷ [])))
  collected_ends None unsolved = collected_unsolved unsolved
  collected_ends (Some solution) schedule = record {
    front = map outcome_of looks;
    last = outcome_of look;
    is = outcomes_more;
    unsolved = before.unsolved;
    schedule = schedule.0;
    by = schedule.1;
    least = below_seen network seen target solution.flowspan is schedule.2;
  }

  -- the batch that ends with this look
  pub collected : (batch : Batch) → batch.looks ≡ looks ++ look ∷ [] → length looks < 64 → HoldsSchedule network target (outcome_of look) batch.solved → IsBatch network seen from batch
  collected batch items low schedule =
      let more = length-append looks (look ∷ []) in
      let long = ap length items in
      record {
        proofs = subst (λ (ls : List Look). All (λ (event : Event). IsProved network event.path event.outcome) (events_below from (map outcome_of ls))) (sym items) collected_proofs;
        above = subst (λ (ls : List Look). All (IsAboveSeen network seen) (map outcome_of ls)) (sym items) collected_above;
        some = omega (arith, more, long);
        few = omega (arith, more, long, low);
        ends = subst (λ (ls : List Look). MatchOption batch.solved (All IsUnsolved (map outcome_of ls)) (EndsSolved network seen (map outcome_of ls))) (sym items) (collected_ends batch.solved schedule);
      }
