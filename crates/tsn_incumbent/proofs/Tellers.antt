-- What a teller keeps to when it settles.
use Rattle.std.proofs.Common.{◌≡◌, ℕ, ◌≤◌, min, sym, subst, arith, false, refl, List, [], ◌∷◌, take, All, Result, Ok, Err}
use Rattle.std.specs.Prelude.{OnOk, OnErr, IfErr}
use Rattle.std.proofs.lemmas.List.Elements.{All-nil, All-cons, All-head, All-tail, All-take}
use Rattle.tsn_model.specs.Network.{Network}
use Rattle.tsn_model.specs.Certificate.{beyond}
use Rattle.tsn_model.specs.Search.{Outcome, split, solved, pruned, tied, refuted}
use Rattle.tsn_model.specs.Core.{IsAboveSeen}
use Rattle.tsn_model.specs.Gathering.{tally_with}
use Rattle.tsn_incumbent.specs.Standings.{Seated, posted}
use Rattle.tsn_model.specs.declared.Tally.{Tally}
use Rattle.tsn_incumbent.specs.Halves.{Half, half}
use Rattle.tsn_incumbent.specs.Names.{Names}
use Rattle.tsn_incumbent.specs.Teller.{head_of, Keeps, tally_with_all}
use Rattle.tsn_conflict.specs.Outcome.{IsSolvedBy}

-- what is worse than what was seen stays so where less is seen
pub beyond_seen : (network : Network) (seen word bound : ℕ) → beyond network seen ≤ bound → beyond network (min seen word) ≤ bound
unfolding beyond
beyond_seen network seen word bound low = omega (arith, low)

-- one more event prunes by nothing but what is worse than what was seen, and lowers no more than what is solved
low_after : (network : Network) (seen : ℕ) (tally : Tally) (outcome : Outcome) → beyond network seen ≤ tally.pruned → IsAboveSeen network seen outcome
    → beyond network seen ≤ (tally_with tally outcome).pruned
unfolding tally_with
low_after network seen tally (split triple) low above = low
low_after network seen tally (solved offsets bound leaf chains) low above = low
low_after network seen tally (pruned bound leaf) low above = omega (arith, low, above)
low_after network seen tally (tied bound leaf chains) low above = low
low_after network seen tally (refuted leaf) low above = low

solved_after : (posted : ℕ) (tally : Tally) (outcome : Outcome) → tally.solved ≤ posted → (tally_with tally outcome).solved ≤ posted
unfolding tally_with
solved_after posted tally (split triple) high = high
solved_after posted tally (solved offsets bound leaf chains) high = omega (arith, high)
solved_after posted tally (pruned bound leaf) high = high
solved_after posted tally (tied bound leaf chains) high = high
solved_after posted tally (refuted leaf) high = high

-- nor do several events
low_after_all : (network : Network) (seen : ℕ) (tally : Tally) (outcomes : List Outcome) → beyond network seen ≤ tally.pruned
    → All (IsAboveSeen network seen) outcomes → beyond network seen ≤ (tally_with_all tally outcomes).pruned
low_after_all network seen tally [] low above = low
low_after_all network seen tally (outcome ∷ outcomes) low above =
    low_after_all network seen (tally_with tally outcome) outcomes (low_after network seen tally outcome low (All-head (IsAboveSeen network seen) outcome outcomes above)) (All-tail (IsAboveSeen network seen) outcome outcomes above)

solved_after_all : (posted : ℕ) (tally : Tally) (outcomes : List Outcome) → tally.solved ≤ posted → (tally_with_all tally outcomes).solved ≤ posted
solved_after_all posted tally [] high = high
solved_after_all posted tally (outcome ∷ outcomes) high = solved_after_all posted (tally_with tally outcome) outcomes (solved_after posted tally outcome high)

module _ (names : Names) (number : ℕ) (seat : Seated) (share new : Half) (keeps : Keeps names number seat share) where
  keeps_settled_all : (outcomes : List Outcome) → All (IsAboveSeen names.race.network (head_of seat.standings).seen) outcomes → new ≡ half names.halves number false (tally_with_all share.tally outcomes) → Keeps names number seat new
  keeps_settled_all outcomes above is =
      subst (Keeps names number seat) (sym is)
      (record {
        sits = keeps.sits;
        shares = refl;
        numbered = keeps.numbered;
        within = keeps.within;
        pruned = low_after_all names.race.network (head_of seat.standings).seen share.tally outcomes keeps.pruned above;
        solved = solved_after_all (head_of seat.standings).posted share.tally outcomes keeps.solved;
      })

  -- all events were settled, or as many as a refusal counts
  pub keeps_taken : {U E : Type 0} (answer : Result U E) (count : E → ℕ) (A C : E → Type 0) (outcomes : List Outcome) → All (IsAboveSeen names.race.network (head_of seat.standings).seen) outcomes
      → OnOk answer (new ≡ half names.halves number false (tally_with_all share.tally outcomes))
      → IfErr answer (λ e. A e × (new ≡ half names.halves number false (tally_with_all share.tally (take (count e) outcomes))) × C e)
      → Keeps names number seat new
  keeps_taken (Ok u) count A C outcomes above all some = keeps_settled_all outcomes above all
  keeps_taken (Err e) count A C outcomes above all some = keeps_settled_all (take (count e) outcomes) (All-take (IsAboveSeen names.race.network (head_of seat.standings).seen) (count e) outcomes above) some.1

-- one event was settled
keeps_settled : (names : Names) (number : ℕ) (seat : Seated) (share : Half) (outcome : Outcome) (new : Half) → Keeps names number seat share
    → IsAboveSeen names.race.network (head_of seat.standings).seen outcome → new ≡ half names.halves number false (tally_with share.tally outcome) → Keeps names number seat new
keeps_settled names number seat share outcome new keeps above is =
    keeps_settled_all names number seat share new keeps (outcome ∷ []) (All-cons (IsAboveSeen names.race.network (head_of seat.standings).seen) outcome [] above (All-nil _)) is

-- the event was settled, or the share is as it was
pub keeps_answer : {X E : Type 0} (P : Type 0) (names : Names) (number : ℕ) (seat : Seated) (share : Half) (outcome : Outcome) (new : Half) → Keeps names number seat share → IsAboveSeen names.race.network (head_of seat.standings).seen outcome
    → (answer : Result X E) → OnOk answer (new ≡ half names.halves number false (tally_with share.tally outcome)) → OnErr answer (P × (new ≡ share)) → Keeps names number seat new
keeps_answer P names number seat share outcome new keeps above (Ok x) ok err = keeps_settled names number seat share outcome new keeps above ok
keeps_answer P names number seat share outcome new keeps above (Err e) ok err = subst (Keeps names number seat) (sym err.1) keeps

-- a solved leaf prunes by nothing, and is the least that its teller solved where it is no more than that was
pub above_solved : (network : Network) (seen flowspan : ℕ) (outcome : Outcome) → IsSolvedBy flowspan outcome → IsAboveSeen network seen outcome
above_solved network seen flowspan (split triple) by = absurd by
above_solved network seen flowspan (solved offsets bound leaf chains) by = tt
above_solved network seen flowspan (pruned bound leaf) by = absurd by
above_solved network seen flowspan (tied bound leaf chains) by = absurd by
above_solved network seen flowspan (refuted leaf) by = absurd by

pub least_after : (flowspan : ℕ) (tally : Tally) (outcome : Outcome) → IsSolvedBy flowspan outcome → flowspan ≤ tally.solved
    → flowspan ≡ (tally_with tally outcome).solved
unfolding tally_with
least_after flowspan tally (split triple) by low = absurd by
least_after flowspan tally (solved offsets bound leaf chains) by low = omega (arith, by, low)
least_after flowspan tally (pruned bound leaf) by low = absurd by
least_after flowspan tally (tied bound leaf chains) by low = absurd by
least_after flowspan tally (refuted leaf) by low = absurd by
