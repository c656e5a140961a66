-- Every answer to a step is that of a step that was taken, or of one that changed nothing; so every run keeps the state sound.
use Rattle.std.proofs.Common.{◌≡◌, ◌≢◌, ℕ, ◌≤◌, ◌<◌, List, [], ◌∷◌, length, refl, sym, ap, ◌∙◌, subst, arith, inl, inr}
use Rattle.std.proofs.lemmas.List.{length-set, length_push}
use Rattle.std.proofs.lemmas.List.Elements.{All-contains}
use Rattle.tsn_model.specs.declared.Decision.{Decision}
use Rattle.tsn_model.specs.Network.{Network, IsWellFormed}
use Rattle.tsn_model.specs.Search.{Outcome, split, solved, pruned, tied, refuted, Event, Settlement, IsRight, IsAllowed}
use Rattle.tsn_model.specs.Core.{State, initial_state, Step, observe, post, settle, teller_at, IsAboveSeen, MayTake, effect_of, Takes, Runs, IsSound}
use Rattle.tsn_model.specs.Replies.{IsLeafRight, FitsHistory, Refusal, not_open, limit_met, not_conflict, already_decided, not_met, SplitsNone, SplitsAgain, IsUnmet, IsFirstRefusal, Reply, found, recorded, refused_for, not_allowed, IsOutside, Answers, AnswersAll}
use Rattle.tsn_model.proofs.SearchLists.{Contains-from_Any}
use Rattle.tsn_model.proofs.Steps.{effect_sound, initial_sound}

splits_none_wrong : (network : Network) (history : List Settlement) (path : List Decision) (outcome : Outcome) → SplitsNone network outcome → IsRight network history path outcome → ⊥
splits_none_wrong network history path (split triple) none right = none right.0
splits_none_wrong network history path (solved offsets bound leaf chains) none right = none
splits_none_wrong network history path (pruned bound leaf) none right = none
splits_none_wrong network history path (tied bound leaf chains) none right = none
splits_none_wrong network history path (refuted leaf) none right = none

splits_again_wrong : (network : Network) (history : List Settlement) (path : List Decision) (outcome : Outcome) → SplitsAgain network path outcome → IsRight network history path outcome → ⊥
splits_again_wrong network history path (split triple) again right =
    let some = again.1 in
    All-contains (λ (decision : Decision). decision.triple ≢ triple) path some.1 right.1 (Contains-from_Any (λ (decision : Decision). decision.triple ≡ triple) path some) some.4
splits_again_wrong network history path (solved offsets bound leaf chains) again right = again
splits_again_wrong network history path (pruned bound leaf) again right = again
splits_again_wrong network history path (tied bound leaf chains) again right = again
splits_again_wrong network history path (refuted leaf) again right = again

unmet_wrong : (network : Network) (history : List Settlement) (path : List Decision) (outcome : Outcome) → IsUnmet network history path outcome → IsRight network history path outcome → ⊥
unmet_wrong network history path (split triple) unmet right = unmet
unmet_wrong network history path (solved offsets bound leaf chains) unmet right = unmet
unmet_wrong network history path (pruned bound leaf) unmet right = omega arith
unmet_wrong network history path (tied bound leaf chains) unmet right = unmet right.3
unmet_wrong network history path (refuted leaf) unmet right = unmet

-- what is refused may not be settled
pub refusal_right : (network : Network) (limit : ℕ) (history : List Settlement) (event : Event) (refusal : Refusal) → IsFirstRefusal network limit history event refusal
    → length history < limit → IsAllowed network history event → ⊥
refusal_right network limit history event (not_open place) first room allowed = first.0 allowed.is_open
refusal_right network limit history event (limit_met count) first room allowed = omega arith
refusal_right network limit history event not_conflict first room allowed = splits_none_wrong network history event.path event.outcome first.2 allowed.is_right
refusal_right network limit history event already_decided first room allowed = splits_again_wrong network history event.path event.outcome first.2 allowed.is_right
refusal_right network limit history event (not_met number) first room allowed = unmet_wrong network history event.path event.outcome first.2 allowed.is_right

outside_wrong : (network : Network) (limit : ℕ) (state : State) (step : Step) → IsOutside network state step → MayTake network limit state step → ⊥
outside_wrong network limit state (observe k) outside may = omega arith
outside_wrong network limit state (post k flowspan) outside may = elim outside [ inl past ↦ omega arith | inr unsolved ↦ unsolved may.1 ]
outside_wrong network limit state (settle k event) outside may = elim outside [ inl past ↦ omega arith | inr low ↦ low may.3 ]

-- an answered step is one that was taken, or one that isn't allowed and changed nothing
pub answers_take : (network : Network) (limit : ℕ) (state : State) (step : Step) (reply : Reply) (next : State) → Answers network limit state step reply next → Takes network limit state step next
answers_take network limit state (observe k) (found word) next answers = inl (answers.0, answers.2)
answers_take network limit state (post k flowspan) (found word) next answers = inl (answers.0, answers.2)
answers_take network limit state (settle k event) (found word) next answers = absurd answers
answers_take network limit state (observe k) recorded next answers = absurd answers
answers_take network limit state (post k flowspan) recorded next answers = absurd answers
answers_take network limit state (settle k event) recorded next answers = inl answers
answers_take network limit state (observe k) (refused_for refusal) next answers = absurd answers
answers_take network limit state (post k flowspan) (refused_for refusal) next answers = absurd answers
answers_take network limit state (settle k event) (refused_for refusal) next answers =
    inr ((λ may. refusal_right network limit state.history event refusal answers.2 may.1 may.2), answers.3)
answers_take network limit state (observe k) not_allowed next answers = inr (outside_wrong network limit state (observe k) answers.0, answers.1)
answers_take network limit state (post k flowspan) not_allowed next answers = inr (outside_wrong network limit state (post k flowspan) answers.0, answers.1)
answers_take network limit state (settle k event) not_allowed next answers = inr (outside_wrong network limit state (settle k event) answers.0, answers.1)

pub answers_run : (network : Network) (limit : ℕ) (steps : List Step) (replies : List Reply) (state last : State) → AnswersAll network limit state steps replies last → Runs network limit state steps last
answers_run network limit [] [] state last answers = answers
answers_run network limit [] (reply ∷ replies) state last answers = absurd answers
answers_run network limit (step ∷ steps) [] state last answers = absurd answers
answers_run network limit (step ∷ steps) (reply ∷ replies) state last answers =
    (answers.0, answers_take network limit state step reply answers.0 answers.1, answers_run network limit steps replies answers.0 last answers.2)

-- a step that is taken, or changes nothing, keeps the state sound
pub step_sound : (network : Network) → IsWellFormed network → (limit : ℕ) (state : State) (step : Step) (next : State) → IsSound network state → Takes network limit state step next → IsSound network next
step_sound network formed limit state step next sound takes =
    elim takes [
      | inl taken ↦ subst (IsSound network) (sym taken.1) (effect_sound network formed limit state step sound taken.0)
      | inr not_taken ↦ subst (IsSound network) (sym not_taken.1) sound
    ]

pub run_sound : (network : Network) → IsWellFormed network → (limit : ℕ) (steps : List Step) (state last : State) → IsSound network state → Runs network limit state steps last → IsSound network last
run_sound network formed limit [] state last sound run = subst (IsSound network) (sym run) sound
run_sound network formed limit (step ∷ steps) state last sound run =
    run_sound network formed limit steps run.0 last (step_sound network formed limit state step run.0 sound run.1) run.2

-- so does every run from the start
pub search_sound : (network : Network) → IsWellFormed network → (limit tellers : ℕ) (steps : List Step) (last : State) → Runs network limit (initial_state network tellers) steps last → IsSound network last
search_sound network formed limit tellers steps last run = run_sound network formed limit steps (initial_state network tellers) last (initial_sound network formed tellers) run

-- ---- a run keeps its tellers, and its limit

effect_keeps : (network : Network) (limit : ℕ) (state : State) (step : Step) → length state.history ≤ limit → MayTake network limit state step
    → (length (effect_of state step).history ≤ limit) × (length (effect_of state step).tellers ≡ length state.tellers)
unfolding effect_of
effect_keeps network limit state (observe k) short may = (short, length-set state.tellers k _)
effect_keeps network limit state (post k flowspan) short may = (short, length-set state.tellers k _)
effect_keeps network limit state (settle k event) short may =
    (omega (arith, length_push state.history (record { teller = k; event = event })), refl)

pub run_keeps : (network : Network) (limit : ℕ) (steps : List Step) (state last : State) → length state.history ≤ limit → Runs network limit state steps last
    → (length last.history ≤ limit) × (length last.tellers ≡ length state.tellers)
run_keeps network limit [] state last short run = (subst (λ (s : State). length s.history ≤ limit) (sym run) short, ap (λ (s : State). length s.tellers) run)
run_keeps network limit (step ∷ steps) state last short run =
    let next : State = run.0 in
    let kept : (length next.history ≤ limit) × (length next.tellers ≡ length state.tellers) =
    elim run.1 [
      | inl taken ↦ subst (λ (s : State). (length s.history ≤ limit) × (length s.tellers ≡ length state.tellers)) (sym taken.1) (effect_keeps network limit state step short taken.0)
      | inr not_taken ↦ (subst (λ (s : State). length s.history ≤ limit) (sym not_taken.1) short, ap (λ (s : State). length s.tellers) not_taken.1)
    ] in
    let rest = run_keeps network limit steps next last kept.0 run.2 in
    (rest.0, rest.1 ∙ kept.1)

-- ---- a step has one answer

splits_once : (network : Network) (path : List Decision) (outcome : Outcome) → SplitsNone network outcome → SplitsAgain network path outcome → ⊥
splits_once network path (split triple) none again = none again.0
splits_once network path (solved offsets bound leaf chains) none again = none
splits_once network path (pruned bound leaf) none again = none
splits_once network path (tied bound leaf chains) none again = none
splits_once network path (refuted leaf) none again = none

splits_or_unmet : (network : Network) (history : List Settlement) (path : List Decision) (outcome : Outcome) → SplitsNone network outcome → IsUnmet network history path outcome → ⊥
splits_or_unmet network history path (split triple) none unmet = unmet
splits_or_unmet network history path (solved offsets bound leaf chains) none unmet = none
splits_or_unmet network history path (pruned bound leaf) none unmet = none
splits_or_unmet network history path (tied bound leaf chains) none unmet = none
splits_or_unmet network history path (refuted leaf) none unmet = none

decides_or_unmet : (network : Network) (history : List Settlement) (path : List Decision) (outcome : Outcome) → SplitsAgain network path outcome → IsUnmet network history path outcome → ⊥
decides_or_unmet network history path (split triple) again unmet = unmet
decides_or_unmet network history path (solved offsets bound leaf chains) again unmet = again
decides_or_unmet network history path (pruned bound leaf) again unmet = again
decides_or_unmet network history path (tied bound leaf chains) again unmet = again
decides_or_unmet network history path (refuted leaf) again unmet = again

not_full : (limit n : ℕ) → limit ≤ n → n < limit → ⊥
not_full limit n full room = omega arith

one_refusal : (network : Network) (limit : ℕ) (history : List Settlement) (event : Event) (first second : Refusal)
    → IsFirstRefusal network limit history event first → IsFirstRefusal network limit history event second → first ≡ second
one_refusal network limit history event (not_open a) (not_open b) x y = ap not_open (x.1 ∙ sym y.1)
one_refusal network limit history event (not_open a) (limit_met b) x y = absurd (x.0 y.0)
one_refusal network limit history event (not_open a) not_conflict x y = absurd (x.0 y.0)
one_refusal network limit history event (not_open a) already_decided x y = absurd (x.0 y.0)
one_refusal network limit history event (not_open a) (not_met b) x y = absurd (x.0 y.0)
one_refusal network limit history event (limit_met a) (not_open b) x y = absurd (y.0 x.0)
one_refusal network limit history event (limit_met a) (limit_met b) x y = ap limit_met (x.2 ∙ sym y.2)
one_refusal network limit history event (limit_met a) not_conflict x y = absurd (not_full limit (length history) x.1 y.1)
one_refusal network limit history event (limit_met a) already_decided x y = absurd (not_full limit (length history) x.1 y.1)
one_refusal network limit history event (limit_met a) (not_met b) x y = absurd (not_full limit (length history) x.1 y.1)
one_refusal network limit history event not_conflict (not_open b) x y = absurd (y.0 x.0)
one_refusal network limit history event not_conflict (limit_met b) x y = absurd (not_full limit (length history) y.1 x.1)
one_refusal network limit history event not_conflict not_conflict x y = refl
one_refusal network limit history event not_conflict already_decided x y = absurd (splits_once network event.path event.outcome x.2 y.2)
one_refusal network limit history event not_conflict (not_met b) x y = absurd (splits_or_unmet network history event.path event.outcome x.2 y.2)
one_refusal network limit history event already_decided (not_open b) x y = absurd (y.0 x.0)
one_refusal network limit history event already_decided (limit_met b) x y = absurd (not_full limit (length history) y.1 x.1)
one_refusal network limit history event already_decided not_conflict x y = absurd (splits_once network event.path event.outcome y.2 x.2)
one_refusal network limit history event already_decided already_decided x y = refl
one_refusal network limit history event already_decided (not_met b) x y = absurd (decides_or_unmet network history event.path event.outcome x.2 y.2)
one_refusal network limit history event (not_met a) (not_open b) x y = absurd (y.0 x.0)
one_refusal network limit history event (not_met a) (limit_met b) x y = absurd (not_full limit (length history) y.1 x.1)
one_refusal network limit history event (not_met a) not_conflict x y = absurd (splits_or_unmet network history event.path event.outcome y.2 x.2)
one_refusal network limit history event (not_met a) already_decided x y = absurd (decides_or_unmet network history event.path event.outcome y.2 x.2)
one_refusal network limit history event (not_met a) (not_met b) x y = ap not_met (x.3 ∙ sym y.3)

abbrev AnswersHere : Network → ℕ → State → Step → Reply → Type 0
AnswersHere network limit state step reply = (next : State) × Answers network limit state step reply next

-- the replies to an observing, a posting and a settling
observe_reply : (network : Network) (limit : ℕ) (state : State) (k : ℕ) (first second : Reply) → AnswersHere network limit state (observe k) first → AnswersHere network limit state (observe k) second → first ≡ second
observe_reply network limit state k (found a) (found b) x y = ap found (x.1.1 ∙ sym y.1.1)
observe_reply network limit state k (found a) not_allowed x y = absurd (outside_wrong network limit state (observe k) y.1.0 x.1.0)
observe_reply network limit state k not_allowed (found b) x y = absurd (outside_wrong network limit state (observe k) x.1.0 y.1.0)
observe_reply network limit state k not_allowed not_allowed x y = refl
observe_reply network limit state k recorded second x y = absurd x.1
observe_reply network limit state k (refused_for refusal) second x y = absurd x.1
observe_reply network limit state k (found a) recorded x y = absurd y.1
observe_reply network limit state k (found a) (refused_for refusal) x y = absurd y.1
observe_reply network limit state k not_allowed recorded x y = absurd y.1
observe_reply network limit state k not_allowed (refused_for refusal) x y = absurd y.1

post_reply : (network : Network) (limit : ℕ) (state : State) (k flowspan : ℕ) (first second : Reply)
    → AnswersHere network limit state (post k flowspan) first → AnswersHere network limit state (post k flowspan) second → first ≡ second
post_reply network limit state k flowspan (found a) (found b) x y = ap found (x.1.1 ∙ sym y.1.1)
post_reply network limit state k flowspan (found a) not_allowed x y = absurd (outside_wrong network limit state (post k flowspan) y.1.0 x.1.0)
post_reply network limit state k flowspan not_allowed (found b) x y = absurd (outside_wrong network limit state (post k flowspan) x.1.0 y.1.0)
post_reply network limit state k flowspan not_allowed not_allowed x y = refl
post_reply network limit state k flowspan recorded second x y = absurd x.1
post_reply network limit state k flowspan (refused_for refusal) second x y = absurd x.1
post_reply network limit state k flowspan (found a) recorded x y = absurd y.1
post_reply network limit state k flowspan (found a) (refused_for refusal) x y = absurd y.1
post_reply network limit state k flowspan not_allowed recorded x y = absurd y.1
post_reply network limit state k flowspan not_allowed (refused_for refusal) x y = absurd y.1

-- a refused event came from a teller that may settle it
inside : (network : Network) (limit : ℕ) (state : State) (k : ℕ) (event : Event) → IsOutside network state (settle k event) → k < length state.tellers → IsAboveSeen network (teller_at state k).seen event.outcome → ⊥
inside network limit state k event outside below above = elim outside [ inl past ↦ not_full (length state.tellers) k past below | inr low ↦ low above ]

settle_reply : (network : Network) (limit : ℕ) (state : State) (k : ℕ) (event : Event) (first second : Reply)
    → AnswersHere network limit state (settle k event) first → AnswersHere network limit state (settle k event) second → first ≡ second
settle_reply network limit state k event recorded recorded x y = refl
settle_reply network limit state k event recorded (refused_for b) x y = absurd (refusal_right network limit state.history event b y.1.2 x.1.0.1 x.1.0.2)
settle_reply network limit state k event recorded not_allowed x y = absurd (outside_wrong network limit state (settle k event) y.1.0 x.1.0)
settle_reply network limit state k event (refused_for a) recorded x y = absurd (refusal_right network limit state.history event a x.1.2 y.1.0.1 y.1.0.2)
settle_reply network limit state k event (refused_for a) (refused_for b) x y = ap refused_for (one_refusal network limit state.history event a b x.1.2 y.1.2)
settle_reply network limit state k event (refused_for a) not_allowed x y = absurd (inside network limit state k event y.1.0 x.1.0 x.1.1)
settle_reply network limit state k event not_allowed recorded x y = absurd (outside_wrong network limit state (settle k event) x.1.0 y.1.0)
settle_reply network limit state k event not_allowed (refused_for b) x y = absurd (inside network limit state k event x.1.0 y.1.0 y.1.1)
settle_reply network limit state k event not_allowed not_allowed x y = refl
settle_reply network limit state k event (found a) second x y = absurd x.1
settle_reply network limit state k event recorded (found b) x y = absurd y.1
settle_reply network limit state k event (refused_for a) (found b) x y = absurd y.1
settle_reply network limit state k event not_allowed (found b) x y = absurd y.1

one_reply : (network : Network) (limit : ℕ) (state : State) (step : Step) (first second : Reply) → AnswersHere network limit state step first → AnswersHere network limit state step second → first ≡ second
one_reply network limit state (observe k) first second x y = observe_reply network limit state k first second x y
one_reply network limit state (post k flowspan) first second x y = post_reply network limit state k flowspan first second x y
one_reply network limit state (settle k event) first second x y = settle_reply network limit state k event first second x y

-- a step has one reply and one state after it
pub one_answer : (network : Network) (limit : ℕ) (state : State) (step : Step) (first second : Reply) (one other : State)
    → Answers network limit state step first one → Answers network limit state step second other → (first ≡ second) × (one ≡ other)
one_answer network limit state step first second one other x y = (
  one_reply network limit state step first second (one, x) (other, y),
  elim (answers_take network limit state step first one x) [
    | inl taken ↦ elim (answers_take network limit state step second other y) [ inl again ↦ taken.1 ∙ sym again.1 | inr refused' ↦ absurd (refused'.0 taken.0) ]
    | inr not_taken ↦ elim (answers_take network limit state step second other y) [ inl taken ↦ absurd (not_taken.0 taken.0) | inr again ↦ not_taken.1 ∙ sym again.1 ]
  ],
)

-- ---- the two parts of a right outcome

pub right_parts : (network : Network) (history : List Settlement) (path : List Decision) (outcome : Outcome) → IsRight network history path outcome
    → IsLeafRight network path outcome × FitsHistory network history path outcome
right_parts network history path (split triple) right = (tt, right)
right_parts network history path (solved offsets bound leaf chains) right = (right, tt)
right_parts network history path (pruned bound leaf) right = (right.0, right.1)
right_parts network history path (tied bound leaf chains) right = ((right.0, right.1, right.2), right.3)
right_parts network history path (refuted leaf) right = (right, tt)

pub right_from : (network : Network) (history : List Settlement) (path : List Decision) (outcome : Outcome) → IsLeafRight network path outcome → FitsHistory network history path outcome
    → IsRight network history path outcome
right_from network history path (split triple) leaf fits = fits
right_from network history path (solved offsets bound proof chains) leaf fits = leaf
right_from network history path (pruned bound proof) leaf fits = (leaf, fits)
right_from network history path (tied bound proof chains) leaf fits = (leaf.0, leaf.1, leaf.2, fits)
right_from network history path (refuted proof) leaf fits = leaf
