-- The steps of the shared search, by the fields of a core.
use Rattle.std.proofs.Common.{◌≡◌, ◌≢◌, ℕ, ◌+◌, ◌≤◌, ◌<◌, min, List, [], ◌∷◌, ◌++◌, map, length, fold, All, refl, sym, ap, ◌∙◌, subst, arith, inl, inr, Some}
use Rattle.std.specs.Prelude.{replicate, slice_set, Result, Ok, Err, OnErr}
use Rattle.std.specs.List.{slice_index_or}
use Rattle.std.proofs.lemmas.List.{length_push, length-replicate, map-append, get_or_default, nil_from_length}
use Rattle.std.proofs.lemmas.List.Elements.{All-contains}
use Rattle.tsn_model.specs.Network.{Network, IsWellFormed}
use Rattle.tsn_model.specs.Search.{Event, Settlement, solved_bounds, settled_by, least_or_none, tally_of, open_paths, IsAllowed}
use Rattle.tsn_model.specs.Core as shared
use Rattle.tsn_model.specs.Core.{Teller, State, initial_state, observe, post, settle, teller_at, IsAboveSeen, MayTake, effect_of, IsSound, IsQuiet}
use Rattle.tsn_model.specs.Replies as replies
use Rattle.tsn_model.specs.Replies.{found, recorded, refused_for, not_open, limit_met, not_conflict, already_decided, not_met, Answers, AnswersAll}
use Rattle.tsn_model.proofs.SearchLists.{All-from_Contains}
use Rattle.tsn_model.proofs.Histories.{legal_last}
use Rattle.tsn_model.proofs.Numbers.{fold-min-le-each}
use Rattle.tsn_model.proofs.Kept.{least_attained, solved-le-cycle}
use Rattle.tsn_model.proofs.BestBounds.{solved_by-among}
use Rattle.tsn_model.proofs.Steps.{effect_sound, initial_sound}
use Rattle.tsn_model.proofs.Finished.{finished_tree}
use Rattle.tsn_book.specs.declared.fault.BookFault.{BookFault}
use Rattle.tsn_book.specs.declared.fault.BookFault.TheVariants.{NotOpen, Limit, NotConflict, AlreadyDecided, Memory, NotMet}
use Rattle.tsn_core.specs.declared.shared.Step.{Step}
use Rattle.tsn_core.specs.declared.shared.Reply.{Reply}
use Rattle.tsn_core.specs.declared.shared.Reply.TheVariants.{Refused}
use Rattle.tsn_book.specs.Book.{Progress, IsFault, IsLawful}
use Rattle.tsn_core.specs.Shared.{step_of, reply_of, IsReply, AreReplies, IsShared, IsTreeForKept, HasPostedAll}

-- ---- one step

abbrev pub state_of : ℕ → List Teller → List Settlement → State
state_of word tellers history = record { word = word; tellers = tellers; history = history }

-- the state after an allowed step, where the book is of as many tellers
pub step_shared : (book next : Progress) (limit word lower : ℕ) (tellers others : List Teller) (step : shared.Step) → IsShared book word tellers
    → MayTake book.network limit (state_of word tellers book.history) step → state_of lower others next.history ≡ effect_of (state_of word tellers book.history) step
    → next.network ≡ book.network → next.tellers ≡ length others → IsShared next lower others
step_shared book next limit word lower tellers others step is may same network counted =
    record {
      formed = subst IsWellFormed (sym network) is.formed;
      counted = counted;
      sound = subst (λ n. IsSound n (state_of lower others next.history)) (sym network)
          (subst (IsSound book.network) (sym same) (effect_sound book.network is.formed limit (state_of word tellers book.history) step is.sound may));
    }

pub observed : (word k : ℕ) (tellers : List Teller) (history : List Settlement) (known changed : Teller) → k < length tellers → known ≡ slice_index_or tellers k known
    → changed ≡ record { seen = min known.seen word; posted = known.posted }
    → state_of word (slice_set tellers k changed) history ≡ effect_of (state_of word tellers history) (observe k)
unfolding effect_of teller_at
observed word k tellers history known changed below was is =
    let none : Teller = record { seen = 0; posted = 0 } in
    let at : known ≡ slice_index_or tellers k none = was ∙ get_or_default tellers k known none below in
    let same : changed ≡ record { seen = min (slice_index_or tellers k none).seen word; posted = (slice_index_or tellers k none).posted } =
    is ∙ ap (λ (t : Teller). let seen : Teller = record { seen = min t.seen word; posted = t.posted } in seen) at in
    ap (λ (t : Teller). state_of word (slice_set tellers k t) history) same

pub posted_after : (word k flowspan : ℕ) (tellers : List Teller) (history : List Settlement) (known changed : Teller) (lower : ℕ) → k < length tellers → known ≡ slice_index_or tellers k known
    → changed ≡ record { seen = min known.seen flowspan; posted = min known.posted flowspan } → lower ≡ min word flowspan
    → state_of lower (slice_set tellers k changed) history ≡ effect_of (state_of word tellers history) (post k flowspan)
unfolding effect_of teller_at
posted_after word k flowspan tellers history known changed lower below was is less =
    let none : Teller = record { seen = 0; posted = 0 } in
    let at : known ≡ slice_index_or tellers k none = was ∙ get_or_default tellers k known none below in
    let same : changed ≡ record { seen = min (slice_index_or tellers k none).seen flowspan; posted = min (slice_index_or tellers k none).posted flowspan } =
    is ∙ ap (λ (t : Teller). let lowered : Teller = record { seen = min t.seen flowspan; posted = min t.posted flowspan } in lowered) at in
    λ i. state_of (less i) (slice_set tellers k (same i)) history

pub settled_after : (word k : ℕ) (tellers : List Teller) (history : List Settlement) (event : Event)
    → state_of word tellers (history ++ record { teller = k; event = event } ∷ []) ≡ effect_of (state_of word tellers history) (settle k event)
unfolding effect_of
settled_after word k tellers history event = refl

-- what a teller has seen
pub seen_at : (word k seen : ℕ) (tellers : List Teller) (history : List Settlement) (known : Teller) → k < length tellers → known ≡ slice_index_or tellers k known → seen ≡ known.seen
    → seen ≡ (teller_at (state_of word tellers history) k).seen
unfolding teller_at
seen_at word k seen tellers history known below was is = is ∙ ap (λ (t : Teller). t.seen) (was ∙ get_or_default tellers k known (record { seen = 0; posted = 0 }) below)

-- ---- the start

pub start_state : (network : Network) (book : Progress) (tellers limit word : ℕ) (known : List Teller) → word ≡ network.cycle + 1 → book ≡ record { network = network; tellers = tellers; limit = limit; history = [] }
    → known ≡ replicate tellers (record { seen = word; posted = word }) → state_of word known book.history ≡ initial_state network tellers
unfolding initial_state
start_state network book tellers limit word known past same all =
    let each : known ≡ replicate tellers (record { seen = network.cycle + 1; posted = network.cycle + 1 }) =
    all ∙ ap (λ n. let teller : Teller = record { seen = n; posted = n } in replicate tellers teller) past in
    λ i. state_of (past i) (each i) (same i).history

pub start_shared : (network : Network) (book : Progress) (tellers limit word : ℕ) (known : List Teller) → IsWellFormed network → word ≡ network.cycle + 1 → book ≡ record { network = network; tellers = tellers; limit = limit; history = [] }
    → known ≡ replicate tellers (record { seen = word; posted = word }) → IsShared book word known
start_shared network book tellers limit word known formed past same all =
    let is : book.network ≡ network = ap (λ (p : Progress). p.network) same in
    let first : Teller = record { seen = word; posted = word } in
    record {
      formed = subst IsWellFormed (sym is) formed;
      counted = ap (λ (p : Progress). p.tellers) same ∙ sym (ap length all ∙ length-replicate tellers first);
      sound = subst (λ n. IsSound n (state_of word known book.history)) (sym is)
          (subst (IsSound network) (sym (start_state network book tellers limit word known past same all)) (initial_sound network formed tellers));
    }

-- ---- settling

-- what the book settled was allowed
pub settled_allowed : (book next : Progress) (settlement : Settlement) → next ≡ record book { history = book.history ++ settlement ∷ [] } → IsLawful next
    → (length book.history < book.limit) × IsAllowed book.network book.history settlement.event
settled_allowed book next settlement same lawful =
    let is : IsLawful (record book { history = book.history ++ settlement ∷ [] }) = subst IsLawful same lawful in
    let within = is.within_limit in
    (omega (arith, within, length_push book.history settlement), legal_last book.network book.history settlement is.legal)

-- a settling that the book took
pub settle_taken : (book next : Progress) (word k : ℕ) (tellers : List Teller) (event : Event) → IsShared book word tellers → k < length tellers
    → IsAboveSeen book.network (teller_at (state_of word tellers book.history) k).seen event.outcome → next ≡ record book { history = book.history ++ record { teller = k; event = event } ∷ [] } → IsLawful next
    → IsShared next word tellers × Answers book.network book.limit (state_of word tellers book.history) (settle k event) recorded (state_of word tellers next.history)
settle_taken book next word k tellers event is below above same lawful =
    let allowed = settled_allowed book next (record { teller = k; event = event }) same lawful in
    let may : MayTake book.network book.limit (state_of word tellers book.history) (settle k event) = (below, allowed.0, allowed.1, above) in
    let after = ap (λ (p : Progress). state_of word tellers p.history) same ∙ settled_after word k tellers book.history event in (
      step_shared book next book.limit word word tellers tellers (settle k event) is may after (ap (λ (p : Progress). p.network) same) (ap (λ (p : Progress). p.tellers) same ∙ is.counted),
      (may, after),
    )

-- a settling that the book refused, with its reason
pub refused_reply : (network : Network) (limit : ℕ) (state : State) (k : ℕ) (event : Event) (fault : BookFault) → k < length state.tellers → IsAboveSeen network (teller_at state k).seen event.outcome
    → IsFault network limit state.history event fault → fault ≢ Memory → IsReply network limit state (settle k event) (Refused fault) state
refused_reply network limit state k event (NotOpen place) below above is other = (refused_for (not_open place), refl, (below, above, is, refl))
refused_reply network limit state k event (Limit count) below above is other = (refused_for (limit_met count), refl, (below, above, is, refl))
refused_reply network limit state k event NotConflict below above is other = (refused_for not_conflict, refl, (below, above, is, refl))
refused_reply network limit state k event AlreadyDecided below above is other = (refused_for already_decided, refl, (below, above, is, refl))
refused_reply network limit state k event Memory below above is other = absurd (other refl)
refused_reply network limit state k event (NotMet number) below above is other = (refused_for (not_met number), refl, (below, above, is, refl))

-- ---- steps in a row

pub answers_more : (network : Network) (limit : ℕ) (steps : List shared.Step) (told : List replies.Reply) (step : shared.Step) (reply : replies.Reply) (state last next : State)
    → AnswersAll network limit state steps told last → Answers network limit last step reply next → AnswersAll network limit state (steps ++ step ∷ []) (told ++ reply ∷ []) next
answers_more network limit [] [] step reply state last next before latest = (next, subst (λ s. Answers network limit s step reply next) before latest, refl)
answers_more network limit [] (r ∷ rs) step reply state last next before latest = absurd before
answers_more network limit (s ∷ ss) [] step reply state last next before latest = absurd before
answers_more network limit (s ∷ ss) (r ∷ rs) step reply state last next before latest =
    (before.0, before.1, answers_more network limit ss rs step reply before.0 last next before.2 latest)

pub replies_more : (network : Network) (limit : ℕ) (state last next : State) (steps : List Step) (given : List Reply) (step : Step) (reply : Reply)
    → AreReplies network limit state steps given last → IsReply network limit last (step_of step) reply next → AreReplies network limit state (steps ++ step ∷ []) (given ++ reply ∷ []) next
replies_more network limit state last next steps given step reply before latest = (
  before.0 ++ latest.0 ∷ [],
  map-append reply_of given (reply ∷ []) ∙ ap (λ xs. xs ++ reply_of reply ∷ []) before.1 ∙ ap (λ r. map Some before.0 ++ r ∷ []) latest.1 ∙ sym (map-append Some before.0 (latest.0 ∷ [])),
  subst (λ ss. AnswersAll network limit state ss (before.0 ++ latest.0 ∷ []) next) (sym (map-append step_of steps (step ∷ [])))
      (answers_more network limit (map step_of steps) before.0 (step_of step) latest.0 state last next before.2 latest.2),
)

-- ---- quiet states

-- what a teller posted is at most each flowspan that it solved exactly where it is at most the least
tally_solved : (network : Network) (k : ℕ) (history : List Settlement)
    → (tally_of network k history).solved ≡ least_or_none network (solved_bounds (settled_by k history))
unfolding tally_of
tally_solved network k history = refl

pub posted_each : (network : Network) (state : State) → HasPostedAll network state.history state.tellers → (k : ℕ) → k < length state.tellers
    → All (λ flowspan. (teller_at state k).posted ≤ flowspan) (solved_bounds (settled_by k state.history))
unfolding teller_at least_or_none
posted_each network state all k below =
    let bounds = solved_bounds (settled_by k state.history) in
    let low = all k below in
    All-from_Contains (λ flowspan. (teller_at state k).posted ≤ flowspan) bounds (λ flowspan found'.
    let least = All-contains (λ b. fold min (network.cycle + 1) bounds ≤ b) bounds flowspan (fold-min-le-each (network.cycle + 1) bounds) found' in
    omega (arith, low, least, tally_solved network k state.history))

pub each_posted : (network : Network) (state : State) → IsSound network state → IsQuiet state → HasPostedAll network state.history state.tellers
unfolding teller_at least_or_none
each_posted network state sound quiet k below =
    let bounds = solved_bounds (settled_by k state.history) in
    let all = quiet.all_posted k below in
    elim (least_attained (network.cycle + 1) bounds) [
      | inr among ↦
          let low = All-contains (λ flowspan. (teller_at state k).posted ≤ flowspan) bounds (fold min (network.cycle + 1) bounds) all among in
          omega (arith, low, tally_solved network k state.history)
      | inl none ↦ elim (sound.posted_solved k below) [
        | inl unposted ↦ omega (arith, none, unposted, tally_solved network k state.history)
        | inr solved' ↦
            let short = solved-le-cycle network state.history sound.legal (teller_at state k).posted (solved_by-among k state.history (teller_at state k).posted solved') in
            omega (arith, none, short, tally_solved network k state.history)
      ]
    ]

-- where nothing is open, a state is quiet exactly where each teller has posted what it solved
pub quiet_where : (network : Network) (state : State) → IsSound network state → length (open_paths state.history) ≡ 0
    → (HasPostedAll network state.history state.tellers → IsQuiet state) × (IsQuiet state → HasPostedAll network state.history state.tellers)
quiet_where network state sound none =
    (λ all. record { none_open = nil_from_length (open_paths state.history) none; all_posted = posted_each network state all }, each_posted network state sound)

-- a quiet state's word is the flowspan of what is kept, and its settlements are a tree for that
pub quiet_tree : (network : Network) (state : State) → IsSound network state → IsQuiet state → IsTreeForKept network state.history
quiet_tree network state sound quiet =
    let of = finished_tree network state.history sound.legal quiet.none_open in
    (of.0, of.1, of.2, (of.3.tree, of.3.accepts, sym of.3.nodes))

-- ---- results

pub on_err : {T E P : Type 0} (r : Result T E) → P → OnErr r P
on_err (Ok x) p = tt
on_err (Err e) p = p
