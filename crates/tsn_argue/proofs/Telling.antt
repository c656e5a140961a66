-- What an observer has heard of moves and steps that are taken one after another.
use Rattle.std.proofs.Common.{◌≡◌, ℕ, ◌+◌, ◌<◌, List, [], ◌∷◌, ◌++◌, length, take, get_or, map, Option, Some, None, refl, sym, ap, ◌∙◌, append_assoc, append-nil}
use Rattle.tsn_model.specs.Network.{Network}
use Rattle.tsn_model.specs.Argument as model
use Rattle.tsn_model.specs.Argument.{Goal, Fact, shown, opposite, learned_all, narrowed, begun, ended, known_after}
use Rattle.tsn_cert.specs.Move.{move_of}
use Rattle.tsn_cert.specs.Argument.{step_of}
use Rattle.tsn_cert.specs.declared.motion.Move.{Move}
use Rattle.tsn_cert.specs.declared.step.Step.{Step}
use Rattle.tsn_argue.specs.Faults.{known_by, first_known}
use Rattle.tsn_argue.specs.State.{view_of, base_of, Becomes}
use Rattle.tsn_argue.specs.Motion.{clauses_of}
use Rattle.tsn_argue.specs.Steps.{known_of, known_on}
use Rattle.tsn_argue.specs.Told.{Event, begins, makes, ends, with_told, told_moves, told_shown, told_step, told_steps}
use Rattle.tsn_argue.specs.declared.step.Known.{Known}
use Rattle.tsn_argue.specs.declared.view.View.{View}
use Rattle.tsn_argue.proofs.StepParts.{mapped_take}
use Rattle.tsn_argue.proofs.TakingAll.{Reached}

abbrev pub Heard : Type 0
Heard = Option (List Event)

-- ---- more is told

pub told_none : (heard : Heard) → heard ≡ with_told heard []
told_none None = refl
told_none (Some events) = ap Some (sym (append-nil events))

pub told_both : (heard : Heard) (xs ys : List Event) → with_told (with_told heard xs) ys ≡ with_told heard (xs ++ ys)
told_both None xs ys = refl
told_both (Some events) xs ys = ap Some (append_assoc events xs ys)

-- ---- moves

told_moves-push : (network : Network) (clauses : List (List Fact)) (view : model.View) (before : List model.Move) (move : model.Move)
    → told_moves network clauses view (before ++ move ∷ []) ≡ told_moves network clauses view before
    ++ makes (narrowed network clauses view before) move (shown network clauses (narrowed network clauses view before) move) ∷ []
unfolding told_moves narrowed
told_moves-push network clauses view [] move = refl
told_moves-push network clauses view (first ∷ before) move =
    ap (λ (events : List Event). makes view first (shown network clauses view first) ∷ events)
    (told_moves-push network clauses (learned_all view (shown network clauses view first)) before move)

pub no_moves : (network : Network) (clauses : List (List Fact)) (view : model.View) (heard : Heard)
    → heard ≡ with_told heard (told_moves network clauses view [])
unfolding told_moves
no_moves network clauses view heard = told_none heard

pub more_moves : (old now : View) (clauses : List (List Fact)) (xs : List Move) (k : ℕ) (m : Move) (first before after : Heard)
    → k < length xs → m ≡ get_or xs k m → Becomes old now (narrowed old.timing.now clauses (view_of old) (map move_of (take k xs)))
    → before ≡ with_told first (told_moves old.timing.now clauses (view_of old) (map move_of (take k xs)))
    → after ≡ with_told before (makes (view_of now) (move_of m) (shown now.timing.now clauses (view_of now) (move_of m)) ∷ [])
    → after ≡ with_told first (told_moves old.timing.now clauses (view_of old) (map move_of (take (k + 1) xs)))
more_moves old now clauses xs k m first before after below is become told more =
    let network = old.timing.now in
    let moves = map move_of (take k xs) in
    let events = told_moves network clauses (view_of old) moves in
    let longer : map move_of (take (k + 1) xs) ≡ moves ++ move_of m ∷ [] = mapped_take move_of xs k m below ∙ ap (λ x. moves ++ move_of x ∷ []) (sym is) in
    let one : (n : Network) (v : model.View) → Event = λ n v. makes v (move_of m) (shown n clauses v (move_of m)) in
    more ∙ ap (λ h. with_told h (one now.timing.now (view_of now) ∷ [])) told ∙ told_both first events (one now.timing.now (view_of now) ∷ [])
    ∙ (λ i. with_told first (events ++ one (become.network i) (become.view i) ∷ []))
    ∙ ap (with_told first) (sym (told_moves-push network clauses (view_of old) moves (move_of m)))
    ∙ ap (λ ms. with_told first (told_moves network clauses (view_of old) ms)) (sym longer)

-- ---- a step

pub shown_told : (old mid : View) (clauses : List (List Fact)) (step : model.Step) (first before after : Heard) (moves : List model.Move)
    → view_of old ≡ base_of old → Becomes old mid (learned_all (view_of old) (map opposite step.clause)) → moves ≡ step.moves
    → before ≡ with_told first (begins (view_of old) step ∷ []) → after ≡ with_told before (told_moves mid.timing.now clauses (view_of mid) moves)
    → after ≡ with_told first (told_shown old.timing.now (known_on old clauses) step)
unfolding told_shown begun
shown_told old mid clauses step first before after moves even become same begin more =
    more ∙ ap (λ h. with_told h (told_moves mid.timing.now clauses (view_of mid) moves)) begin
    ∙ told_both first (begins (view_of old) step ∷ []) (told_moves mid.timing.now clauses (view_of mid) moves)
    ∙ (λ i. with_told first (begins (even i) step ∷ told_moves (become.network i) clauses (become.view i) (same i)))
    ∙ ap (λ v. with_told first (begins (base_of old) step ∷ told_moves old.timing.now clauses (learned_all v (map opposite step.clause)) step.moves)) even

pub taken_told : (old : Known) (now : View) (clauses : List (List Fact)) (step : model.Step) (first before after : Heard)
    → clauses ≡ clauses_of old.clauses.items → Becomes old.view now (ended old.view.timing.now (known_of old) step)
    → before ≡ with_told first (told_shown old.view.timing.now (known_on old.view clauses) step)
    → after ≡ with_told before (ends (view_of now) step ∷ [])
    → after ≡ with_told first (told_step old.view.timing.now (known_of old) step)
unfolding told_step
taken_told old now clauses step first before after same become begin more =
    let network = old.view.timing.now in
    more ∙ ap (λ h. with_told h (ends (view_of now) step ∷ [])) begin
    ∙ told_both first (told_shown network (known_on old.view clauses) step) (ends (view_of now) step ∷ [])
    ∙ (λ i. with_told first (told_shown network (known_on old.view (same i)) step ++ ends (become.view i) step ∷ []))

-- ---- steps

told_steps-push : (network : Network) (goal : Goal) (known : model.Known) (before : List model.Step) (step : model.Step)
    → told_steps network goal known (before ++ step ∷ []) ≡ told_steps network goal known before
    ++ told_step network (known_by network goal known before) step
unfolding told_steps known_by
told_steps-push network goal known [] step = append-nil (told_step network known step)
told_steps-push network goal known (first ∷ before) step =
    ap (λ events. told_step network known first ++ events) (told_steps-push network goal (known_after network goal known first) before step)
    ∙ sym (append_assoc (told_step network known first) (told_steps network goal (known_after network goal known first) before)
    (told_step network (known_by network goal (known_after network goal known first) before) step))

pub no_steps : (network : Network) (goal : Goal) (heard : Heard) → heard ≡ with_told heard (told_steps network goal (first_known network goal) [])
unfolding told_steps
no_steps network goal heard = told_none heard

pub more_steps : (network : Network) (goal : Goal) (old : Known) (steps : List Step) (k : ℕ) (step : Step) (first before after : Heard)
    → k < length steps → step ≡ get_or steps k step → Reached network goal old steps k
    → before ≡ with_told first (told_steps network goal (first_known network goal) (map step_of (take k steps)))
    → after ≡ with_told before (told_step old.view.timing.now (known_of old) (step_of step))
    → after ≡ with_told first (told_steps network goal (first_known network goal) (map step_of (take (k + 1) steps)))
more_steps network goal old steps k step first before after below is reached told more =
    let known = first_known network goal in
    let taken = map step_of (take k steps) in
    let events = told_steps network goal known taken in
    let longer : map step_of (take (k + 1) steps) ≡ taken ++ step_of step ∷ [] = mapped_take step_of steps k step below
    ∙ ap (λ x. taken ++ step_of x ∷ []) (sym is) in
    more ∙ ap (λ h. with_told h (told_step old.view.timing.now (known_of old) (step_of step))) told
    ∙ told_both first events (told_step old.view.timing.now (known_of old) (step_of step))
    ∙ (λ i. with_told first (events ++ told_step (reached.same_network i) (reached.is i) (step_of step)))
    ∙ ap (with_told first) (sym (told_steps-push network goal known taken (step_of step)))
    ∙ ap (λ ss. with_told first (told_steps network goal known ss)) (sym longer)
