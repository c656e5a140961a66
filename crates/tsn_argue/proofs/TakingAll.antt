-- Moves and steps that are taken one after another.
use Rattle.std.proofs.Common.{◌≡◌, ◌≢◌, ◌⊎◌, ℕ, ◌+◌, ◌<◌, ◌≤◌, List, [], ◌∷◌, ◌++◌, length, take, get_or, map, true, false, All, refl, sym, ap, ◌∙◌, subst, inl, inr, arith, eqb-true}
use Rattle.std.specs.Prelude.{Result, Ok, Err, Some, ◌==◌}
use Rattle.std.proofs.lemmas.Bool.{false≢true}
use Rattle.std.proofs.lemmas.List.{take_all, length-map}
use Rattle.std.proofs.lemmas.List.Elements.{All-push}
use Rattle.tsn_model.specs.Network.{Network}
use Rattle.tsn_model.specs.Argument as model
use Rattle.tsn_model.specs.Argument.{IsFact, IsImpossible, IsAllowed, IsRight, IsSettled, Argues, first_ground, shown, opposite, learned, learned_all, narrowed, AreAllowed, settled, begun, ended, known_with, known_after}
use Rattle.tsn_cert.specs.Fact.{clause_of}
use Rattle.tsn_cert.specs.Move.{move_of}
use Rattle.tsn_cert.specs.Argument.{step_of, steps_of}
use Rattle.std.specs.Borrow.{Bor}
use Rattle.tsn_cert.specs.declared.fact.Fact.{Fact}
use Rattle.tsn_cert.specs.declared.motion.Move.{Move}
use Rattle.tsn_cert.specs.declared.step.Step.{Step}
use Rattle.tsn_argue.specs.Faults.{IsWrongMove, IsWrongNext, IsWrongStep, IsWrongAfter, IsOpen, IsArgumentFault, AreRight, known_by, known_from, first_known}
use Rattle.tsn_argue.specs.State.{view_of, base_of, IsSound, Becomes}
use Rattle.tsn_argue.specs.Motion.{clauses_of, AreFacts}
use Rattle.tsn_argue.specs.Steps.{TakesMove, TakesMoves, ShowsStep, TakesStep, KeepsClause, IsReady, IsFirst, known_of, view_with, clauses_with, fault_of, FindsOpen}
use Rattle.tsn_argue.specs.declared.aim.Stop.{Stop}
use Rattle.tsn_argue.specs.declared.aim.Stop.TheVariants as stop
use Rattle.tsn_check.specs.declared.wrong.Wrong.{Wrong}
use Rattle.tsn_check.specs.declared.wrong.Wrong.TheVariants as kind
use Rattle.tsn_check.specs.declared.argument.StepFault.TheVariants as of_step
use Rattle.tsn_check.specs.declared.argument.Open.{Open}
use Rattle.tsn_check.specs.declared.argument.ArgumentFault.TheVariants.{Step as StepWrong, Unfinished, Memory}
use Rattle.tsn_argue.specs.declared.step.Known.{Known}
use Rattle.tsn_argue.specs.declared.view.View.{View}
use Rattle.tsn_argue.proofs.Ordered.{told_at}
use Rattle.tsn_argue.proofs.StepParts.{mapped_take}
use Rattle.tsn_argue.proofs.StepLemmas.{narrowed-push, AreAllowed-push, known_by-push, AreRight-push, concludes}
use Rattle.tsn_argue.proofs.Taking.{possible, impossible, wrong_move_step}

-- ---- one move

pub late_move : (old : View) (clauses : List (List model.Fact)) (move : model.Move) → IsSound old → old.crossed ≡ true
    → IsWrongNext old.timing.now clauses (view_of old) [] move kind.Crossed
unfolding narrowed
late_move old clauses move sound is = inl (impossible old sound is, refl)

pub wrong_one : (old : View) (clauses : List (List model.Fact)) (move : model.Move) (fault : Wrong) → IsSound old → old.crossed ≡ false
    → IsWrongMove old.timing.now clauses (view_of old) move fault
    → IsWrongNext old.timing.now clauses (view_of old) [] move fault
unfolding narrowed
wrong_one old clauses move fault sound is wrong = inr (possible old sound is, wrong)

-- ---- moves

pub none_made : (old : View) (clauses : List (List model.Fact)) → IsSound old → Becomes old old (narrowed old.timing.now clauses (view_of old) [])
unfolding narrowed
none_made old clauses sound = record { sound = sound; network = refl; base = refl; view = refl }

behind : (network : Network) (clauses : List (List model.Fact)) (v w : model.View) (before : List model.Move) (move : model.Move) (fault : Wrong)
    → w ≡ narrowed network clauses v before → IsWrongNext network clauses w [] move fault → IsWrongNext network clauses v before move fault
unfolding narrowed
behind network clauses v w before move fault same wrong =
    subst (λ u. (IsImpossible network u × (fault ≡ kind.Crossed)) ⊎ ((IsImpossible network u → ⊥) × IsWrongMove network clauses u move fault)) same wrong

module _ (old now : View) (clauses : List (List model.Fact)) (xs : List Move) (k : ℕ) (m : Move) where
  pub moves_wrong : (other new : View) (e : Stop) → k < length xs → m ≡ get_or xs k m
      → AreAllowed old.timing.now clauses (view_of old) (map move_of (take k xs))
      → Becomes old now (narrowed old.timing.now clauses (view_of old) (map move_of (take k xs))) → TakesMove now other clauses k (move_of m) (Err e)
      → TakesMoves old new clauses (map move_of xs) (Err e)
  moves_wrong other new (stop.Wrong fault) below is allowed become wrong =
      told_at move_of of_step.Move (AreAllowed old.timing.now clauses (view_of old)) (IsWrongNext old.timing.now clauses (view_of old)) xs k m wrong.0 fault
      below allowed
      (subst (λ x. IsWrongNext old.timing.now clauses (view_of old) (map move_of (take k xs)) (move_of x) wrong.0) is
      (behind old.timing.now clauses (view_of old) (view_of now) (map move_of (take k xs)) (move_of m) wrong.0 become.view
      (subst (λ n. IsWrongNext n clauses (view_of now) [] (move_of m) wrong.0) become.network wrong.1))) wrong.2
  moves_wrong other new stop.Memory below is allowed become wrong = tt

  pub moves_more : (new : View) → k < length xs → m ≡ get_or xs k m → AreAllowed old.timing.now clauses (view_of old) (map move_of (take k xs))
      → Becomes old now (narrowed old.timing.now clauses (view_of old) (map move_of (take k xs))) → TakesMove now new clauses k (move_of m) (Ok tt)
      → AreAllowed old.timing.now clauses (view_of old) (map move_of (take (k + 1) xs))
      × Becomes old new (narrowed old.timing.now clauses (view_of old) (map move_of (take (k + 1) xs)))
  moves_more new below is allowed become taken =
      let network = old.timing.now in
      let before = map move_of (take k xs) in
      let reached = narrowed network clauses (view_of old) before in
      let longer : map move_of (take (k + 1) xs) ≡ before ++ move_of m ∷ [] = mapped_take move_of xs k m below ∙ ap (λ x. before ++ move_of x ∷ []) (sym is) in
      let still : IsImpossible network reached → ⊥ =
      λ past. taken.0 (subst (λ n. IsImpossible n (view_of now)) (sym become.network) (subst (IsImpossible network) (sym become.view) past)) in
      let may : IsAllowed network clauses reached (move_of m) =
      subst (λ v. IsAllowed network clauses v (move_of m)) become.view (subst (λ n. IsAllowed n clauses (view_of now) (move_of m)) become.network taken.1) in
      let view : view_of new ≡ learned_all reached (shown network clauses reached (move_of m)) =
      taken.2.view ∙ ap (λ n. learned_all (view_of now) (shown n clauses (view_of now) (move_of m))) become.network
      ∙ ap (λ v. learned_all v (shown network clauses v (move_of m))) become.view in (
        subst (AreAllowed network clauses (view_of old)) (sym longer) (AreAllowed-push network clauses (view_of old) before (move_of m) allowed still may),
        record {
          sound = taken.2.sound;
          network = taken.2.network ∙ become.network;
          base = taken.2.base ∙ become.base;
          view = view ∙ sym (narrowed-push network clauses (view_of old) before (move_of m)) ∙ ap (narrowed network clauses (view_of old)) (sym longer);
        },
      )

-- ---- a step

pub show_moves : (old mid new : View) (sound : IsSound old) (ready : view_of old ≡ base_of old) (clauses : List (List model.Fact))
    (step : model.Step) (e : Stop) → old.crossed ≡ false
    → All (IsFact old.timing.now) step.clause → Becomes old mid (learned_all (view_of old) (map opposite step.clause))
    → TakesMoves mid new clauses step.moves (Err e)
    → ShowsStep old new clauses step (Err e)
show_moves old mid new sound ready clauses step
    (stop.Wrong fault) is facts supposed wrong = wrong_move_step old sound ready clauses step mid fault is facts supposed wrong
show_moves old mid new sound ready clauses step stop.Memory is facts supposed wrong = tt

known_short : (network : Network) (goal : model.Goal) (known : model.Known) (view : model.View) (clause : List model.Fact) → length clause ≤ 1
    → known_with network goal known view clause ≡ known_from (settled network goal (view_with known.ground view clause)) (clauses_with known.clauses clause)
unfolding known_with
known_short network goal known view [] short = refl
known_short network goal known view (fact ∷ []) short = refl
known_short network goal known view (fact ∷ other ∷ facts) short = absurd (omega arith)

known_long : (network : Network) (goal : model.Goal) (known : model.Known) (view : model.View) (clause : List model.Fact) → 1 < length clause
    → known_with network goal known view clause ≡ known_from known.ground (clauses_with known.clauses clause)
unfolding known_with
known_long network goal known view [] long = absurd (omega arith)
known_long network goal known view (fact ∷ []) long = absurd (omega arith)
known_long network goal known view (fact ∷ other ∷ facts) long = refl

long_view : (base view : model.View) (clause : List model.Fact) → 1 < length clause → view_with base view clause ≡ base
long_view base view [] long = absurd (omega arith)
long_view base view (fact ∷ []) long = absurd (omega arith)
long_view base view (fact ∷ other ∷ facts) long = refl

facts_with : (network : Network) (clauses : List (List model.Fact)) (clause : List model.Fact) → AreFacts network clauses
    → All (IsFact network) clause → AreFacts network (clauses_with clauses clause)
facts_with network clauses [] are facts = are
facts_with network clauses (fact ∷ facts) are is = All-push (All (IsFact network)) clauses (fact ∷ facts) are is

module _ (goal : model.Goal) (old shows kept : Known) (step : model.Step) where
  abbrev pub ended_view : model.View
  ended_view = ended old.view.timing.now (known_of old) step

  -- what is kept of the clause, seen from before the step
  kept_view : Becomes old.view shows.view ended_view → KeepsClause shows kept step.clause
      → view_of kept.view ≡ view_with (base_of old.view) ended_view step.clause
  kept_view become keeps = keeps.view ∙ (λ k. view_with (become.base k) (become.view k) step.clause)

  kept_network : Becomes old.view shows.view ended_view → KeepsClause shows kept step.clause → kept.view.timing.now ≡ old.view.timing.now
  kept_network become keeps = keeps.network ∙ become.network

  kept_clauses : shows.clauses.items ≡ old.clauses.items → KeepsClause shows kept step.clause
      → clauses_of kept.clauses.items ≡ clauses_with (clauses_of old.clauses.items) step.clause
  kept_clauses same keeps = keeps.clauses ∙ ap (λ cs. clauses_with (clauses_of cs) step.clause) same

  kept_facts : IsReady old → Becomes old.view shows.view ended_view → shows.clauses.items ≡ old.clauses.items → KeepsClause shows kept step.clause
      → All (IsFact old.view.timing.now) step.clause → AreFacts old.view.timing.now (clauses_of kept.clauses.items)
  kept_facts ready become same keeps facts =
      subst (AreFacts old.view.timing.now) (sym (kept_clauses same keeps))
      (facts_with old.view.timing.now (clauses_of old.clauses.items) step.clause ready.facts facts)

  pub taken_short : (last new : View) → IsReady old → IsRight old.view.timing.now (known_of old) step → Becomes old.view shows.view ended_view
      → shows.clauses.items ≡ old.clauses.items
      → KeepsClause shows kept step.clause → length step.clause ≤ 1 → Becomes kept.view last (settled kept.view.timing.now goal (view_of kept.view))
      → IsSound new → new.timing.now ≡ last.timing.now → base_of new ≡ view_of last → view_of new ≡ view_of last
      → IsRight old.view.timing.now (known_of old) step
      × (known_of (record { view = new; clauses = kept.clauses }) ≡ known_after old.view.timing.now goal (known_of old) step)
      × IsReady (record { view = new; clauses = kept.clauses }) × (new.timing.now ≡ old.view.timing.now)
  unfolding known_after
  taken_short last new ready right become same keeps short settles sound network base view =
      let networks : new.timing.now ≡ old.view.timing.now = network ∙ settles.network ∙ kept_network become keeps in
      let ground : base_of new ≡ settled old.view.timing.now goal (view_with (base_of old.view) ended_view step.clause) =
      base ∙ settles.view ∙ ap (λ n. settled n goal (view_of kept.view)) (kept_network become keeps)
      ∙ ap (settled old.view.timing.now goal) (kept_view become keeps) in (
        right,
        (λ k. known_from (ground k) (kept_clauses same keeps k)) ∙ sym (known_short old.view.timing.now goal (known_of old) ended_view step.clause short),
        record {
          sound = sound;
          even = view ∙ sym base;
          facts = subst (λ n. AreFacts n (clauses_of kept.clauses.items)) (sym networks) (kept_facts ready become same keeps right.facts);
        },
        networks,
      )

  pub taken_long : IsReady old → IsRight old.view.timing.now (known_of old) step → Becomes old.view shows.view ended_view
      → shows.clauses.items ≡ old.clauses.items
      → KeepsClause shows kept step.clause → 1 < length step.clause
      → IsRight old.view.timing.now (known_of old) step × (known_of kept ≡ known_after old.view.timing.now goal (known_of old) step)
      × IsReady kept × (kept.view.timing.now ≡ old.view.timing.now)
  unfolding known_after
  taken_long ready right become same keeps long =
      let base : base_of kept.view ≡ base_of old.view = keeps.base ∙ become.base in (
        right,
        (λ k. known_from (base k) (kept_clauses same keeps k)) ∙ sym (known_long old.view.timing.now goal (known_of old) ended_view step.clause long),
        record {
          sound = keeps.sound;
          even = kept_view become keeps ∙ long_view (base_of old.view) ended_view step.clause long ∙ sym base;
          facts = subst (λ n. AreFacts n (clauses_of kept.clauses.items)) (sym (kept_network become keeps)) (kept_facts ready become same keeps right.facts);
        },
        kept_network become keeps,
      )

-- ---- steps

-- what holds after some steps of an argument
pub record Reached (network : Network) (goal : model.Goal) (known : Known) (steps : List Step) (k : ℕ) : Type 0 where
  pub ready : IsReady known
  pub same_network : known.view.timing.now ≡ network
  pub right : AreRight network goal (first_known network goal) (map step_of (take k steps))
  pub is : known_of known ≡ known_by network goal (first_known network goal) (map step_of (take k steps))

pub reached_first : (network : Network) (goal : model.Goal) (known : Known) (steps : List Step) → IsFirst network goal known
    → Reached network goal known steps 0
unfolding known_by
reached_first network goal known steps first = record { ready = first.ready; same_network = first.same_network; right = tt; is = first.is }

module _ (network : Network) (goal : model.Goal) (old new : Known) (steps : List Step) (k : ℕ) (step : Step) where
  pub reached_more : k < length steps → step ≡ get_or steps k step → Reached network goal old steps k → TakesStep goal old new (step_of step) (Ok tt)
      → Reached network goal new steps (k + 1)
  reached_more below is reached taken =
      let before = map step_of (take k steps) in
      let first = first_known network goal in
      let longer : map step_of (take (k + 1) steps) ≡ before ++ step_of step ∷ [] = mapped_take step_of steps k step below
      ∙ ap (λ x. before ++ step_of x ∷ []) (sym is) in
      let right : IsRight network (known_by network goal first before) (step_of step) =
      subst (λ known. IsRight network known (step_of step)) reached.is (subst (λ n. IsRight n (known_of old) (step_of step)) reached.same_network taken.0) in
      let after : known_of new ≡ known_after network goal (known_by network goal first before) (step_of step) =
      taken.1 ∙ ap (λ n. known_after n goal (known_of old) (step_of step)) reached.same_network
      ∙ ap (λ known. known_after network goal known (step_of step)) reached.is in
      record {
        ready = taken.2;
        same_network = taken.3 ∙ reached.same_network;
        right = subst (AreRight network goal first) (sym longer) (AreRight-push network goal first before (step_of step) reached.right right);
        is = after ∙ sym (known_by-push network goal first before (step_of step)) ∙ ap (known_by network goal first) (sym longer);
      }

  pub reached_wrong : (e : Stop) → k < length steps → step ≡ get_or steps k step → Reached network goal old steps k
      → TakesStep goal old new (step_of step) (Err e)
      → (fault_of k e ≡ Memory) ⊎ IsArgumentFault network goal (steps_of steps) (fault_of k e)
  reached_wrong (stop.Wrong fault) below is reached wrong =
      inr (inl (told_at step_of StepWrong (AreRight network goal (first_known network goal)) (IsWrongAfter network goal) steps k step fault (StepWrong k fault)
      below reached.right
      (subst (λ x. IsWrongStep network (known_by network goal (first_known network goal) (map step_of (take k steps))) (step_of x) fault) is
      (subst (λ known. IsWrongStep network known (step_of step) fault) reached.is
      (subst (λ n. IsWrongStep n (known_of old) (step_of step) fault) reached.same_network wrong))) refl))
  reached_wrong stop.Memory below is reached wrong = inl refl

all_taken : (network : Network) (goal : model.Goal) (known : Known) (steps : List Step) (k : ℕ) → length steps ≤ k → Reached network goal known steps k
    → AreRight network goal (first_known network goal) (steps_of steps)
    × (base_of known.view ≡ (known_by network goal (first_known network goal) (steps_of steps)).ground)
all_taken network goal known steps k done reached = (
  subst (λ xs. AreRight network goal (first_known network goal) (map step_of xs)) (take_all k steps done) reached.right,
  ap (λ (known : model.Known). known.ground)
      (reached.is ∙ ap (λ xs. known_by network goal (first_known network goal) (map step_of xs)) (take_all k steps done)),
)

pub argued : (network : Network) (goal : model.Goal) (known : Known) (steps : List Step) (k : ℕ) → length steps ≤ k → Reached network goal known steps k
    → IsSettled known.view.timing.now goal (view_of known.view) → Argues network goal (steps_of steps)
argued network goal known steps k done reached settles =
    let all = all_taken network goal known steps k done reached in
    concludes network goal (first_known network goal) (steps_of steps) all.0
    (subst (IsSettled network goal) (reached.ready.even ∙ all.1) (subst (λ n. IsSettled n goal (view_of known.view)) reached.same_network settles))

pub unfinished : (network : Network) (goal : model.Goal) (known : Known) (steps : List Step) (k : ℕ) (left : Open) → length steps ≤ k
    → Reached network goal known steps k → FindsOpen known.view.timing.now goal (view_of known.view) (Some left)
    → IsArgumentFault network goal (steps_of steps) (Unfinished (length steps) left)
unfinished network goal known steps k left done reached unsettled =
    let all = all_taken network goal known steps k done reached in
    inr (
      all.0,
      (λ settles. unsettled.0 (subst (λ n. IsSettled n goal (view_of known.view)) (sym reached.same_network)
          (subst (IsSettled network goal) (sym (reached.ready.even ∙ all.1)) settles))),
      (
        left,
        subst (λ v. IsOpen network goal v left) (reached.ready.even ∙ all.1)
            (subst (λ n. IsOpen n goal (view_of known.view) left) reached.same_network unsettled.1),
        ap (λ n. Unfinished n left) (sym (length-map steps step_of)),
      ),
    )

pub taken_wrong : (goal : model.Goal) (old new : Known) (shown : View) (step : model.Step) (e : Stop)
    → ShowsStep old.view shown (clauses_of old.clauses.items) step (Err e) → TakesStep goal old new step (Err e)
taken_wrong goal old new shown step (stop.Wrong fault) wrong = wrong
taken_wrong goal old new shown step stop.Memory wrong = tt

pub none_in : {X Y : Type 0} (f : X → Y) (xs : List X) → true ≡ (length xs == 0) → map f xs ≡ []
none_in f [] is = refl
none_in f (x ∷ xs) is = absurd (omega (arith, eqb-true (length (x ∷ xs)) 0 (sym is)))

pub some_in : {X Y : Type 0} (f : X → Y) (xs : List X) → false ≡ (length xs == 0) → map f xs ≢ []
some_in f [] is = λ same. absurd (false≢true is)
some_in f (x ∷ xs) is = λ same. absurd (cc)

-- the clause and the moves of the code are the step's
pub supposed_of : (old new : View) (xs ys : List Fact) → xs ≡ ys → Becomes old new (learned_all (view_of old) (map opposite (clause_of xs)))
    → Becomes old new (learned_all (view_of old) (map opposite (clause_of ys)))
supposed_of old new xs ys same become = subst (λ zs. Becomes old new (learned_all (view_of old) (map opposite (clause_of zs)))) same become

pub moves_of : (old new : View) (clauses : List (List model.Fact)) (xs ys : List Move) (r : Result Unit Stop) → xs ≡ ys
    → TakesMoves old new clauses (map move_of xs) r → TakesMoves old new clauses (map move_of ys) r
moves_of old new clauses xs ys r same taken = subst (λ zs. TakesMoves old new clauses (map move_of zs) r) same taken

pub shown_by_of : (old new : View) (xs ys : List (Bor (List Fact))) (step : model.Step) (r : Result Unit Stop) → xs ≡ ys
    → ShowsStep old new (clauses_of xs) step r → ShowsStep old new (clauses_of ys) step r
shown_by_of old new xs ys step r same shows = subst (λ zs. ShowsStep old new (clauses_of zs) step r) same shows
