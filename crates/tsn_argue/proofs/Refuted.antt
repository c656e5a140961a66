-- A plan and an argument with a first fault show nothing, and have no other first fault.
use Rattle.std.proofs.Common.{◌≡◌, ℕ, List, length, take, None, Some, All, inl, inr, sym, ap, ◌∙◌, subst, arith}
use Rattle.std.proofs.lemmas.Bool.{cases_lt}
use Rattle.std.proofs.lemmas.Int.{ints}
use Rattle.std.specs.Prelude.{slice_get}
use Rattle.tsn_model.specs.Network.{Network}
use Rattle.tsn_model.specs.Schedule.{offset_of}
use Rattle.tsn_model.specs.Argument.{from, until, order, done_from, done_until, goal_first, goal_least, goal_none, Goal, Fact, View, Move, Step, Known, low_at, IsFact, AreAllowed, narrowed, begun, IsRight, Argues}
use Rattle.tsn_argue.specs.First.{IsFirstTold}
use Rattle.tsn_argue.specs.Faults.{IsWrongFact, IsWrongNext, IsFactFault, IsMoveFault, IsWrongStep, known_by, AreRight, first_known, IsWrongAfter, IsBelow, IsOpen, IsArgumentFault, IsWrongPlan, IsWrongAim, IsWhy}
use Rattle.tsn_check.specs.declared.wrong.Wrong.{Wrong}
use Rattle.tsn_check.specs.declared.argument.StepFault.{StepFault}
use Rattle.tsn_check.specs.declared.argument.StepFault.TheVariants as of_step
use Rattle.tsn_check.specs.declared.argument.Open.{Open}
use Rattle.tsn_check.specs.declared.argument.Open.TheVariants as open_as
use Rattle.tsn_check.specs.declared.argument.ArgumentFault.{ArgumentFault}
use Rattle.tsn_check.specs.declared.argument.ArgumentFault.TheVariants as why
use Rattle.tsn_check.specs.declared.fault.CheckFault.{CheckFault}
use Rattle.tsn_check.specs.Numbers.{argument_code}
use Rattle.tsn_check.proofs.Plans.{claim_refutes, one_claim}
use Rattle.tsn_cert.specs.declared.plan.Plan.{Plan}
use Rattle.tsn_cert.specs.declared.argument.Argument.{Argument}
use Rattle.tsn_cert.specs.Argument.{steps_of}
use Rattle.tsn_argue.specs.Certified.{IsFitting, ArgumentCertifies}
use Rattle.tsn_argue.specs.Faults.{IsShowFault}
use Rattle.tsn_argue.proofs.FirstLemmas.{told_refutes, one_first_told, all_there}
use Rattle.tsn_argue.proofs.StepLemmas.{AreAllowed-at, AreRight-at, concluded}
use Rattle.tsn_argue.proofs.MoveFaults.{crossed, wrong_move, one_move}

-- ---- facts

wrong_fact : (network : Network) (fact : Fact) (fault : Wrong) → IsWrongFact network fact fault → IsFact network fact → ⊥
wrong_fact network (from i v) fault wrong is = let past = wrong.1 in omega (arith, past, is)
wrong_fact network (until i v) fault wrong is = let past = wrong.1 in omega (arith, past, is)
wrong_fact network (order decision) fault wrong is = wrong.1 is
wrong_fact network (done_from v) fault wrong is = wrong
wrong_fact network (done_until v) fault wrong is = wrong

pub facts_clash : (network : Network) (xs : List Fact) (k : ℕ) (x : Fact) (fault : Wrong) → All (IsFact network) xs → slice_get xs k ≡ Some x
    → IsWrongFact network x fault → ⊥
facts_clash network xs k x fault are at wrong = wrong_fact network x fault wrong (all_there (IsFact network) xs k x are at)

-- ---- moves

pub moves_clash : (network : Network) (clauses : List (List Fact)) (view : View) (xs : List Move) (k : ℕ) (x : Move) (fault : Wrong)
    → AreAllowed network clauses view xs
    → slice_get xs k ≡ Some x → IsWrongNext network clauses view (take k xs) x fault → ⊥
moves_clash network clauses view xs k x fault are at (inl late) = (AreAllowed-at network clauses view xs k x are at).0 late.0
moves_clash network clauses view xs k x fault are at (inr wrong) =
    wrong_move network clauses (narrowed network clauses view (take k xs)) x fault wrong.1 (AreAllowed-at network clauses view xs k x are at).1

-- ---- steps

pub wrong_step : (network : Network) (known : Known) (step : Step) (fault : StepFault) → IsWrongStep network known step fault → IsRight network known step → ⊥
wrong_step network known step fault (inl late) right = right.open_ground late.0
wrong_step network known step fault (inr (inl wrong)) right =
    told_refutes (All (IsFact network)) (λ before. IsWrongFact network) (facts_clash network) of_step.Fact step.clause fault wrong.1 right.facts
wrong_step network known step fault (inr (inr (inl wrong))) right =
    told_refutes (AreAllowed network known.clauses (begun known step)) (IsWrongNext network known.clauses (begun known step))
    (moves_clash network known.clauses (begun known step)) of_step.Move step.moves fault wrong.2 right.moves
wrong_step network known step fault (inr (inr (inr wrong))) right = elim right.shows [ inl empty ↦ wrong.3 empty | inr shown ↦ wrong.4 shown ]

pub steps_clash : (network : Network) (goal : Goal) (xs : List Step) (k : ℕ) (x : Step) (fault : StepFault)
    → AreRight network goal (first_known network goal) xs
    → slice_get xs k ≡ Some x → IsWrongAfter network goal (take k xs) x fault → ⊥
steps_clash network goal xs k x fault are at wrong =
    wrong_step network (known_by network goal (first_known network goal) (take k xs)) x fault wrong
    (AreRight-at network goal (first_known network goal) xs k x are at)

pub argument_refuted : (network : Network) (goal : Goal) (steps : List Step) (fault : ArgumentFault) → IsArgumentFault network goal steps fault
    → Argues network goal steps → ⊥
argument_refuted network goal steps fault (inl wrong) argues =
    told_refutes (AreRight network goal (first_known network goal)) (IsWrongAfter network goal) (steps_clash network goal) why.Step steps fault wrong
    (concluded network goal (first_known network goal) steps argues).0
argument_refuted network goal steps fault (inr unsettled) argues = unsettled.1 (concluded network goal (first_known network goal) steps argues).1

-- ---- of two faults

one_fact : (network : Network) (fact : Fact) (a b : Wrong) → IsWrongFact network fact a → IsWrongFact network fact b → a ≡ b
one_fact network (from i v) a b one two = one.0 ∙ sym two.0
one_fact network (until i v) a b one two = one.0 ∙ sym two.0
one_fact network (order decision) a b one two = one.0 ∙ sym two.0
one_fact network (done_from v) a b one two = absurd one
one_fact network (done_until v) a b one two = absurd one

one_next : (network : Network) (clauses : List (List Fact)) (view : View) (before : List Move) (move : Move) (a b : Wrong)
    → IsWrongNext network clauses view before move a
    → IsWrongNext network clauses view before move b → a ≡ b
one_next network clauses view before move a b (inl one) (inl two) = one.1 ∙ sym two.1
one_next network clauses view before move a b (inl one) (inr two) = absurd (two.0 one.0)
one_next network clauses view before move a b (inr one) (inl two) = absurd (one.0 two.0)
one_next network clauses view before move a b (inr one) (inr two) = one_move network clauses (narrowed network clauses view before) move a b one.1 two.1

module _ (network : Network) (known : Known) (step : Step) where
  no_fact : (fault : StepFault) → IsFactFault network step.clause fault → All (IsFact network) step.clause → ⊥
  no_fact fault = told_refutes (All (IsFact network)) (λ before. IsWrongFact network) (facts_clash network) of_step.Fact step.clause fault

  no_move : (fault : StepFault) → IsMoveFault network known.clauses (begun known step) step.moves fault
      → AreAllowed network known.clauses (begun known step) step.moves → ⊥
  no_move fault =
      told_refutes (AreAllowed network known.clauses (begun known step)) (IsWrongNext network known.clauses (begun known step))
      (moves_clash network known.clauses (begun known step)) of_step.Move step.moves fault

  one_step : (a b : StepFault) → IsWrongStep network known step a → IsWrongStep network known step b → a ≡ b
  one_step a b (inl one) (inl two) = one.1 ∙ sym two.1
  one_step a b (inl one) (inr (inl two)) = absurd (two.0 one.0)
  one_step a b (inl one) (inr (inr (inl two))) = absurd (two.0 one.0)
  one_step a b (inl one) (inr (inr (inr two))) = absurd (two.0 one.0)
  one_step a b (inr (inl one)) (inl two) = absurd (one.0 two.0)
  one_step a b (inr (inr (inl one))) (inl two) = absurd (one.0 two.0)
  one_step a b (inr (inr (inr one))) (inl two) = absurd (one.0 two.0)
  one_step a b (inr (inl one)) (inr (inl two)) =
      one_first_told (All (IsFact network)) (λ before. IsWrongFact network) (facts_clash network) of_step.Fact (λ before. one_fact network) step.clause a b
      one.1 two.1
  one_step a b (inr (inl one)) (inr (inr (inl two))) = absurd (no_fact a one.1 two.1)
  one_step a b (inr (inl one)) (inr (inr (inr two))) = absurd (no_fact a one.1 two.1)
  one_step a b (inr (inr (inl one))) (inr (inl two)) = absurd (no_fact b two.1 one.1)
  one_step a b (inr (inr (inr one))) (inr (inl two)) = absurd (no_fact b two.1 one.1)
  one_step a b (inr (inr (inl one))) (inr (inr (inl two))) =
      one_first_told (AreAllowed network known.clauses (begun known step)) (IsWrongNext network known.clauses (begun known step))
      (moves_clash network known.clauses (begun known step)) of_step.Move (one_next network known.clauses (begun known step)) step.moves a b one.2 two.2
  one_step a b (inr (inr (inl one))) (inr (inr (inr two))) = absurd (no_move a one.2 two.2)
  one_step a b (inr (inr (inr one))) (inr (inr (inl two))) = absurd (no_move b two.2 one.2)
  one_step a b (inr (inr (inr one))) (inr (inr (inr two))) = one.5 ∙ sym two.5

one_below : (plan : List ℕ) (view : View) (a b : Open) → IsBelow plan view a → IsBelow plan view b → a ≡ b
one_below plan view a b one two =
    let same : one.0 ≡ two.0 = elim (cases_lt one.0 two.0) [
      | inl below ↦ let known = two.1.before one.0 below in let low = one.1.below in absurd (omega (arith, ints, known, low))
      | inr above ↦ elim (cases_lt two.0 one.0) [
        | inl below ↦ let known = one.1.before two.0 below in let low = two.1.below in absurd (omega (arith, ints, known, low))
        | inr past ↦ omega arith
      ]
    ] in
    one.2 ∙ ap (λ i. open_as.Offset i (low_at view i) (offset_of plan i)) same ∙ sym two.2

one_open : (network : Network) (goal : Goal) (view : View) (a b : Open) → IsOpen network goal view a → IsOpen network goal view b → a ≡ b
one_open network (goal_first plan) view a b (inl one) (inl two) = one.1 ∙ sym two.1
one_open network (goal_first plan) view a b (inl one) (inr two) = absurd (crossed _ _ two.0 one.0)
one_open network (goal_first plan) view a b (inr one) (inl two) = absurd (crossed _ _ one.0 two.0)
one_open network (goal_first plan) view a b (inr one) (inr two) = one_below plan view a b one.1 two.1
one_open network (goal_least plan) view a b one two = one ∙ sym two
one_open network goal_none view a b one two = one ∙ sym two

module _ (network : Network) (goal : Goal) (steps : List Step) where
  no_step : (fault : ArgumentFault) → IsFirstTold why.Step (AreRight network goal (first_known network goal)) (IsWrongAfter network goal) steps fault
      → AreRight network goal (first_known network goal) steps → ⊥
  no_step fault = told_refutes (AreRight network goal (first_known network goal)) (IsWrongAfter network goal) (steps_clash network goal) why.Step steps fault

  pub one_argument_fault : (a b : ArgumentFault) → IsArgumentFault network goal steps a → IsArgumentFault network goal steps b → a ≡ b
  one_argument_fault a b (inl one) (inl two) =
      one_first_told (AreRight network goal (first_known network goal)) (IsWrongAfter network goal) (steps_clash network goal) why.Step
      (λ before. one_step network (known_by network goal (first_known network goal) before)) steps a b one two
  one_argument_fault a b (inl one) (inr two) = absurd (no_step a one two.0)
  one_argument_fault a b (inr one) (inl two) = absurd (no_step b two one.0)
  one_argument_fault a b (inr one) (inr two) =
      let left = one_open network goal _ one.2.0 two.2.0 one.2.1 two.2.1 in
      one.2.2 ∙ ap (why.Unfinished (length steps)) left ∙ sym two.2.2

-- ---- of a plan and an argument

same_goal : (network : Network) (p : Plan) (argument : Argument) (g h : Goal) → IsFitting network p argument g → IsFitting network p argument h → g ≡ h
same_goal network p argument g h one two =
    let both : Some g ≡ Some h = sym one.1 ∙ two.1 in
    cc both

aim_refuted : (network : Network) (p : Plan) (argument : Argument) (fault : ArgumentFault) (goal : Goal) → IsWrongAim network p argument fault
    → IsFitting network p argument goal → ⊥
aim_refuted network p argument fault goal (inl target) fits = target.0 fits.0
aim_refuted network p argument fault goal (inr unfit) fits =
    let both : None ≡ Some goal = sym unfit.1 ∙ fits.1 in
    cc both

pub why_refuted : (network : Network) (p : Plan) (argument : Argument) (fault : ArgumentFault) → IsWhy network p argument fault
    → ArgumentCertifies network p argument → ⊥
why_refuted network p argument fault (inl claim) shows = claim_refutes network p claim.0 claim.1 shows.plan_right
why_refuted network p argument fault (inr (inl unfit)) shows = aim_refuted network p argument fault shows.goal unfit.1 shows.fitting
why_refuted network p argument fault (inr (inr wrong)) shows =
    let same = same_goal network p argument wrong.1.0 shows.goal wrong.1.1 shows.fitting in
    argument_refuted network shows.goal (steps_of argument.steps) fault
    (subst (λ g. IsArgumentFault network g (steps_of argument.steps) fault) same wrong.1.2) shows.argues

one_plan : (network : Network) (p : Plan) (a b : ArgumentFault) → IsWrongPlan network p a → IsWrongPlan network p b → a ≡ b
one_plan network p a b one two = one.2 ∙ ap why.Plan (one_claim network p one.0 two.0 one.1 two.1) ∙ sym two.2

one_aim : (network : Network) (p : Plan) (argument : Argument) (a b : ArgumentFault) → IsWrongAim network p argument a → IsWrongAim network p argument b → a ≡ b
one_aim network p argument a b (inl one) (inl two) = one.1 ∙ sym two.1
one_aim network p argument a b (inl one) (inr two) = absurd (one.0 two.0)
one_aim network p argument a b (inr one) (inl two) = absurd (two.0 one.0)
one_aim network p argument a b (inr one) (inr two) = one.2 ∙ sym two.2

pub one_why : (network : Network) (p : Plan) (argument : Argument) (a b : ArgumentFault) → IsWhy network p argument a → IsWhy network p argument b → a ≡ b
one_why network p argument a b (inl one) (inl two) = one_plan network p a b one two
one_why network p argument a b (inl one) (inr (inl two)) = absurd (claim_refutes network p one.0 one.1 two.0)
one_why network p argument a b (inl one) (inr (inr two)) = absurd (claim_refutes network p one.0 one.1 two.0)
one_why network p argument a b (inr (inl one)) (inl two) = absurd (claim_refutes network p two.0 two.1 one.0)
one_why network p argument a b (inr (inr one)) (inl two) = absurd (claim_refutes network p two.0 two.1 one.0)
one_why network p argument a b (inr (inl one)) (inr (inl two)) = one_aim network p argument a b one.1 two.1
one_why network p argument a b (inr (inl one)) (inr (inr two)) = absurd (aim_refuted network p argument a two.1.0 one.1 two.1.1)
one_why network p argument a b (inr (inr one)) (inr (inl two)) = absurd (aim_refuted network p argument b one.1.0 two.1 one.1.1)
one_why network p argument a b (inr (inr one)) (inr (inr two)) =
    let same = same_goal network p argument one.1.0 two.1.0 one.1.1 two.1.1 in
    one_argument_fault network two.1.0 (steps_of argument.steps) a b
    (subst (λ g. IsArgumentFault network g (steps_of argument.steps) a) same one.1.2) two.1.2

pub shows_refuted : (network : Network) (p : Plan) (argument : Argument) (fault : CheckFault) → IsShowFault network p argument fault
    → ArgumentCertifies network p argument → ⊥
shows_refuted network p argument fault shown = why_refuted network p argument shown.0 shown.1

pub one_show_fault : (network : Network) (p : Plan) (argument : Argument) (a b : CheckFault) → IsShowFault network p argument a
    → IsShowFault network p argument b → a ≡ b
one_show_fault network p argument a b one two = one.2 ∙ ap argument_code (one_why network p argument one.0 two.0 one.1 two.1) ∙ sym two.2
