-- What is found of the steps of an argument.
--     goal_of, IsAim                                       what is to be shown
--     known_of, IsReady, IsFirst                           what is known between two steps
--     FindsOpen                                            whether a view settles the goal, or what it leaves in question
--     JudgesFacts, TakesMoves, ShowsStep, TakesStep        what becomes of a step, or what is wrong with it
use Rattle.std.specs.Prelude.{◌≡◌, ℕ, ◌<◌, List, [], ◌∷◌, ◌++◌, length, slice_index_or, ℤ, pos, ◌≤ℤ◌, ◌<ℤ◌, All, Result, Ok, Err, Option, Some, None}
use Rattle.tsn_model.specs.Network.{Network}
use Rattle.tsn_model.specs.Schedule.{IsValid, flowspan, offset_of}
use Rattle.tsn_model.specs.Argument as model
use Rattle.tsn_model.specs.Argument.{goal_first, goal_least, goal_none, IsFact, IsImpossible, low_at, learned, learned_all, narrowed, IsAllowed, AreAllowed, shown, capped, first_ground, ended, IsRight, IsSettled, known_after}
use Rattle.tsn_argue.specs.Faults.{IsWrongFact, IsWrongNext, IsFactFault, IsMoveFault, IsWrongStep, IsBelow, IsOpen, known_from, first_known}
use Rattle.tsn_argue.specs.State.{view_of, base_of, IsSound, Becomes}
use Rattle.tsn_argue.specs.Motion.{clauses_of, AreFacts}
use Rattle.tsn_argue.specs.declared.aim.Aim.{Aim}
use Rattle.tsn_argue.specs.declared.aim.Aim.TheVariants as aim
use Rattle.tsn_argue.specs.declared.aim.Stop.{Stop}
use Rattle.tsn_argue.specs.declared.aim.Stop.TheVariants as stop
use Rattle.tsn_check.specs.declared.wrong.Wrong.{Wrong}
use Rattle.tsn_check.specs.declared.argument.StepFault.{StepFault}
use Rattle.tsn_check.specs.declared.argument.StepFault.TheVariants as of_step
use Rattle.tsn_check.specs.declared.argument.Open.{Open}
use Rattle.tsn_check.specs.declared.argument.ArgumentFault.{ArgumentFault}
use Rattle.tsn_check.specs.declared.argument.ArgumentFault.TheVariants as why
use Rattle.tsn_argue.specs.declared.step.Known.{Known}
use Rattle.tsn_argue.specs.declared.view.View.{View}

-- ---- what is to be shown

abbrev pub goal_of : Aim → model.Goal
goal_of (aim.First plan span) = goal_first plan.now
goal_of (aim.Least plan span) = goal_least plan.now
goal_of aim.None = goal_none

-- the plan is a valid schedule of the network, and the flowspan is its own
abbrev pub IsAim : Network → Aim → Type 0
IsAim network (aim.First plan span) = IsValid network plan.now × (span ≡ flowspan network plan.now)
IsAim network (aim.Least plan span) = IsValid network plan.now × (span ≡ flowspan network plan.now)
IsAim network aim.None = Unit {0}

-- the fault, where the steps end at step k
abbrev pub fault_of : ℕ → Stop → ArgumentFault
fault_of k (stop.Wrong fault) = why.Step k fault
fault_of k stop.Memory = why.Memory

-- ---- views

-- some least number is above the greatest one
abbrev pub AreCrossed : List ℤ → List ℤ → Type 0
AreCrossed lows highs = (i : ℕ) × (i < length lows) × (slice_index_or highs i (pos 0) <ℤ slice_index_or lows i (pos 0))

-- the view and the ground before the first step
pub record IsFirstView (network : Network) (goal : model.Goal) (state : View) : Type 0 where
  pub sound : IsSound state
  pub same_network : state.timing.now ≡ network
  pub base : base_of state ≡ first_ground network goal
  pub even : view_of state ≡ base_of state

-- the view with no offset above the plan's, up to the first whose least isn't the plan's
abbrev pub capped_view : List ℕ → model.View → model.View
capped_view plan view = record view { high = capped plan view.low view.high }

-- no offset can be below that of the plan, or the first stream is told whose offset can
abbrev pub Reaches : model.View → List ℕ → Type 0
Reaches view plan = (i : ℕ) → i < length plan → pos (offset_of plan i) ≤ℤ low_at view i

abbrev pub FindsBelow : List ℕ → model.View → Option Open → Type 0
FindsBelow plan view None = Reaches view plan
FindsBelow plan view (Some left) = IsBelow plan view left

-- the view settles the goal, or it is told what is left in question
abbrev pub FindsOpen : Network → model.Goal → model.View → Option Open → Type 0
FindsOpen network goal view None = IsSettled network goal view
FindsOpen network goal view (Some left) = (IsSettled network goal view → ⊥) × IsOpen network goal view left

-- ---- between two steps

abbrev pub known_of : Known → model.Known
known_of known = known_from (base_of known.view) (clauses_of known.clauses.items)

pub record IsReady (known : Known) : Type 0 where
  pub sound : IsSound known.view
  pub even : view_of known.view ≡ base_of known.view
  pub facts : AreFacts known.view.timing.now (clauses_of known.clauses.items)

pub record IsFirst (network : Network) (goal : model.Goal) (known : Known) : Type 0 where
  pub ready : IsReady known
  pub same_network : known.view.timing.now ≡ network
  pub is : known_of known ≡ first_known network goal

-- ---- a step

abbrev pub JudgesFact : Network → model.Fact → Result Unit Wrong → Type 0
JudgesFact network fact (Ok _) = IsFact network fact
JudgesFact network fact (Err wrong) = IsWrongFact network fact wrong

abbrev pub JudgesFacts : Network → List model.Fact → Result Unit StepFault → Type 0
JudgesFacts network clause (Ok _) = All (IsFact network) clause
JudgesFacts network clause (Err fault) = IsFactFault network clause fault

-- the move of number k may be made, and the view becomes what it shows; or it comes too late, or is wrong
abbrev pub TakesMove : View → View → List (List model.Fact) → ℕ → model.Move → Result Unit Stop → Type 0
TakesMove old new clauses k move (Ok _) =
    (IsImpossible old.timing.now (view_of old) → ⊥) × IsAllowed old.timing.now clauses (view_of old) move
    × Becomes old new (learned_all (view_of old) (shown old.timing.now clauses (view_of old) move))
TakesMove old new clauses k move (Err (stop.Wrong fault)) =
    (wrong : Wrong) × IsWrongNext old.timing.now clauses (view_of old) [] move wrong × (fault ≡ of_step.Move k wrong)
TakesMove old new clauses k move (Err stop.Memory) = Unit {0}

abbrev pub TakesMoves : View → View → List (List model.Fact) → List model.Move → Result Unit Stop → Type 0
TakesMoves old new clauses moves (Ok _) = AreAllowed old.timing.now clauses (view_of old) moves × Becomes old new (narrowed old.timing.now clauses (view_of old) moves)
TakesMoves old new clauses moves (Err (stop.Wrong fault)) = IsMoveFault old.timing.now clauses (view_of old) moves fault
TakesMoves old new clauses moves (Err stop.Memory) = Unit {0}

-- what is known, where the view is the ground
abbrev pub known_on : View → List (List model.Fact) → model.Known
known_on state clauses = known_from (base_of state) clauses

abbrev pub ShowsStep : View → View → List (List model.Fact) → model.Step → Result Unit Stop → Type 0
ShowsStep old new clauses step (Ok _) = IsRight old.timing.now (known_on old clauses) step × Becomes old new (ended old.timing.now (known_on old clauses) step)
ShowsStep old new clauses step (Err (stop.Wrong fault)) = IsWrongStep old.timing.now (known_on old clauses) step fault
ShowsStep old new clauses step (Err stop.Memory) = Unit {0}

-- the view before what the goal adds: where the clause is empty as it is, and else the ground, with the fact if it is one alone
abbrev pub view_with : model.View → model.View → List model.Fact → model.View
view_with base view [] = view
view_with base view (fact ∷ []) = learned base fact
view_with base view (fact ∷ other ∷ facts) = base

abbrev pub clauses_with : List (List model.Fact) → List model.Fact → List (List model.Fact)
clauses_with clauses [] = clauses
clauses_with clauses (fact ∷ facts) = clauses ++ (fact ∷ facts) ∷ []

pub record KeepsClause (old new : Known) (clause : List model.Fact) : Type 0 where
  pub sound : IsSound new.view
  pub network : new.view.timing.now ≡ old.view.timing.now
  pub base : base_of new.view ≡ base_of old.view
  pub view : view_of new.view ≡ view_with (base_of old.view) (view_of old.view) clause
  pub clauses : clauses_of new.clauses.items ≡ clauses_with (clauses_of old.clauses.items) clause

abbrev pub TakesStep : model.Goal → Known → Known → model.Step → Result Unit Stop → Type 0
TakesStep goal old new step (Ok _) =
    IsRight old.view.timing.now (known_of old) step × (known_of new ≡ known_after old.view.timing.now goal (known_of old) step)
    × IsReady new × (new.view.timing.now ≡ old.view.timing.now)
TakesStep goal old new step (Err (stop.Wrong fault)) = IsWrongStep old.view.timing.now (known_of old) step fault
TakesStep goal old new step (Err stop.Memory) = Unit {0}
