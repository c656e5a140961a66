-- What an observer is told of the steps of an argument.
--     Event, with_told                                  what it may be told, and what it has heard then
--     told_moves, told_shown, told_step, told_steps     what it is told of moves and of steps that are right
--     told_of                                           what it is told of an argument of a plan
--     IsMade                                            the move may be made on the view, and shows these facts
use Rattle.std.specs.Prelude.{◌≡◌, List, [], ◌∷◌, ◌++◌, Option, Some, None}
use Rattle.tsn_model.specs.Network.{Network}
use Rattle.tsn_model.specs.Argument.{Goal, Fact, View, Move, Step, Known, IsImpossible, IsAllowed, learned_all, shown, begun, ended, known_after}
use Rattle.tsn_argue.specs.Faults.{first_known}

-- a step begins on the ground, a move is made on a view and shows these facts, a step ends with a view
pub data Event : Type 0 where
  begins : View → Step → Event
  makes : View → Move → List Fact → Event
  ends : View → Step → Event

-- what was heard with more that is told, where the observer can tell it
abbrev pub with_told : Option (List Event) → List Event → Option (List Event)
with_told None events = None
with_told (Some heard) events = Some (heard ++ events)

-- each of the moves is made, in their order, on what those before it left of the view
unfoldable pub told_moves : Network → List (List Fact) → View → List Move → List Event
told_moves network clauses view [] = []
told_moves network clauses view (move ∷ moves) =
    makes view move (shown network clauses view move) ∷ told_moves network clauses (learned_all view (shown network clauses view move)) moves

-- the step begins, and its moves are made
unfoldable pub told_shown : Network → Known → Step → List Event
told_shown network known step = begins known.ground step ∷ told_moves network known.clauses (begun known step) step.moves

-- and it ends
unfoldable pub told_step : Network → Known → Step → List Event
told_step network known step = told_shown network known step ++ ends (ended network known step) step ∷ []

-- one step after another
unfoldable pub told_steps : Network → Goal → Known → List Step → List Event
told_steps network goal known [] = []
told_steps network goal known (step ∷ steps) = told_step network known step ++ told_steps network goal (known_after network goal known step) steps

-- all steps of an argument
abbrev pub told_of : Network → Goal → List Step → List Event
told_of network goal steps = told_steps network goal (first_known network goal) steps

-- the move may be made on the view, which isn't impossible, and shows these facts
pub record IsMade (network : Network) (clauses : List (List Fact)) (view : View) (move : Move) (facts : List Fact) : Type 0 where
  pub possible : IsImpossible network view → ⊥
  pub allowed : IsAllowed network clauses view move
  pub shows : facts ≡ shown network clauses view move
