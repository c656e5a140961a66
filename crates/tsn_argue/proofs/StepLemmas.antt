-- Moves and steps one after another: one more behind others, and the first few of them.
--     narrowed-push, AreAllowed-push, AreAllowed-take, AreAllowed-at          moves on a view
--     known_by-push, AreRight-push, AreRight-take, AreRight-at                steps
--     concludes, concluded                                                    an argument is right where its steps are, and their end settles the goal
use Rattle.std.proofs.Common.{◌≡◌, ℕ, zero, suc, List, [], ◌∷◌, ◌++◌, take, Some, refl, subst}
use Rattle.std.specs.Prelude.{slice_get}
use Rattle.tsn_model.specs.Network.{Network}
use Rattle.tsn_model.specs.Argument.{Goal, Fact, View, Move, Step, Known, IsImpossible, IsAllowed, learned_all, shown, narrowed, AreAllowed, IsRight, known_after, IsSettled, Concludes}
use Rattle.tsn_argue.specs.Faults.{known_by, AreRight}

-- ---- moves

module _ (network : Network) (clauses : List (List Fact)) where
  pub narrowed-push : (view : View) (before : List Move) (move : Move)
      → narrowed network clauses view (before ++ move ∷ []) ≡ learned_all (narrowed network clauses view before)
      (shown network clauses (narrowed network clauses view before) move)
  unfolding narrowed
  narrowed-push view [] move = refl
  narrowed-push view (first ∷ before) move = narrowed-push (learned_all view (shown network clauses view first)) before move

  pub AreAllowed-push : (view : View) (before : List Move) (move : Move) → AreAllowed network clauses view before
      → (IsImpossible network (narrowed network clauses view before) → ⊥) → IsAllowed network clauses (narrowed network clauses view before) move
      → AreAllowed network clauses view (before ++ move ∷ [])
  unfolding narrowed
  AreAllowed-push view [] move are possible allowed = (possible, allowed, _)
  AreAllowed-push view (first ∷ before) move are possible allowed =
      (are.0, are.1, AreAllowed-push (learned_all view (shown network clauses view first)) before move are.2 possible allowed)

  -- each of the moves may be made behind those before it
  pub AreAllowed-at : (view : View) (moves : List Move) (k : ℕ) (move : Move) → AreAllowed network clauses view moves → slice_get moves k ≡ Some move
      → (IsImpossible network (narrowed network clauses view (take k moves)) → ⊥)
      × IsAllowed network clauses (narrowed network clauses view (take k moves)) move
  unfolding narrowed
  AreAllowed-at view [] zero move are at = cc
  AreAllowed-at view [] (suc k) move are at = cc
  AreAllowed-at view (first ∷ moves) zero move are at =
      let is : first ≡ move = cc in
      (are.0, subst (IsAllowed network clauses view) is are.1)
  AreAllowed-at view (first ∷ moves) (suc k) move are at = AreAllowed-at (learned_all view (shown network clauses view first)) moves k move are.2 at

-- ---- steps

module _ (network : Network) (goal : Goal) where
  pub known_by-push : (known : Known) (before : List Step) (step : Step)
      → known_by network goal known (before ++ step ∷ []) ≡ known_after network goal (known_by network goal known before) step
  unfolding known_by
  known_by-push known [] step = refl
  known_by-push known (first ∷ before) step = known_by-push (known_after network goal known first) before step

  pub AreRight-push : (known : Known) (before : List Step) (step : Step) → AreRight network goal known before
      → IsRight network (known_by network goal known before) step
      → AreRight network goal known (before ++ step ∷ [])
  unfolding known_by
  AreRight-push known [] step are right = (right, _)
  AreRight-push known (first ∷ before) step are right = (are.0, AreRight-push (known_after network goal known first) before step are.1 right)

  -- each of the steps is right behind those before it
  pub AreRight-at : (known : Known) (steps : List Step) (k : ℕ) (step : Step) → AreRight network goal known steps → slice_get steps k ≡ Some step
      → IsRight network (known_by network goal known (take k steps)) step
  unfolding known_by
  AreRight-at known [] zero step are at = cc
  AreRight-at known [] (suc k) step are at = cc
  AreRight-at known (first ∷ steps) zero step are at =
      let is : first ≡ step = cc in
      subst (IsRight network known) is are.0
  AreRight-at known (first ∷ steps) (suc k) step are at = AreRight-at (known_after network goal known first) steps k step are.1 at

  -- right steps whose end settles the goal are an argument
  pub concludes : (known : Known) (steps : List Step) → AreRight network goal known steps → IsSettled network goal (known_by network goal known steps).ground
      → Concludes network goal known steps
  unfolding known_by
  concludes known [] are settles = settles
  concludes known (first ∷ steps) are settles = (are.0, concludes (known_after network goal known first) steps are.1 settles)

  -- and the other way round
  pub concluded : (known : Known) (steps : List Step) → Concludes network goal known steps
      → AreRight network goal known steps × IsSettled network goal (known_by network goal known steps).ground
  unfolding known_by
  concluded known [] is = (_, is)
  concluded known (first ∷ steps) is =
      let rest = concluded (known_after network goal known first) steps is.1 in
      ((is.0, rest.0), rest.1)
