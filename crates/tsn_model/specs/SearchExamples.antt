-- A whole search on the small network, by two tellers.
use Rattle.std.specs.Prelude.{◌≡◌, List, [], ◌∷◌, Some}
use Rattle.tsn_model.specs.declared.Side.TheVariants.{Left, Right}
use Rattle.tsn_model.specs.Certificate.{late, decided}
use Rattle.tsn_model.specs.Search.{Outcome, split, solved, pruned, tied, Settlement, open_paths, kept_of, IsLegal}
use Rattle.tsn_model.specs.Core.{State, initial_state, Step, observe, post, settle, IsQuiet}
use Rattle.tsn_model.specs.Replies.{IsUnmet, Reply, found, recorded, refused_for, not_allowed, not_open, AnswersAll}
use Rattle.tsn_model.specs.Examples.{small_network, shared, small_offsets, other_offsets}

unfoldable pub first_split : Settlement
first_split = record { teller = 0; event = record { path = []; outcome = split shared } }

unfoldable pub left_solved : Settlement
left_solved = record { teller = 0; event = record { path = decided [] shared Left; outcome = solved small_offsets 2924 (late 1 (0 ∷ [])) ([] ∷ (0 ∷ []) ∷ []) } }

unfoldable pub right_pruned : Settlement
right_pruned = record { teller = 1; event = record { path = decided [] shared Right; outcome = pruned 2924 (late 0 (0 ∷ [])) } }

-- on the right path the first stream starts later than what is kept has it
unfoldable pub right_tied : Settlement
right_tied = record { teller = 1; event = record { path = decided [] shared Right; outcome = tied 2924 (late 0 (0 ∷ [])) ((0 ∷ []) ∷ []) } }

unfoldable pub small_history : List Settlement
small_history = first_split ∷ left_solved ∷ right_tied ∷ []

-- it is legal, leaves nothing open, and keeps the offsets
pub record SmallSearch : Type 0 where
  pub legal : IsLegal small_network small_history
  pub finished : open_paths small_history ≡ []
  pub keeps : kept_of small_network small_history ≡ Some small_offsets

-- the same as steps, with a pruning by less than its teller has seen and one by no more, a posting by another teller, and a settling of a node that isn't open
unfoldable pub small_steps : List Step
small_steps =
    settle 0 first_split.event ∷ observe 1 ∷ settle 1 right_pruned.event ∷ settle 0 left_solved.event ∷ post 1 2924 ∷ post 0 2924 ∷ observe 1 ∷ settle 1 right_pruned.event
    ∷ settle 1 right_tied.event ∷ settle 1 right_tied.event ∷ []

unfoldable pub small_replies : List Reply
small_replies =
    recorded ∷ found 1000001 ∷ not_allowed ∷ recorded ∷ not_allowed ∷ found 1000001 ∷ found 2924 ∷ not_allowed ∷ recorded
    ∷ refused_for (not_open (Some 2)) ∷ []

-- two tellers take these steps with these replies, and come to a quiet state
pub record SmallRun : Type 0 where
  pub last : State
  pub answers : AnswersAll small_network 10 (initial_state small_network 2) small_steps small_replies last
  pub quiet : IsQuiet last
  pub word : last.word ≡ 2924

-- the other way round: on the right path the other schedule of that flowspan is solved first
unfoldable pub right_solved : Settlement
right_solved = record { teller = 0; event = record { path = decided [] shared Right; outcome = solved other_offsets 2924 (late 0 (0 ∷ [])) ((0 ∷ []) ∷ [] ∷ []) } }

unfoldable pub left_tied : Outcome
left_tied = tied 2924 (late 1 (0 ∷ [])) ([] ∷ (0 ∷ []) ∷ [])

-- it is kept, and a tie on the left path isn't met, on which the first stream starts sooner; what is solved there is kept in its place
pub record SmallOtherSearch : Type 0 where
  pub keeps : kept_of small_network (first_split ∷ right_solved ∷ []) ≡ Some other_offsets
  pub unmet : IsUnmet small_network (first_split ∷ right_solved ∷ []) (decided [] shared Left) left_tied
  pub keeps_first : kept_of small_network (first_split ∷ right_solved ∷ left_solved ∷ []) ≡ Some small_offsets
