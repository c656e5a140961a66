-- Decisions, as the checker keeps them: beside their list a set that has each of them once.
use Rattle.std.specs.Prelude.{◌↔◌, ℕ, ◌≤◌, List, length, take, Contains}
use Rattle.tsn_model.specs.declared.Decision.{Decision}

-- decisions on the ground and in the view
pub record Orders : Type 0 where
  pub base : List Decision
  pub view : List Decision

-- the two lists have the same decisions
abbrev pub HaveSame : List Decision → List Decision → Type 0
HaveSame one other = (decision : Decision) → Contains one decision ↔ Contains other decision

-- the set has the decisions of the list, and its first ones are those of the ground
pub record AreHeld (list : List Decision) (kept : ℕ) (set : List Decision) (set_kept : ℕ) : Type 0 where
  pub ground : kept ≤ length list
  pub set_ground : set_kept ≤ length set
  pub all : HaveSame set list
  pub of_ground : HaveSame (take set_kept set) (take kept list)
