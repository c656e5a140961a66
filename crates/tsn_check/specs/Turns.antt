-- The path of a walk in the code: its decisions, each with its arc.
--     IsTurn, decisions, arcs          a decision on a conflict with its arc, and those of a path
--     IsWalk                           a chain that was walked back from its end
--     places_at                        the open places, told by the path
use Rattle.std.specs.Prelude.{◌≡◌, ℕ, ◌<◌, List, [], ◌∷◌, map, Bool, if◌then◌else◌, All, pos, ◌+ℤ◌, ◌≤ℤ◌}
use Rattle.tsn_model.specs.declared.Arc.{Arc}
use Rattle.tsn_model.specs.declared.Decision.{Decision}
use Rattle.tsn_model.specs.Network.{Network, stream_count}
use Rattle.tsn_model.specs.Schedule.{IsConflict}
use Rattle.tsn_model.specs.Arcs.{arc_of, IsChainTo, start_of, chain_sum}
use Rattle.tsn_model.specs.Places.{pending}
use Rattle.tsn_check.specs.declared.path.Turn.{Turn}
use Rattle.tsn_timing.specs.declared.arc.ChainSum.{ChainSum}
use Rattle.tsn_timing.specs.Arcs.{IsSmall}

abbrev pub IsSmallTurn : Turn → Type 0
IsSmallTurn turn = IsSmall turn.arc

-- a decision on a conflict, with its arc, which begins at a stream of the network
pub record IsTurn (network : Network) (turn : Turn) : Type 0 where
  pub conflict : IsConflict network turn.decision.triple
  pub same_arc : turn.arc ≡ arc_of network turn.decision
  pub begins : turn.arc.from < stream_count network
  pub small : IsSmall turn.arc

abbrev pub AreTurns : Network → List Turn → Type 0
AreTurns network turns = All (IsTurn network) turns

abbrev pub decisions : List Turn → List Decision
decisions turns = map (λ turn. turn.decision) turns

abbrev pub arcs : List Turn → List Arc
arcs turns = map (λ turn. turn.arc) turns

-- a chain to a stream, where it begins, and its sum
pub record IsWalk (network_arcs : List Arc) (chain : List ℕ) (i : ℕ) (walk : ChainSum) : Type 0 where
  pub is_chain : IsChainTo network_arcs chain i
  pub begins : walk.start ≡ start_of network_arcs chain i
  pub adds : walk.sum ≡ chain_sum network_arcs chain
  pub low : pos 0 ≤ℤ (walk.sum +ℤ pos 154880000000)
  pub high : walk.sum ≤ℤ pos 154880000000

-- the open places where the end of this path is one of them, or where none is
abbrev pub places_at : Bool → List Decision → List (List Decision)
places_at open' path = if open' then path ∷ pending path else []
