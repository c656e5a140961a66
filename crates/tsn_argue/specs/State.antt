-- How the checker keeps what the definitions call a view and the ground.
--     view_of, base_of                 the view and the ground
--     IsSound                          what holds of the state
--     Becomes                          what the state becomes where the view changes
use Rattle.std.specs.Prelude.{◌≡◌, length, All, MatchBool}
use Rattle.tsn_model.specs.Network.{Network, stream_count}
use Rattle.tsn_model.specs.Schedule.{IsConflict}
use Rattle.tsn_model.specs.Argument as model
use Rattle.tsn_model.specs.Argument.{IsImpossible, IsBounded}
use Rattle.tsn_argue.specs.declared.view.View.{View}

abbrev pub view_of : View → model.View
view_of state = record { low = state.low.view; high = state.high.view; orders = state.orders.view; done_low = state.done.low; done_high = state.done.high }

abbrev pub base_of : View → model.View
base_of state = record { low = state.low.base; high = state.high.base; orders = state.orders.base; done_low = state.base_done.low; done_high = state.base_done.high }

-- there is a number for each stream, no number is out of the view's range, and decisions are on conflicts
pub record IsKept (network : Network) (view : model.View) : Type 0 where
  pub lows : length view.low ≡ stream_count network
  pub highs : length view.high ≡ stream_count network
  pub bounded : IsBounded network view
  pub conflicts : All (λ decision. IsConflict network decision.triple) view.orders

-- the view and the ground are kept, and it is told whether they are impossible
pub record IsSound (state : View) : Type 0 where
  pub view : IsKept state.timing.now (view_of state)
  pub base : IsKept state.timing.now (base_of state)
  pub crossed : MatchBool state.crossed (IsImpossible state.timing.now (view_of state)) (IsImpossible state.timing.now (view_of state) → ⊥)
  pub base_crossed : MatchBool state.base_crossed (IsImpossible state.timing.now (base_of state)) (IsImpossible state.timing.now (base_of state) → ⊥)

-- the view becomes another one, and the ground stays
pub record Becomes (old new : View) (after : model.View) : Type 0 where
  pub sound : IsSound new
  pub network : new.timing.now ≡ old.timing.now
  pub base : base_of new ≡ base_of old
  pub view : view_of new ≡ after
