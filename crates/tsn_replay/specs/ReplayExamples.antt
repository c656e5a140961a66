-- A small replay, worked out by hand: the two frames of `small_network` are sent at once through gates that are always open, and a background frame behind them.
use Rattle.std.specs.Prelude.{ℕ, List, [], ◌∷◌, ◌++◌}
use Rattle.tsn_model.specs.declared.GateEntry.{GateEntry}
use Rattle.tsn_model.specs.Bridge.{LinkGates, ScheduledStart, BackgroundStart, BridgeRun, Background, IsBridgeRun, IsFed}
use Rattle.tsn_model.specs.Bridge.Background.{frames}
use Rattle.tsn_model.specs.Examples.{small_network}

-- all classes are open for the whole cycle, on each link that a stream uses: those from A and from B, and that to C
unfoldable pub open_entries : List GateEntry
open_entries = record { interval = 1000000; octet = 255 } ∷ []

unfoldable pub open_gates : List LinkGates
open_gates = record { link = 0; entries = open_entries } ∷ record { link = 2; entries = open_entries } ∷ record { link = 4; entries = open_entries } ∷ []

-- both streams have the offset 0
unfoldable pub at_once : List ℕ
at_once = 0 ∷ 0 ∷ []

-- both frames start at once, on a link each, and on the link to C at these instants
abbrev pub small_starts : ℕ → ℕ → List ScheduledStart
small_starts first second =
    record { passage = record { stream = 0; shift = 0; cycle = 0; hop = 0 }; time = 0 }
    ∷ record { passage = record { stream = 1; shift = 0; cycle = 0; hop = 0 }; time = 0 }
    ∷ record { passage = record { stream = 0; shift = 0; cycle = 0; hop = 1 }; time = first }
    ∷ record { passage = record { stream = 1; shift = 0; cycle = 0; hop = 1 }; time = second } ∷ []

abbrev pub run_of : ℕ → ℕ → List BackgroundStart → BridgeRun
run_of first second background = record { scheduled = small_starts first second; background = background }

-- the first stream's frame starts on its first link once more
unfoldable pub run_with_twice : BridgeRun
run_with_twice = record { scheduled = small_starts 1626 2298 ++ record { passage = record { stream = 0; shift = 0; cycle = 0; hop = 0 }; time = 5000 } ∷ []; background = [] }

-- a background frame of 64 octets for the link to C, wanted from an instant on, and its start
abbrev pub one_frame : ℕ → Background
one_frame wanted = frames (record { link = 4; wanted = wanted; octets = 64 } ∷ [])

abbrev pub sent_at : ℕ → List BackgroundStart
sent_at time = record { link = 4; time = time; octets = 64; number = 0 } ∷ []

-- Both frames are ready on the link to C at 1626, and each occupies it for 672 ns. So the first stream's starts at once, the second's at 2298, and the background frame, wanted from 2000 on, at 2970.
-- It is no bridge run where the second frame starts 1 ns sooner or later, where the second stream's frame goes first, or where a frame starts once more.
pub record SmallRun : Type 0 where
  pub right : IsBridgeRun small_network at_once open_gates 1 (run_of 1626 2298 (sent_at 2970))
  pub early : IsBridgeRun small_network at_once open_gates 1 (run_of 1626 2297 []) → ⊥
  pub late : IsBridgeRun small_network at_once open_gates 1 (run_of 1626 2299 []) → ⊥
  pub other_first : IsBridgeRun small_network at_once open_gates 1 (run_of 2298 1626 []) → ⊥
  pub twice : IsBridgeRun small_network at_once open_gates 1 run_with_twice → ⊥

-- The background frame of that run is fed. One that starts 1 ns sooner meets the second frame; one that starts 1 ns later, or not at all, has waited though it could start; and none starts 1 ns before it is wanted.
pub record SmallBackground : Type 0 where
  pub right : IsFed small_network open_gates 1 (one_frame 2000) (run_of 1626 2298 (sent_at 2970))
  pub early : IsBridgeRun small_network at_once open_gates 1 (run_of 1626 2298 (sent_at 2969)) → ⊥
  pub late : IsFed small_network open_gates 1 (one_frame 2000) (run_of 1626 2298 (sent_at 2971)) → ⊥
  pub left_out : IsFed small_network open_gates 1 (one_frame 2000) (run_of 1626 2298 []) → ⊥
  pub unwanted : IsFed small_network open_gates 1 (one_frame 3000) (run_of 1626 2298 (sent_at 2999)) → ⊥
