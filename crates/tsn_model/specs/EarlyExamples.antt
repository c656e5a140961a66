-- The small network where frames may be ready early on the link to C, worked out by hand.
use Rattle.std.specs.Prelude.{ℕ, ◌≤◌, ◌↔◌, ◌==◌, if◌then◌else◌, List, [], ◌∷◌}
use Rattle.tsn_model.specs.Schedule.{offset_of}
use Rattle.tsn_model.specs.Network.{route_of}
use Rattle.tsn_model.specs.Bridge.{LinkGates, HasWantedGates, Passage, BridgeRun, StartedAt, planned, StartsOnTime}
use Rattle.tsn_model.specs.Failures.{IsBridgeRunWithout, IsIntact}
use Rattle.tsn_model.specs.Early.{IsEarlyRunWithout, IsEarlyRun, ToleratesOn, Tolerates}
use Rattle.tsn_model.specs.Tolerance.{AreStartsOn}
use Rattle.tsn_model.specs.Examples.{small_network, small_offsets}

-- both frames are sent at their offsets, and start on the link to C at these instants
unfoldable pub sent_on : ℕ → ℕ → BridgeRun
sent_on first second = record {
  scheduled =
      record { passage = record { stream = 0; shift = 0; cycle = 0; hop = 0 }; time = 0 }
      ∷ record { passage = record { stream = 1; shift = 0; cycle = 0; hop = 0 }; time = 672 }
      ∷ record { passage = record { stream = 0; shift = 0; cycle = 0; hop = 1 }; time = first }
      ∷ record { passage = record { stream = 1; shift = 0; cycle = 0; hop = 1 }; time = second } ∷ [];
  background = [];
}

-- the first frame is ready there at 1626, as planned, and the second one, planned for 2298, at this instant
unfoldable pub ready_from : ℕ → Passage → ℕ
ready_from second passage = if passage.hop == 0 then offset_of small_offsets passage.stream else if passage.stream == 0 then 1626 else second

-- On the link to C frames are planned to start at 1626 and 2298. It tolerates a slack of 671 ns, and no greater one. Where the second frame is ready 671 ns early, it still waits for its turn. Where it is ready 672 ns early, with the first one, it can go before it, through the first one's window, and the first frame is late.
pub record SmallEarly : Type 0 where
  pub starts : AreStartsOn small_network small_offsets 4 (1626 ∷ 2298 ∷ [])
  pub greatest : (slack : ℕ) → ToleratesOn small_network small_offsets 4 slack ↔ (slack ≤ 671)
  pub in_turn : (gates : List LinkGates) → HasWantedGates small_network small_offsets gates → IsEarlyRun small_network small_offsets gates 1 (λ link. 671) (ready_from 1627) (sent_on 1626 2298)
  pub swapped : (gates : List LinkGates) → HasWantedGates small_network small_offsets gates → IsEarlyRun small_network small_offsets gates 1 (λ link. 672) (ready_from 1626) (sent_on 2298 1626)
  pub late : StartsOnTime small_network small_offsets 1 (sent_on 2298 1626) → ⊥

-- the second frame alone is sent, and starts on the link to C at an instant
unfoldable pub sent_alone : ℕ → BridgeRun
sent_alone time = record {
  scheduled =
      record { passage = record { stream = 1; shift = 0; cycle = 0; hop = 0 }; time = 672 }
      ∷ record { passage = record { stream = 1; shift = 0; cycle = 0; hop = 1 }; time = time } ∷ [];
  background = [];
}

-- Where the first frame's link to the bridge has failed, and the second one is ready 671 ns early, it needn't wait: the first one's window is open, and touches its own. So by a slack that is tolerated, and by the gates that the plan asks for, it starts before its planned instant, though a whole way leads to the link. Where it isn't ready early it starts on time, as it does without failures.
pub record SmallLost : Type 0 where
  pub tolerated : Tolerates small_network small_offsets (λ link. 671)
  pub lost : (gates : List LinkGates) → HasWantedGates small_network small_offsets gates → IsEarlyRunWithout (0 ∷ []) small_network small_offsets gates 1 (λ link. 671) (ready_from 1627) (sent_alone 1627)
  pub whole : IsIntact (0 ∷ []) small_network (route_of small_network 1) 1
  pub kept : (gates : List LinkGates) → HasWantedGates small_network small_offsets gates → IsBridgeRunWithout (0 ∷ []) small_network small_offsets gates 1 (sent_alone 2298)
  pub sooner : StartedAt (sent_alone 1627) (record { stream = 1; shift = 0; cycle = 0; hop = 1 }) (planned small_network small_offsets (record { stream = 1; shift = 0; cycle = 0; hop = 1 })) → ⊥
