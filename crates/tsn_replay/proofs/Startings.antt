-- The start of a scheduled frame keeps the state of a replay, said of what the code reads and computes.
use Rattle.std.proofs.Common.{◌≡◌, ℕ, ◌+◌, ◌-◌, ◌≤◌, ◌<◌, ◌^◌, Vec, Global, All, length, get_or, slice_set, sum_by, Some, refl, sym, ap, ◌∙◌, subst, arith}
use Rattle.std.specs.Vec.{with_item}
use Rattle.tsn_model.specs.Network.{stream_count, route_of, hop_count, route_link, Continues}
use Rattle.tsn_model.specs.Timing.{occupancy}
use Rattle.tsn_model.specs.Bridge.{LinkGates, BridgeRun}
use Rattle.tsn_replay.specs.declared.queue.Frame.{Frame}
use Rattle.tsn_replay.specs.declared.engine.State.{State}
use Rattle.tsn_replay.specs.declared.queue.Stage.TheVariants.{Queued}
use Rattle.tsn_replay.specs.Queue.{IsOneVisit, frame_in, passage_of}
use Rattle.tsn_replay.specs.Ports.{IsFirstPort, port_in}
use Rattle.tsn_replay.specs.Progress.{Setting, IsSetting, IsUnderWay, IsPortAt, IsState, IsOnward, AreMoved, arrived}
use Rattle.tsn_replay.proofs.PassageStarts.{with_passage}
use Rattle.tsn_replay.proofs.Steps.{read_frame}
use Rattle.tsn_replay.proofs.Stepping.{link, link_is, below, waiting_below, hop_below, stream_below, sooner_here, started_under_way, started_falls, started_others}

module _ (setting : Setting) (state : State) (can : IsSetting setting) (is : IsState setting state) (number : ℕ) (first : IsFirstPort state.ports state.end number)
    (waiting : ℕ) (head : (port_in state.ports number).head ≡ Some waiting) (time : ℕ) (time_is : (port_in state.ports number).scheduled ≡ time) (order : time ≤ (port_in state.ports number).background)
    (frame : Frame) (read : frame ≡ get_or state.frames.items waiting frame) where
  frame_is : frame ≡ frame_in state.frames.items waiting
  frame_is = read_frame state.frames.items waiting frame (waiting_below setting state can is number first waiting head time time_is order) read

  pub starting_stream : frame.stream < stream_count setting.network
  starting_stream = subst (λ (f : Frame). f.stream < stream_count setting.network) (sym frame_is) (stream_below setting state can is number first waiting head time time_is order)

  pub starting_hop : frame.hop < hop_count setting.network frame.stream
  starting_hop = subst (λ (f : Frame). f.hop < hop_count setting.network f.stream) (sym frame_is)
      (hop_below setting state can is number first waiting head time time_is order)

  -- a frame that waits where this one comes to is ready before it can be
  pub starting_sooner : (before other : ℕ) → other < length state.frames.items → other ≡ before + 1
      → IsOnward setting.network (passage_of (frame_in state.frames.items waiting)) (passage_of (frame_in state.frames.items other))
      → IsOneVisit (frame_in state.frames.items before) (frame_in state.frames.items other)
      → (frame_in state.frames.items before).stage ≡ Queued
      → (frame_in state.frames.items before).ready < (arrived setting.network (frame_in state.frames.items waiting) time
      (frame_in state.frames.items other)).ready
  starting_sooner before other below next onward one queued =
      sooner_here setting state can is number first waiting head time time_is order before other (omega arith) below onward one queued

  pub starting_below : waiting < length state.frames.items
  starting_below = waiting_below setting state can is number first waiting head time time_is order

  module _ (frames : Vec Frame Global) (are : AreMoved setting.network setting.slack state.frames.items waiting time frames.items)
      (early : All (λ (f : Frame). f.ready ≤ 2 ^ 50) frames.items) (list : LinkGates) (at : ℕ)
      (at_is : at ≡ (get_or setting.gates number list).link)
      (duration : ℕ) (duration_is : duration ≡ occupancy setting.network frame.stream at) (some : 1 ≤ duration)
      (short : duration ≤ 1233600) (starts : BridgeRun) (starts_are : starts ≡ with_passage state.starts (passage_of frame) time) where
    -- on the link of its list, until the wire is free again
    on : link setting state can is number first ≡ at
    on = sym (at_is ∙ link_is setting state can is number list (below setting state can is number first))

    occupies : duration ≡ occupancy setting.network frame.stream (link setting state can is number first)
    occupies = duration_is ∙ ap (occupancy setting.network frame.stream) (sym on)

    abbrev after : State
    after = record state { time = time; frames = frames; free = with_item state.free at (time + duration); starts = starts }

    pub starting_under_way : IsUnderWay setting after
    starting_under_way = started_under_way setting state can is number first waiting head time time_is order
        frame frame_is duration occupies some short frames.items are early starts starts_are
        frames refl (with_item state.free at (time + duration))
        (ap (λ l. slice_set state.free.items l (time + duration)) (sym on))

    pub starting_falls : sum_by (λ t. state.end - t) (with_item state.free at (time + duration)).items < sum_by (λ t. state.end - t) state.free.items
    starting_falls = started_falls setting state can is number first waiting head time time_is order
        frame frame_is duration occupies some short frames.items are early starts starts_are
        frames refl (with_item state.free at (time + duration))
        (ap (λ l. slice_set state.free.items l (time + duration)) (sym on))

    pub starting_others : (other : ℕ) → other < length setting.gates → (number ≡ other → ⊥)
        → ((hop : ℕ) (d : LinkGates) → hop < hop_count setting.network frame.stream
        → Continues setting.network (route_of setting.network frame.stream) frame.hop hop
        → (get_or setting.gates other d).link ≡ route_link setting.network frame.stream hop → ⊥)
        → IsPortAt setting after other (port_in state.ports other)
    starting_others = started_others setting state can is number first waiting head time time_is order frame
        frame_is duration occupies some short frames.items are early starts starts_are
        frames refl (with_item state.free at (time + duration))
        (ap (λ l. slice_set state.free.items l (time + duration)) (sym on))
