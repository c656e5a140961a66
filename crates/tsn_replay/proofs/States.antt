-- The state of a replay, but for its steps.
use Rattle.std.proofs.Common.{arith, ◌≡◌, ℕ, ◌+◌, ◌≤◌, ◌<◌, List, length, get_or, slice_set, Some, None, sym, ap, ◌∙◌, subst, inl, inr}
use Rattle.std.proofs.lemmas.Bool.{cases_eq, cases_lt}
use Rattle.std.proofs.lemmas.List.{get_or_default, get_or-set_same, get_or-set_other, length-set}
use Rattle.tsn_model.specs.Network.{stream_count, route_of, hop_count, route_link, Continues}
use Rattle.tsn_model.specs.Bridge.{LinkGates}
use Rattle.tsn_replay.specs.declared.feed.Waiting.{Waiting}
use Rattle.tsn_replay.specs.declared.port.Port.{Port}
use Rattle.tsn_replay.specs.declared.queue.Frame.{Frame}
use Rattle.tsn_replay.specs.declared.engine.State.{State}
use Rattle.tsn_replay.specs.Feeding.{waiting_on}
use Rattle.tsn_replay.specs.Ports.{port_in}
use Rattle.tsn_replay.specs.Queue.{passage_of}
use Rattle.tsn_replay.specs.Progress.{Setting, IsSetting, IsUnderWay, IsPortAt, IsRenewed}
use Rattle.tsn_replay.proofs.Heads.{from_frame}
use Rattle.tsn_replay.proofs.Steps.{IsGiven, line_given}

-- ---- ports by number

pub port_read : (ports : List Port) (number : ℕ) (d : Port) → number < length ports → get_or ports number d ≡ port_in ports number
unfolding port_in
port_read ports number d below = get_or_default ports number d (record { head = None; scheduled = 0; background = 0 }) below

pub port_set_same : (ports : List Port) (number : ℕ) (port : Port) → number < length ports → port_in (slice_set ports number port) number ≡ port
unfolding port_in
port_set_same ports number port below = get_or-set_same ports number port _ below

pub port_set_other : (ports : List Port) (number other : ℕ) (port : Port) → (number ≡ other → ⊥) → port_in (slice_set ports number port) other ≡ port_in ports other
unfolding port_in
port_set_other ports number other port differ = get_or-set_other ports number other port _ (λ same. differ (sym same))

-- ---- what is under way

pub under_way_ports : (setting : Setting) (state : State) (ports : List Port) → IsUnderWay setting state → IsUnderWay setting (record state { ports = ports })
under_way_ports setting state ports is = grind arith

pub streams_below : (setting : Setting) (state : State) → IsUnderWay setting state → (k : ℕ) (d : Frame) → k < length state.frames.items → (get_or state.frames.items k d).stream < stream_count setting.network
unfolding passage_of
streams_below setting state is k d below =
    from_frame (λ (frame : Frame). frame.stream < stream_count setting.network) state.frames.items k d below
    (is.tracked.each k below).passage.stream

pub given_on : (setting : Setting) (state : State) → IsSetting setting → IsUnderWay setting state → (link : ℕ) → link < length setting.network.links → (waiting : Waiting) → waiting_on state.feed link ≡ Some waiting → IsGiven setting.network link waiting
given_on setting state can is link exists waiting first =
    line_given setting.network setting.gates setting.cycles _ state.time (waiting_on state.feed) is.made setting.background can.background is.fed link exists waiting first

-- ---- a port that is made anew

module _ (setting : Setting) (number : ℕ) (old new : State) (is : IsRenewed setting number old new) where
  pub renewed_under_way : IsUnderWay setting old → IsUnderWay setting new
  renewed_under_way before = subst (IsUnderWay setting) (sym is.ports) (under_way_ports setting old (slice_set old.ports number is.port) before)

  pub renewed_count : length new.ports ≡ length old.ports
  renewed_count = ap (λ (state : State). length state.ports) is.ports ∙ length-set old.ports number is.port

  pub renewed_here : number < length old.ports → IsPortAt setting new number (port_in new.ports number)
  renewed_here below = subst (λ (state : State). IsPortAt setting state number (port_in state.ports number)) (sym is.ports)
      (subst (IsPortAt setting old number) (sym (port_set_same old.ports number is.port below)) is.is_port)

  pub renewed_other : (other : ℕ) → (number ≡ other → ⊥) → IsPortAt setting old other (port_in old.ports other) → IsPortAt setting new other (port_in new.ports other)
  renewed_other other differ before = subst (λ (state : State). IsPortAt setting state other (port_in state.ports other)) (sym is.ports)
      (subst (IsPortAt setting old other) (sym (port_set_other old.ports number other is.port differ)) before)

-- ---- the ports of the links to which a frame has come

-- they are anew for the hops below one that continue a stream's hop, and each other port is right
pub record AreRenewedUpto (setting : Setting) (stream hop next : ℕ) (first state : State) : Type 0 where
  pub under_way : IsUnderWay setting state
  pub count : length state.ports ≡ length setting.gates
  pub each : (other : ℕ) → other < length setting.gates
      → ((at : ℕ) (d : LinkGates) → next ≤ at → at < hop_count setting.network stream
      → Continues setting.network (route_of setting.network stream) hop at
      → (get_or setting.gates other d).link ≡ route_link setting.network stream at → ⊥)
      → IsPortAt setting state other (port_in state.ports other)
  pub end : state.end ≡ first.end
  pub free : state.free ≡ first.free

module _ (setting : Setting) (stream hop next : ℕ) (first state : State) (are : AreRenewedUpto setting stream hop next first state) where
  pub renewed_skip : (Continues setting.network (route_of setting.network stream) hop next → ⊥)
      → AreRenewedUpto setting stream hop (next + 1) first state
  renewed_skip apart = record {
    under_way = are.under_way;
    count = are.count;
    each = λ other below none. are.each other below (λ at d since at_below continues on. elim (cases_lt next at) [
      | inl after ↦ none at d (omega arith) at_below continues on
      | inr here ↦
          let same : at ≡ next = omega arith in
          apart (subst (Continues setting.network (route_of setting.network stream) hop) same continues)
    ]);
    end = are.end;
    free = are.free;
  }

  pub renewed_more : (number : ℕ) → number < length setting.gates
      → ((other : ℕ) (d : LinkGates) → other < length setting.gates
      → (get_or setting.gates other d).link ≡ route_link setting.network stream next → other ≡ number)
      → (new : State) → IsRenewed setting number state new → AreRenewedUpto setting stream hop (next + 1) first new
  renewed_more number number_below of new one = record {
    under_way = renewed_under_way setting number state new one are.under_way;
    count = renewed_count setting number state new one ∙ are.count;
    each = λ other below none. elim (cases_eq number other) [
      | inl same ↦ subst (λ n. IsPortAt setting new n (port_in new.ports n)) same
          (renewed_here setting number state new one (let count = are.count in omega arith))
      | inr differ ↦ renewed_other setting number state new one other differ (are.each other below (λ at d since at_below continues on.
          elim (cases_lt next at) [
            | inl after ↦ none at d (omega arith) at_below continues on
            | inr here ↦
                let same : at ≡ next = omega arith in
                differ (sym (of other d below (on ∙ ap (route_link setting.network stream) same)))
          ]))
    ];
    end = ap (λ (s : State). s.end) one.ports ∙ are.end;
    free = ap (λ (s : State). s.free) one.ports ∙ are.free;
  }
