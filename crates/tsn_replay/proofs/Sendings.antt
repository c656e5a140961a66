-- The start of a background frame keeps the state of a replay, said of what the code computes.
use Rattle.std.proofs.Common.{◌≡◌, ℕ, ◌+◌, ◌*◌, ◌≤◌, ◌<◌, ◌-◌, ◌^◌, List, [], length, get_or, slice_set, Some, None, Vec, Global, sum_by, sym, ap, ◌∙◌, subst, arith}
use Rattle.tsn_model.specs.Network.{link_at}
use Rattle.tsn_model.specs.Bridge.{LinkGates, BridgeRun, Background}
use Rattle.tsn_model.specs.Bridge.Background.{nothing, greedy, frames}
use Rattle.tsn_replay.specs.declared.feed.Waiting.{Waiting}
use Rattle.tsn_replay.specs.declared.feed.Feed.{Feed}
use Rattle.tsn_replay.specs.declared.feed.Feed.TheVariants as feed
use Rattle.tsn_replay.specs.declared.port.Port.{Port}
use Rattle.tsn_replay.specs.declared.engine.State.{State}
use Rattle.tsn_replay.specs.declared.engine.Sending.{Sending}
use Rattle.tsn_replay.specs.Feeding.{waiting_on, HasLink, IsFeedOf, IsSent}
use Rattle.tsn_replay.specs.Ports.{IsPort, IsScheduledNext, IsFirstPort, port_in}
use Rattle.tsn_replay.specs.Records.{noted}
use Rattle.tsn_replay.specs.Progress.{Setting, IsSetting, IsUnderWay, IsState, IsSending}
use Rattle.tsn_replay.proofs.Stepping.{link, link_is, below, given, until_short, send_in_time, send_still, sent_under_way, sent_state, sent_falls}
use Rattle.tsn_replay.proofs.Steps.{IsGiven}
use Rattle.tsn_replay.proofs.States.{given_on}

pub feed_has : (background : Background) (links link : ℕ) (feed : Feed) → IsFeedOf background links feed → link < links → HasLink link feed
feed_has background links link feed.Nothing is below = record {}
feed_has background links link feed.Greedy is below = record {}
feed_has nothing links link (feed.Listed lines) is below = absurd is
feed_has greedy links link (feed.Listed lines) is below = absurd is
feed_has (frames list) links link (feed.Listed lines) is below = let count = is.count in omega arith

abbrev no_list : LinkGates
no_list = record { link = 0; entries = [] }

module _ (setting : Setting) (state : State) (can : IsSetting setting) (is : IsState setting state) (number : ℕ) (first : IsFirstPort state.ports state.end number)
    (port : Port) (port_is : port_in state.ports number ≡ port) (order : port.scheduled ≤ port.background → port.head ≡ None) where
  abbrev here : ℕ
  here = link setting state can is number first

  -- what is read and computed of the frame that waits on the link of the list
  module _ (list : LinkGates) (at : ℕ) (at_is : at ≡ (get_or setting.gates number list).link) (waiting : Waiting) (waits : waiting_on state.feed at ≡ Some waiting) where
    within : number < length setting.gates
    within = below setting state can is number first

    here_at : here ≡ at
    here_at = sym (at_is ∙ link_is setting state can is number list within)

    waits_here : waiting_on state.feed here ≡ Some waiting
    waits_here = ap (waiting_on state.feed) here_at ∙ waits

    pub octets_few : waiting.octets ≤ 1522
    octets_few = (given setting state can is number first port port_is order waiting waits_here).short

    module _ (rate : ℕ) (rate_is : rate ≡ (link_at setting.network at).octet_time) (some : 1 ≤ rate) (few : rate ≤ 800) where
      rate_here : rate ≡ (link_at setting.network here).octet_time
      rate_here = rate_is ∙ ap (λ l. (link_at setting.network l).octet_time) (sym here_at)

      pub until_few : port.background + (waiting.octets + 20) * rate ≤ 2 ^ 40
      until_few =
          let short = until_short setting state can is number first port port_is order waiting waits_here (port.background + (waiting.octets + 20) * rate) (ap (λ r. port.background + (waiting.octets + 20) * r) rate_here)
          (subst (λ r. 1 ≤ r) rate_here some) (subst (λ r. r ≤ 800) rate_here few) in
          let soon = send_in_time setting state can is number first port port_is order in
          omega arith

      pub is_sending : IsSending setting state number port (record { link = at; waiting = waiting; until = port.background + (waiting.octets + 20) * rate })
      is_sending = record {
        on = λ d. link_is setting state can is number d within ∙ here_at;
        exists = subst (λ l. l < length setting.network.links) here_at (can.lists.links number no_list within);
        waits = waits;
        until = ap (λ r. port.background + (waiting.octets + 20) * r) rate_is;
        some = subst (λ r. 1 ≤ r) rate_is some;
        few = subst (λ r. r ≤ 800) rate_is few;
        early = until_few;
      }

  module _ (sending : Sending) (sends : IsSending setting state number port sending) where
    on : here ≡ sending.link
    on = sends.on no_list

    at_link : waiting_on state.feed here ≡ Some sending.waiting
    at_link = ap (waiting_on state.feed) on ∙ sends.waits

    rate_is : (link_at setting.network sending.link).octet_time ≡ (link_at setting.network here).octet_time
    rate_is = ap (λ l. (link_at setting.network l).octet_time) (sym on)

    until_is : sending.until ≡ port.background + (sending.waiting.octets + 20) * (link_at setting.network here).octet_time
    until_is = sends.until ∙ ap (λ r. port.background + (sending.waiting.octets + 20) * r) rate_is

    some : 1 ≤ (link_at setting.network here).octet_time
    some = subst (λ r. 1 ≤ r) rate_is sends.some

    few : (link_at setting.network here).octet_time ≤ 800
    few = subst (λ r. r ≤ 800) rate_is sends.few

    pub sending_still : (d : LinkGates) → sending.until ≤ port.scheduled → IsScheduledNext setting.network (get_or setting.gates number d).entries state.frames.items port.head sending.until state.end port.scheduled
    sending_still d upto = send_still setting state can is number first port port_is order sending.waiting at_link sending.until until_is some few d upto

    module _ (starts : BridgeRun) (starts_are : starts ≡ noted setting.keeps state.starts (record { link = sending.waiting.link; time = port.background; octets = sending.waiting.octets; number = sending.waiting.number }))
        (feed : Feed) (feed_is : IsFeedOf setting.background (length setting.network.links) feed) (others : (m : ℕ) → (m ≡ sending.link → ⊥) → waiting_on feed m ≡ waiting_on state.feed m)
        (follows : IsSent setting.background (waiting_on state.feed sending.link) (waiting_on feed sending.link)) (free : Vec ℕ Global) (free_is : free.items ≡ slice_set state.free.items sending.link sending.until) where
      abbrev after : State
      after = record state { time = port.background; free = free; feed = feed; starts = starts }

      others_at : (m : ℕ) → (m ≡ here → ⊥) → waiting_on feed m ≡ waiting_on state.feed m
      others_at m differ = others m (λ same. differ (same ∙ sym on))

      follows_at : IsSent setting.background (waiting_on state.feed here) (waiting_on feed here)
      follows_at = subst (λ l. IsSent setting.background (waiting_on state.feed l) (waiting_on feed l)) (sym on) follows

      free_at : free.items ≡ slice_set state.free.items here sending.until
      free_at = free_is ∙ ap (λ l. slice_set state.free.items l sending.until) (sym on)

      pub sending_under_way : IsUnderWay setting after
      sending_under_way = sent_under_way setting state can is number first port port_is order sending.waiting at_link sending.until until_is some few starts starts_are feed feed_is others_at follows_at free free_at

      pub next_given : (frame : Waiting) → waiting_on feed sending.link ≡ Some frame → IsGiven setting.network sending.link frame
      next_given frame waits = given_on setting after can sending_under_way sending.link sends.exists frame waits

      pub sending_state : (new : Port) → ((d : LinkGates) → IsPort setting.network (get_or setting.gates number d).entries state.frames.items (waiting_on feed (get_or setting.gates number d).link) (get_or setting.gates number d).link sending.until state.end new)
          → (all : List Port) → all ≡ slice_set state.ports number new → IsState setting (record after { ports = all })
      sending_state new new_is all all_are =
          sent_state setting state can is number first port port_is order sending.waiting at_link sending.until until_is some few starts starts_are feed feed_is others_at follows_at free free_at new new_is all all_are

      pub sending_falls : sum_by (λ t. state.end - t) free.items < sum_by (λ t. state.end - t) state.free.items
      sending_falls = sent_falls setting state can is number first port port_is order sending.waiting at_link sending.until until_is some few starts starts_are feed feed_is others_at follows_at free free_at
