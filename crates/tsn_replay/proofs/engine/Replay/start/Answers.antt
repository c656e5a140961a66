use Rattle.std.proofs.Common.{ℕ, Vec, Global, ◌-◌, ◌<◌, sum_by, sym, subst}
use Rattle.tsn_replay.specs.Progress.{setting_of, time_left}
use Rattle.tsn_replay.proofs.States.{streams_below}
use Rattle.tsn_replay.proofs.Startings.{starting_stream, starting_hop, starting_below, starting_sooner, starting_under_way, starting_others, starting_falls}
use Rattle.tsn_replay.proofs.engine.Replay.start.Goals as goal

pub occupancy-requires-clause-stream : goal.occupancy-requires-clause-stream
occupancy-requires-clause-stream c =
    starting_stream (setting_of c.args.self.now) c.args.state.now c.requires.setting c.requires.state c.args.number c.requires.first
    c.args.waiting c.requires.head c.args.time c.requires.time c.requires.order c.index.result.now c.index.ensures

pub hand_on-requires-clause-number : goal.hand_on-requires-clause-number
hand_on-requires-clause-number c =
    starting_below (setting_of c.args.self.now) c.args.state.now c.requires.setting c.requires.state c.args.number c.requires.first
    c.args.waiting c.requires.head c.args.time c.requires.time c.requires.order c.index.result.now c.index.ensures

pub hand_on-requires-clause-line : goal.hand_on-requires-clause-line
hand_on-requires-clause-line c = c.requires.state.under_way.line

pub hand_on-requires-clause-streams : goal.hand_on-requires-clause-streams
hand_on-requires-clause-streams c = streams_below (setting_of c.args.self.now) c.args.state.now c.requires.state.under_way

pub hand_on-requires-clause-distinct : goal.hand_on-requires-clause-distinct
hand_on-requires-clause-distinct c = c.requires.state.under_way.tracked.distinct

pub hand_on-requires-clause-ready : goal.hand_on-requires-clause-ready
hand_on-requires-clause-ready c = c.requires.state.under_way.readies

pub hand_on-requires-clause-sooner : goal.hand_on-requires-clause-sooner
hand_on-requires-clause-sooner c =
    starting_sooner (setting_of c.args.self.now) c.args.state.now c.requires.setting c.requires.state c.args.number c.requires.first
    c.args.waiting c.requires.head c.args.time c.requires.time c.requires.order c.index.result.now c.index.ensures

pub renew-requires-clause-state : goal.renew-requires-clause-state
renew-requires-clause-state c =
    starting_under_way (setting_of c.args.self.now) c.args.state.now c.requires.setting c.requires.state c.args.number c.requires.first
    c.args.waiting c.requires.head c.args.time c.requires.time c.requires.order c.index.result.now c.index.ensures
    c.hand_on.new.frames c.hand_on.ensures.moved c.hand_on.ensures.ready
    c.index-self-number.result c.link-link.result c.link-link.ensures c.occupancy.result c.occupancy.ensures.value c.occupancy.ensures.some c.occupancy.ensures.bound c.start.new.self c.in_ok-start.ensures

pub renew-requires-clause-stream : goal.renew-requires-clause-stream
renew-requires-clause-stream c =
    starting_stream (setting_of c.args.self.now) c.args.state.now c.requires.setting c.requires.state c.args.number c.requires.first
    c.args.waiting c.requires.head c.args.time c.requires.time c.requires.order c.index.result.now c.index.ensures

pub renew-requires-clause-hop : goal.renew-requires-clause-hop
renew-requires-clause-hop c =
    starting_hop (setting_of c.args.self.now) c.args.state.now c.requires.setting c.requires.state c.args.number c.requires.first
    c.args.waiting c.requires.head c.args.time c.requires.time c.requires.order c.index.result.now c.index.ensures

pub renew-requires-clause-others : goal.renew-requires-clause-others
renew-requires-clause-others c =
    starting_others (setting_of c.args.self.now) c.args.state.now c.requires.setting c.requires.state c.args.number c.requires.first
    c.args.waiting c.requires.head c.args.time c.requires.time c.requires.order c.index.result.now c.index.ensures
    c.hand_on.new.frames c.hand_on.ensures.moved c.hand_on.ensures.ready
    c.index-self-number.result c.link-link.result c.link-link.ensures c.occupancy.result c.occupancy.ensures.value c.occupancy.ensures.some c.occupancy.ensures.bound c.start.new.self c.in_ok-start.ensures

pub hand_on-requires-clause-setting : goal.hand_on-requires-clause-setting
hand_on-requires-clause-setting c = c.requires.setting

pub renew-requires-clause-setting : goal.renew-requires-clause-setting
renew-requires-clause-setting c = c.requires.setting

pub returns-clause-state : goal.returns-clause-state
returns-clause-state c = c.renew.ensures.state

pub returns-clause-falls : goal.returns-clause-falls
returns-clause-falls c =
    let state = c.args.state.now in
    let left = time_left state in
    let falls = starting_falls (setting_of c.args.self.now) state c.requires.setting c.requires.state c.args.number c.requires.first
    c.args.waiting c.requires.head c.args.time c.requires.time c.requires.order c.index.result.now c.index.ensures
    c.hand_on.new.frames c.hand_on.ensures.moved c.hand_on.ensures.ready
    c.index-self-number.result c.link-link.result c.link-link.ensures c.occupancy.result c.occupancy.ensures.value c.occupancy.ensures.some
    c.occupancy.ensures.bound c.start.new.self c.in_ok-start.ensures in
    subst (λ end. sum_by (λ t. end - t) c.renew.new.state.free.items < left) (sym c.renew.ensures.end)
    (subst (λ (free : Vec ℕ Global). sum_by (λ t. state.end - t) free.items < left) (sym c.renew.ensures.free) falls)
