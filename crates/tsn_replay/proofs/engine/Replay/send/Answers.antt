use Rattle.std.proofs.Common.{◌≡◌, ◌<◌, length, get_or, refl, sym, ap, ◌∙◌, subst, arith}
use Rattle.std.specs.Vec.{with_item}
use Rattle.std.proofs.lemmas.List.{get_or_default}
use Rattle.tsn_model.specs.Network.{stream_count}
use Rattle.tsn_model.specs.Bridge.{LinkGates}
use Rattle.tsn_replay.specs.Feeding.{waiting_on}
use Rattle.tsn_replay.specs.Ports.{IsPort, IsScheduledNext}
use Rattle.tsn_replay.specs.Progress.{setting_of}
use Rattle.tsn_replay.proofs.States.{streams_below}
use Rattle.tsn_replay.proofs.Stepping.{below}
use Rattle.tsn_replay.proofs.Sendings.{feed_has, next_given, sending_still, sending_state, sending_falls}
use Rattle.tsn_replay.proofs.engine.Replay.send.Goals as goal

pub sent-requires : goal.sent-requires
sent-requires c =
    let setting = setting_of c.args.self.now in
    feed_has setting.background (length setting.network.links) c.sending-sending.result.link c.args.state.now.feed c.requires.state.under_way.feed c.sending-sending.ensures.exists

pub waiting-next-requires : goal.waiting-next-requires
waiting-next-requires c =
    let setting = setting_of c.args.self.now in
    let feed = c.sent.ensures.feed setting.background (length setting.network.links) c.requires.state.under_way.feed in
    feed_has setting.background (length setting.network.links) c.sending-sending.result.link c.sent.new.self feed c.sending-sending.ensures.exists

pub after_sent-renewed-requires-clause-streams : goal.after_sent-renewed-requires-clause-streams
after_sent-renewed-requires-clause-streams c k d inside =
    subst (λ frames. k < length frames → (get_or frames k d).stream < stream_count c.args.self.now.network.now) (sym c.deref.ensures.value) (streams_below (setting_of c.args.self.now) c.args.state.now c.requires.state.under_way k d) inside

pub after_sent-renewed-requires-clause-wanted : goal.after_sent-renewed-requires-clause-wanted
after_sent-renewed-requires-clause-wanted c frame at =
    let setting = setting_of c.args.self.now in
    let state = c.args.state.now in
    let sending = c.sending-sending.result in
    let given = next_given setting state c.requires.setting c.requires.state c.args.number c.requires.first c.args.port c.requires.port c.requires.order sending c.sending-sending.ensures
    c.note.new.starts c.in_ok-note.ensures c.sent.new.self (c.sent.ensures.feed setting.background (length setting.network.links) c.requires.state.under_way.feed) c.sent.ensures.other
    (c.sent.ensures.sent setting.background (length setting.network.links) c.requires.state.under_way.feed) (with_item state.free sending.link sending.until) refl frame (sym c.waiting-next.ensures ∙ at) in
    given.early

pub after_sent-renewed-requires-clause-from : goal.after_sent-renewed-requires-clause-from
after_sent-renewed-requires-clause-from c = let early = c.sending-sending.ensures.early in omega arith

pub after_sent-renewed-requires-clause-still : goal.after_sent-renewed-requires-clause-still
after_sent-renewed-requires-clause-still c upto =
    let setting = setting_of c.args.self.now in
    subst (λ frames. IsScheduledNext c.args.self.now.network.now (get_or c.args.self.now.gates.now c.args.number c.index-self-number.result).entries frames c.args.port.head c.sending-sending.result.until c.args.state.now.end c.args.port.scheduled)
    (sym c.deref.ensures.value)
    (sending_still setting c.args.state.now c.requires.setting c.requires.state c.args.number c.requires.first c.args.port c.requires.port c.requires.order c.sending-sending.result c.sending-sending.ensures c.index-self-number.result upto)

pub returns-clause-state : goal.returns-clause-state
returns-clause-state c =
    let setting = setting_of c.args.self.now in
    let state = c.args.state.now in
    let sending = c.sending-sending.result in
    let list = get_or c.args.self.now.gates.now c.args.number c.index-self-number.result in
    let item : (d : LinkGates) → list ≡ get_or c.args.self.now.gates.now c.args.number d =
    λ d. get_or_default c.args.self.now.gates.now c.args.number c.index-self-number.result d (below setting state c.requires.setting c.requires.state c.args.number c.requires.first) in
    let frames = subst (λ fs. IsPort setting.network list.entries fs c.waiting-next.result list.link sending.until state.end c.after_sent-renewed.result) c.deref.ensures.value c.after_sent-renewed.ensures in
    let next = subst (λ w. IsPort setting.network list.entries state.frames.items w list.link sending.until state.end c.after_sent-renewed.result)
    (c.waiting-next.ensures ∙ ap (waiting_on c.sent.new.self) (sym (c.sending-sending.ensures.on c.index-self-number.result))) frames in
    sending_state setting state c.requires.setting c.requires.state c.args.number c.requires.first c.args.port c.requires.port c.requires.order sending c.sending-sending.ensures
    c.note.new.starts c.in_ok-note.ensures c.sent.new.self (c.sent.ensures.feed setting.background (length setting.network.links) c.requires.state.under_way.feed) c.sent.ensures.other
    (c.sent.ensures.sent setting.background (length setting.network.links) c.requires.state.under_way.feed) (with_item state.free sending.link sending.until) refl
    c.after_sent-renewed.result (λ d. subst (λ (g : LinkGates). IsPort setting.network g.entries state.frames.items (waiting_on c.sent.new.self g.link) g.link sending.until state.end c.after_sent-renewed.result) (item d) next)
    c.set.new.self c.set.ensures

pub returns-clause-falls : goal.returns-clause-falls
returns-clause-falls c =
    let setting = setting_of c.args.self.now in
    let state = c.args.state.now in
    let sending = c.sending-sending.result in
    sending_falls setting state c.requires.setting c.requires.state c.args.number c.requires.first c.args.port c.requires.port c.requires.order sending c.sending-sending.ensures
    c.note.new.starts c.in_ok-note.ensures c.sent.new.self (c.sent.ensures.feed setting.background (length setting.network.links) c.requires.state.under_way.feed) c.sent.ensures.other
    (c.sent.ensures.sent setting.background (length setting.network.links) c.requires.state.under_way.feed) (with_item state.free sending.link sending.until) refl

pub sending-sending-requires-clause-first : goal.sending-sending-requires-clause-first
sending-sending-requires-clause-first c = c.requires.first

pub sending-sending-requires-clause-port : goal.sending-sending-requires-clause-port
sending-sending-requires-clause-port c = c.requires.port
