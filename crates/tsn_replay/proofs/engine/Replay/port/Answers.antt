use Rattle.std.proofs.Common.{◌<◌, length, get_or, Vec, Global, sym, ◌∙◌, subst}
use Rattle.tsn_model.specs.Network.{stream_count}
use Rattle.tsn_replay.specs.declared.visits.Visit.{Visit}
use Rattle.tsn_replay.specs.Queue.{AreInLine, AreVisits}
use Rattle.tsn_replay.specs.Progress.{setting_of}
use Rattle.tsn_replay.proofs.States.{streams_below, given_on}
use Rattle.tsn_replay.proofs.engine.Replay.port.Goals as goal

pub of-requires-clause-streams : goal.of-requires-clause-streams
of-requires-clause-streams c k d below =
    subst (λ frames. k < length frames → (get_or frames k d).stream < stream_count c.args.self.now.network.now) (sym c.deref.ensures.value)
    (streams_below (setting_of c.args.self.now) c.args.state.now c.requires.state k d) below

pub of-requires-clause-wanted : goal.of-requires-clause-wanted
of-requires-clause-wanted c frame is =
    let given = given_on (setting_of c.args.self.now) c.args.state.now c.requires.setting c.requires.state c.link-link.result
    (subst (λ n. n < length c.args.self.now.network.now.links) (sym c.link-link.ensures) c.requires.exists) frame
    (sym c.waiting.ensures ∙ is) in
    given.early

pub of-requires-clause-line : goal.of-requires-clause-line
of-requires-clause-line c = subst (AreInLine c.args.self.now.network.now c.args.self.now.cycles) (sym c.deref.ensures.value) c.requires.state.line

pub of-requires-clause-visits : goal.of-requires-clause-visits
of-requires-clause-visits c =
    let network = c.args.self.now.network.now in
    let below = subst (λ n. n < length c.args.self.now.network.now.links) (sym c.link-link.ensures) c.requires.exists in
    let here = c.requires.state.visits.each c.link-link.result c.index.result.now below in
    subst (AreVisits network c.args.list.now.link) (sym c.deref-2.ensures.value)
    (subst (λ l. AreVisits network l c.index.result.now.items) c.link-link.ensures
    (subst (λ (v : Vec Visit Global). AreVisits network c.link-link.result v.items) (sym c.index.ensures) here))
