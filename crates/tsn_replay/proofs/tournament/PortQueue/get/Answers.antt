use Rattle.std.proofs.Common.{◌≡◌, ◌<◌, length, ◌∙◌, sym, subst}
use Rattle.tsn_replay.specs.Ports.{port_in}
use Rattle.tsn_replay.proofs.States.{port_read}
use Rattle.tsn_replay.proofs.tournament.PortQueue.get.Goals as goal

pub returns : goal.returns
returns c =
    let below = subst (λ ps. c.args.number < length ps) (sym c.self.view_is) c.requires in
    subst (λ ps. c.index.result.now ≡ port_in ps c.args.number) c.self.view_is (c.index.ensures ∙ port_read c.self.inside.ports.items c.args.number c.index.result.now below)
