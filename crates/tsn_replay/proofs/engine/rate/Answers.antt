use Rattle.std.proofs.Common.{◌≡◌, ap, arith}
use Rattle.tsn_model.specs.declared.Link.{Link}
use Rattle.tsn_model.specs.Network.{link_at}
use Rattle.tsn_model.proofs.Limits.{rate-le}
use Rattle.tsn_model.proofs.Routes.{rate-pos}
use Rattle.tsn_replay.proofs.engine.rate.Goals as goal

pub returns : goal.returns
returns c =
    let value : c.link.result.octet_time ≡ (link_at c.args.network.now c.args.link).octet_time = ap (λ (l : Link). l.octet_time) c.link.ensures in
    let formed = c.cycle-limits.ensures.well_formed in
    let some = rate-pos c.args.network.now formed c.args.link c.requires in
    let few = rate-le c.args.network.now formed c.args.link c.requires in
    record { value = value; some = omega arith; limit = omega arith }
