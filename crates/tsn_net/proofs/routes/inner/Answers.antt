use Rattle.std.proofs.Common.{◌≡◌, ◌-◌, length, arith}
use Rattle.tsn_net.proofs.RouteLemmas.{inner-texts}
use Rattle.tsn_net.proofs.routes.inner.Goals as goal

pub returns : goal.returns
returns c =
    let same : length c.args.route.now - 1 - 1 ≡ length c.args.route.now - 2 = omega arith in
    rw same (inner-texts c.args.route.now)
