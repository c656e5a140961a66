use Rattle.std.proofs.Common.{ap, arith}
use Rattle.tsn_model.specs.declared.Link.{Link}
use Rattle.tsn_gate.proofs.Links.{rate-le}
use Rattle.tsn_gate.proofs.lists.guard.Goals as goal

pub overflow_mul-result : goal.overflow_mul-result
overflow_mul-result c =
    let slow = rate-le c.args.timing.now c.requires.formed c.args.link c.requires.link in
    let read = ap (λ (l : Link). l.octet_time) c.link.ensures in
    omega arith
