use Rattle.std.proofs.Common.{◌≡◌, length, arith}
use Rattle.tsn_argue.proofs.DecidedLemmas.{held_kept}
use Rattle.tsn_argue.proofs.decided.Decided.keep.Goals as goal

pub invariant_of-self : goal.invariant_of-self
invariant_of-self c =
    let old = c.self.inside in
    let long : c.len-self-inside.result ≡ length old.list.items = omega (arith, c.len-self-inside.ensures, old.list.ok) in
    rw (long, c.len-self-inside-2.ensures.len) (held_kept old.list.items old.kept old.set.keys old.set_kept c.self.invariant)
