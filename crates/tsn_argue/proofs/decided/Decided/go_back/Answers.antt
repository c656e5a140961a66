use Rattle.tsn_argue.proofs.DecidedLemmas.{held_back}
use Rattle.tsn_argue.proofs.decided.Decided.go_back.Goals as goal

pub invariant_of-self : goal.invariant_of-self
invariant_of-self c =
    let old = c.self.inside in
    rw (c.truncate.ensures.items, c.truncate-2.ensures.keys) (held_back old.list.items old.kept old.set.keys old.set_kept c.self.invariant)
