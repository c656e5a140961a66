use Rattle.tsn_argue.proofs.DecidedLemmas.{held_more}
use Rattle.tsn_argue.proofs.decided.Decided.push.Goals as goal

pub invariant_of-self-in_default-insert : goal.invariant_of-self-in_default-insert
invariant_of-self-in_default-insert c =
    let old = c.self.inside in
    rw (c.in_default.ensures.items, c.in_default-insert.ensures.keys)
    (held_more old.list.items old.kept old.set.keys old.set_kept c.args.decision c.self.invariant)
