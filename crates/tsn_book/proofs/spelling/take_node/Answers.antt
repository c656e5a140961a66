use Rattle.std.proofs.Common.{pos, sym, subst}
use Rattle.std.specs.Prelude.{option_copied}
use Rattle.tsn_conflict.specs.declared.outcome.Look.TheVariants.{Split as FoundSplit}
use Rattle.tsn_conflict.specs.Outcome.{outcome_of}
use Rattle.tsn_book.specs.declared.log.Settled.{Settled}
use Rattle.tsn_book.specs.Book.{HasTie}
use Rattle.tsn_book.proofs.spelling.take_node.Goals as goal

pub node_from-requires-clause-tie : goal.node_from-requires-clause-tie
node_from-requires-clause-tie c =
    let d : Settled = record { teller = 0; place = 0; look = FoundSplit (record { left = 0; right = 0; link = 0; lag = pos 0 }) } in
    subst (λ look. HasTie c.args.network.now (option_copied c.args.plan) (outcome_of look)) (sym (c.take.ensures.look d)) (c.requires.tie d)
