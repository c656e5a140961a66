use Rattle.std.proofs.Common.{map, take, sym, ap, ◌∙◌, arith}
use Rattle.std.proofs.lemmas.List.{length-map}
use Rattle.std.proofs.lemmas.Grind.{elements}
use Rattle.tsn_conflict.specs.Outcome.{outcome_of}
use Rattle.tsn_incumbent.specs.Teller.{Known}
use Rattle.tsn_worker.proofs.BatchTellers.{only_last_solved, solved_least, unsolved_all, few_unsolved}
use Rattle.tsn_worker.proofs.batch.settle_batch.Goals as goal

pub settle_below_as-requires-clause-last_solved : goal.settle_below_as-requires-clause-last_solved
settle_below_as-requires-clause-last_solved g c =
    let batch = c.requires.batch in
    let some = batch.some in
    let long = length-map c.args.batch.looks outcome_of in
    only_last_solved g.K.Named.names.race.network c.args.teller.now.standing.seen (map outcome_of c.args.batch.looks) c.args.batch.solved (omega (arith, some, long)) batch.ends

pub post_solved-requires : goal.post_solved-requires
post_solved-requires g c =
    let old = c.args.teller.now in
    solved_least g.K.Named.names.race.network old.standing.seen (map outcome_of c.args.batch.looks) c.args.batch.solved old c.settle_below_as.new.teller
    c.in-Ok.ensures.all c.requires.even c.requires.seen c.requires.batch.ends

pub returns-clause-even : goal.returns-clause-even
returns-clause-even g c =
    let old = c.args.teller.now in
    let outcomes = map outcome_of c.args.batch.looks in
    let n = c.in-Err.refusal.settled in
    let low = c.in-Err.ensures.some.0 in
    let long = length-map c.args.batch.looks outcome_of in
    let is = c.in-Err.ensures.some.1 in
    ap (λ (t : Known). t.tally.solved) is
    ∙ unsolved_all (take n outcomes) old.tally (few_unsolved g.K.Named.names.race.network old.standing.seen outcomes c.args.batch.solved c.requires.batch.ends n (omega (arith, low, long)))
    ∙ c.requires.even ∙ sym (ap (λ (t : Known). t.standing.posted) is)

pub settle_below_as-requires-clause-count : goal.settle_below_as-requires-clause-count
settle_below_as-requires-clause-count c = grind (arith, elements) steps 2000000

pub settle_below_as-requires-clause-proofs : goal.settle_below_as-requires-clause-proofs
settle_below_as-requires-clause-proofs c = grind (arith, elements) steps 2000000

pub settle_below_as-requires-clause-seen : goal.settle_below_as-requires-clause-seen
settle_below_as-requires-clause-seen c = grind (arith, elements) steps 2000000
