use Rattle.tsn_codec.proofs.Above.{fact_large, move_large, step_within}
use Rattle.tsn_codec.proofs.argument.limits.excess_of_step.Goals as goal

pub returns-in-Some : goal.returns-in-Some
returns-in-Some c =
    let first = rw c.list-facts.ensures at c.in-Some.ensures in
    let lag = rw c.list-facts.ensures at c.has_fact_lag.ensures in
    fact_large c.args.step.now c.in-Some.number _ c.has_fact_lag.result first lag

pub returns-in-Some-first_large : goal.returns-in-Some-first_large
returns-in-Some-first_large c =
    let none = rw c.list-facts.ensures at c.in-None.ensures in
    let first = rw c.list-moves.ensures at c.in-Some-first_large.ensures in
    let read = rw c.list-moves.ensures at c.index-moves-number.is in
    move_large c.args.step.now c.in-Some-first_large.number c.index-moves-number.result c.has_lag.result none first read c.has_lag.ensures

pub returns-in-None-first_large : goal.returns-in-None-first_large
returns-in-None-first_large c =
    let none = rw c.list-facts.ensures at c.in-None.ensures in
    let others = rw c.list-moves.ensures at c.in-None-first_large.ensures in
    step_within c.args.step.now none others
