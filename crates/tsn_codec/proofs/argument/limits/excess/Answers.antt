use Rattle.std.proofs.Common.{arith}
use Rattle.tsn_cert.specs.Argument.{step_fits}
use Rattle.tsn_codec.proofs.Firsts.{never_within}
use Rattle.tsn_codec.proofs.Above.{argument_large, argument_within}
use Rattle.tsn_codec.proofs.argument.limits.excess.Goals as goal

pub returns-in-Some-excess_of_step : goal.returns-in-Some-excess_of_step
returns-in-Some-excess_of_step c =
    let first = rw c.list-steps.ensures at c.in-Some.ensures in
    let read = rw c.list-steps.ensures at c.index-steps-step.is in
    let is = c.in-Some-excess_of_step.ensures in
    argument_large c.args.argument.now c.in-Some.step c.index-steps-step.result c.in-Some-excess_of_step.part c.in-Some-excess_of_step.lags (omega arith)
    first read is.1

pub returns-in-None-excess_of_step : goal.returns-in-None-excess_of_step
returns-in-None-excess_of_step c =
    let first = rw c.list-steps.ensures at c.in-Some.ensures in
    let read = rw c.list-steps.ensures at c.index-steps-step.is in
    absurd (never_within step_fits c.args.argument.now.steps c.in-Some.step c.index-steps-step.result first read c.in-None-excess_of_step.ensures)

pub returns-in-None : goal.returns-in-None
returns-in-None c =
    let none = rw c.list-steps.ensures at c.in-None.ensures in
    argument_within c.args.argument.now (omega arith) none
