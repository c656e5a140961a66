use Rattle.std.proofs.Common.{All, refl, arith}
use Rattle.std.proofs.lemmas.Grind.{common_steps}
use Rattle.tsn_model.specs.Argument.{IsFact}
use Rattle.tsn_cert.specs.Fact.{fact_of}
use Rattle.tsn_argue.specs.Faults.{IsWrongFact}
use Rattle.tsn_check.specs.declared.argument.StepFault.TheVariants as of_step
use Rattle.tsn_argue.proofs.Ordered.{told_at, all_right}
use Rattle.tsn_argue.proofs.step.judge_facts.Goals as goal

pub returns : goal.returns
returns c = all_right fact_of (All (IsFact c.args.timing.now)) c.args.clause.now c.loop-number.number c.loop-number-test.false c.loop-number.invariant

pub returns-in-Err : goal.returns-in-Err
returns-in-Err c =
    told_at fact_of of_step.Fact (All (IsFact c.args.timing.now)) (λ before. IsWrongFact c.args.timing.now) c.args.clause.now c.loop-number.number
    _ c.in-Err.wrong _ c.loop-number-test.true c.loop-number.invariant c.in-Err.ensures refl

pub loop-number-preserved : goal.loop-number-preserved
loop-number-preserved c = grind (arith, common_steps) steps 2000000
