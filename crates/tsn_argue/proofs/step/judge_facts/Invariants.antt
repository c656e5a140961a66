use Rattle.std.proofs.Common.{All, take}
use Rattle.tsn_model.specs.Argument.{IsFact}
use Rattle.tsn_cert.specs.Fact.{clause_of}
use Rattle.tsn_argue.proofs.step.judge_facts.Given as goal

abbrev pub invariant-loop-number : goal.invariant-loop-number
invariant-loop-number l = All (IsFact l.timing) (clause_of (take l.number l.clause))
