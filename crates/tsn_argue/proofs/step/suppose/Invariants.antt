use Rattle.std.proofs.Common.{map, take}
use Rattle.tsn_model.specs.Argument.{opposite, learned_all}
use Rattle.tsn_cert.specs.Fact.{clause_of}
use Rattle.tsn_argue.specs.State.{view_of, Becomes}
use Rattle.tsn_argue.proofs.step.suppose.Given as goal

abbrev pub invariant-loop-fact : goal.invariant-loop-fact
invariant-loop-fact l = Becomes l.initial.view l.view (learned_all (view_of l.initial.view) (map opposite (clause_of (take l.fact-index l.clause))))
