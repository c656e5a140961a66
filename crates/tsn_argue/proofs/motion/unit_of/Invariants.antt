use Rattle.std.proofs.Common.{take, Ok}
use Rattle.tsn_cert.specs.Fact.{clause_of}
use Rattle.tsn_argue.specs.State.{view_of}
use Rattle.tsn_argue.specs.Motion.{FindsUnit}
use Rattle.tsn_argue.proofs.motion.unit_of.Given as goal

abbrev pub invariant-loop-fact : goal.invariant-loop-fact
invariant-loop-fact l = FindsUnit (view_of l.view) l.number (clause_of (take l.fact-index l.clause)) (Ok l.left)
