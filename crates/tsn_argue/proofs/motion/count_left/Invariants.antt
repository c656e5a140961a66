use Rattle.std.proofs.Common.{◌≡◌, ◌≤◌, length, take}
use Rattle.tsn_model.specs.Argument.{left_open}
use Rattle.tsn_cert.specs.Fact.{clause_of}
use Rattle.tsn_argue.specs.State.{view_of}
use Rattle.tsn_argue.proofs.motion.count_left.Given as goal

abbrev pub invariant-loop-fact : goal.invariant-loop-fact
invariant-loop-fact l = (l.left ≡ length (left_open (view_of l.view) (clause_of (take l.fact-index l.clause)))) × (l.left ≤ l.fact-index)
