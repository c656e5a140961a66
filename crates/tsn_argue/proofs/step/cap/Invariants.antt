use Rattle.tsn_argue.proofs.CapState.{Capped}
use Rattle.tsn_argue.proofs.step.cap.Given as goal

abbrev pub invariant-loop-stream : goal.invariant-loop-stream
invariant-loop-stream l = Capped l.initial.view l.view l.plan l.stream
