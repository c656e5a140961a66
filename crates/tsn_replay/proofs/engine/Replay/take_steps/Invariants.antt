use Rattle.tsn_replay.specs.Progress.{setting_of, IsState, time_left}
use Rattle.tsn_replay.proofs.engine.Replay.take_steps.Given as goal

abbrev pub invariant-loop-number : goal.invariant-loop-number
invariant-loop-number l = IsState (setting_of l.self) l.state

abbrev pub decreases-loop-number : goal.decreases-loop-number
decreases-loop-number l = time_left l.state
