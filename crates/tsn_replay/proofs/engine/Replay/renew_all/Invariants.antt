use Rattle.std.proofs.Common.{◌≡◌, ◌<◌, ℕ, length}
use Rattle.tsn_replay.specs.Ports.{port_in}
use Rattle.tsn_replay.specs.Progress.{setting_of, IsUnderWay, IsPortAt}
use Rattle.tsn_replay.proofs.engine.Replay.renew_all.Given as goal

abbrev pub invariant-loop-number : goal.invariant-loop-number
invariant-loop-number l = record {
  under_way : IsUnderWay (setting_of l.self) l.state;
  count : length l.state.ports ≡ length l.self.gates.now;
  each : (number : ℕ) → number < l.number → IsPortAt (setting_of l.self) l.state number (port_in l.state.ports number);
  last : l.number-end ≡ length l.self.gates.now;
}
