use Rattle.std.proofs.Common.{◌≡◌}
use Rattle.tsn_model.specs.Network.{hop_count}
use Rattle.tsn_replay.specs.Progress.{setting_of}
use Rattle.tsn_replay.proofs.States.{AreRenewedUpto}
use Rattle.tsn_replay.proofs.engine.Replay.renew.Given as goal

abbrev pub invariant-loop-hop : goal.invariant-loop-hop
invariant-loop-hop l = record {
  renewed : AreRenewedUpto (setting_of l.self) l.started.stream l.started.hop l.hop l.fn.state l.state;
  last : l.hop-end ≡ hop_count l.self.network.now l.started.stream;
}
