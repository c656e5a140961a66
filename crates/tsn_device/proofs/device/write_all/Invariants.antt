use Rattle.std.proofs.Common.{◌≡◌, ◌≤◌, ◌-◌, length, take}
use Rattle.std.specs.Io.KnownBytes.{Appends}
use Rattle.tsn_device.proofs.device.write_all.Given as goal

abbrev pub invariant-pieces : goal.invariant-pieces
invariant-pieces g l = record {
  taken : Appends (g.W.Sink.taken l.fn.sink) (g.W.Sink.taken l.sink) (take l.written l.bytes);
  within : l.written ≤ length l.bytes;
  failed : g.W.Sink.failed l.sink ≡ g.W.Sink.failed l.fn.sink;
}

abbrev pub decreases-pieces : goal.decreases-pieces
decreases-pieces g l = length l.bytes - l.written
