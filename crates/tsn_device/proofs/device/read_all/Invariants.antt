use Rattle.std.proofs.Common.{◌≡◌, ◌≤◌, ◌+◌, ◌-◌, vec_len}
use Rattle.std.specs.Io.KnownBytes.{Appends}
use Rattle.tsn_device.proofs.device.read_all.Given as goal

abbrev pub invariant-pieces : goal.invariant-pieces
invariant-pieces g l = record {
  given : Appends (g.S.Source.given l.fn.source) (g.S.Source.given l.source) l.bytes.items;
  short : vec_len l.bytes ≤ l.limit + 4096;
  failed : g.S.Source.failed l.source ≡ g.S.Source.failed l.fn.source;
}

abbrev pub decreases-pieces : goal.decreases-pieces
decreases-pieces g l = l.limit + 1 - vec_len l.bytes
