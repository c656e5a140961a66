use Rattle.std.proofs.Common.{refl}
use Rattle.tsn_gate.specs.Taprio.{escaped_byte}
use Rattle.tsn_model.proofs.More.{written_behind}
use Rattle.tsn_gate.proofs.taprio.write_escaped.Goals as goal

pub loop-byte-preserved : goal.loop-byte-preserved
loop-byte-preserved c =
    written_behind escaped_byte _ _ c.loop-byte.byte-index _ _ _ _ c.loop-byte-test.true c.loop-byte.invariant c.in_ok-write_escaped_byte.ensures refl
