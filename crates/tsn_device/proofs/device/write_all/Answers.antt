use Rattle.std.proofs.Common.{ℕ, ◌∙◌, arith, length-drop}
use Rattle.std.proofs.lemmas.Grind.{common_steps}
use Rattle.tsn_device.proofs.KnownLemmas.{Appends_more}
use Rattle.tsn_device.proofs.device.write_all.Goals as goal

pub pieces-preserved : goal.pieces-preserved
pieces-preserved g c = record {
  taken = Appends_more _ _ _ c.args.bytes.now c.pieces.written _ c.pieces.invariant.taken c.in_ok-written.ensures.bytes;
  within = omega (arith, c.in_ok-written.ensures.within, length-drop {A = ℕ});
  failed = c.in_ok-written.ensures.ok ∙ c.pieces.invariant.failed;
}

pub overflow_add-written : goal.overflow_add-written
overflow_add-written c = grind (arith, common_steps) steps 2000000

pub pieces-smaller : goal.pieces-smaller
pieces-smaller c = grind (arith, common_steps) steps 2000000

pub returns-clause-whole : goal.returns-clause-whole
returns-clause-whole c = grind (arith, common_steps) steps 2000000
