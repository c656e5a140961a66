use Rattle.std.proofs.Common.{◌==◌}
use Rattle.std.proofs.lemmas.Bool.{eq-eqb, ne_eqb}
use Rattle.std.proofs.lemmas.List.{drop_more}
use Rattle.tsn_model.specs.declared.GateEntry.{GateEntry}
use Rattle.tsn_model.specs.Gates.{background_octet}
use Rattle.tsn_model.proofs.Rest.{any_here, any_later, any_past}
use Rattle.tsn_gate.proofs.device.has_background.Goals as goal

pub returns-then-entry-eq-BACKGROUND : goal.returns-then-entry-eq-BACKGROUND
returns-then-entry-eq-BACKGROUND c =
    any_here (λ (entry : GateEntry). entry.octet == background_octet) _ _ _
    (drop_more c.args.entries.now c.loop-entry.entry-index _ c.loop-entry-test.true) _
    (eq-eqb _ _ c.if-entry-eq-BACKGROUND.true) c.loop-entry.invariant

pub loop-entry-preserved : goal.loop-entry-preserved
loop-entry-preserved c =
    any_later (λ (entry : GateEntry). entry.octet == background_octet) _ _ _
    (drop_more c.args.entries.now c.loop-entry.entry-index _ c.loop-entry-test.true) _
    (ne_eqb _ _ c.if-entry-eq-BACKGROUND.false) c.loop-entry.invariant

pub returns : goal.returns
returns c =
    any_past (λ (entry : GateEntry). entry.octet == background_octet) c.args.entries.now c.loop-entry.entry-index
    c.loop-entry-test.false _ c.loop-entry.invariant
