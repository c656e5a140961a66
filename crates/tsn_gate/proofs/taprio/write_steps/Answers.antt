use Rattle.std.proofs.Common.{◌++◌, string_bytes, refl, ap, ◌∙◌}
use Rattle.std.specs.List.{flat_map}
use Rattle.std.proofs.lemmas.List.{take_all}
use Rattle.tsn_gate.specs.Taprio.{step_text}
use Rattle.tsn_model.proofs.More.{written_behind}
use Rattle.tsn_gate.proofs.taprio.write_steps.Goals as goal

pub loop-entry-preserved : goal.loop-entry-preserved
loop-entry-preserved c =
    written_behind step_text _ c.args.entries.now c.loop-entry.entry-index _ _ _ _ c.loop-entry-test.true c.loop-entry.invariant
    c.in_ok-write_step.ensures refl

pub returns : goal.returns
returns c =
    c.loop-entry.invariant
    ∙ ap (λ entries. string_bytes c.args.text.now ++ flat_map step_text entries) (take_all c.loop-entry.entry-index c.args.entries.now c.loop-entry-test.false)
