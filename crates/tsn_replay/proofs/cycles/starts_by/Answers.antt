use Rattle.std.specs.Prelude.{IfOk}
use Rattle.std.proofs.Common.{sym, ◌∙◌, subst}
use Rattle.tsn_replay.specs.Feeding.{background_of}
use Rattle.tsn_replay.specs.Progress.{IsSetting, AreStarts}
use Rattle.tsn_replay.proofs.cycles.starts_by.Goals as goal

pub run-requires : goal.run-requires
run-requires c =
    let network = sym c.plain.ensures in
    let gates = sym (c.deref.ensures.value ∙ c.in_ok-gates.ensures) in
    let background = background_of c.args.background.now in
    subst IsSetting
    (λ i. record { network = network i; offsets = c.args.offsets.now; gates = gates i; cycles = c.args.cycles; background = background; keeps = c.args.keeps; slack = c.args.slack })
    c.requires

pub returns : goal.returns
returns c =
    let network = c.plain.ensures in
    let gates = c.deref.ensures.value ∙ c.in_ok-gates.ensures in
    let background = background_of c.args.background.now in
    subst (λ setting. IfOk c.run.result (AreStarts setting))
    (λ i. record { network = network i; offsets = c.args.offsets.now; gates = gates i; cycles = c.args.cycles; background = background; keeps = c.args.keeps; slack = c.args.slack })
    c.run.ensures
