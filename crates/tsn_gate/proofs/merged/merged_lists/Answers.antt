-- proofs/merged/merged_lists/Answers.antt
use Rattle.std.proofs.Common.{subst}
use Rattle.tsn_model.specs.Network.{IsWellFormed}
use Rattle.tsn_gate.specs.Merged.{AreMerged, AreMergedLists}
use Rattle.tsn_gate.proofs.Merging.{AreMergedLists-merged, KeepsWantedGates-merged, merged_exist}
use Rattle.tsn_gate.proofs.merged.merged_lists.Goals as goal

pub returns : goal.returns
returns c =
    let network = c.args.problem.now.network in
    let offsets = c.args.valid.now in
    let formed = subst IsWellFormed c.deref.ensures c.cycle-limits.ensures.well_formed in
    let lists = c.in_ok-merge_all.field-0.items in
    let merged = subst (λ wanted. AreMerged c.args.least wanted lists) c.deref-2.ensures.value c.in_ok-merge_all.ensures in
    let are : AreMergedLists network offsets c.args.least lists = AreMergedLists-merged network offsets formed c.in_ok-wanted.wanted.items lists c.in_ok-wanted.ensures.lists c.args.least merged in
    record { lists = are; gates = KeepsWantedGates-merged network offsets formed c.args.least lists are; exist = merged_exist network offsets formed c.args.least lists are }

pub gate_lists-requires : goal.gate_lists-requires
gate_lists-requires c = c.requires
