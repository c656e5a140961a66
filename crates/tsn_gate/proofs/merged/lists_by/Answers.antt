use Rattle.std.specs.Global.{Vec}
use Rattle.std.proofs.lemmas.Result.{IfOk-weaker}
use Rattle.tsn_model.specs.Bridge.{HasWantedGates}
use Rattle.tsn_model.specs.Kept.{KeepsWantedGates}
use Rattle.tsn_model.proofs.OnTime.{wanted_kept}
use Rattle.tsn_gate.specs.declared.list.GateList.{GateList}
use Rattle.tsn_gate.proofs.merged.lists_by.Goals as goal

pub returns-in-None-clause-gates : goal.returns-in-None-clause-gates
returns-in-None-clause-gates c =
    let network = c.args.problem.now.network in
    let offsets = c.args.valid.now in
    IfOk-weaker c.gate_lists.result (λ (lists : Vec GateList). HasWantedGates network offsets lists.items)
    (λ (lists : Vec GateList). KeepsWantedGates network offsets lists.items)
    (λ lists has. wanted_kept network offsets lists.items has) c.gate_lists.ensures.gates
