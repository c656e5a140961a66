-- proofs/merged/changed/Answers.antt
use Rattle.std.specs.Global.{Vec}
use Rattle.std.proofs.lemmas.Result.{IfOk-weaker}
use Rattle.tsn_model.specs.declared.GateEntry.{GateEntry}
use Rattle.tsn_gate.specs.Entries.{IsGateList}
use Rattle.tsn_gate.specs.Merged.{IsWidened}
use Rattle.tsn_gate.proofs.Merging.{IsGateList-merged}
use Rattle.tsn_gate.proofs.merged.changed.Goals as goal

pub returns-clause-list : goal.returns-clause-list
returns-clause-list c =
    let wanted = c.args.entries.now in
    IfOk-weaker c.widened.result (λ (new : Vec GateEntry). IsWidened c.args.least wanted new.items) (λ (new : Vec GateEntry). IsGateList new.items)
    (λ new is. IsGateList-merged wanted new.items c.requires.list is.timeline) c.widened.ensures
