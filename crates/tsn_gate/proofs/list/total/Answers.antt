use Rattle.std.proofs.Common.{sym, ap, ◌∙◌, arith}
use Rattle.std.proofs.lemmas.List.{take_all}
use Rattle.tsn_model.specs.declared.GateEntry.{GateEntry}
use Rattle.tsn_model.specs.Gates.{cycle_of}
use Rattle.tsn_gate.proofs.Entries.{cycle_of-nil}
use Rattle.tsn_gate.proofs.Playing.{cycle_of_more, cycle_of_part}
use Rattle.tsn_gate.proofs.list.total.Goals as goal

none : GateEntry
none = record { interval = 0; octet = 0 }

pub loop-entry-init : goal.loop-entry-init
loop-entry-init c = sym cycle_of-nil

pub overflow_add-time : goal.overflow_add-time
unfolding none
overflow_add-time c =
    let part = cycle_of_part c.args.entries.now c.loop-entry.entry-index none c.loop-entry-test.true in
    omega arith

pub loop-entry-preserved : goal.loop-entry-preserved
unfolding none
loop-entry-preserved c =
    let more = cycle_of_more c.args.entries.now c.loop-entry.entry-index none c.loop-entry-test.true in
    omega arith

pub returns : goal.returns
returns c = c.loop-entry.invariant ∙ ap cycle_of (take_all c.loop-entry.entry-index c.args.entries.now c.loop-entry-test.false)
