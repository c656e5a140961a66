use Rattle.std.proofs.Common.{sym, ap, ◌∙◌, arith}
use Rattle.std.proofs.lemmas.List.{take_all}
use Rattle.tsn_model.specs.declared.GateEntry.{GateEntry}
use Rattle.tsn_chart.specs.Shares.{time_of}
use Rattle.tsn_chart.proofs.Wholes.{time_of-nil, time_of_more, time_of_part}
use Rattle.tsn_chart.proofs.link.time_in_all.Goals as goal

none : GateEntry
none = record { interval = 0; octet = 0 }

pub loop-entry-init : goal.loop-entry-init
loop-entry-init c = sym (time_of-nil c.args.octet)

pub overflow_add-time : goal.overflow_add-time
unfolding none
overflow_add-time c =
    let part = time_of_part c.args.octet c.args.entries.now c.loop-entry.entry-index none c.loop-entry-test.true in
    let here = c.time_in-time.ensures in
    omega arith

pub loop-entry-preserved : goal.loop-entry-preserved
unfolding none
loop-entry-preserved c =
    let more = time_of_more c.args.octet c.args.entries.now c.loop-entry.entry-index none c.loop-entry-test.true in
    let here = c.time_in-time.ensures in
    omega arith

pub returns : goal.returns
returns c = c.loop-entry.invariant ∙ ap (time_of c.args.octet) (take_all c.loop-entry.entry-index c.args.entries.now c.loop-entry-test.false)
