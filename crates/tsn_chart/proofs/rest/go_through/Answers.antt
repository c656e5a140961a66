use Rattle.std.proofs.Common.{◌∙◌, fold, get_or, sym, ap, arith}
use Rattle.std.proofs.lemmas.List.{take_all}
use Rattle.std.proofs.lemmas.List.Sums.{fold_more}
use Rattle.tsn_model.specs.declared.GateEntry.{GateEntry}
use Rattle.tsn_chart.specs.declared.rest.Run.{Run}
use Rattle.tsn_chart.specs.Rest.{go_on}
use Rattle.tsn_gate.proofs.Playing.{cycle_of_more, cycle_of_part}
use Rattle.tsn_chart.proofs.Runs.{go_on-le}
use Rattle.tsn_chart.proofs.rest.go_through.Goals as goal

none : GateEntry
none = record { interval = 0; octet = 0 }

pub go_on-run-requires : goal.go_on-run-requires
unfolding none
go_on-run-requires c =
    let part = cycle_of_part c.args.entries.now c.loop-entry.entry-index none c.loop-entry-test.true in
    let bound = c.loop-entry.invariant.bound in
    omega arith

pub loop-entry-preserved : goal.loop-entry-preserved
unfolding none
loop-entry-preserved c =
    let entries = c.args.entries.now in
    let i = c.loop-entry.entry-index in
    let more = cycle_of_more entries i none c.loop-entry-test.true in
    let bound = c.loop-entry.invariant.bound in
    let current = ap (λ (r : Run). r.current) c.go_on-run.ensures in
    record {
      so_far = c.go_on-run.ensures ∙ (ap (λ r. go_on r (get_or entries i none)) c.loop-entry.invariant.so_far ∙ sym (fold_more go_on c.args.begun entries i none c.loop-entry-test.true));
      bound = omega (arith, go_on-le c.loop-entry.run (get_or entries i none));
    }

pub returns : goal.returns
returns c =
    c.loop-entry.invariant.so_far
    ∙ ap (λ entries. fold go_on c.args.begun entries) (take_all c.loop-entry.entry-index c.args.entries.now c.loop-entry-test.false)
