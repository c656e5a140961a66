use Rattle.std.proofs.Common.{◌≤◌, refl, arith}
use Rattle.tsn_model.specs.declared.GateEntry.{GateEntry}
use Rattle.tsn_model.proofs.Rest.{all_more, all_done}
use Rattle.tsn_gate.proofs.list.all_last.Goals as goal

none : GateEntry
none = record { interval = 0; octet = 0 }

pub loop-entry-preserved : goal.loop-entry-preserved
unfolding none
loop-entry-preserved c =
    all_more (λ (entry : GateEntry). c.args.least ≤ entry.interval) c.args.entries.now c.loop-entry.entry-index none
    c.loop-entry-test.true c.loop-entry.invariant
    c.if-entry-least.false

pub returns-then-entry-least : goal.returns-then-entry-least
unfolding none
returns-then-entry-least c =
    let short = c.if-entry-least.true in
    (λ yes. absurd (cc yes), λ all. let long = all c.loop-entry.entry-index none c.loop-entry-test.true in absurd (omega arith))

pub returns : goal.returns
returns c = (
  λ yes. all_done (λ (entry : GateEntry). c.args.least ≤ entry.interval) c.args.entries.now c.loop-entry.entry-index
      c.loop-entry-test.false c.loop-entry.invariant,
  λ all. refl,
)
