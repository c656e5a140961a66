use Rattle.std.specs.Prelude.{nat_lt}
use Rattle.std.proofs.lemmas.Bool.{lt-ltb, le-ltb}
use Rattle.std.proofs.lemmas.List.{drop_more}
use Rattle.tsn_model.specs.declared.GateEntry.{GateEntry}
use Rattle.tsn_model.proofs.Rest.{any_here, any_later, any_past}
use Rattle.tsn_gate.proofs.device.is_short.Goals as goal

pub returns-then-entry-least : goal.returns-then-entry-least
returns-then-entry-least c =
    any_here (λ (entry : GateEntry). nat_lt entry.interval c.args.least) _ _ _
    (drop_more c.args.entries.now c.loop-entry.entry-index _ c.loop-entry-test.true) _
    (lt-ltb _ _ c.if-entry-least.true) c.loop-entry.invariant

pub loop-entry-preserved : goal.loop-entry-preserved
loop-entry-preserved c =
    any_later (λ (entry : GateEntry). nat_lt entry.interval c.args.least) _ _ _
    (drop_more c.args.entries.now c.loop-entry.entry-index _ c.loop-entry-test.true) _
    (le-ltb _ _ c.if-entry-least.false) c.loop-entry.invariant

pub returns : goal.returns
returns c =
    any_past (λ (entry : GateEntry). nat_lt entry.interval c.args.least) c.args.entries.now c.loop-entry.entry-index
    c.loop-entry-test.false _ c.loop-entry.invariant
