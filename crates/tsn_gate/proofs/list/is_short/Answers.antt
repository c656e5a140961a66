use Rattle.std.proofs.Common.{◌≡◌, ◌+◌, take, arith}
use Rattle.std.proofs.lemmas.Grind.{common_steps}
use Rattle.tsn_model.specs.declared.GateEntry.{GateEntry}
use Rattle.tsn_model.specs.Gates.{cycle_of}
use Rattle.tsn_gate.proofs.Entries.{cycle_of-nil}
use Rattle.tsn_gate.proofs.Playing.{cycle_of_more, cycle_of_part}
use Rattle.tsn_gate.proofs.list.is_short.Goals as goal

pub loop-entry-init : goal.loop-entry-init
loop-entry-init c = omega (arith, cycle_of-nil)

pub returns-then-left-entry : goal.returns-then-left-entry
returns-then-left-entry c =
    let entries = c.args.entries.now in
    let none : GateEntry = record { interval = 0; octet = 0 } in
    let part = cycle_of_part entries c.loop-entry.entry-index none c.loop-entry-test.true in
    let so_far : cycle_of (take c.loop-entry.entry-index entries) + c.loop-entry.left ≡ 1000000000 = c.loop-entry.invariant in
    (λ yes. absurd (cc yes), λ short. absurd (omega arith))

pub loop-entry-preserved : goal.loop-entry-preserved
loop-entry-preserved c =
    let entries = c.args.entries.now in
    let none : GateEntry = record { interval = 0; octet = 0 } in
    let more = cycle_of_more entries c.loop-entry.entry-index none c.loop-entry-test.true in
    let so_far : cycle_of (take c.loop-entry.entry-index entries) + c.loop-entry.left ≡ 1000000000 = c.loop-entry.invariant in
    omega arith

pub returns : goal.returns
returns c = grind (arith, common_steps) steps 2000000
