use Rattle.std.proofs.Common.{◌≡◌, ◌+◌, ◌%◌, ◌<◌, ◌≤◌, length, get_or, take, sym, ap, ◌∙◌, subst, arith}
use Rattle.std.proofs.Math.Nat.{mod-lt}
use Rattle.std.proofs.lemmas.List.{take_all}
use Rattle.tsn_model.specs.declared.GateEntry.{GateEntry}
use Rattle.tsn_model.specs.Gates.{cycle_of, IsOctetAt}
use Rattle.tsn_model.specs.Bridge.{LinkGates}
use Rattle.tsn_gate.proofs.Entries.{cycle_of-nil}
use Rattle.tsn_gate.proofs.Playing.{IsOctetAt-entry, cycle_of_more, cycle_of-pos}
use Rattle.tsn_gate.proofs.list.GateList.state_at.Goals as goal

pub loop-entry-init : goal.loop-entry-init
loop-entry-init c = omega (arith, cycle_of-nil, ap (λ n. c.args.t % n) c.cycle.ensures.value)

pub returns-then-left-entry : goal.returns-then-left-entry
returns-then-left-entry c =
    let entries = c.args.self.now.entries in
    let at = c.loop-entry.entry-index in
    let none : GateEntry = record { interval = 0; octet = 0 } in
    let same : c.deref-entry-items.result.now ≡ entries = c.deref-entry-items.ensures.value ∙ ap (λ (list : LinkGates). list.entries) c.self.view_is in
    subst (λ xs. IsOctetAt entries c.args.t (get_or xs at none).octet) (sym same)
    (IsOctetAt-entry entries c.args.t at c.loop-entry.left none (subst (λ xs. at < length xs) same c.loop-entry-test.true) c.loop-entry.invariant
    (subst (λ xs. c.loop-entry.left < (get_or xs at none).interval) same c.if-left-entry.true))

pub loop-entry-preserved : goal.loop-entry-preserved
loop-entry-preserved c =
    let entries = c.args.self.now.entries in
    let at = c.loop-entry.entry-index in
    let none : GateEntry = record { interval = 0; octet = 0 } in
    let same : c.deref-entry-items.result.now ≡ entries = c.deref-entry-items.ensures.value ∙ ap (λ (list : LinkGates). list.entries) c.self.view_is in
    let more = cycle_of_more entries at none (subst (λ xs. at < length xs) same c.loop-entry-test.true) in
    let past = subst (λ xs. (get_or xs at none).interval ≤ c.loop-entry.left) same c.if-left-entry.false in
    let lasts = ap (λ xs. (get_or xs at none).interval) same in
    let so_far : cycle_of (take at entries) + c.loop-entry.left ≡ c.args.t % cycle_of entries = c.loop-entry.invariant in
    omega arith

pub unreachable-requires : goal.unreachable-requires
unreachable-requires c =
    let entries = c.args.self.now.entries in
    let at = c.loop-entry.entry-index in
    let same : c.self.inside.entries.items ≡ entries = ap (λ (list : LinkGates). list.entries) c.self.view_is in
    let items : c.deref-entry-items.result.now ≡ entries = c.deref-entry-items.ensures.value ∙ same in
    let past : length entries ≤ at = subst (λ xs. length xs ≤ at) items c.loop-entry-test.false in
    let all = ap cycle_of (take_all at entries past) in
    let so_far : cycle_of (take at entries) + c.loop-entry.left ≡ c.args.t % cycle_of entries = c.loop-entry.invariant in
    let some : 1 ≤ cycle_of entries = subst (λ xs. 1 ≤ cycle_of xs) same (cycle_of-pos c.self.inside.entries.items c.self.invariant.some_entry c.self.invariant.positive) in
    omega (arith, mod-lt c.args.t some)
