use Rattle.std.proofs.Common.{◌≡◌, ◌<◌, length, vec_len, rules, sym, ◌∙◌, subst, arith, eqb-true}
use Rattle.tsn_model.specs.Gates.{guard_of}
use Rattle.tsn_gate.specs.Entries.{IsTimeline}
use Rattle.tsn_gate.specs.Windows.{AreWindowsOf, ShowsWindows}
use Rattle.tsn_gate.specs.GateLists.{IsListOf}
use Rattle.tsn_gate.proofs.Wanted.{none_used, IsGateList-timeline, IsListOf-windows}
use Rattle.tsn_gate.proofs.lists.list_of.Goals as goal

pub of-requires : goal.of-requires
of-requires c =
    IsGateList-timeline c.args.timing.now c.in_ok-entries.entries.items c.requires.formed
    (subst (IsTimeline c.in_ok-entries.entries.items) c.requires.cycle c.in_ok-entries.ensures.timeline)

pub returns-then-is_empty : goal.returns-then-is_empty
returns-then-is_empty c used =
    let windows = c.in_ok-windows.windows in
    let none : vec_len windows ≡ 0 = eqb-true _ _ (sym c.is_empty.ensures ∙ c.if-is_empty.true) in
    none_used c.args.timing.now c.args.offsets.now c.args.link windows.items c.requires.formed c.in_ok-windows.ensures.of_streams (omega arith) used

pub returns : goal.returns
returns c =
    let windows = c.deref.result.now in
    let entries = c.in_ok-entries.entries.items in
    let some : 0 < length windows = search rules in
    let all = subst (AreWindowsOf c.args.timing.now c.args.offsets.now c.args.link) (sym c.deref.ensures.value) c.in_ok-windows.ensures.of_streams in
    let guarded = subst (λ n. ShowsWindows windows c.args.cycle n entries c.args.cycle) c.guard.ensures c.in_ok-entries.ensures.shown in
    subst (IsListOf c.args.timing.now c.args.offsets.now c.args.link) (sym c.of.ensures)
    (IsListOf-windows c.args.timing.now c.args.offsets.now c.args.link windows all entries some
    (subst (IsTimeline entries) c.requires.cycle c.in_ok-entries.ensures.timeline)
    (subst (λ n. ShowsWindows windows n (guard_of c.args.timing.now c.args.link) entries n) c.requires.cycle guarded))

pub windows_on-requires-clause-formed : goal.windows_on-requires-clause-formed
windows_on-requires-clause-formed c = c.requires.formed

pub windows_on-requires-clause-valid : goal.windows_on-requires-clause-valid
windows_on-requires-clause-valid c = c.requires.valid
