use Rattle.std.proofs.Common.{rules}
use Rattle.std.proofs.lemmas.List.Sorted.{IsNonDecreasingBy-from_sort_by_key}
use Rattle.tsn_gate.specs.declared.windows.Window.{Window}
use Rattle.tsn_gate.proofs.Occupancies.{AreWindowsOf-permutation, AreWindows-sorted, AllPairs-permutation, windows_fit}
use Rattle.tsn_gate.proofs.windows.windows_on.Goals as goal

pub returns-clause-of_streams : goal.returns-clause-of_streams
returns-clause-of_streams c =
    AreWindowsOf-permutation c.args.timing.now c.args.offsets.now c.args.link c.in_ok-windows.windows.items c.sort_unstable_by_key.new.self.items c.sort_unstable_by_key.ensures.permutation c.in_ok-windows.ensures.of_streams

pub returns-clause-in_order : goal.returns-clause-in_order
returns-clause-in_order c =
    let windows = c.sort_unstable_by_key.new.self.items in
    let moved = c.sort_unstable_by_key.ensures.permutation in
    let of_streams = AreWindowsOf-permutation c.args.timing.now c.args.offsets.now c.args.link c.in_ok-windows.windows.items windows moved c.in_ok-windows.ensures.of_streams in
    AreWindows-sorted c.args.timing.now.cycle windows (windows_fit c.args.timing.now c.args.offsets.now c.args.link c.requires.formed c.requires.valid windows of_streams)
    (AllPairs-permutation c.in_ok-windows.windows.items windows moved c.in_ok-windows.ensures.apart)
    (IsNonDecreasingBy-from_sort_by_key (λ (w : Window). w.start) _ c.sort_unstable_by_key.ensures.sorted (λ a r q k. search rules))
