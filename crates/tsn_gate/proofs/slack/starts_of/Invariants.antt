use Rattle.std.proofs.Common.{◌≡◌, take}
use Rattle.tsn_gate.specs.Windows.{starts_of}
use Rattle.tsn_gate.proofs.slack.starts_of.Given as goal

abbrev pub invariant-loop-window : goal.invariant-loop-window
invariant-loop-window l = l.starts.items ≡ starts_of (take l.window-index l.windows)
