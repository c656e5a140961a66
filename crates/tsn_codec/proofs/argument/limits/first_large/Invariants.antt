use Rattle.std.proofs.Common.{◌≡◌, drop, not}
use Rattle.std.specs.Prelude.{position}
use Rattle.std.specs.List.{position_from}
use Rattle.tsn_codec.proofs.argument.limits.first_large.Given as goal

-- the first of the rest that is too large, counted from there, is that of all
abbrev pub invariant-loop-number : goal.invariant-loop-number
invariant-loop-number g l =
    position_from (λ it. not (g.T.Limited.within it)) l.number (drop l.number l.parts)
    ≡ position (λ it. not (g.T.Limited.within it)) l.parts
