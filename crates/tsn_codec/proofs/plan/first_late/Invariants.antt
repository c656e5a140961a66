use Rattle.std.proofs.Common.{◌≡◌, drop, not}
use Rattle.std.specs.Prelude.{position}
use Rattle.std.specs.List.{position_from}
use Rattle.std.specs.Prelude.{nat_le}
use Rattle.tsn_cert.specs.Plan.{max_time}
use Rattle.tsn_codec.proofs.plan.first_late.Given as goal

-- the first of the rest that is above the limit, counted from there, is that of all
abbrev pub invariant-loop-number : goal.invariant-loop-number
invariant-loop-number l =
    position_from (λ offset. not (nat_le offset max_time)) l.number (drop l.number l.offsets)
    ≡ position (λ offset. not (nat_le offset max_time)) l.offsets
