use Rattle.std.proofs.Common.{◌≡◌, Some, inl, inr, refl}
use Rattle.tsn_check.proofs.tree.is_shown.Goals as goal

pub returns-in-Ok-Some : goal.returns-in-Ok-Some
returns-in-Ok-Some c network target planned path proof found =
    let is : c.in-Ok-Some.field-0 ≡ Some c.in-Ok-Some.short = rw c.in-Ok-Some.is at c.in-Ok-Some.field-0-is in
    inr (c.in-Ok-Some.short, rw (c.in-Ok-Some.is, is) at found, refl)

pub returns-in-Err : goal.returns-in-Err
returns-in-Err c network target planned path proof found = inl (rw c.in-Err.is at found)
