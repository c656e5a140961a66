use Rattle.std.proofs.Common.{refl, inl, inr}
use Rattle.tsn_argue.proofs.link.judge_one.Goals as goal

pub returns-then-not-has : goal.returns-then-not-has
returns-then-not-has c = inl (refl, c.if-not-has.ensures)

pub returns-then-add : goal.returns-then-add
returns-then-add c = (c.if-not-has.ensures, c.if-add.ensures.0, c.if-add.ensures.1)

pub returns-else-add : goal.returns-else-add
returns-else-add c = inr (refl, c.if-not-has.ensures, c.if-add.ensures)
