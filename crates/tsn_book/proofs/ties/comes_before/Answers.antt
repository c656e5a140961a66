use Rattle.std.proofs.Common.{◌∙◌, ◌<◌, length, sym, arith, inl, inr}
use Rattle.std.proofs.lemmas.Bool.{cases_lt, lt-ltb, le-ltb}
use Rattle.tsn_model.specs.Schedule.{offset_of}
use Rattle.tsn_book.proofs.Orders.{less_at, greater_at, same_till}
use Rattle.tsn_book.proofs.ties.comes_before.Goals as goal

pub returns-then-offsets-k : goal.returns-then-offsets-k
returns-then-offsets-k c =
    let xs = c.args.offsets.now in
    let ys = c.args.others.now in
    let k = c.loop-k.k in
    let in_first : k < length xs = omega (arith, c.loop-k-test.true, c.min-k-end.ensures) in
    let in_second : k < length ys = omega (arith, c.loop-k-test.true, c.min-k-end.ensures) in
    elim (cases_lt (offset_of xs k) (offset_of ys k)) [
      | inl less ↦ lt-ltb (offset_of xs k) (offset_of ys k) less ∙ sym (less_at xs ys k c.loop-k.invariant in_first in_second less)
      | inr more ↦
          le-ltb (offset_of xs k) (offset_of ys k) more
          ∙ sym (greater_at xs ys k c.loop-k.invariant in_first in_second (omega (arith, more, c.if-offsets-k.true)))
    ]

pub returns : goal.returns
returns c = sym (same_till c.args.offsets.now c.args.others.now c.loop-k.k c.loop-k.invariant (omega (arith, c.loop-k-test.false, c.min-k-end.ensures)))
