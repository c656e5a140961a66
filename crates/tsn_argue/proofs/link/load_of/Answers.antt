use Rattle.std.proofs.Common.{ℤ, pos, ◌≤ℤ◌, ◌≤◌, arith}
use Rattle.std.proofs.lemmas.Int.{ints}
use Rattle.tsn_model.specs.Certificate.{least}
use Rattle.tsn_model.specs.Argument.{head_at, end_at, most, first_head, last_end, work_on}
use Rattle.tsn_model.proofs.Routes.{UsesLink-counted}
use Rattle.tsn_argue.proofs.OpenViews.{open_low, open_high}
use Rattle.tsn_argue.proofs.link.load_of.Goals as goal

record Open (low high : ℤ) : Type 0 where
  low_least : pos 0 ≤ℤ low
  low_most : low ≤ℤ pos 1000000000
  high_least : pos 0 ≤ℤ high
  high_most : high ≤ℤ pos 1000000000

-- what the view has of the stream
open_at : (c : goal.After-at-high) → Open c.at-low.result c.at-high.result
open_at c =
    let below = UsesLink-counted c.args.view.now.timing.now c.args.frame.stream c.args.link c.requires.on.uses in
    let short : c.args.view.now.timing.now.cycle ≤ 1000000000 = omega (arith, c.cycle-cycle.ensures.bound, c.cycle-cycle.ensures.value) in
    let low = open_low c.args.view.now c.args.frame.stream c.requires.sound c.requires.possible short below in
    let high = open_high c.args.view.now c.args.frame.stream c.requires.sound c.requires.possible short below in
    record {
      low_least = omega (arith, ints, low.0, c.at-low.ensures);
      low_most = omega (arith, ints, low.1, c.at-low.ensures);
      high_least = omega (arith, ints, high.0, c.at-high.ensures);
      high_most = omega (arith, ints, high.1, c.at-high.ensures);
    }

pub at-low-requires : goal.at-low-requires
at-low-requires c = omega (arith, c.requires.sound.view.lows, UsesLink-counted c.args.view.now.timing.now c.args.frame.stream c.args.link c.requires.on.uses)

pub at-high-requires : goal.at-high-requires
at-high-requires c = omega (arith, c.requires.sound.view.highs, UsesLink-counted c.args.view.now.timing.now c.args.frame.stream c.args.link c.requires.on.uses)

pub overflow_add-head : goal.overflow_add-head
overflow_add-head c = let at = open_at c in omega (arith, ints, at.low_least, at.low_most, c.visit_of-begin.ensures.early)

pub overflow_add-end : goal.overflow_add-end
overflow_add-end c = let at = open_at c in omega (arith, ints, at.high_least, at.high_most, c.visit_of-begin.ensures.early)

pub overflow_add-end-2 : goal.overflow_add-end-2
overflow_add-end-2 c =
    let at = open_at c in
    omega (arith, ints, at.high_least, at.high_most, c.visit_of-begin.ensures.early, c.visit_of-begin.ensures.short)

pub returns : goal.returns
unfolding head_at end_at first_head last_end work_on least most
returns c =
    let at = open_at c in
    let visit = c.visit_of-begin.ensures in
    record {
      head = omega (arith, ints, at.low_least, at.low_most, c.at-low.ensures, visit.early, visit.begin);
      end = omega (arith, ints, at.high_least, at.high_most, c.at-high.ensures, visit.early, visit.short, visit.end);
      work = omega (arith, visit.work);
      head_low = omega (arith, ints, at.low_least, at.low_most, visit.early);
      head_high = omega (arith, ints, at.low_least, at.low_most, visit.early);
      end_low = omega (arith, ints, at.high_least, at.high_most, visit.early, visit.short);
      end_high = omega (arith, ints, at.high_least, at.high_most, visit.early, visit.short);
      short = omega (arith, visit.short);
    }
