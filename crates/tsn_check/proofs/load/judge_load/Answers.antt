use Rattle.std.proofs.Common.{◌≡◌, ℤ, pos, ◌+ℤ◌, to_z, of_z, w64, arith}
use Rattle.std.proofs.lemmas.Int.{ints}
use Rattle.tsn_check.specs.Turns.{decisions}
use Rattle.tsn_check.proofs.Loads.{load_found}
use Rattle.tsn_check.proofs.load.judge_load.Goals as goal

pub overflow_cast-all : goal.overflow_cast-all
overflow_cast-all c = let short = c.in_ok-all.ensures.2 in omega (arith, ints)

pub overflow_add-all : goal.overflow_add-all
overflow_add-all c =
    let short = c.in_ok-all.ensures.2 in
    let low = c.in_ok-all.ensures.1.low_head in
    let high = c.in_ok-all.ensures.1.high_head in
    omega (arith, ints)

pub overflow_add-all-2 : goal.overflow_add-all-2
overflow_add-all-2 c =
    let short = c.in_ok-all.ensures.2 in
    let low = c.in_ok-all.ensures.1.low_head in
    let high = c.in_ok-all.ensures.1.high_head in
    let low_tail = c.in_ok-all.ensures.1.low_tail in
    let high_tail = c.in_ok-all.ensures.1.high_tail in
    omega (arith, ints)

pub returns : goal.returns
returns c =
    let network = c.args.timing.now in
    let path = decisions c.args.path.now in
    let all = c.in_ok-all.all in
    let short = c.in_ok-all.ensures.2 in
    let low = c.in_ok-all.ensures.1.low_head in
    let high = c.in_ok-all.ensures.1.high_head in
    let low_tail = c.in_ok-all.ensures.1.low_tail in
    let high_tail = c.in_ok-all.ensures.1.high_tail in
    let bound : ℤ = to_z w64 (of_z w64 (to_z w64 (of_z w64 (to_z w64 (of_z w64 all.head) +ℤ to_z w64 all.work)) +ℤ to_z w64 (of_z w64 all.tail))) in
    let is : bound ≡ all.head +ℤ pos all.work +ℤ all.tail = omega (arith, ints) in
    load_found network path c.args.link c.args.target c.args.entries.now all bound c.below.result c.in_ok-all.ensures.0 c.in_ok-all.ensures.1 is c.below.ensures
