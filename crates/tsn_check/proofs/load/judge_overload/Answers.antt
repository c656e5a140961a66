use Rattle.std.proofs.Common.{◌≡◌, ◌+ℤ◌, to_z, of_z, w64, arith}
use Rattle.std.proofs.lemmas.Int.{ints}
use Rattle.tsn_model.specs.Certificate.{busy_until}
use Rattle.tsn_check.specs.Turns.{decisions}
use Rattle.tsn_check.specs.declared.why.Shortfall.TheVariants.{Overload}
use Rattle.tsn_check.proofs.Loads.{busy_until_is}
use Rattle.tsn_check.proofs.load.judge_overload.Goals as goal

pub overflow_cast-end : goal.overflow_cast-end
overflow_cast-end c = let short = c.in_ok-all.ensures.2 in omega (arith, ints)

pub overflow_add-end : goal.overflow_add-end
overflow_add-end c =
    let short = c.in_ok-all.ensures.2 in
    let low = c.in_ok-all.ensures.1.low_head in
    let high = c.in_ok-all.ensures.1.high_head in
    omega (arith, ints)

pub returns-then-end-cycle : goal.returns-then-end-cycle
returns-then-end-cycle c target =
    let busy = busy_until_is c.args.timing.now (decisions c.args.path.now) c.args.link c.args.entries.now c.in_ok-all.all c.in_ok-all.ensures.1 in
    let short = c.in_ok-all.ensures.2 in
    let low = c.in_ok-all.ensures.1.low_head in
    let high = c.in_ok-all.ensures.1.high_head in
    let cycle = c.cycle-cycle.ensures.value in
    let past = c.if-end-cycle.true in
    (c.in_ok-all.ensures.0, omega (arith, ints))

pub returns-else-end-cycle : goal.returns-else-end-cycle
returns-else-end-cycle c target =
    let network = c.args.timing.now in
    let path = decisions c.args.path.now in
    let all = c.in_ok-all.all in
    let busy = busy_until_is network path c.args.link c.args.entries.now all c.in_ok-all.ensures.1 in
    let short = c.in_ok-all.ensures.2 in
    let low = c.in_ok-all.ensures.1.low_head in
    let high = c.in_ok-all.ensures.1.high_head in
    let cycle = c.cycle-cycle.ensures.value in
    let within = c.if-end-cycle.false in
    let end : to_z w64 (of_z w64 (to_z w64 (of_z w64 all.head) +ℤ to_z w64 all.work)) ≡ busy_until network path c.args.link c.args.entries.now =
    omega (arith, ints) in
    (c.in_ok-all.ensures.0, λ proves. let past = proves.1 in omega (arith, ints), λ i. Overload c.args.link (end i) (cycle i))
