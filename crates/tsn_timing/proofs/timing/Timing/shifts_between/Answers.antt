use Rattle.std.proofs.Common.{◌≡◌, ◌≤◌, ◌+◌, ◌-◌, ◌*◌, length, take, drop, ap, ap₂, ◌∙◌, sym, subst, arith, mul-le-mul}
use Rattle.std.proofs.lemmas.Int.{ints}
use Rattle.tsn_model.specs.Network.{turns_of, period_of, burst_of}
use Rattle.tsn_model.specs.Timing.{shifts}
use Rattle.tsn_timing.specs.Between.{IsPartBetween}
use Rattle.tsn_timing.proofs.Turning.{part, part_taken, is_part, turns-le, length-shifts}
use Rattle.tsn_timing.proofs.timing.Timing.shifts_between.Goals as goal

pub overflow_mul-result : goal.overflow_mul-result
overflow_mul-result c =
    let few = turns-le c.args.self.now c.args.stream c.cycle-limits.ensures.well_formed c.requires in
    let turns : c.min-done.result ≤ 1000000000 = omega arith in
    let product = mul-le-mul turns c.burst-burst.ensures.few in
    omega arith

pub overflow_mul-result-2 : goal.overflow_mul-result-2
overflow_mul-result-2 c =
    let few = turns-le c.args.self.now c.args.stream c.cycle-limits.ensures.well_formed c.requires in
    let turns : c.min-begun.result ≤ 1000000000 = omega arith in
    let product = mul-le-mul turns c.burst-burst.ensures.few in
    omega arith

pub offset_bounds-shifts-done : goal.offset_bounds-shifts-done
offset_bounds-shifts-done c =
    let few = turns-le c.args.self.now c.args.stream c.cycle-limits.ensures.well_formed c.requires in
    let turns : c.min-done.result ≤ 1000000000 = omega arith in
    let product = mul-le-mul turns c.burst-burst.ensures.few in
    omega arith

pub slice_bounds-result-end : goal.slice_bounds-result-end
slice_bounds-result-end c =
    let within : c.min-begun.result ≤ turns_of c.args.self.now c.args.stream = omega arith in
    let same : c.burst-burst.result ≤ burst_of c.args.self.now c.args.stream = omega arith in
    let product = mul-le-mul within same in
    let long : length c.shifts.result.now ≡ turns_of c.args.self.now c.args.stream * burst_of c.args.self.now c.args.stream = ap length
    c.shifts.ensures.value ∙ length-shifts c.args.self.now c.args.stream in
    omega arith

pub returns-clause-part : goal.returns-clause-part
returns-clause-part c =
    let network = c.args.self.now in
    let i = c.args.stream in
    let done = c.min-done.result in
    let begun = c.min-begun.result in
    let ordered : done ≤ begun = omega arith in
    let within : begun ≤ turns_of network i = omega arith in
    let burst = c.burst-burst.ensures.value in
    let first = done * c.burst-burst.result in
    let last = begun * c.burst-burst.result in
    let taken : take (last - first) (drop first c.shifts.result.now) ≡ part network i done begun ordered within =
    ap (λ xs. take (last - first) (drop first xs)) c.shifts.ensures.value
    ∙ part_taken network i done begun ordered within _ _ (ap (λ b. done * b) burst) (ap (λ b. begun * b) burst) in
    let period = c.period-period.ensures.value in
    rw taken (is_part network i done begun ordered within c.args.low c.args.high
    (λ turn below.
    let last = c.turns_done.ensures turn (omega arith) in
    let begins : turn * c.period-period.result ≡ turn * period_of network i = ap (λ p. turn * p) period in
    let spread = c.spread.ensures.value in
    omega (arith, ints, last, begins, spread))
    (λ turn above below.
    let first = c.turns_begun.ensures turn (omega arith) in
    let begins : turn * c.period-period.result ≡ turn * period_of network i = ap (λ p. turn * p) period in
    omega (arith, ints, first, begins)))
