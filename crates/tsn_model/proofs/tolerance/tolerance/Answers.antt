use Rattle.std.proofs.Common.{◌<◌, ◌↔◌, ℕ, All, sym, subst, arith}
use Rattle.tsn_model.specs.Tolerance.{AreFar}
use Rattle.tsn_model.proofs.Tolerating.{tolerates_least, least_some, starts_within}
use Rattle.tsn_model.proofs.tolerance.tolerance.Goals as goal

pub least_gap-gap-requires-clause-within : goal.least_gap-gap-requires-clause-within
least_gap-gap-requires-clause-within g c =
    subst (λ n. All (λ start. start < n) c.args.starts.now) (sym c.cycle.ensures.value)
    (starts_within c.args.network.now c.cycle.ensures.well_formed g.offsets c.requires.0 c.args.link 0 c.args.starts.now c.requires.1.0)

pub overflow_sub-result : goal.overflow_sub-result
overflow_sub-result g c =
    least_some c.args.network.now c.cycle.ensures.well_formed g.offsets c.requires.0 c.args.link c.least_gap-gap.result c.least_delay.result c.args.starts.now c.requires.1.0
    (subst (λ n. (slack : ℕ) →
    (slack < c.least_gap-gap.result) ↔ AreFar n c.args.starts.now slack) c.cycle.ensures.value c.least_gap-gap.ensures) c.least_delay.ensures

pub returns : goal.returns
returns g c slack =
    let gaps = subst (λ n. (slack : ℕ) → (slack < c.least_gap-gap.result) ↔ AreFar n c.args.starts.now slack) c.cycle.ensures.value c.least_gap-gap.ensures in
    let some = least_some c.args.network.now c.cycle.ensures.well_formed g.offsets c.requires.0 c.args.link c.least_gap-gap.result c.least_delay.result c.args.starts.now c.requires.1.0 gaps c.least_delay.ensures in
    let least = tolerates_least c.args.network.now c.cycle.ensures.well_formed g.offsets c.requires.0 c.args.link c.least_gap-gap.result c.least_delay.result c.args.starts.now c.requires.1.0 gaps c.least_delay.ensures slack in
    ((λ tolerates. let less = least.0 tolerates in omega arith), (λ few. least.1 (omega arith)))
