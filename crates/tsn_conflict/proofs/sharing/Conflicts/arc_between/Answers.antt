use Rattle.std.proofs.Common.{◌≡◌, ◌+◌, pos, ◌-ℤ◌, arith}
use Rattle.std.proofs.lemmas.Int.{ints}
use Rattle.tsn_model.specs.Timing.{separation, start_on}
use Rattle.tsn_model.specs.Arcs.{arc_between}
use Rattle.tsn_conflict.proofs.sharing.Conflicts.arc_between.Goals as goal

pub returns-clause-value : goal.returns-clause-value
unfolding arc_between
returns-clause-value c =
    λ network is.
    let before_start = c.use_on-before.ensures.start network is in
    let before_separation = c.use_on-before.ensures.separation network is in
    let after_start = c.use_on-after.ensures.start network is in
    let early = c.use_on-before.ensures.early in
    let short = c.use_on-before.ensures.short in
    let early_after = c.use_on-after.ensures.early in
    let not_before = c.requires.not_before in
    let not_after = c.requires.not_after in
    let first = c.args.first in
    let second = c.args.second in
    let weight : _ ≡ (pos (start_on network c.args.first c.args.link + separation network c.args.first c.args.link) -ℤ pos (start_on network c.args.second c.args.link)) -ℤ c.args.lag =
    omega (arith, ints, before_start, before_separation, after_start, early, short, early_after, not_before, not_after) in
    (λ k. record { from = first; to = second; weight = weight k })
