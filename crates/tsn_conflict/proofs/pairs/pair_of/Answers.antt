use Rattle.std.proofs.Common.{refl, ap, arith}
use Rattle.std.proofs.lemmas.Int.{ints}
use Rattle.tsn_conflict.specs.declared.uses.Use.{Use}
use Rattle.tsn_conflict.specs.Pairs.{pair_in}
use Rattle.tsn_conflict.proofs.Meeting.{pair_same}
use Rattle.tsn_conflict.proofs.pairs.pair_of.Goals as goal

pub overflow_cast-result-4 : goal.overflow_cast-result-4
overflow_cast-result-4 c =
    let left_start = ap (λ (u : Use). u.start) c.look_up-left.ensures in
    let left_separation = ap (λ (u : Use). u.separation) c.look_up-left.ensures in
    let right_start = ap (λ (u : Use). u.start) c.look_up-right.ensures in
    let within = c.requires in
    let not_before = within.not_before in
    let not_after = within.not_after in
    let left_early = within.left_early in
    let left_short = within.left_short in
    let right_early = within.right_early in
    omega (arith, ints, left_start, left_separation, right_start, not_before, not_after, left_early, left_short, right_early)

pub overflow_cast-result-6 : goal.overflow_cast-result-6
overflow_cast-result-6 c =
    let left_start = ap (λ (u : Use). u.start) c.look_up-left.ensures in
    let right_separation = ap (λ (u : Use). u.separation) c.look_up-right.ensures in
    let right_start = ap (λ (u : Use). u.start) c.look_up-right.ensures in
    let within = c.requires in
    let not_before = within.not_before in
    let not_after = within.not_after in
    let left_early = within.left_early in
    let right_short = within.right_short in
    let right_early = within.right_early in
    omega (arith, ints, left_start, right_separation, right_start, not_before, not_after, left_early, right_short, right_early)

pub returns : goal.returns
unfolding pair_in
returns c =
    let left_start = ap (λ (u : Use). u.start) c.look_up-left.ensures in
    let left_separation = ap (λ (u : Use). u.separation) c.look_up-left.ensures in
    let right_start = ap (λ (u : Use). u.start) c.look_up-right.ensures in
    let right_separation = ap (λ (u : Use). u.separation) c.look_up-right.ensures in
    let within = c.requires in
    let not_before = within.not_before in
    let not_after = within.not_after in
    let left_early = within.left_early in
    let left_short = within.left_short in
    let right_early = within.right_early in
    let right_short = within.right_short in
    pair_same _ _ refl refl
    (omega (arith, ints, left_start, left_separation, right_start, not_before, not_after, left_early, left_short, right_early))
    (omega (arith, ints, left_start, right_separation, right_start, not_before, not_after, left_early, right_short, right_early))
