use Rattle.std.proofs.Common.{◌≡◌, ℤ, pos, get_or, rules, to_z, of_z, w64, ap, ◌∙◌, arith}
use Rattle.std.specs.Prelude.{◌-ℤ◌, FitsSigned}
use mir.Syntax.{w32}
use Rattle.std.proofs.lemmas.Int.{ints}
use Rattle.tsn_conflict.specs.declared.pairs.Pair.{Pair}
use Rattle.tsn_conflict.specs.Pairs.{pair_in}
use Rattle.tsn_conflict.specs.Raised.{triple_at}
use Rattle.tsn_conflict.proofs.Lagging.{int_lt-from}
use Rattle.tsn_conflict.proofs.Meeting.{pair_in-left, pair_in-right, IsGap-from, gap_meets, meets_above, meets_below}
use Rattle.tsn_conflict.proofs.sharing.Conflicts.meets.Goals as goal

pub bounds-offsets-pair : goal.bounds-offsets-pair
bounds-offsets-pair c =
    let left = ap (λ (p : Pair). p.left) c.pair_at-pair.ensures.value ∙ pair_in-left c.args.self.now.uses (triple_at c.args.self.now.triples c.args.number) in
    let row = c.pair_at-pair.ensures.within.left_row in
    omega arith

pub bounds-offsets-pair-2 : goal.bounds-offsets-pair-2
bounds-offsets-pair-2 c =
    let right = ap (λ (p : Pair). p.right) c.pair_at-pair.ensures.value ∙ pair_in-right c.args.self.now.uses (triple_at c.args.self.now.triples c.args.number) in
    let row = c.pair_at-pair.ensures.within.right_row in
    omega arith

pub returns-then-from-gap : goal.returns-then-from-gap
returns-then-from-gap c =
    let uses = c.args.self.now.uses in
    let offsets = c.args.offsets.now in
    let triple = triple_at c.args.self.now.triples c.args.number in
    let pair = c.pair_at-pair.result in
    let gap : ℤ = pos (get_or offsets pair.left 0) -ℤ pos (get_or offsets pair.right 0) in
    let is = IsGap-from uses offsets triple pair c.pair_at-pair.ensures.value in
    let left_inside = (let left = ap (λ (p : Pair). p.left) c.pair_at-pair.ensures.value ∙ pair_in-left uses triple in let row = c.pair_at-pair.ensures.within.left_row in c.requires.small pair.left 0 (omega arith)) in
    let right_inside = (let right = ap (λ (p : Pair). p.right) c.pair_at-pair.ensures.value ∙ pair_in-right uses triple in let row = c.pair_at-pair.ensures.within.right_row in c.requires.small pair.right 0 (omega arith)) in
    let above_fits : FitsSigned w32 pair.above = search rules in
    let above : c.from.result ≡ (pair_in uses triple).above = (let is = c.from.ensures in omega (arith, ints, is, above_fits))
    ∙ ap (λ (p : Pair). p.above) c.pair_at-pair.ensures.value in
    let below_fits : FitsSigned w32 pair.below = search rules in
    let below : c.from-then-from-gap.result ≡ (pair_in uses triple).below = (let is = c.from-then-from-gap.ensures in omega (arith, ints, is, below_fits))
    ∙ ap (λ (p : Pair). p.below) c.pair_at-pair.ensures.value in
    let first = c.if-from-gap.true in (
      λ passes. gap_meets uses offsets triple gap is (omega (arith, ints, first, above, left_inside, right_inside))
          (omega (arith, ints, passes, below, left_inside, right_inside)),
      λ meets.
          let second = meets_below uses offsets triple gap is meets in
          int_lt-from (to_z w64 (of_z w64 (to_z w64 (get_or offsets pair.left 0) -ℤ to_z w64 (get_or offsets pair.right 0))))
          (to_z w64 (of_z w64 c.from-then-from-gap.result))
          (omega (arith, ints, second, below, left_inside, right_inside)),
    )

pub returns-else-from-gap : goal.returns-else-from-gap
returns-else-from-gap c =
    let uses = c.args.self.now.uses in
    let offsets = c.args.offsets.now in
    let triple = triple_at c.args.self.now.triples c.args.number in
    let pair = c.pair_at-pair.result in
    let gap : ℤ = pos (get_or offsets pair.left 0) -ℤ pos (get_or offsets pair.right 0) in
    let is = IsGap-from uses offsets triple pair c.pair_at-pair.ensures.value in
    let left_inside = (let left = ap (λ (p : Pair). p.left) c.pair_at-pair.ensures.value ∙ pair_in-left uses triple in let row = c.pair_at-pair.ensures.within.left_row in c.requires.small pair.left 0 (omega arith)) in
    let right_inside = (let right = ap (λ (p : Pair). p.right) c.pair_at-pair.ensures.value ∙ pair_in-right uses triple in let row = c.pair_at-pair.ensures.within.right_row in c.requires.small pair.right 0 (omega arith)) in
    let above_fits : FitsSigned w32 pair.above = search rules in
    let above : c.from.result ≡ (pair_in uses triple).above = (let is = c.from.ensures in omega (arith, ints, is, above_fits))
    ∙ ap (λ (p : Pair). p.above) c.pair_at-pair.ensures.value in
    let not_first = c.if-from-gap.false in (
      λ passes. absurd (omega (arith, ints, passes, not_first)),
      λ meets. let first = meets_above uses offsets triple gap is meets in absurd (omega (arith, ints, first, not_first, above, left_inside, right_inside)),
    )
