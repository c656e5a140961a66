use Rattle.std.proofs.Common.{◌≡◌, ◌<◌, ◌-◌, ◌+◌, length, slice_index_or, pos, sym, ap, ◌∙◌, subst, arith}
use Rattle.std.proofs.lemmas.Int.{ints}
use Rattle.std.proofs.lemmas.Grind.{common_steps}
use Rattle.tsn_model.specs.declared.Side.TheVariants.{Left}
use Rattle.tsn_model.specs.Arcs.{arc_at}
use Rattle.tsn_check.specs.declared.path.Turn.{Turn}
use Rattle.tsn_check.specs.Turns.{arcs}
use Rattle.tsn_check.proofs.Chains.{WalkedTo, none_walked, walk_one, walk_joins, all_walked, arc_at-arcs, length-arcs}
use Rattle.tsn_check.proofs.chain.walk_back.Goals as goal

blank : Turn
blank = record {
  decision = record { triple = record { left = 0; right = 0; link = 0; lag = pos 0 }; side = Left };
  arc = record { from = 0; to = 0; weight = pos 0 };
}

pub loop-number-init : goal.loop-number-init
loop-number-init c =
    let sum = c.at-walk.ensures.sum in
    record {
      walked = rw (c.at-walk.ensures.start, sum) (none_walked (arcs c.args.path.now) c.args.chain.now c.len-number.result c.args.end c.len-number.ensures.count);
      low = omega (arith, ints);
      high = omega (arith, ints);
    }

pub returns-then-arc-walk : goal.returns-then-arc-walk
unfolding blank
returns-then-arc-walk c is_chain = grind (arith, arc_at-arcs, blank, walk_joins)

pub over-walk-requires-clause-low : goal.over-walk-requires-clause-low
over-walk-requires-clause-low c =
    omega (arith, ints)

pub over-walk-requires-clause-high : goal.over-walk-requires-clause-high
over-walk-requires-clause-high c =
    omega (arith, ints)

pub over-walk-requires-clause-small : goal.over-walk-requires-clause-small
unfolding blank
over-walk-requires-clause-small c = c.requires.small c.at-depth.result blank c.if-depth-path.false

pub loop-number-preserved : goal.loop-number-preserved
unfolding blank
loop-number-preserved c =
    let number = c.loop-number.number - 1 in
    let depth = c.at-depth.result in
    let behind : c.loop-number.number ≡ number + 1 = omega arith in
    let below : number < length c.args.chain.now = omega arith in
    let on_path : depth < length (arcs c.args.path.now) = subst (λ n. depth < n) (sym (length-arcs c.args.path.now)) c.if-depth-path.false in
    let at = arc_at-arcs c.args.path.now depth blank c.if-depth-path.false in
    let small = c.requires.small depth blank c.if-depth-path.false in
    let turn = slice_index_or c.args.path.now depth blank in
    let weighs : (arc_at (arcs c.args.path.now) depth).weight ≡ turn.arc.weight = ap (λ arc. arc.weight) at in
    let walked = subst (λ k. WalkedTo (arcs c.args.path.now) c.args.chain.now k c.loop-number.walk.start c.args.end c.loop-number.walk.sum) behind c.loop-number.invariant.walked in
    record {
      walked = rw (c.over-walk.ensures.start) (walk_one (arcs c.args.path.now) c.args.chain.now number depth c.loop-number.walk.start turn.arc.from c.args.end c.loop-number.walk.sum _
          below c.at-depth.ensures on_path (ap (λ arc. arc.to) at ∙ c.if-arc-walk.false) (ap (λ arc. arc.from) (sym at)) (omega (arith, ints)) walked);
      low = omega (arith, ints);
      high = omega (arith, ints);
    }

pub returns : goal.returns
returns c =
    let whole = all_walked (arcs c.args.path.now) c.args.chain.now c.loop-number.number c.loop-number.walk.start c.args.end c.loop-number.walk.sum (omega arith) c.loop-number.invariant.walked in
    record { is_chain = whole.0; begins = whole.1; adds = whole.2; low = omega (arith, ints); high = omega (arith, ints) }

pub returns-then-depth-path : goal.returns-then-depth-path
returns-then-depth-path c = grind (arith, common_steps) steps 2000000
