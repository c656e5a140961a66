use Rattle.std.proofs.Common.{◌≡◌, ◌∙◌, refl, ap, w64, arith}
use Rattle.std.proofs.lemmas.Int.{ints, to_z-of_z}
use Rattle.tsn_model.specs.Arcs.{arcs_of, chain_sum}
use Rattle.tsn_check.specs.Turns.{decisions}
use Rattle.tsn_check.specs.declared.why.Shortfall.TheVariants.{Cycle}
use Rattle.tsn_check.proofs.Chains.{closed_to, closed_back, sum_same}
use Rattle.tsn_check.proofs.leaf.judge_cycle.Goals as goal

pub returns-in_default : goal.returns-in_default
returns-in_default c target =
    (refl, λ closed. c.in_default.ensures (closed_back c.args.timing.now c.args.path.now c.args.chain.now c.args.chain.now c.requires refl closed))

pub returns-then-sum-gt0 : goal.returns-then-sum-gt0
returns-then-sum-gt0 c target =
    let adds : c.in-Some.sum ≡ chain_sum (arcs_of c.args.timing.now (decisions c.args.path.now)) c.args.chain.now =
    c.in-Some.ensures.1 ∙ sum_same c.args.timing.now c.args.path.now c.args.chain.now c.args.chain.now c.requires refl in
    (closed_to c.args.timing.now c.args.path.now c.args.chain.now c.args.chain.now c.requires refl c.in-Some.ensures.0, omega (arith, ints))

pub returns-else-sum-gt0 : goal.returns-else-sum-gt0
returns-else-sum-gt0 c target =
    let adds : c.in-Some.sum ≡ chain_sum (arcs_of c.args.timing.now (decisions c.args.path.now)) c.args.chain.now =
    c.in-Some.ensures.1 ∙ sum_same c.args.timing.now c.args.path.now c.args.chain.now c.args.chain.now c.requires refl in (
      closed_to c.args.timing.now c.args.path.now c.args.chain.now c.args.chain.now c.requires refl c.in-Some.ensures.0,
      λ proves. omega (arith, ints),
      ap Cycle (to_z-of_z w64 c.in-Some.sum (omega (arith, ints)) ∙ adds),
    )
