use Rattle.std.proofs.Common.{◌≡◌, ℕ, ℤ, ◌+◌, ◌∙◌, ap, sym, pos, to_z, of_z, w64, arith}
use Rattle.std.specs.Prelude.{◌+ℤ◌, ◌-ℤ◌, ◌<ℤ◌}
use Rattle.std.proofs.lemmas.Int.{ints}
use Rattle.tsn_model.specs.declared.Arc.{Arc}
use Rattle.tsn_model.specs.Network.{route_link}
use Rattle.tsn_model.specs.Timing.{separation, start}
use Rattle.tsn_model.specs.Arcs.{arc_between, arc_of}
use Rattle.tsn_model.proofs.Routes.{hop_on_found}
use Rattle.tsn_timing.proofs.DecidedArcs.{arc_left, arc_right, lag_bounds, arc_ends, arc_same, arc_weighs}
use Rattle.tsn_timing.proofs.arc.arc_of.Goals as goal
use Rattle.tsn_timing.proofs.arc.arc_of.Goals.{in-Left, in-Right}

pub start-requires-clause-hop : goal.start-requires-clause-hop
start-requires-clause-hop c =
    let found = hop_on_found c.args.timing.now c.match-decision.first.0 c.args.decision.triple.link c.in-Some.first_hop (sym c.in-Some.ensures) in
    found.1

pub separation-requires-clause-hop : goal.separation-requires-clause-hop
separation-requires-clause-hop c =
    let found = hop_on_found c.args.timing.now c.match-decision.first.0 c.args.decision.triple.link c.in-Some.first_hop (sym c.in-Some.ensures) in
    found.1

pub start-requires-2-clause-hop : goal.start-requires-2-clause-hop
start-requires-2-clause-hop c =
    let found = hop_on_found c.args.timing.now c.match-decision.first.1 c.args.decision.triple.link c.in-Some-hop_on.second_hop (sym c.in-Some-hop_on.ensures) in
    found.1

-- the lag as it is taken for the side is as small
near_lag : (c : goal.After-start-2)
    → (pos 0 <ℤ (to_z w64 (of_z w64 c.match-decision.first.2) +ℤ pos 1000000000)) × (to_z w64 (of_z w64 c.match-decision.first.2) <ℤ pos 1000000000)
near_lag c =
    let bounds = lag_bounds c.args.timing.now c.args.decision.triple c.cycle-limits.ensures.well_formed c.requires in
    let above = bounds.0 in
    let below = bounds.1 in
    elim c.match-decision.branch as
    (λ _. (pos 0 <ℤ (to_z w64 (of_z w64 c.match-decision.first.2) +ℤ pos 1000000000)) × (to_z w64 (of_z w64 c.match-decision.first.2) <ℤ pos 1000000000)) [
      | in-Left w ↦ let third = ap (λ (e : ℕ × ℕ × ℤ). e.2) w.first-is in (omega (arith, ints, third, above, below), omega (arith, ints, third, above, below))
      | in-Right w ↦ let third = ap (λ (e : ℕ × ℕ × ℤ). e.2) w.first-is in (omega (arith, ints, third, above, below), omega (arith, ints, third, above, below))
    ]

pub returns-clause-arc : goal.returns-clause-arc
returns-clause-arc c =
    let network = c.args.timing.now in
    let decision = c.args.decision in
    let ends = c.match-decision.first in
    let bounds = lag_bounds network decision.triple c.cycle-limits.ensures.well_formed c.requires in
    let above = bounds.0 in
    let below = bounds.1 in
    let lag : ℤ = to_z w64 (of_z w64 ends.2) in
    let arc : arc_of network decision ≡ arc_between network ends.0 ends.1 decision.triple.link lag = elim c.match-decision.branch [
      | in-Left w ↦
          let third = ap (λ (e : ℕ × ℕ × ℤ). e.2) w.first-is in
          arc_left network decision ends.0 ends.1 lag w.in-Left.is (ap (λ (e : ℕ × ℕ × ℤ). e.0) w.first-is) (ap (λ (e : ℕ × ℕ × ℤ). e.1) w.first-is)
          (omega (arith, ints, third, above, below))
      | in-Right w ↦
          let third = ap (λ (e : ℕ × ℕ × ℤ). e.2) w.first-is in
          arc_right network decision ends.0 ends.1 lag w.in-Right.is (ap (λ (e : ℕ × ℕ × ℤ). e.0) w.first-is) (ap (λ (e : ℕ × ℕ × ℤ). e.1) w.first-is)
          (omega (arith, ints, third, above, below))
    ] in
    let first = c.in-Some.first_hop in
    let second = c.in-Some-hop_on.second_hop in
    let weighs :
    (pos (start network ends.0 first + separation network ends.0 (route_link network ends.0 first)) -ℤ pos (start network ends.1 second)) -ℤ lag ≡
    (arc_of network decision).weight = cc (arc_weighs network ends.0 ends.1 decision.triple.link first second lag c.in-Some.ensures c.in-Some-hop_on.ensures) in
    let joins = arc_ends network ends.0 ends.1 decision.triple.link lag in
    arc_same _ _ (sym (ap (λ (a : Arc). a.from) arc ∙ joins.0)) (sym (ap (λ (a : Arc). a.to) arc ∙ joins.1))
    (let near = near_lag c in let after = near.0 in let before = near.1 in omega (arith, ints, weighs, after, before))

pub returns-clause-small : goal.returns-clause-small
returns-clause-small c =
    let near = near_lag c in
    let after = near.0 in
    let before = near.1 in
    record { low = omega (arith, ints, after, before); high = omega (arith, ints, after, before) }

pub overflow_sub-result-2 : goal.overflow_sub-result-2
overflow_sub-result-2 c =
    let near = near_lag c in
    let after = near.0 in
    let before = near.1 in
    omega (arith, ints, after, before)

pub overflow_sub-first : goal.overflow_sub-first
overflow_sub-first c =
    let bounds = lag_bounds c.args.timing.now c.args.decision.triple c.cycle-limits.ensures.well_formed c.requires in
    let above = bounds.0 in
    let below = bounds.1 in
    omega (arith, ints, above, below)
