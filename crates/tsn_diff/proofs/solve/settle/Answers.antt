use Rattle.std.proofs.Common.{◌≡◌, ◌*◌, ◌-◌, ◌<◌, ◌≤◌, ℕ, length, sum, All, pos, sym, ◌∙◌, subst, arith}
use Rattle.std.proofs.lemmas.List.{get_or_read}
use Rattle.tsn_model.specs.Arcs.{arc_at}
use Rattle.tsn_diff.specs.Limits.{IsArcAmong}
use Rattle.tsn_diff.specs.Labels.{labelling_of}
use Rattle.tsn_diff.proofs.Forests.{HasSteps-from_forest, offsets_small}
use Rattle.tsn_diff.proofs.Solutions.{Solves-settled, Refutes-from_closes, Refutes-same}
use Rattle.tsn_diff.proofs.solve.settle.Goals as goal

pub invariant_of-result : goal.invariant_of-result
invariant_of-result c = record {
  among = c.requires.among;
  forest = rw c.deref.ensures.value at c.in-Steady.ensures.forest;
  raised = c.in-Steady.ensures.raised c.args.net c.loop-net.invariant.raised;
  met = rw c.deref.ensures.value at c.in-Steady.ensures.progress;
}

pub returns-in-Steady : goal.returns-in-Steady
returns-in-Steady c = Solves-settled c.args.net c.args.arcs.items (labelling_of c.round.new.self) (invariant_of-result c)

pub loop-net-smaller : goal.loop-net-smaller
loop-net-smaller c =
    let count = c.in-Raised.ensures.count ∙ c.loop-net.invariant.raised.count in
    let among = subst (λ (n : ℕ). All (IsArcAmong n) c.args.arcs.items) (sym count) c.requires.among in
    let small : sum c.round.new.self.offsets.items ≤ length c.round.new.self.offsets.items * 154670000000 = offsets_small (rw c.deref.ensures.value at c.in-Raised.ensures.forest) among in
    let more : sum c.loop-net.labels.offsets.items < sum c.round.new.self.offsets.items = c.in-Raised.ensures.progress in
    let same : length c.round.new.self.offsets.items ≡ length c.loop-net.labels.offsets.items = c.in-Raised.ensures.count in
    let falls : length c.round.new.self.offsets.items * 154670000000 - sum c.round.new.self.offsets.items < length c.loop-net.labels.offsets.items * 154670000000 - sum c.loop-net.labels.offsets.items = omega (arith, small, more, same) in
    falls

pub cycle-requires-clause-steps : goal.cycle-requires-clause-steps
cycle-requires-clause-steps c = HasSteps-from_forest c.in-Closed.ensures.forest

pub returns-in-Closed : goal.returns-in-Closed
returns-in-Closed c =
    let now = labelling_of c.round.new.self in
    let long : length now.offsets ≡ length c.args.net = c.in-Closed.ensures.count ∙ c.loop-net.invariant.raised.count in
    let among = subst (λ (n : ℕ). All (IsArcAmong n) c.args.arcs.items) (sym long) c.requires.among in
    let closes = rw c.deref.ensures.value at c.in-Closed.ensures.progress in
    let refutes = Refutes-from_closes c.args.arcs.items now c.in-Closed.index (rw c.deref.ensures.value at c.in-Closed.ensures.forest) among closes in
    let read : c.index.result.now ≡ arc_at c.args.arcs.items c.in-Closed.index = get_or_read c.args.arcs.items c.in-Closed.index c.index.result.now closes.index_in c.index.ensures (record { from = 0; to = 0; weight = pos 0 }) in
    rw (c.in_ok-cycle-in-Closed.ensures, read) (Refutes-same _ _ c.args.arcs.items _ long refutes)
