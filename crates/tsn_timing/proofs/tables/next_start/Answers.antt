use Rattle.std.proofs.Common.{◌≡◌, ◌∙◌, ◌-◌, length, refl, sym, ap, subst, arith, inl, inr}
use Rattle.std.proofs.lemmas.Bool.{cases_eq}
use Rattle.tsn_model.specs.declared.Link.{Link}
use Rattle.tsn_model.specs.Network.{link_at, route_of, to_at}
use Rattle.tsn_timing.proofs.Hopping.{link_there, ends_at, starts_after, starts_at_once, early}
use Rattle.tsn_timing.proofs.tables.next_start.Goals as goal

pub link-requires : goal.link-requires
link-requires c =
    let next = c.requires.next in
    let inside = c.loop-step-test.true in
    let end = c.loop-step.invariant.end in
    let hop = length c.args.hops.now - 1 - c.loop-step.step in
    link_there c.args.network.now c.cycle-limits.ensures.well_formed c.args.stream c.requires.stream _ hop
    (c.requires.right.each hop _ (omega arith)) (omega arith)

pub hop_delay-requires-clause-link : goal.hop_delay-requires-clause-link
hop_delay-requires-clause-link c =
    let next = c.requires.next in
    let inside = c.loop-step-test.true in
    let end = c.loop-step.invariant.end in
    let hop = length c.args.hops.now - 1 - c.loop-step.step in
    link_there c.args.network.now c.cycle-limits.ensures.well_formed c.args.stream c.requires.stream _ hop
    (c.requires.right.each hop _ (omega arith)) (omega arith)

pub loop-step-init : goal.loop-step-init
loop-step-init c = record {
  none = λ j below behind same. omega arith;
  begins = ap (λ (l : Link). l.from) (c.link-from.ensures ∙ ap (link_at c.args.network.now) c.route_link.ensures.value);
  end = refl;
}

pub overflow_add-result : goal.overflow_add-result
overflow_add-result c =
    let inside = c.loop-step-test.true in
    let end = c.loop-step.invariant.end in
    let hop = length c.args.hops.now - 1 - c.loop-step.step in
    let is = c.requires.right.each hop (record { link = 0; start = 0; occupancy = 0; separation = 0 }) (omega arith) in
    let soon = is.early in
    let delay = c.hop_delay.ensures.bound in
    omega arith

pub loop-step-preserved : goal.loop-step-preserved
loop-step-preserved c =
    let inside = c.loop-step-test.true in
    let end = c.loop-step.invariant.end in
    let hop = length c.args.hops.now - 1 - c.loop-step.step in
    let is = c.requires.right.each hop _ (omega arith) in
    let here = ends_at c.args.network.now c.cycle-limits.ensures.well_formed c.args.stream c.requires.stream _ hop c.link.result is c.link.ensures in
    record {
      none = λ j below behind same. elim (cases_eq j hop) [
        | inl at ↦
            c.if-link-from.false
            (here ∙ subst (λ n. to_at c.args.network.now (route_of c.args.network.now c.args.stream) n ≡ c.link-from.result.from) at same)
        | inr other ↦ c.loop-step.invariant.none j below (omega arith) same
      ];
      begins = c.loop-step.invariant.begins;
      end = c.loop-step.invariant.end;
    }

pub returns-then-link-from : goal.returns-then-link-from
returns-then-link-from c =
    let inside = c.loop-step-test.true in
    let end = c.loop-step.invariant.end in
    let hop = length c.args.hops.now - 1 - c.loop-step.step in
    let is = c.requires.right.each hop _ (omega arith) in
    let here = ends_at c.args.network.now c.cycle-limits.ensures.well_formed c.args.stream c.requires.stream _ hop c.link.result is c.link.ensures in
    let value = starts_after c.args.network.now c.cycle-limits.ensures.well_formed c.args.stream c.requires.stream _ hop
    (length c.args.hops.now) c.hop_delay.result is
    (omega arith) c.requires.next (sym here ∙ (c.if-link-from.true ∙ c.loop-step.invariant.begins)) c.hop_delay.ensures.value in
    let soon = early c.args.network.now c.cycle-limits.ensures.well_formed c.args.stream c.requires.stream (length c.args.hops.now) in
    record { value = value; bound = omega arith }

pub returns : goal.returns
returns c =
    let past = c.loop-step-test.false in
    let end = c.loop-step.invariant.end in
    let value = starts_at_once c.args.network.now c.cycle-limits.ensures.well_formed c.args.stream c.requires.stream (length c.args.hops.now) c.requires.next
    (λ j below same. c.loop-step.invariant.none j below (omega arith) (same ∙ sym c.loop-step.invariant.begins)) in
    record { value = value; bound = omega arith }
