use Rattle.std.proofs.Common.{◌≡◌, sym, ◌∙◌, subst, arith, inl, inr, true≢false}
use Rattle.std.proofs.lemmas.Bool.{cases_lt}
use Rattle.tsn_replay.specs.Faults.{HasListedRoute}
use Rattle.tsn_replay.proofs.conditions.all_used_listed.Goals as goal

pub returns-then-not-is_route_listed : goal.returns-then-not-is_route_listed
returns-then-not-is_route_listed c =
    let last = c.loop-stream.invariant.last in (
      λ never. absurd (true≢false (sym never)),
      λ all.
          let listed = c.is_route_listed.ensures.1 (all c.loop-stream.stream (omega arith)) in
          sym c.if-not-is_route_listed.true ∙ listed,
    )

pub loop-stream-preserved : goal.loop-stream-preserved
loop-stream-preserved c =
    let here = c.is_route_listed.ensures.0 c.if-not-is_route_listed.false in
    record {
      done = λ i below. elim (cases_lt i c.loop-stream.stream) [
        | inl old ↦ c.loop-stream.invariant.done i old
        | inr new ↦ let same : c.loop-stream.stream ≡ i = omega arith in subst (HasListedRoute c.args.network.now c.args.lists.now) same here
      ];
      last = c.loop-stream.invariant.last;
    }
