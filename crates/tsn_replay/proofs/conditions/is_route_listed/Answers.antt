use Rattle.std.proofs.Common.{◌≡◌, sym, ◌∙◌, subst, arith, inl, inr, true≢false}
use Rattle.std.proofs.lemmas.Bool.{cases_lt}
use Rattle.tsn_model.specs.Network.{route_link}
use Rattle.tsn_replay.specs.Faults.{IsListed}
use Rattle.tsn_replay.proofs.conditions.is_route_listed.Goals as goal

pub returns-then-not-is_listed : goal.returns-then-not-is_listed
returns-then-not-is_listed c =
    let last = c.loop-hop.invariant.last in (
      λ never. absurd (true≢false (sym never)),
      λ all.
          let listed = c.is_listed.ensures.1 (subst (IsListed c.args.lists.now) (sym c.route_link.ensures.value) (all c.loop-hop.hop (omega arith))) in
          sym c.if-not-is_listed.true ∙ listed,
    )

pub loop-hop-preserved : goal.loop-hop-preserved
loop-hop-preserved c =
    let here : IsListed c.args.lists.now (route_link c.args.network.now c.args.stream c.loop-hop.hop) = subst (IsListed c.args.lists.now) c.route_link.ensures.value (c.is_listed.ensures.0 c.if-not-is_listed.false) in
    record {
      done = λ k below. elim (cases_lt k c.loop-hop.hop) [
        | inl old ↦ c.loop-hop.invariant.done k old
        | inr new ↦ let same : c.loop-hop.hop ≡ k = omega arith in subst (λ n. IsListed c.args.lists.now (route_link c.args.network.now c.args.stream n)) same here
      ];
      last = c.loop-hop.invariant.last;
    }
