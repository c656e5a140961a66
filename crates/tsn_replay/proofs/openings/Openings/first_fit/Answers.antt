use Rattle.std.proofs.Common.{◌≤◌, ◌<◌, ℕ, arith, inl, inr, true≢false, sym, ◌∙◌}
use Rattle.std.proofs.lemmas.Bool.{cases_lt}
use Rattle.tsn_replay.specs.Openings.{OctetHas, OpensScheduled}
use Rattle.tsn_replay.proofs.Spans.{closed_at, open_at}
use Rattle.tsn_replay.proofs.openings.Openings.first_fit.Goals as goal

pub returns-then-start-length : goal.returns-then-start-length
returns-then-start-length c =
    record {
      forward = c.loop-start.invariant.forward;
      none = λ u since before in_time. c.loop-start.invariant.none u since before;
      here = λ in_time u since until. elim (cases_lt u c.loop-start.at) [
        | inl past ↦ c.loop-start.invariant.open' u since past
        | inr present ↦ open_at c.args.self.now.entries u c.span_at-span.result.octet OpensScheduled (c.span_at-span.ensures.octet u present (omega arith)) (c.opens_scheduled.ensures.0 c.if-not-opens_scheduled.false)
      ];
    }

pub loop-start-preserved-then-not-opens_scheduled : goal.loop-start-preserved-then-not-opens_scheduled
loop-start-preserved-then-not-opens_scheduled c =
    let forward = c.loop-start.invariant.forward in
    let order = c.loop-start.invariant.order in
    let near = c.loop-start.invariant.near in
    let closed : (u : ℕ) → c.loop-start.at ≤ u → u < c.span_at-span.result.until → OctetHas c.args.self.now.entries u OpensScheduled → ⊥ =
    λ u present before. closed_at c.args.self.now.entries u c.span_at-span.result.octet OpensScheduled (c.span_at-span.ensures.octet u present before) (λ opens. true≢false (sym (c.opens_scheduled.ensures.1 opens) ∙ c.if-not-opens_scheduled.true)) in
    record {
      forward = omega arith;
      order = omega arith;
      near = omega arith;
      open' = λ u since before. absurd (omega arith);
      none = λ u since before fits. elim (cases_lt u c.loop-start.start) [
        | inl past ↦ c.loop-start.invariant.none u since past fits
        | inr here ↦ elim (cases_lt u c.loop-start.at) [
          | inl early ↦ closed c.loop-start.at (omega arith) c.span_at-span.ensures.forward (fits c.loop-start.at (omega arith) (omega arith))
          | inr late ↦ closed u late before (fits u (omega arith) (omega arith))
        ]
      ];
    }

pub loop-start-preserved : goal.loop-start-preserved
loop-start-preserved c =
    let order = c.loop-start.invariant.order in
    record {
      forward = c.loop-start.invariant.forward;
      order = omega arith;
      near = omega arith;
      open' = λ u since until. elim (cases_lt u c.loop-start.at) [
        | inl past ↦ c.loop-start.invariant.open' u since past
        | inr present ↦ open_at c.args.self.now.entries u c.span_at-span.result.octet OpensScheduled (c.span_at-span.ensures.octet u present until) (c.opens_scheduled.ensures.0 c.if-not-opens_scheduled.false)
      ];
      none = λ u since before. c.loop-start.invariant.none u since before;
    }
