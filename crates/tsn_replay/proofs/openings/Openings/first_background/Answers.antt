use Rattle.std.proofs.Common.{arith, inl, inr, true≢false, sym, ◌∙◌}
use Rattle.std.proofs.lemmas.Bool.{cases_lt}
use Rattle.tsn_replay.specs.Openings.{OpensBackground}
use Rattle.tsn_replay.proofs.Spans.{closed_at, open_at}
use Rattle.tsn_replay.proofs.openings.Openings.first_background.Goals as goal

pub returns-then-opens_background : goal.returns-then-opens_background
returns-then-opens_background c =
    let ahead = c.span_at-span.ensures.forward in
    record {
      forward = c.loop-at.invariant.forward;
      none = λ u since before in_time. c.loop-at.invariant.closed u since before;
      here = λ in_time. open_at c.args.self.now.entries c.loop-at.at c.span_at-span.result.octet OpensBackground (c.span_at-span.ensures.octet c.loop-at.at (omega arith) ahead) (c.opens_background.ensures.0 c.if-opens_background.true);
    }

pub loop-at-preserved : goal.loop-at-preserved
loop-at-preserved c =
    let forward = c.loop-at.invariant.forward in
    record {
      forward = omega arith;
      closed = λ u since before. elim (cases_lt u c.loop-at.at) [
        | inl past ↦ c.loop-at.invariant.closed u since past
        | inr present ↦ closed_at c.args.self.now.entries u c.span_at-span.result.octet OpensBackground (c.span_at-span.ensures.octet u present before) (λ opens. true≢false (sym (c.opens_background.ensures.1 opens) ∙ c.if-opens_background.false))
      ];
    }

pub returns : goal.returns
returns c =
    record {
      forward = c.loop-at.invariant.forward;
      none = λ u since before in_time. c.loop-at.invariant.closed u since before;
      here = λ in_time. absurd (omega arith);
    }
