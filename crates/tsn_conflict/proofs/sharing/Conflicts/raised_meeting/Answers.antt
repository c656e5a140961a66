use Rattle.std.proofs.Common.{◌≡◌, inl, inr, subst, arith}
use Rattle.std.proofs.lemmas.Bool.{cases_lt}
use Rattle.std.proofs.lemmas.List.{take_all}
use Rattle.std.proofs.lemmas.List.Elements.{All-more, All-weaker}
use Rattle.tsn_conflict.specs.Raised.{triple_at}
use Rattle.tsn_conflict.specs.Pairs.{Meets, IsApartBefore}
use Rattle.tsn_conflict.proofs.sharing.Conflicts.raised_meeting.Goals as goal

pub loop-stream-preserved : goal.loop-stream-preserved
loop-stream-preserved c =
    let kept = c.args.self.now in
    let offsets = c.args.offsets.now in
    let least = c.loop-stream.least in
    let found = c.meeting_with-least.result in
    let at_most = c.meeting_with-least.ensures.at_most in
    let before = c.loop-stream.invariant.at_most in record {
      at_most = omega arith;
      meets = λ below. elim (cases_lt found least) [
        | inl less ↦ c.meeting_with-least.ensures.meets less
        | inr past ↦
            let same : least ≡ found = omega arith in
            subst (λ n. Meets kept.uses offsets (triple_at kept.triples n)) same (c.loop-stream.invariant.meets (omega arith))
      ];
      apart =
          All-more (IsApartBefore kept offsets found) c.args.raised.now c.loop-stream.stream-index 0 c.loop-stream-test.true
          (All-weaker (IsApartBefore kept offsets least) (IsApartBefore kept offsets found) (λ stream apart number earlier. apart number (omega arith)) _ c.loop-stream.invariant.apart)
          c.meeting_with-least.ensures.apart;
    }

pub returns-clause-apart : goal.returns-clause-apart
returns-clause-apart c = rw (← (take_all c.loop-stream.stream-index c.args.raised.now c.loop-stream-test.false)) c.loop-stream.invariant.apart
