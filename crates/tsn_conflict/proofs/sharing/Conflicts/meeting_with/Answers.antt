use Rattle.std.proofs.Common.{arith}
use Rattle.std.proofs.lemmas.Grind.{common_steps}
use Rattle.tsn_conflict.proofs.ByStream.{apart_with}
use Rattle.tsn_conflict.proofs.sharing.Conflicts.meeting_with.Goals as goal

pub returns-then-meets-clause-apart : goal.returns-then-meets-clause-apart
returns-then-meets-clause-apart c =
    let below = c.if-number-end.false in
    let within = c.requires.end in
    apart_with c.args.self.now.triples c.args.stream c.args.self.now.uses c.args.offsets.now c.numbers_with-number-items.result.now c.loop-number.number-index _
    c.numbers_with-number-items.ensures (omega arith) (λ inside. omega arith) c.loop-number.invariant

pub returns-after-loop-number-clause-apart : goal.returns-after-loop-number-clause-apart
returns-after-loop-number-clause-apart c =
    let past = c.loop-number-test.false in
    apart_with c.args.self.now.triples c.args.stream c.args.self.now.uses c.args.offsets.now c.numbers_with-number-items.result.now c.loop-number.number-index c.args.end
    c.numbers_with-number-items.ensures c.requires.end (λ inside. absurd (omega arith)) c.loop-number.invariant

pub returns-then-number-end-clause-apart : goal.returns-then-number-end-clause-apart
returns-then-number-end-clause-apart c =
    apart_with c.args.self.now.triples c.args.stream c.args.self.now.uses c.args.offsets.now c.numbers_with-number-items.result.now c.loop-number.number-index c.args.end
    c.numbers_with-number-items.ensures c.requires.end (λ inside. c.if-number-end.true) c.loop-number.invariant

pub returns-then-number-end-clause-at_most : goal.returns-then-number-end-clause-at_most
returns-then-number-end-clause-at_most c = grind (arith, common_steps) steps 2000000
