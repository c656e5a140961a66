use Rattle.std.proofs.Common.{sym, arith}
use Rattle.tsn_book.proofs.Tying.{common_is}
use Rattle.tsn_book.proofs.spelling.common.Goals as goal

pub returns-after-loop-count-clause-count : goal.returns-after-loop-count-clause-count
returns-after-loop-count-clause-count c =
    let at = c.loop-count.invariant in
    let past = c.loop-count-test.false in
    sym (common_is c.args.offsets.now c.args.others.now c.loop-count.count at.in_first at.in_second at.same (λ below _. absurd (omega arith)))

pub returns-else-count-others-clause-count : goal.returns-else-count-others-clause-count
returns-else-count-others-clause-count c =
    let at = c.loop-count.invariant in
    let past = c.if-count-others.false in
    sym (common_is c.args.offsets.now c.args.others.now c.loop-count.count at.in_first at.in_second at.same (λ _ below. absurd (omega arith)))

pub returns-else-offsets-count-clause-count : goal.returns-else-offsets-count-clause-count
returns-else-offsets-count-clause-count c =
    let at = c.loop-count.invariant in
    sym (common_is c.args.offsets.now c.args.others.now c.loop-count.count at.in_first at.in_second at.same (λ _ _. c.if-offsets-count.false))
