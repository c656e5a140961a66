use Rattle.std.proofs.Common.{arith}
use Rattle.std.proofs.lemmas.Grind.{elements}
use Rattle.tsn_branch.proofs.Tying.{compared_at, compared_all}
use Rattle.tsn_branch.proofs.chains.compared.Goals as goal

pub returns-then-offsets-stream-2 : goal.returns-then-offsets-stream-2
returns-then-offsets-stream-2 c = compared_at c.args.offsets.now c.args.best.now c.requires.count c.loop-stream.stream (let before = c.loop-stream-test.true in omega arith) c.loop-stream.invariant c.if-offsets-stream-2.true

pub returns : goal.returns
returns c =
    let past = c.loop-stream-test.false in
    compared_all c.args.offsets.now c.args.best.now c.requires.count c.requires.some (λ i below. c.loop-stream.invariant i (omega arith))

pub returns-then-offsets-stream : goal.returns-then-offsets-stream
returns-then-offsets-stream c = grind (arith, elements) steps 2000000
