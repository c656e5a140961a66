use Rattle.std.proofs.Common.{◌-◌, [], refl, arith}
use Rattle.std.proofs.lemmas.Grind.{common_steps}
use Rattle.tsn_book.specs.Ledger.{progress_of}
use Rattle.tsn_book.proofs.Below.{not_walked, no_step}
use Rattle.tsn_book.proofs.Partway.{no_fewer, next_proof, next_refused, next_settled}
use Rattle.tsn_book.proofs.ledger.Ledger.settle_waiting.Goals as goal

pub loop-self-init : goal.loop-self-init
loop-self-init c = record {
  agrees = c.requires.agrees;
  taken = [];
  all = refl;
  settled = not_walked (progress_of c.args.self.now) c.args.teller c.args.walk.now;
  stands = no_step c.args.walk.now;
  at = c.requires.at;
}

pub settle_next-requires-clause-proof : goal.settle_next-requires-clause-proof
settle_next-requires-clause-proof c = (next_proof c.loop-self.invariant c.loop-self-test.ensures c.requires.proofs).0

pub settle_next-requires-clause-undecided : goal.settle_next-requires-clause-undecided
settle_next-requires-clause-undecided c = (next_proof c.loop-self.invariant c.loop-self-test.ensures c.requires.proofs).1

pub overflow_sub-result : goal.overflow_sub-result
overflow_sub-result c =
    omega (arith, no_fewer c.loop-self.invariant c.settle_next.new.self c.in-Err.ensures.refused, c.len.ensures.count, c.len-before.ensures.count)

pub returns-in-Err-clause-some : goal.returns-in-Err-clause-some
returns-in-Err-clause-some c =
    let fewer = no_fewer c.loop-self.invariant c.settle_next.new.self c.in-Err.ensures.refused in
    (next_refused c.loop-self.invariant c.loop-self-test.ensures c.settle_next.new.self c.settle_next.new.walk
    (c.len.result - c.len-before.result) c.in-Err.fault c.in-Err.ensures.refused c.in-Err.ensures.stays
    (omega (arith, fewer, c.len.ensures.count, c.len-before.ensures.count)) c.in-Err.ensures.fault).0

pub returns-in-Err-clause-fault : goal.returns-in-Err-clause-fault
returns-in-Err-clause-fault c =
    let fewer = no_fewer c.loop-self.invariant c.settle_next.new.self c.in-Err.ensures.refused in
    (next_refused c.loop-self.invariant c.loop-self-test.ensures c.settle_next.new.self c.settle_next.new.walk
    (c.len.result - c.len-before.result) c.in-Err.fault c.in-Err.ensures.refused c.in-Err.ensures.stays
    (omega (arith, fewer, c.len.ensures.count, c.len-before.ensures.count)) c.in-Err.ensures.fault).1

pub loop-self-preserved : goal.loop-self-preserved
loop-self-preserved c =
    next_settled c.loop-self.invariant c.loop-self-test.ensures c.settle_next.new.self c.settle_next.new.walk _
    c.settle_next.ensures.agrees c.in-Ok.ensures.ok c.in-Ok.ensures.waiting c.in-Ok.ensures.walk c.in-Ok.ensures.at

pub settle_next-requires-clause-agrees : goal.settle_next-requires-clause-agrees
settle_next-requires-clause-agrees c = grind (arith, common_steps) steps 2000000

pub settle_next-requires-clause-at : goal.settle_next-requires-clause-at
settle_next-requires-clause-at c = grind (arith, common_steps) steps 2000000

pub returns-clause-agrees : goal.returns-clause-agrees
returns-clause-agrees c = grind (arith, common_steps) steps 2000000

pub returns-clause-some : goal.returns-clause-some
returns-clause-some c = grind (arith, common_steps) steps 2000000

pub returns-clause-fault : goal.returns-clause-fault
returns-clause-fault c = grind (arith, common_steps) steps 2000000
