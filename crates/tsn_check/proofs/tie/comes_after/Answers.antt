use Rattle.std.proofs.Common.{◌≡◌, ◌≤◌, ◌∙◌, sym, arith, pos, refl}
use Rattle.std.specs.Prelude.{slice_index_or}
use Rattle.std.proofs.lemmas.Int.{ints}
use Rattle.tsn_model.specs.Schedule.{offset_of}
use Rattle.tsn_model.specs.Certificate.{sum_on, chain_at}
use Rattle.tsn_model.proofs.Schedules.{offsets_within}
use Rattle.tsn_check.specs.Turns.{decisions}
use Rattle.tsn_check.proofs.Ties.{chain_there, sums_more}
use Rattle.tsn_check.proofs.tie.comes_after.Goals as goal

pub overflow_cast-offset : goal.overflow_cast-offset
overflow_cast-offset c = grind (arith, offsets_within, ints)

pub returns-then-sum-offset : goal.returns-then-sum-offset
returns-then-sum-offset c = grind (arith, chain_there, offsets_within, ints)

pub loop-stream-preserved : goal.loop-stream-preserved
loop-stream-preserved c =
    let stream = c.loop-stream.stream in
    let below = c.loop-stream-test.true in
    let at = chain_there c.args.chains.now stream c.index-chains-stream.result below c.index-chains-stream.is in
    let here : c.in-Ok.sum ≡ sum_on c.args.timing.now (decisions c.args.path.now) (chain_at c.args.chains.now stream) stream = rw (← at) c.in-Ok.ensures.adds in
    let at_offset : offset_of c.args.offsets.now stream ≡ slice_index_or c.args.offsets.now stream 0 = refl in
    let counted = c.in-Ok.ensures.leads.stream in
    let many = c.requires.valid.count in
    let small : slice_index_or c.args.offsets.now stream 0 ≤ c.args.timing.now.cycle = offsets_within c.args.timing.now c.args.offsets.now c.requires.valid stream 0 (omega (arith, counted, many)) in
    let same : c.in-Ok.sum ≡ pos (offset_of c.args.offsets.now stream) = omega (arith, ints) in
    sums_more c.args.timing.now (decisions c.args.path.now) c.args.chains.now c.args.offsets.now stream c.loop-stream.invariant (sym here ∙ same)
