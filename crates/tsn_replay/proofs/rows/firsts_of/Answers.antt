use Rattle.std.proofs.Common.{◌+◌, ◌<◌, ◌∷◌, [], ◌++◌, length, sym, ap, ◌∙◌, subst, arith}
use Rattle.tsn_model.specs.Network.{stream_count}
use Rattle.tsn_replay.proofs.Counting.{AreFirstsUpto, below-more, shifts-few, firsts_none, firsts_more, firsts_all}
use Rattle.tsn_replay.proofs.rows.firsts_of.Goals as goal

pub loop-stream-init : goal.loop-stream-init
loop-stream-init c = record {
  firsts = subst (λ xs. AreFirstsUpto c.args.timing.now 0 xs 0) (sym (c.in_ok-push.ensures.items ∙ ap (λ xs. xs ++ 0 ∷ []) c.new-firsts.ensures.items))
      (firsts_none c.args.timing.now);
  last = c.streams-stream-end.ensures.value;
}

pub overflow_add-first : goal.overflow_add-first
overflow_add-first c =
    let network = c.args.timing.now in
    let counted : c.loop-stream.stream < stream_count network = let below = c.loop-stream-test.true in omega arith in
    let long = ap length c.shifts.ensures.value in
    let more = below-more network c.loop-stream.stream in
    let few = shifts-few network c.cycle-limits.ensures.well_formed c.loop-stream.stream counted in
    omega arith

pub loop-stream-preserved : goal.loop-stream-preserved
loop-stream-preserved c =
    let network = c.args.timing.now in
    let stream = c.loop-stream.stream in
    let list = c.loop-stream.firsts.items in
    let first = c.loop-stream.first in
    record {
      firsts = subst (λ xs. AreFirstsUpto network (stream + 1) xs (first + length c.shifts.result.now)) (sym c.in_ok-push-2.ensures.items)
          (subst (λ xs. AreFirstsUpto network (stream + 1) (list ++ (first + length xs) ∷ []) (first + length xs)) (sym c.shifts.ensures.value)
          (firsts_more network stream list first c.loop-stream.invariant.firsts));
      last = c.loop-stream.invariant.last;
    }

pub returns : goal.returns
returns c = firsts_all c.args.timing.now c.loop-stream.stream c.loop-stream.firsts.items c.loop-stream.first (omega arith) c.loop-stream.invariant.firsts
