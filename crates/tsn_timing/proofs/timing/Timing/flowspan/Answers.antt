use Rattle.std.proofs.Common.{◌+◌, [], map, ◌∙◌, sym, ap, arith}
use Rattle.std.specs.List.{range_with_len}
use Rattle.tsn_model.specs.Timing.{arrival, greatest}
use Rattle.tsn_model.specs.Schedule.{flowspan, offset_of}
use Rattle.tsn_model.proofs.Lists.{greatest-nil, greatest_more}
use Rattle.tsn_timing.proofs.timing.Timing.flowspan.Goals as goal

pub loop-stream-init : goal.loop-stream-init
loop-stream-init c = record { so_far = sym greatest-nil; bound = omega arith; end = c.streams-stream-end.ensures.value }

pub loop-stream-preserved : goal.loop-stream-preserved
loop-stream-preserved c = record {
  so_far = cc (greatest_more (λ i. offset_of c.args.offsets.now i + arrival c.args.self.now i) [] c.loop-stream.stream);
  bound =
      let small = c.requires.small c.loop-stream.stream 0 (omega arith) in
      omega arith;
  end = c.loop-stream.invariant.end;
}

pub returns-clause-value : goal.returns-clause-value
unfolding flowspan
returns-clause-value c =
    c.loop-stream.invariant.so_far ∙ ap (λ n. greatest (map (λ i. offset_of c.args.offsets.now i + arrival c.args.self.now i) (range_with_len 0 n))) (omega arith)
