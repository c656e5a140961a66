use Rattle.std.proofs.Common.{◌+◌, ap, ap₂, sym, refl, ◌∙◌, arith}
use Rattle.std.specs.Prelude.{sum_by}
use Rattle.std.proofs.lemmas.List.{take_all}
use Rattle.std.proofs.lemmas.List.Sums.{sum_by_more}
use Rattle.toml.specs.View.{view}
use Rattle.toml.specs.declared.value.Value.{Value}
use Rattle.tsn_net.specs.Conditions.{frames_of}
use Rattle.tsn_net.proofs.Frames.{frames_seen}
use Rattle.tsn_net.proofs.tables.frames_in.Goals as goal

pub loop-stream-init : goal.loop-stream-init
loop-stream-init c = (omega arith, refl)

pub overflow_add-frames : goal.overflow_add-frames
overflow_add-frames c =
    let most = c.loop-stream.invariant.0 in
    let more = c.frames_of-frames.ensures.few in
    let few = c.requires.few in
    let inside = c.loop-stream-test.true in
    omega (arith, most, more, few, inside)

pub loop-stream-preserved : goal.loop-stream-preserved
loop-stream-preserved c =
    let frames = λ (v : Value). frames_of c.args.cycle (view v) in
    let most = c.loop-stream.invariant.0 in
    let more = c.frames_of-frames.ensures.few in (
      omega (arith, most, more),
      ap₂ (λ a b. a + b) c.loop-stream.invariant.1 (c.frames_of-frames.ensures.value ∙ ap frames c.stream-item.is)
          ∙ sym (sum_by_more frames c.args.streams.now c.loop-stream.stream-index c.stream-item.result c.loop-stream-test.true),
    )

pub returns : goal.returns
returns c =
    c.loop-stream.invariant.1
    ∙ ap (sum_by (λ (v : Value). frames_of c.args.cycle (view v))) (take_all c.loop-stream.stream-index c.args.streams.now c.loop-stream-test.false)
    ∙ sym (frames_seen c.args.cycle c.args.streams.now)
