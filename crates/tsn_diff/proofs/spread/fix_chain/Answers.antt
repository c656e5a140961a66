use Rattle.std.proofs.Common.{◌≡◌, ◌<◌, length, None, refl, sym, ◌∙◌, arith, length-set}
use Rattle.std.proofs.lemmas.List.{get_or_read}
use Rattle.tsn_diff.specs.Steps.{last_of}
use Rattle.tsn_diff.proofs.Fixes.{AreFixedTo-none, AreFixedTo-more, AreFixedTo-short, AreFixed-root, none_lifted}
use Rattle.tsn_diff.proofs.spread.fix_chain.Goals as goal

pub loop-init : goal.loop-init
loop-init c = record {
  end_is = c.len-end.ensures ∙ c.args.labels.now.last.ok.0;
  room = refl;
  stream_in = c.requires.stream;
  fixed = AreFixedTo-none c.args.labels.now.last.items c.args.stages.now c.args.stream c.requires.calm;
}

pub returns-in_default : goal.returns-in_default
returns-in_default c =
    let last = c.args.labels.now.last.items in
    let room : c.loop.stream < length c.loop.stages = omega (arith, c.loop.invariant.room, c.loop.invariant.stream_in, c.requires.room) in
    let read : c.index.result.now ≡ last_of last c.loop.stream = get_or_read last c.loop.stream c.index.result.now c.loop.invariant.stream_in c.index.ensures None in
    record {
      fixed = AreFixed-root last c.loop.stages c.args.stream c.loop.stream c.loop.counter c.loop.invariant.fixed room (sym read ∙ c.in_default.is);
      others = none_lifted last c.loop.stages c.args.stream c.loop.stream c.loop.counter c.loop.invariant.fixed room;
    }

pub loop-preserved : goal.loop-preserved
loop-preserved c =
    let last = c.args.labels.now.last.items in
    let read : c.index.result.now ≡ last_of last c.loop.stream = get_or_read last c.loop.stream c.index.result.now c.loop.invariant.stream_in c.index.ensures None in
    let known = sym read ∙ c.in-Some.is in
    record {
      end_is = c.loop.invariant.end_is;
      room = length-set c.loop.stages c.loop.stream _ ∙ c.loop.invariant.room;
      stream_in = c.requires.steps.from_in c.loop.stream c.in-Some.step known;
      fixed = AreFixedTo-more last c.loop.stages c.args.stream c.loop.stream c.loop.counter c.loop.invariant.fixed (omega (arith, c.loop.invariant.room, c.loop.invariant.stream_in, c.requires.room)) c.in-Some.step known;
    }

pub returns : goal.returns
returns c =
    let short = AreFixedTo-short c.args.labels.now.last.items c.loop.stages c.args.stream c.loop.stream c.loop.counter c.loop.invariant.fixed c.requires.steps.from_in (c.requires.chains c.loop.stream) c.requires.stream in
    absurd (omega (arith, short, c.loop.invariant.end_is, c.loop-test.false))
