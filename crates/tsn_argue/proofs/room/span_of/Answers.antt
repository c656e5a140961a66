use Rattle.std.proofs.Common.{◌≡◌, ◌≤ℤ◌, inl, arith}
use Rattle.std.proofs.lemmas.Int.{ints, by_lt_z}
use Rattle.tsn_model.specs.Certificate.{least, begin_on, end_on}
use Rattle.tsn_model.specs.Argument.{low_at, high_at, head_at, end_at, most, first_head, last_end, work_on}
use Rattle.tsn_model.proofs.Routes.{separation-pos, UsesLink-counted}
use Rattle.tsn_argue.specs.State.{view_of}
use Rattle.tsn_argue.proofs.Taking.{possible}
use Rattle.tsn_argue.proofs.RoomLemmas.{natural_is}
use Rattle.tsn_argue.proofs.room.span_of.Goals as goal

pub returns : goal.returns
unfolding first_head last_end work_on least most head_at end_at begin_on end_on
returns c =
    let network = c.args.view.now.timing.now in
    let view = view_of c.args.view.now in
    let frame = c.args.frame in
    let load = c.load_of-load.ensures in
    let some = separation-pos network frame.stream c.args.link in
    let there = UsesLink-counted network frame.stream c.args.link c.requires.on.uses in
    let even : low_at view frame.stream ≤ℤ high_at view frame.stream =
    by_lt_z (high_at view frame.stream) (low_at view frame.stream)
    (λ past. absurd (possible c.args.view.now c.requires.sound c.requires.possible (inl (frame.stream, there, past)))) (λ even. even) in
    let head = c.natural_of-head.ensures.value in
    let end = c.natural_of-end.ensures.value in
    record {
      head = natural_is (head_at network view c.args.link frame) c.natural_of-head.result (omega (arith, ints, head, load.head, load.head_low, load.head_high));
      end = natural_is (end_at network view c.args.link frame) c.natural_of-end.result (omega (arith, ints, end, load.end, load.end_low, load.end_high));
      work = omega (arith, load.work);
      head_small = c.natural_of-head.ensures.small;
      end_small = c.natural_of-end.ensures.small;
      work_small = omega (arith, load.short);
      work_some = omega (arith, load.work, some);
      order = omega (arith, ints, even, head, end, load.head, load.head_low, load.head_high, load.end, load.end_low, load.end_high);
    }
