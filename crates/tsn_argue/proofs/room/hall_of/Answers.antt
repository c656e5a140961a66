use Rattle.std.proofs.Common.{◌∷◌, arith}
use Rattle.std.proofs.lemmas.Int.{ints}
use Rattle.tsn_model.specs.Argument.{natural, first_head, last_end, idle_on}
use Rattle.tsn_argue.specs.State.{view_of}
use Rattle.tsn_argue.proofs.RoomLemmas.{natural_is}
use Rattle.tsn_argue.proofs.room.hall_of.Goals as goal

pub overflow_add-first : goal.overflow_add-first
overflow_add-first c = omega (arith, c.natural_of-first.ensures.small, c.load_with-load.ensures.short, c.requires.few)

pub returns : goal.returns
unfolding idle_on
returns c =
    let network = c.args.view.now.timing.now in
    let view = view_of c.args.view.now in
    let frames = c.args.first ∷ c.args.others.now in
    let load = c.load_with-load.ensures in
    let head = c.natural_of-first.ensures.value in
    let end = c.natural_of-last.ensures.value in
    let first = natural_is (first_head network view c.args.link frames) c.natural_of-first.result
    (omega (arith, ints, head, load.head, load.head_low, load.head_high)) in
    let last = natural_is (last_end network view c.args.link frames) c.natural_of-last.result
    (omega (arith, ints, end, load.end, load.end_low, load.end_high)) in
    let work = load.work in
    let idle = c.saturating_sub-idle.ensures in
    record {
      unit = c.unit_of-unit.ensures.value;
      idle = omega (arith, first, last, work, idle);
      first = first;
      last = last;
      first_small = c.natural_of-first.ensures.small;
      last_small = c.natural_of-last.ensures.small;
      unit_small = c.unit_of-unit.ensures.small;
    }
