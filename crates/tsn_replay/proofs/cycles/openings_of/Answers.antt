use Rattle.std.proofs.Common.{refl, ◌∙◌}
use Rattle.std.proofs.lemmas.List.{take_all}
use Rattle.tsn_replay.proofs.ListLemmas.{taken_more}
use Rattle.tsn_replay.proofs.cycles.openings_of.Goals as goal

pub loop-list-preserved : goal.loop-list-preserved
loop-list-preserved c = record {
  so_far = taken_more c.args.lists.now c.loop-list.list-index _ _ _ c.in_ok-of.field-0 c.loop-list-test.true c.loop-list.invariant.so_far
      c.in_ok-push.ensures.items (c.in_ok-of.ensures ∙ c.list-item.is);
  last = refl;
}

pub returns : goal.returns
returns c = c.loop-list.invariant.so_far ∙ take_all c.loop-list.list-index c.args.lists.now c.loop-list-test.false
