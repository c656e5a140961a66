use Rattle.std.proofs.Common.{rules, ◌∙◌}
use Rattle.std.specs.Int.{w128}
use Rattle.std.proofs.lemmas.Int.{to_z-of_z}
use Rattle.tsn_model.specs.Schedule.{latest_offset}
use Rattle.tsn_argue.proofs.FirstView.{mapped_more}
use Rattle.tsn_argue.proofs.view.latest_offsets.Goals as goal

pub loop-stream-preserved : goal.loop-stream-preserved
loop-stream-preserved c =
    mapped_more (latest_offset c.args.timing.now) c.loop-stream.list.items _ _ c.loop-stream.stream c.in_ok-push.ensures.items
    (to_z-of_z w128 c.latest_offset.result (search rules) ∙ c.latest_offset.ensures) c.loop-stream.invariant
