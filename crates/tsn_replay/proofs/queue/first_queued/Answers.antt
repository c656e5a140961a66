use Rattle.std.proofs.Common.{rules, ◌+◌, sym, ◌∙◌, inl, inr}
use Rattle.std.specs.List.{between}
use Rattle.std.proofs.lemmas.List.Sorted.{IsPartitionPoint-from_clause}
use Rattle.tsn_replay.specs.declared.queue.Stage.TheVariants.{Queued}
use Rattle.tsn_replay.specs.Queue.{frame_in}
use Rattle.tsn_replay.proofs.Stages.{is_gone, stages_same, stages_differ, gone_parted, end_found, found_queued, none_queued}
use Rattle.tsn_replay.proofs.queue.first_queued.Goals as goal
use Rattle.tsn_replay.proofs.queue.first_queued.Goals.{else-number-to-via-then-number-to+else-eq, else-number-to-via-else-number-to}

pub returns-then-eq : goal.returns-then-eq
unfolding frame_in
returns-then-eq c =
    let frames = c.args.frames.now in
    let parted = gone_parted frames c.args.from c.args.to c.requires.within c.requires.gone c.requires.coming in
    let parts = IsPartitionPoint-from_clause is_gone
    (between c.args.from c.args.to frames) c.partition_point.result c.partition_point.ensures.partitioned parted
    (λ a r q k. search rules) in
    let end = end_found frames c.args.from c.args.to c.requires.within c.requires.gone c.requires.coming
    c.partition_point.result c.partition_point.ensures.bound parts in
    found_queued frames c.args.from c.args.to c.requires.within c.requires.gone c.requires.coming c.partition_point.result
    end c.if-number-to.true
    (stages_same (frame_in frames (c.args.from + c.partition_point.result)).stage Queued (sym c.eq.ensures ∙ c.if-eq.true))

pub returns-else-number-to : goal.returns-else-number-to
unfolding frame_in
returns-else-number-to c =
    let frames = c.args.frames.now in
    let parted = gone_parted frames c.args.from c.args.to c.requires.within c.requires.gone c.requires.coming in
    let parts = IsPartitionPoint-from_clause is_gone
    (between c.args.from c.args.to frames) c.partition_point.result c.partition_point.ensures.partitioned parted
    (λ a r q k. search rules) in
    let end = end_found frames c.args.from c.args.to c.requires.within c.requires.gone c.requires.coming
    c.partition_point.result c.partition_point.ensures.bound parts in
    none_queued frames c.args.from c.args.to c.requires.within c.requires.gone c.requires.coming c.partition_point.result end
    (elim c.else-number-to.branch [
      | else-number-to-via-then-number-to+else-eq w ↦
          inr (stages_differ (frame_in frames (c.args.from + c.partition_point.result)).stage Queued (sym w.eq.ensures ∙ w.if-eq.false))
      | else-number-to-via-else-number-to w ↦ inl w.if-number-to.false
    ])
