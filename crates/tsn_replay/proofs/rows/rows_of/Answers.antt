use Rattle.std.proofs.Common.{◌≡◌, ◌<◌, map, length, get_or, All, sym, ap, ◌∙◌, subst}
use Rattle.std.proofs.lemmas.Result.{IfOk-weaker}
use Rattle.tsn_model.specs.Bridge.{ScheduledStart, IsPassage}
use Rattle.tsn_model.proofs.Schedules.{offsets_within}
use Rattle.tsn_replay.proofs.Settings.{valid_spaced}
use Rattle.tsn_replay.specs.Frames.{AreFirsts}
use Rattle.tsn_replay.specs.Rows.{IsTable, row_of, passages_of}
use Rattle.tsn_replay.proofs.ReplayTables.{once_each, are_rows}
use Rattle.tsn_replay.proofs.rows.rows_of.Goals as goal

pub table_of-requires-clause-spaced : goal.table_of-requires-clause-spaced
table_of-requires-clause-spaced c = valid_spaced c.args.timing.now c.args.offsets.now c.cycle-limits.ensures.well_formed c.requires.valid

pub table_of-requires-clause-passages : goal.table_of-requires-clause-passages
table_of-requires-clause-passages c =
    subst (All (λ (begun : ScheduledStart). IsPassage c.args.timing.now c.args.cycles begun.passage)) (sym c.scheduled.ensures) c.requires.passages

pub rows_by-requires : goal.rows_by-requires
rows_by-requires c = record {
  formed = c.cycle-limits.ensures.well_formed;
  spaced = valid_spaced c.args.timing.now c.args.offsets.now c.cycle-limits.ensures.well_formed c.requires.valid;
  count = c.requires.valid.count;
  small = offsets_within c.args.timing.now c.args.offsets.now c.requires.valid;
  placed = subst (AreFirsts c.args.timing.now) (sym c.deref-2.ensures.value) c.in_ok-firsts.ensures;
  wide = c.width_of-width.ensures;
  few = c.requires.few;
  cells = ap length c.deref-3.ensures.value ∙ c.in_ok-table.ensures.count;
}

pub table_of-requires-clause-once : goal.table_of-requires-clause-once
table_of-requires-clause-once c =
    subst (λ starts. (i j : _) (d : ScheduledStart) → i < length starts → j < length starts → (get_or starts i d).passage ≡ (get_or starts j d).passage → (get_or starts i d).time ≡ (get_or starts j d).time)
    (sym c.scheduled.ensures) (once_each c.args.starts.now c.requires.once)

pub returns : goal.returns
returns c =
    let table = subst (λ starts. IsTable c.args.timing.now c.width_of-width.result c.args.cycles starts c.in_ok-table.table.items) c.scheduled.ensures c.in_ok-table.ensures in
    IfOk-weaker c.rows_by.result _ _ (λ rows filled. are_rows c.args.timing.now c.args.offsets.now c.args.cycles c.args.starts.now c.width_of-width.result c.in_ok-table.table.items
    rows.items table (subst (λ t. rows.items ≡ map (row_of c.args.timing.now c.args.offsets.now c.width_of-width.result t) (passages_of c.args.timing.now c.args.cycles))
    c.deref-3.ensures.value filled)) c.rows_by.ensures
