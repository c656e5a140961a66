use Rattle.std.specs.Prelude.{MatchOption}
use Rattle.std.proofs.Common.{◌≡◌, ◌<◌, length, All, sym, ap, ◌∙◌, subst}
use Rattle.tsn_model.specs.Network.{IsWellFormed, stream_count}
use Rattle.tsn_model.specs.Bridge.{ScheduledStart, IsPassage}
use Rattle.tsn_model.proofs.OnTime.{starts_on_time}
use Rattle.tsn_replay.specs.declared.trace.Row.{Row}
use Rattle.tsn_replay.specs.Feeding.{background_of}
use Rattle.tsn_replay.specs.Faults.{NamesLinks, KeepsLimits, HasReplayFault}
use Rattle.tsn_replay.specs.Progress.{IsSetting, AreStarts}
use Rattle.tsn_replay.specs.Rows.{Traced, AreRows}
use Rattle.tsn_replay.specs.Records.{IsReplayed}
use Rattle.tsn_replay.proofs.Settings.{no_fault, setting_right}
use Rattle.tsn_replay.proofs.Records.{started_kept, replayed_from}
use Rattle.tsn_replay.proofs.ReplayTables.{rows_named}
use Rattle.tsn_replay.proofs.cycles.replayed.Goals as goal

pub starts_by-requires : goal.starts_by-requires
starts_by-requires c =
    let formed = subst IsWellFormed c.deref-2.ensures c.cycle-limits.ensures.well_formed in
    let background = background_of c.args.background.now in
    let judged = subst (λ n. MatchOption c.first_fault.result (NamesLinks n c.args.lists.now background × KeepsLimits n c.args.lists.now c.args.cycles background) (HasReplayFault n c.args.lists.now c.args.cycles background)) c.deref.ensures c.first_fault.ensures in
    let right = no_fault c.args.problem.now.network c.args.lists.now c.args.cycles background c.first_fault.result c.in_default.not-Some judged in
    let setting = setting_right
    (record { network = c.args.problem.now.network; offsets = c.args.valid.now; gates = c.args.lists.now; cycles = c.args.cycles; background = background; keeps = c.args.keeps; slack = c.args.slack }) formed c.requires.valid c.requires.few c.requires.short right.0 right.1 in
    let network = sym c.timing-timing.ensures in
    let offsets = sym c.offsets-offsets.ensures in
    let gates = c.args.lists.now in
    subst IsSetting (λ i. record { network = network i; offsets = offsets i; gates = gates; cycles = c.args.cycles; background = background; keeps = c.args.keeps; slack = c.args.slack }) setting

pub rows_of-requires-clause-once : goal.rows_of-requires-clause-once
rows_of-requires-clause-once c passage s t one other =
    let are = c.in_ok-starts.ensures in
    are.early.once passage s t (started_kept c.args.keeps are.made c.in_ok-starts.starts are.records passage s one)
    (started_kept c.args.keeps are.made c.in_ok-starts.starts are.records passage t other)

pub rows_of-requires-clause-passages : goal.rows_of-requires-clause-passages
rows_of-requires-clause-passages c =
    let are = c.in_ok-starts.ensures in
    subst (All (λ (begun : ScheduledStart). IsPassage c.timing-timing.result.now c.args.cycles begun.passage)) (sym are.records.scheduled) are.early.passages

pub returns-clause-replayed : goal.returns-clause-replayed
returns-clause-replayed c =
    let network = c.timing-timing.ensures in
    let offsets = c.offsets-offsets.ensures in
    let gates = c.args.lists.now in
    let background = background_of c.args.background.now in
    let starts = subst (λ setting. AreStarts setting c.in_ok-starts.starts)
    (λ i. record { network = network i; offsets = offsets i; gates = gates; cycles = c.args.cycles; background = background; keeps = c.args.keeps; slack = c.args.slack })
    c.in_ok-starts.ensures in
    let table = c.in_ok-rows.rows.items in
    let timed = subst (λ n. AreRows n c.offsets-offsets.result.now c.args.cycles c.in_ok-starts.starts table) c.timing-timing.ensures c.in_ok-rows.ensures in
    let rows = subst (λ os. AreRows c.args.problem.now.network os c.args.cycles c.in_ok-starts.starts table) c.offsets-offsets.ensures timed in
    let trace : c.new-2.result ≡ record { run = c.in_ok-starts.starts; rows = c.in_ok-rows.rows.items } = c.new-2.ensures ∙ ap (λ table. record { run = c.in_ok-starts.starts; rows = table }) c.new.ensures in
    subst (IsReplayed c.args.keeps c.args.slack c.args.problem.now.network c.args.valid.now c.args.lists.now c.args.cycles background) (sym trace)
    (replayed_from (record { network = c.args.problem.now.network; offsets = c.args.valid.now; gates = c.args.lists.now; cycles = c.args.cycles; background = background; keeps = c.args.keeps; slack = c.args.slack }) c.in_ok-starts.starts c.in_ok-rows.rows.items starts rows)

pub returns-clause-named : goal.returns-clause-named
returns-clause-named c =
    let names : stream_count c.timing-timing.result.now ≡ length c.args.problem.now.stream_names = ap stream_count c.timing-timing.ensures ∙ (sym c.streams-names.ensures.count ∙ c.streams-names.ensures.named) in
    subst (λ rows. All (λ (row : Row). row.stream < length c.args.problem.now.stream_names) rows) (sym (ap (λ (t : Traced). t.rows) c.new-2.ensures ∙ c.new.ensures))
    (rows_named c.timing-timing.result.now _ c.args.cycles _ c.in_ok-rows.rows.items (length c.args.problem.now.stream_names) names c.in_ok-rows.ensures)

pub returns-clause-on_time : goal.returns-clause-on_time
returns-clause-on_time c kept count run is = starts_on_time c.args.problem.now.network (subst IsWellFormed c.deref-2.ensures c.cycle-limits.ensures.well_formed) c.args.valid.now c.requires.valid c.args.lists.now kept count run is

pub returns-in-Some-clause-replayed : goal.returns-in-Some-clause-replayed
returns-in-Some-clause-replayed c = tt

pub returns-in-Some-clause-named : goal.returns-in-Some-clause-named
returns-in-Some-clause-named c = tt

pub returns-in-Some-clause-on_time : goal.returns-in-Some-clause-on_time
returns-in-Some-clause-on_time c = tt

pub returns-in-Some-clause-links : goal.returns-in-Some-clause-links
returns-in-Some-clause-links c = tt

pub returns-in-Some-clause-limits : goal.returns-in-Some-clause-limits
returns-in-Some-clause-limits c = tt
