use Rattle.std.proofs.Common.{◌≡◌, false, All, sym, subst}
use Rattle.tsn_model.specs.Network.{IsWellFormed}
use Rattle.tsn_model.proofs.OnTime.{early_starts_on_time}
use Rattle.tsn_replay.specs.declared.trace.Row.{Row}
use Rattle.tsn_replay.specs.Rows.{is_late}
use Rattle.tsn_replay.proofs.ReplayTables.{rows_on_time}
use Rattle.tsn_replay.proofs.cycles.replay_early.Goals as goal

pub returns-clause-on_time : goal.returns-clause-on_time
returns-clause-on_time c wanted tolerates =
    let network = c.args.problem.now.network in
    let offsets = c.args.valid.now in
    let formed = subst IsWellFormed c.deref.ensures c.cycle-limits.ensures.well_formed in
    let is = c.in_ok-trace.ensures.replayed in
    let starts = early_starts_on_time network formed offsets c.requires.valid c.args.lists.now wanted
    (λ link. c.args.slack) tolerates c.args.cycles is.ready is.made is.early in
    subst (All (λ (row : Row). is_late row ≡ false)) (sym c.into_table.ensures)
    (rows_on_time network offsets c.args.cycles is.made c.in_ok-trace.trace.rows is.rows starts)

pub replayed-requires-clause-valid : goal.replayed-requires-clause-valid
replayed-requires-clause-valid c = c.requires.valid

pub returns-clause-fault : goal.returns-clause-fault
returns-clause-fault c = tt
