use Rattle.std.proofs.Common.{arith}
use Rattle.tsn_replay.proofs.Blocks.{visit_within, visit_gone, visit_coming, visit_waits}
use Rattle.tsn_replay.proofs.queue.first_of.Goals as goal

pub overflow_mul-from : goal.overflow_mul-from
overflow_mul-from c =
    let formed = c.cycle-limits.ensures.well_formed in
    let within = visit_within c.args.network.now formed c.args.cycles c.args.frames.now c.requires.line c.args.link
    c.args.visit c.requires.visit in
    omega arith

pub overflow_mul-visit : goal.overflow_mul-visit
overflow_mul-visit c =
    let formed = c.cycle-limits.ensures.well_formed in
    let within = visit_within c.args.network.now formed c.args.cycles c.args.frames.now c.requires.line c.args.link
    c.args.visit c.requires.visit in
    omega arith

pub overflow_add-from : goal.overflow_add-from
overflow_add-from c =
    let formed = c.cycle-limits.ensures.well_formed in
    let within = visit_within c.args.network.now formed c.args.cycles c.args.frames.now c.requires.line c.args.link
    c.args.visit c.requires.visit in
    omega arith

pub first_queued-requires-clause-gone : goal.first_queued-requires-clause-gone
first_queued-requires-clause-gone c =
    visit_gone c.args.network.now c.cycle-limits.ensures.well_formed c.args.cycles c.args.frames.now c.requires.line
    c.args.link c.args.visit c.requires.visit

pub first_queued-requires-clause-coming : goal.first_queued-requires-clause-coming
first_queued-requires-clause-coming c =
    visit_coming c.args.network.now c.cycle-limits.ensures.well_formed c.args.cycles c.args.frames.now
    c.requires.line c.args.link c.args.visit c.requires.visit

pub first_queued-requires-clause-within : goal.first_queued-requires-clause-within
first_queued-requires-clause-within c =
    visit_within c.args.network.now c.cycle-limits.ensures.well_formed c.args.cycles c.args.frames.now
    c.requires.line c.args.link c.args.visit c.requires.visit

pub returns : goal.returns
returns c =
    visit_waits c.args.network.now c.cycle-limits.ensures.well_formed c.args.cycles c.args.frames.now c.requires.line
    c.args.link c.args.visit c.requires.visit
    c.first_queued.result c.first_queued.ensures
