use Rattle.std.proofs.Common.{◌∙◌, sym, ap, arith}
use Rattle.tsn_model.specs.Timing.{separation}
use Rattle.tsn_model.specs.Certificate.{begin_on, end_on}
use Rattle.tsn_model.proofs.Routes.{hop_on_found, hop_on_link, UsesLink-counted}
use Rattle.tsn_check.proofs.Shifts.{shift_short}
use Rattle.tsn_argue.proofs.link.visit_of.Goals as goal

pub hop_on-requires : goal.hop_on-requires
hop_on-requires c = UsesLink-counted c.args.timing.now c.args.frame.stream c.args.link c.requires.uses

pub start-requires-clause-stream : goal.start-requires-clause-stream
start-requires-clause-stream c = UsesLink-counted c.args.timing.now c.args.frame.stream c.args.link c.requires.uses

pub start-requires-clause-hop : goal.start-requires-clause-hop
start-requires-clause-hop c = (hop_on_found c.args.timing.now c.args.frame.stream c.args.link c.in-Some.hop (sym c.in-Some.ensures)).1

pub separation-work-requires-clause-stream : goal.separation-work-requires-clause-stream
separation-work-requires-clause-stream c = UsesLink-counted c.args.timing.now c.args.frame.stream c.args.link c.requires.uses

pub separation-work-requires-clause-hop : goal.separation-work-requires-clause-hop
separation-work-requires-clause-hop c = (hop_on_found c.args.timing.now c.args.frame.stream c.args.link c.in-Some.hop (sym c.in-Some.ensures)).1

pub overflow_add-begin : goal.overflow_add-begin
overflow_add-begin c =
    let shift = shift_short c.args.timing.now c.args.frame.stream c.args.frame.shift c.cycle-cycle.ensures.well_formed c.requires.sent
    (UsesLink-counted c.args.timing.now c.args.frame.stream c.args.link c.requires.uses) in
    omega arith

pub returns-clause-begin : goal.returns-clause-begin
unfolding begin_on
returns-clause-begin c =
    let starts = (hop_on_found c.args.timing.now c.args.frame.stream c.args.link c.in-Some.hop (sym c.in-Some.ensures)).2 in
    omega (arith, c.start.ensures.value, starts)

pub returns-clause-work : goal.returns-clause-work
returns-clause-work c =
    c.separation-work.ensures.value
    ∙ ap (separation c.args.timing.now c.args.frame.stream)
    (hop_on_link c.args.timing.now c.args.frame.stream c.args.link c.in-Some.hop (sym c.in-Some.ensures))

pub returns-clause-end : goal.returns-clause-end
unfolding begin_on end_on
returns-clause-end c =
    let starts = (hop_on_found c.args.timing.now c.args.frame.stream c.args.link c.in-Some.hop (sym c.in-Some.ensures)).2 in
    let works = c.separation-work.ensures.value
    ∙ ap (separation c.args.timing.now c.args.frame.stream)
    (hop_on_link c.args.timing.now c.args.frame.stream c.args.link c.in-Some.hop (sym c.in-Some.ensures)) in
    omega (arith, c.start.ensures.value, starts, works)

pub returns-clause-early : goal.returns-clause-early
returns-clause-early c =
    let shift = shift_short c.args.timing.now c.args.frame.stream c.args.frame.shift c.cycle-cycle.ensures.well_formed c.requires.sent
    (UsesLink-counted c.args.timing.now c.args.frame.stream c.args.link c.requires.uses) in
    omega arith
