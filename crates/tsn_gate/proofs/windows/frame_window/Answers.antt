use Rattle.std.proofs.Common.{◌∙◌, sym, ap, arith}
use Rattle.tsn_model.specs.Timing.{occupancy}
use Rattle.tsn_model.proofs.Routes.{hop_on_found, hop_on_link}
use Rattle.tsn_model.proofs.Schedules.{offsets_within}
use Rattle.tsn_gate.proofs.Occupancies.{window_is}
use Rattle.tsn_gate.proofs.windows.frame_window.Goals as goal

pub start-requires-clause-hop : goal.start-requires-clause-hop
start-requires-clause-hop c =
    let found = hop_on_found c.args.timing.now c.args.stream c.args.link c.in_ok-hop.hop (sym c.hop_on.ensures ∙ c.in_ok-hop.was) in
    omega arith

pub occupancy-requires-clause-hop : goal.occupancy-requires-clause-hop
occupancy-requires-clause-hop c =
    let found = hop_on_found c.args.timing.now c.args.stream c.args.link c.in_ok-hop.hop (sym c.hop_on.ensures ∙ c.in_ok-hop.was) in
    omega arith

pub returns-clause-window : goal.returns-clause-window
returns-clause-window c =
    let at = sym c.hop_on.ensures ∙ c.in_ok-hop.was in
    let found = hop_on_found c.args.timing.now c.args.stream c.args.link c.in_ok-hop.hop at in
    window_is c.args.timing.now c.args.offsets.now c.args.link c.args.stream c.start.result c.occupancy.result (c.start.ensures.value ∙ found.2)
    (c.occupancy.ensures.value ∙ ap (occupancy c.args.timing.now c.args.stream) (hop_on_link c.args.timing.now c.args.stream c.args.link c.in_ok-hop.hop at))

pub overflow_add-start : goal.overflow_add-start
overflow_add-start c =
    let offset = offsets_within c.args.timing.now c.args.offsets.now c.requires.valid c.args.stream 0 (omega arith) in
    omega arith

pub overflow_add-result : goal.overflow_add-result
overflow_add-result c =
    let offset = offsets_within c.args.timing.now c.args.offsets.now c.requires.valid c.args.stream 0 (omega arith) in
    omega arith
