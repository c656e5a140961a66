use Rattle.std.proofs.Common.{◌+◌, ◌*◌, get_or, ap, ◌∙◌, arith}
use Rattle.tsn_replay.specs.Frames.{frames_below}
use Rattle.tsn_replay.specs.Rows.{cell_of}
use Rattle.tsn_replay.proofs.Counting.{cell_numbers}
use Rattle.tsn_replay.proofs.ReplayTables.{cell_room}
use Rattle.tsn_replay.proofs.rows.cell.Goals as goal

pub overflow_add-index : goal.overflow_add-index
overflow_add-index c =
    let formed = c.cycle-limits.ensures.well_formed in
    let numbers = cell_numbers c.args.timing.now formed c.args.firsts.now c.requires.firsts c.args.cycle c.args.stream c.args.shift c.place_of.result
    c.streams.result
    c.requires.few c.requires.stream c.requires.sent c.place_of.ensures.value c.streams.ensures.value in
    omega arith

pub overflow_mul-result : goal.overflow_mul-result
overflow_mul-result c =
    let formed = c.cycle-limits.ensures.well_formed in
    let numbers = cell_numbers c.args.timing.now formed c.args.firsts.now c.requires.firsts c.args.cycle c.args.stream c.args.shift c.place_of.result
    c.streams.result
    c.requires.few c.requires.stream c.requires.sent c.place_of.ensures.value c.streams.ensures.value in
    omega arith

pub overflow_add-result : goal.overflow_add-result
overflow_add-result c =
    let formed = c.cycle-limits.ensures.well_formed in
    let numbers = cell_numbers c.args.timing.now formed c.args.firsts.now c.requires.firsts c.args.cycle c.args.stream c.args.shift c.place_of.result
    c.streams.result
    c.requires.few c.requires.stream c.requires.sent c.place_of.ensures.value c.streams.ensures.value in
    omega arith

pub overflow_mul-result-2 : goal.overflow_mul-result-2
overflow_mul-result-2 c =
    let formed = c.cycle-limits.ensures.well_formed in
    let numbers = cell_numbers c.args.timing.now formed c.args.firsts.now c.requires.firsts c.args.cycle c.args.stream c.args.shift c.place_of.result
    c.streams.result
    c.requires.few c.requires.stream c.requires.sent c.place_of.ensures.value c.streams.ensures.value in
    let frame = c.args.cycle * get_or c.args.firsts.now c.streams.result 0 + (get_or c.args.firsts.now c.args.stream 0 + c.place_of.result) in
    let room = cell_room c.args.timing.now formed c.args.width c.requires.wide c.args.cycle c.args.stream c.args.hop frame c.requires.few c.requires.stream c.requires.hop (omega arith) in
    omega arith

pub overflow_add-result-2 : goal.overflow_add-result-2
overflow_add-result-2 c =
    let formed = c.cycle-limits.ensures.well_formed in
    let numbers = cell_numbers c.args.timing.now formed c.args.firsts.now c.requires.firsts c.args.cycle c.args.stream c.args.shift c.place_of.result
    c.streams.result
    c.requires.few c.requires.stream c.requires.sent c.place_of.ensures.value c.streams.ensures.value in
    let frame = c.args.cycle * get_or c.args.firsts.now c.streams.result 0 + (get_or c.args.firsts.now c.args.stream 0 + c.place_of.result) in
    let room = cell_room c.args.timing.now formed c.args.width c.requires.wide c.args.cycle c.args.stream c.args.hop frame c.requires.few c.requires.stream c.requires.hop (omega arith) in
    omega arith

pub returns-clause-within : goal.returns-clause-within
returns-clause-within c =
    let formed = c.cycle-limits.ensures.well_formed in
    let numbers = cell_numbers c.args.timing.now formed c.args.firsts.now c.requires.firsts c.args.cycle c.args.stream c.args.shift c.place_of.result
    c.streams.result
    c.requires.few c.requires.stream c.requires.sent c.place_of.ensures.value c.streams.ensures.value in
    let frame = c.args.cycle * get_or c.args.firsts.now c.streams.result 0 + (get_or c.args.firsts.now c.args.stream 0 + c.place_of.result) in
    let room = cell_room c.args.timing.now formed c.args.width c.requires.wide c.args.cycle c.args.stream c.args.hop frame c.requires.few c.requires.stream c.requires.hop (omega arith) in
    omega arith

pub returns-clause-small : goal.returns-clause-small
returns-clause-small c =
    let formed = c.cycle-limits.ensures.well_formed in
    let numbers = cell_numbers c.args.timing.now formed c.args.firsts.now c.requires.firsts c.args.cycle c.args.stream c.args.shift c.place_of.result
    c.streams.result
    c.requires.few c.requires.stream c.requires.sent c.place_of.ensures.value c.streams.ensures.value in
    let frame = c.args.cycle * get_or c.args.firsts.now c.streams.result 0 + (get_or c.args.firsts.now c.args.stream 0 + c.place_of.result) in
    let room = cell_room c.args.timing.now formed c.args.width c.requires.wide c.args.cycle c.args.stream c.args.hop frame c.requires.few c.requires.stream c.requires.hop (omega arith) in
    omega arith

pub place_of-requires-clause-sent : goal.place_of-requires-clause-sent
place_of-requires-clause-sent c = c.requires.sent

pub returns-clause-value : goal.returns-clause-value
unfolding cell_of
returns-clause-value c =
    let all = c.requires.firsts.each c.streams.result (let counted = c.streams.ensures.value in omega arith)
    ∙ ap (frames_below c.args.timing.now) c.streams.ensures.value in
    let first = c.requires.firsts.each c.args.stream (let counted = c.requires.stream in omega arith) in
    λ i. (c.args.cycle * all i + (first i + c.place_of.ensures.value i)) * c.args.width + c.args.hop
