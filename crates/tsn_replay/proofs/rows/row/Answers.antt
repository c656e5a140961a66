use Rattle.std.proofs.Common.{◌+◌, ◌*◌, ◌≤◌, get_or, None, arith, mul-le-mul}
use Rattle.std.proofs.lemmas.Grind.{common_steps}
use Rattle.tsn_model.specs.Bridge.{planned}
use Rattle.tsn_replay.specs.Rows.{row_of}
use Rattle.tsn_replay.proofs.rows.row.Goals as goal

pub overflow_add-result-2 : goal.overflow_add-result-2
overflow_add-result-2 c =
    let times = c.requires.times in
    let cycle : c.args.cycle ≤ 16 = let few = times.few in let below = c.requires.cycle in omega arith in
    let size : c.cycle.result ≤ 1000000000 = c.cycle.ensures.bound in
    let begin : c.args.cycle * c.cycle.result ≤ 16 * 1000000000 = mul-le-mul cycle size in
    let offset = times.small c.args.stream 0 (omega arith) in
    let shift = times.spaced.within c.args.stream c.args.shift c.requires.stream c.requires.sent in
    omega arith

pub overflow_add-result-3 : goal.overflow_add-result-3
overflow_add-result-3 c =
    let times = c.requires.times in
    let cycle : c.args.cycle ≤ 16 = let few = times.few in let below = c.requires.cycle in omega arith in
    let size : c.cycle.result ≤ 1000000000 = c.cycle.ensures.bound in
    let begin : c.args.cycle * c.cycle.result ≤ 16 * 1000000000 = mul-le-mul cycle size in
    let offset = times.small c.args.stream 0 (omega arith) in
    let shift = times.spaced.within c.args.stream c.args.shift c.requires.stream c.requires.sent in
    omega arith

pub cell-cell-requires-clause-sent : goal.cell-cell-requires-clause-sent
cell-cell-requires-clause-sent c = c.requires.sent

pub bounds-times-cell : goal.bounds-times-cell
bounds-times-cell c = grind (arith, common_steps) steps 2000000

pub returns : goal.returns
unfolding row_of planned
returns c = λ i. record {
  stream = c.args.stream;
  shift = c.args.shift;
  cycle = c.args.cycle;
  hop = c.args.hop;
  planned = c.args.cycle * c.cycle.ensures.value i + get_or c.args.times.offsets.now c.args.stream 0 + c.args.shift + c.start.ensures.value i;
  actual = get_or c.args.times.table.now (c.cell-cell.ensures.value i) None;
}
