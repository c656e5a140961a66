use Rattle.std.proofs.Common.{◌≡◌, ◌+◌, ◌*◌, ◌≤◌, Some, slice_set, get_or, take, refl, sym, ap, ◌∙◌, subst, arith, mul-le-mul}
use Rattle.std.proofs.lemmas.Grind.{common_steps}
use Rattle.std.proofs.lemmas.List.{take_all}
use Rattle.tsn_replay.specs.Frames.{frames_below, frames_of}
use Rattle.tsn_replay.proofs.Counting.{cells-few}
use Rattle.tsn_replay.specs.Rows.{cell_of, IsTable}
use Rattle.tsn_replay.proofs.ReplayTables.{table_more, table_none}
use Rattle.tsn_replay.proofs.rows.table_of.Goals as goal

pub loop-started-preserved : goal.loop-started-preserved
loop-started-preserved c =
    let below = c.loop-started-test.true in
    let begun = c.started-item.result in
    let index = c.loop-started.started-index in
    let passage : record { stream = c.stream.result; shift = c.shift.result; cycle = c.cycle.result; hop = c.hop.result } ≡ begun.passage =
    λ i. record { stream = c.stream.ensures i; shift = c.shift.ensures i; cycle = c.cycle.ensures i; hop = c.hop.ensures i } in
    let cell : c.cell-cell.result ≡ cell_of c.args.timing.now c.args.width begun.passage = c.cell-cell.ensures.value ∙ ap (cell_of c.args.timing.now c.args.width) passage in
    let more = table_more c.args.timing.now c.args.width c.requires.wide c.args.cycles c.args.starts.now index begun below (sym c.started-item.is) c.requires.passages c.requires.once c.loop-started.table.items c.loop-started.invariant.table in
    record {
      table = subst (λ n. IsTable c.args.timing.now c.args.width c.args.cycles (take (index + 1) c.args.starts.now) (slice_set c.loop-started.table.items n (Some c.time.result))) (sym cell)
          (subst (λ t. IsTable c.args.timing.now c.args.width c.args.cycles (take (index + 1) c.args.starts.now) (slice_set c.loop-started.table.items (cell_of c.args.timing.now c.args.width begun.passage) (Some t))) (sym c.time.ensures) more);
      last = refl;
    }

pub overflow_mul-cycles : goal.overflow_mul-cycles
overflow_mul-cycles c =
    let network = c.args.timing.now in
    let few = cells-few network c.cycle-limits.ensures.well_formed c.args.cycles c.requires.few in
    let all = c.requires.firsts.each c.streams.result (let counted = c.streams.ensures.value in omega arith)
    ∙ ap (frames_below network) c.streams.ensures.value in
    let same : c.args.cycles * get_or c.args.firsts.now c.streams.result 0 ≡ c.args.cycles * frames_of network = ap (λ n. c.args.cycles * n) all in
    omega arith

pub overflow_mul-cycles-2 : goal.overflow_mul-cycles-2
overflow_mul-cycles-2 c =
    let network = c.args.timing.now in
    let few = cells-few network c.cycle-limits.ensures.well_formed c.args.cycles c.requires.few in
    let all = c.requires.firsts.each c.streams.result (let counted = c.streams.ensures.value in omega arith)
    ∙ ap (frames_below network) c.streams.ensures.value in
    let same : c.args.cycles * get_or c.args.firsts.now c.streams.result 0 ≡ c.args.cycles * frames_of network = ap (λ n. c.args.cycles * n) all in
    let frames : c.args.cycles * get_or c.args.firsts.now c.streams.result 0 ≤ 1048576 = omega arith in
    let cells : c.args.cycles * get_or c.args.firsts.now c.streams.result 0 * c.args.width ≤ 1048576 * 64 = mul-le-mul frames c.requires.wide.few in
    omega arith

pub loop-started-init : goal.loop-started-init
loop-started-init c =
    let network = c.args.timing.now in
    let all = c.requires.firsts.each c.streams.result (let counted = c.streams.ensures.value in omega arith)
    ∙ ap (frames_below network) c.streams.ensures.value in
    record {
      table = table_none network c.args.width c.args.cycles _ c.in_ok-table.table.items (ap (λ n. c.args.cycles * n * c.args.width) all)
          (c.in_ok-table.ensures.items_if_clones_equal (λ y same. grind (arith, common_steps)));
      last = refl;
    }

pub cell-cell-requires-clause-spaced : goal.cell-cell-requires-clause-spaced
cell-cell-requires-clause-spaced c = c.requires.spaced

pub cell-cell-requires-clause-firsts : goal.cell-cell-requires-clause-firsts
cell-cell-requires-clause-firsts c = c.requires.firsts

pub cell-cell-requires-clause-wide : goal.cell-cell-requires-clause-wide
cell-cell-requires-clause-wide c = c.requires.wide

pub returns : goal.returns
returns c =
    subst (λ starts. IsTable c.args.timing.now c.args.width c.args.cycles starts c.loop-started.table.items)
    (take_all c.loop-started.started-index c.args.starts.now c.loop-started-test.false) c.loop-started.invariant.table
