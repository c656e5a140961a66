use Rattle.std.proofs.Common.{max, map, [], ◌∙◌, refl, sym, ap, ap₂, arith}
use Rattle.std.specs.List.{range_with_len}
use Rattle.tsn_model.specs.Timing.{hop_arrival, arrival, greatest}
use Rattle.tsn_model.proofs.Lists.{greatest-nil, greatest_more}
use Rattle.tsn_timing.proofs.Hopping.{link_there, arrives_at, narrow}
use Rattle.tsn_timing.proofs.tables.arrival_of.Goals as goal

pub loop-k-init : goal.loop-k-init
loop-k-init c = record { so_far = sym greatest-nil; bound = omega arith; end = refl }

pub transfer-requires-clause-link : goal.transfer-requires-clause-link
transfer-requires-clause-link c =
    let count = c.requires.right.count in
    let inside = c.loop-k-test.true in
    link_there c.args.network.now c.cycle-limits.ensures.well_formed c.args.stream c.requires.stream _ c.loop-k.k
    (c.requires.right.each c.loop-k.k _ (omega arith)) (omega arith)

pub overflow_add-hop : goal.overflow_add-hop
overflow_add-hop c =
    let count = c.requires.right.count in
    let inside = c.loop-k-test.true in
    let is = c.requires.right.each c.loop-k.k (record { link = 0; start = 0; occupancy = 0; separation = 0 }) (omega arith) in
    let soon = is.early in
    let close = narrow c.args.network.now c.cycle-limits.ensures.well_formed c.args.stream c.requires.stream in
    omega arith

pub overflow_add-hop-in-loop-k : goal.overflow_add-hop-in-loop-k
overflow_add-hop-in-loop-k c =
    let count = c.requires.right.count in
    let inside = c.loop-k-test.true in
    let is = c.requires.right.each c.loop-k.k (record { link = 0; start = 0; occupancy = 0; separation = 0 }) (omega arith) in
    let soon = is.early in
    let close = narrow c.args.network.now c.cycle-limits.ensures.well_formed c.args.stream c.requires.stream in
    let time = c.transfer.ensures.bound in
    omega arith

pub loop-k-preserved : goal.loop-k-preserved
loop-k-preserved c =
    let count = c.requires.right.count in
    let inside = c.loop-k-test.true in
    let is = c.requires.right.each c.loop-k.k (record { link = 0; start = 0; occupancy = 0; separation = 0 }) (omega arith) in
    let soon = is.early in
    let close = narrow c.args.network.now c.cycle-limits.ensures.well_formed c.args.stream c.requires.stream in
    let time = c.transfer.ensures.bound in
    let here = arrives_at c.args.network.now c.cycle-limits.ensures.well_formed c.args.stream c.requires.stream
    _ c.loop-k.k c.args.last_after c.transfer.result is c.requires.spread c.transfer.ensures.value in
    record {
      so_far = c.max-time.ensures ∙ (ap₂ max c.loop-k.invariant.so_far here ∙ sym (greatest_more (hop_arrival c.args.network.now c.args.stream) [] c.loop-k.k));
      bound = omega arith;
      end = c.loop-k.invariant.end;
    }

pub returns-clause-value : goal.returns-clause-value
unfolding arrival
returns-clause-value c =
    let count = c.requires.right.count in
    c.loop-k.invariant.so_far ∙ ap (λ n. greatest (map (hop_arrival c.args.network.now c.args.stream) (range_with_len 0 n))) (omega arith)
