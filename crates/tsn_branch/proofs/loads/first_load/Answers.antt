use Rattle.std.proofs.Common.{◌≡◌, ◌+◌, length, get_or, All, ℤ, pos, ◌+ℤ◌, to_z, of_z, w64, refl, sym, ap, ◌∙◌, subst, arith}
use Rattle.std.proofs.lemmas.Int.{ints}
use Rattle.std.proofs.lemmas.List.{take_all, length-map}
use Rattle.std.proofs.lemmas.Option.{slice_get-get_or}
use Rattle.tsn_model.specs.Network.{stream_count}
use Rattle.tsn_branch.specs.Links.{shared_links, load_by, IsUnloaded}
use Rattle.tsn_branch.specs.Loads.{IsCalm, IsEarly, link_in, shared_link}
use Rattle.tsn_branch.proofs.Loading.{table_there, table_measured, table_busy, table_load, unloaded_more}
use Rattle.tsn_branch.proofs.Calm.{calm_more}
use Rattle.tsn_branch.proofs.loads.first_load.Goals as goal
use Rattle.tsn_branch.proofs.loads.first_load.Goals.{else-bound-ge0-via-then-bound-ge0+else-bound-target, else-bound-ge0-via-else-bound-ge0}

pub is_calm-requires-clause-users : goal.is_calm-requires-clause-users
is_calm-requires-clause-users c =
    let network = c.args.timing.now in
    let there = table_there network c.tables-table-items.result.now c.loop-link_index.link_index c.table-item.result (c.tables-table-items.ensures ∙ c.requires.loads) c.loop-link_index-test.true c.table-item.is in
    let measured = table_measured network c.cycle-cycle.ensures.well_formed c.loop-link_index.link_index c.table-item.result there.0 there.1 in
    subst (λ n. All (IsEarly n) c.table-item.result.users.items) (sym c.requires.count) measured.early

pub is_calm-requires-clause-short_work : goal.is_calm-requires-clause-short_work
is_calm-requires-clause-short_work c =
    let network = c.args.timing.now in
    let there = table_there network c.tables-table-items.result.now c.loop-link_index.link_index c.table-item.result (c.tables-table-items.ensures ∙ c.requires.loads) c.loop-link_index-test.true c.table-item.is in
    let short = (table_measured network c.cycle-cycle.ensures.well_formed c.loop-link_index.link_index c.table-item.result there.0 there.1).short_work in
    omega arith

pub is_calm-requires-clause-low_tail : goal.is_calm-requires-clause-low_tail
is_calm-requires-clause-low_tail c =
    let network = c.args.timing.now in
    let there = table_there network c.tables-table-items.result.now c.loop-link_index.link_index c.table-item.result (c.tables-table-items.ensures ∙ c.requires.loads) c.loop-link_index-test.true c.table-item.is in
    (table_measured network c.cycle-cycle.ensures.well_formed c.loop-link_index.link_index c.table-item.result there.0 there.1).low_tail

pub is_calm-requires-clause-high_tail : goal.is_calm-requires-clause-high_tail
is_calm-requires-clause-high_tail c =
    let network = c.args.timing.now in
    let there = table_there network c.tables-table-items.result.now c.loop-link_index.link_index c.table-item.result (c.tables-table-items.ensures ∙ c.requires.loads) c.loop-link_index-test.true c.table-item.is in
    (table_measured network c.cycle-cycle.ensures.well_formed c.loop-link_index.link_index c.table-item.result there.0 there.1).high_tail

pub head-requires-clause-some_user : goal.head-requires-clause-some_user
head-requires-clause-some_user c =
    let network = c.args.timing.now in
    let there = table_there network c.tables-table-items.result.now c.loop-link_index.link_index c.table-item.result (c.tables-table-items.ensures ∙ c.requires.loads) c.loop-link_index-test.true c.table-item.is in
    let measured = table_measured network c.cycle-cycle.ensures.well_formed c.loop-link_index.link_index c.table-item.result there.0 there.1 in
    omega (arith, measured.several, ap length c.deref.ensures.value)

pub head-requires-clause-users : goal.head-requires-clause-users
head-requires-clause-users c =
    let network = c.args.timing.now in
    let there = table_there network c.tables-table-items.result.now c.loop-link_index.link_index c.table-item.result (c.tables-table-items.ensures ∙ c.requires.loads) c.loop-link_index-test.true c.table-item.is in
    let measured = table_measured network c.cycle-cycle.ensures.well_formed c.loop-link_index.link_index c.table-item.result there.0 there.1 in
    subst (λ n. All (IsEarly n) c.deref.result.now) (sym c.requires.count) (subst (All (IsEarly (stream_count network))) (sym c.deref.ensures.value) measured.early)

pub overflow_add-busy : goal.overflow_add-busy
overflow_add-busy c =
    let network = c.args.timing.now in
    let there = table_there network c.tables-table-items.result.now c.loop-link_index.link_index c.table-item.result (c.tables-table-items.ensures ∙ c.requires.loads) c.loop-link_index-test.true c.table-item.is in
    let measured = table_measured network c.cycle-cycle.ensures.well_formed c.loop-link_index.link_index c.table-item.result there.0 there.1 in
    omega (arith, measured.short_work, c.head.ensures.bound)

pub overflow_add-bound : goal.overflow_add-bound
overflow_add-bound c =
    let network = c.args.timing.now in
    let there = table_there network c.tables-table-items.result.now c.loop-link_index.link_index c.table-item.result (c.tables-table-items.ensures ∙ c.requires.loads) c.loop-link_index-test.true c.table-item.is in
    let measured = table_measured network c.cycle-cycle.ensures.well_formed c.loop-link_index.link_index c.table-item.result there.0 there.1 in
    let low = measured.low_tail in
    let high = measured.high_tail in
    let within = c.if-busy-cycle.false in
    let short = c.loop-link_index.invariant.short in
    omega (arith, ints)

pub returns-then-busy-cycle : goal.returns-then-busy-cycle
returns-then-busy-cycle c =
    let network = c.args.timing.now in
    let there = table_there network c.tables-table-items.result.now c.loop-link_index.link_index c.table-item.result (c.tables-table-items.ensures ∙ c.requires.loads) c.loop-link_index-test.true c.table-item.is in
    let link = get_or (shared_links network) c.loop-link_index.link_index 0 in
    let busies = table_busy network c.args.offsets.now link c.table-item.result there.1 c.deref.result.now c.deref.ensures.value c.head.result c.head.ensures.value in
    let past = c.if-busy-cycle.true in
    let cycle = c.loop-link_index.invariant.cycle in (
      link,
      record { there = slice_get-get_or (shared_links network) c.loop-link_index.link_index 0 there.0; unloaded_before = c.loop-link_index.invariant.unloaded },
      rw (sym busies) (omega (arith, ints)),
    )

pub returns-then-bound-target : goal.returns-then-bound-target
returns-then-bound-target c =
    let network = c.args.timing.now in
    let there = table_there network c.tables-table-items.result.now c.loop-link_index.link_index c.table-item.result (c.tables-table-items.ensures ∙ c.requires.loads) c.loop-link_index-test.true c.table-item.is in
    let link = get_or (shared_links network) c.loop-link_index.link_index 0 in
    let busies = table_busy network c.args.offsets.now link c.table-item.result there.1 c.deref.result.now c.deref.ensures.value c.head.result c.head.ensures.value in
    let measured = table_measured network c.cycle-cycle.ensures.well_formed c.loop-link_index.link_index c.table-item.result there.0 there.1 in
    let low = measured.low_tail in
    let high = measured.high_tail in
    let within = c.if-busy-cycle.false in
    let cycle = c.loop-link_index.invariant.cycle in
    let short = c.loop-link_index.invariant.short in
    let bound : ℤ = pos (c.head.result + c.table-item.result.work) +ℤ c.table-item.result.tail in
    let loads : bound ≡ load_by network c.args.offsets.now link =
    table_load network c.args.offsets.now link c.table-item.result there.1 c.deref.result.now c.deref.ensures.value c.head.result c.head.ensures.value bound refl in
    let computed : to_z w64 (of_z w64 (to_z w64 (c.head.result + c.table-item.result.work) +ℤ to_z w64 (of_z w64 c.table-item.result.tail))) ≡ bound = omega (arith, ints) in
    let natural = c.if-bound-ge0.true in
    let reached = c.if-bound-target.true in (
      link,
      record { there = slice_get-get_or (shared_links network) c.loop-link_index.link_index 0 there.0; unloaded_before = c.loop-link_index.invariant.unloaded },
      rw (sym busies) (omega (arith, ints)),
      omega (arith, ints, natural, computed) ∙ loads,
      reached,
    )

pub loop-link_index-preserved : goal.loop-link_index-preserved
loop-link_index-preserved c =
    let network = c.args.timing.now in
    let there = table_there network c.tables-table-items.result.now c.loop-link_index.link_index c.table-item.result (c.tables-table-items.ensures ∙ c.requires.loads) c.loop-link_index-test.true c.table-item.is in
    let link = get_or (shared_links network) c.loop-link_index.link_index 0 in
    let busies = table_busy network c.args.offsets.now link c.table-item.result there.1 c.deref.result.now c.deref.ensures.value c.head.result c.head.ensures.value in
    let measured = table_measured network c.cycle-cycle.ensures.well_formed c.loop-link_index.link_index c.table-item.result there.0 there.1 in
    let low = measured.low_tail in
    let high = measured.high_tail in
    let within = c.if-busy-cycle.false in
    let cycle = c.loop-link_index.invariant.cycle in
    let short = c.loop-link_index.invariant.short in
    let bound : ℤ = pos (c.head.result + c.table-item.result.work) +ℤ c.table-item.result.tail in
    let loads : bound ≡ load_by network c.args.offsets.now link =
    table_load network c.args.offsets.now link c.table-item.result there.1 c.deref.result.now c.deref.ensures.value c.head.result c.head.ensures.value bound refl in
    let computed : to_z w64 (of_z w64 (to_z w64 (c.head.result + c.table-item.result.work) +ℤ to_z w64 (of_z w64 c.table-item.result.tail))) ≡ bound = omega (arith, ints) in
    record {
      unloaded =
          unloaded_more network c.args.offsets.now c.args.target c.loop-link_index.link_index (c.head.result + c.table-item.result.work) bound there.0 busies loads (omega arith)
          (elim c.else-bound-ge0.branch [
            | else-bound-ge0-via-then-bound-ge0+else-bound-target w ↦ let natural = w.if-bound-ge0.true in let below = w.if-bound-target.false in omega (arith, ints)
            | else-bound-ge0-via-else-bound-ge0 w ↦ let negative = w.if-bound-ge0.false in omega (arith, ints)
          ])
          c.loop-link_index.invariant.unloaded;
      cycle = cycle;
      short = short;
    }

pub loop-link_index-preserved-then-is_calm : goal.loop-link_index-preserved-then-is_calm
loop-link_index-preserved-then-is_calm c =
    let network = c.args.timing.now in
    let there = table_there network c.tables-table-items.result.now c.loop-link_index.link_index c.table-item.result (c.tables-table-items.ensures ∙ c.requires.loads) c.loop-link_index-test.true c.table-item.is in
    let calm = subst (λ cycle. IsCalm c.args.offsets.now cycle c.args.target (link_in c.table-item.result)) c.loop-link_index.invariant.cycle (c.is_calm.ensures c.if-is_calm.true) in
    record {
      unloaded = calm_more network c.args.offsets.now c.args.target c.loop-link_index.link_index (link_in c.table-item.result) there.0 there.1 calm c.loop-link_index.invariant.unloaded;
      cycle = c.loop-link_index.invariant.cycle;
      short = c.loop-link_index.invariant.short;
    }

pub returns : goal.returns
returns c =
    let past = c.loop-link_index-test.false in
    let same = c.tables-table-items.ensures ∙ c.requires.loads in
    subst (All (IsUnloaded c.args.timing.now c.args.offsets.now c.args.target))
    (take_all c.loop-link_index.link_index (shared_links c.args.timing.now)
    (omega (arith, ap length same, length-map c.tables-table-items.result.now link_in, length-map (shared_links c.args.timing.now) (shared_link c.args.timing.now))))
    c.loop-link_index.invariant.unloaded
