use Rattle.std.proofs.Common.{◌≡◌, ◌<◌, ◌≤◌, ℕ, List, length, get_or, map, All, Some, sym, ap, ◌∙◌, subst, arith}
use Rattle.std.proofs.lemmas.List.{length-map}
use Rattle.std.proofs.lemmas.Option.{slice_get-get_or}
use Rattle.std.proofs.lemmas.Result.{err_from_is_err_and}
use Rattle.tsn_model.specs.Network.{Network, IsWellFormed, HasFewStreams, stream_count}
use Rattle.tsn_branch.specs.declared.loads.LinkTable.{LinkTable}
use Rattle.tsn_branch.specs.Links.{shared_links}
use Rattle.tsn_branch.specs.Loads.{IsEarly, link_in, shared_link}
use Rattle.tsn_branch.proofs.Leasts.{count, short}
use Rattle.tsn_branch.proofs.Loading.{IsMeasured, table_there, table_measured, users_are, users_below, users_count, link_is}
use Rattle.tsn_branch.proofs.Shown.{shown_by}
use Rattle.tsn_branch.proofs.judge.entries_at.Goals as goal

module _ (network : Network) (tables : List LinkTable) (same : map link_in tables ≡ map (shared_link network) (shared_links network)) (link_index : ℕ) (below : link_index < length (shared_links network))
    (table : LinkTable) (is : table ≡ get_or tables link_index table) where
  there : link_in table ≡ shared_link network (get_or (shared_links network) link_index 0)
  there =
      (table_there network tables link_index table same
      (omega (arith, ap length same, length-map tables link_in, length-map (shared_links network) (shared_link network))) is).1

  users_counted : IsWellFormed network → HasFewStreams network → length table.users.items ≤ 128
  users_counted formed few =
      let link = get_or (shared_links network) link_index 0 in
      let counted = users_count network link (link_in table) there in
      let below_few = users_below network formed link few in
      omega arith

  measured : IsWellFormed network → IsMeasured network table
  measured formed = table_measured network formed link_index table below there

pub entries_of-requires-clause-some_user : goal.entries_of-requires-clause-some_user
entries_of-requires-clause-some_user c =
    let found = measured c.args.tables.timing.now c.tables.result.now (c.tables.ensures ∙ c.args.tables.right_loads) c.args.link_index c.requires.link_index c.index-tables-link_index.result c.index-tables-link_index.is c.args.tables.right_conflicts.formed in
    omega (arith, found.several, ap length c.deref.ensures.value)

pub entries_of-requires-clause-few_users : goal.entries_of-requires-clause-few_users
entries_of-requires-clause-few_users c =
    let few = users_counted c.args.tables.timing.now c.tables.result.now (c.tables.ensures ∙ c.args.tables.right_loads) c.args.link_index c.requires.link_index c.index-tables-link_index.result c.index-tables-link_index.is c.args.tables.right_conflicts.formed c.args.tables.right_conflicts.few in
    omega (arith, few, ap length c.deref.ensures.value)

pub entries_of-requires-clause-streams : goal.entries_of-requires-clause-streams
entries_of-requires-clause-streams c k d below =
    let network = c.args.tables.timing.now in
    let found = measured network c.tables.result.now (c.tables.ensures ∙ c.args.tables.right_loads) c.args.link_index c.requires.link_index c.index-tables-link_index.result c.index-tables-link_index.is c.args.tables.right_conflicts.formed in
    let early = subst (All (IsEarly (stream_count network))) (sym c.deref.ensures.value) found.early in
    let path = c.requires.some_path in
    subst (λ n. (get_or c.deref.result.now k d).stream < n) (sym (count network path.0 c.args.least.now path.1)) (early k d below).counted

pub entries_of-requires-clause-short : goal.entries_of-requires-clause-short
entries_of-requires-clause-short c k d below =
    let network = c.args.tables.timing.now in
    let found = measured network c.tables.result.now (c.tables.ensures ∙ c.args.tables.right_loads) c.args.link_index c.requires.link_index c.index-tables-link_index.result c.index-tables-link_index.is c.args.tables.right_conflicts.formed in
    let early = subst (All (IsEarly (stream_count network))) (sym c.deref.ensures.value) found.early in
    let path = c.requires.some_path in
    short network path.0 c.args.least.now path.1 c.args.tables.right_conflicts.few (get_or c.deref.result.now k d).stream (early k d below).counted

pub returns-clause-link : goal.returns-clause-link
returns-clause-link c =
    let network = c.args.tables.timing.now in
    let is = there network c.tables.result.now (c.tables.ensures ∙ c.args.tables.right_loads) c.args.link_index c.requires.link_index c.index-tables-link_index.result c.index-tables-link_index.is in
    let link = get_or (shared_links network) c.args.link_index 0 in
    slice_get-get_or (shared_links network) c.args.link_index 0 c.requires.link_index ∙ ap Some (sym (link_is network link (link_in c.index-tables-link_index.result) is))

pub returns-clause-shown : goal.returns-clause-shown
returns-clause-shown c path solves =
    let network = c.args.tables.timing.now in
    let is = there network c.tables.result.now (c.tables.ensures ∙ c.args.tables.right_loads) c.args.link_index c.requires.link_index c.index-tables-link_index.result c.index-tables-link_index.is in
    let link = get_or (shared_links network) c.args.link_index 0 in
    shown_by network path c.args.least.now solves link c.args.tables.right_conflicts.formed c.index-tables-link_index.result.link
    c.deref.result.now c.in_ok-entries_of.field-0
    (link_is network link (link_in c.index-tables-link_index.result) is) (c.deref.ensures.value ∙ users_are network link (link_in c.index-tables-link_index.result) is) c.in_ok-entries_of.ensures

pub returns-in_err-entries_of-clause-link : goal.returns-in_err-entries_of-clause-link
returns-in_err-entries_of-clause-link c =
    let p = err_from_is_err_and c.from_residual.result c.from_residual.ensures.1 in
    rw p.1 tt

pub returns-in_err-entries_of-clause-shown : goal.returns-in_err-entries_of-clause-shown
returns-in_err-entries_of-clause-shown c =
    let p = err_from_is_err_and c.from_residual.result c.from_residual.ensures.1 in
    rw p.1 tt
