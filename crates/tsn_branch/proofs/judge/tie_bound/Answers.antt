use Rattle.std.proofs.Common.{sym, ◌<◌, subst, arith}
use Rattle.std.specs.Prelude.{IfNone, ◌≤◌}
use Rattle.std.proofs.lemmas.Option.{slice_get_within}
use Rattle.std.proofs.lemmas.Result.{err_from_is_err_and}
use Rattle.tsn_branch.specs.Links.{shared_links}
use Rattle.tsn_branch.specs.Loads.{IsFirstLoad, IsTightest}
use Rattle.tsn_branch.proofs.Leasts.{count, short}
use Rattle.tsn_branch.proofs.Tied.{late_pruning, load_pruning, not_overloaded}
use Rattle.tsn_branch.proofs.judge.tie_bound.Goals as goal

pub chain_to-requires-clause-stream : goal.chain_to-requires-clause-stream
chain_to-requires-clause-stream c =
    let path = c.requires.some_path in
    let (fit, last, end) = c.requires.ends in
    subst (λ n. c.args.reach.last < n) (sym (count c.args.tables.timing.now path.0 c.args.least.now path.1)) last.counted

pub chain_to-requires-clause-short : goal.chain_to-requires-clause-short
chain_to-requires-clause-short c =
    let path = c.requires.some_path in
    let (fit, last, end) = c.requires.ends in
    short c.args.tables.timing.now path.0 c.args.least.now path.1 c.args.tables.right_conflicts.few c.args.reach.last last.counted

pub returns-then-reach-limit : goal.returns-then-reach-limit
returns-then-reach-limit c =
    λ path solves.
    let (fit, last, end) = c.requires.ends in
    late_pruning c.args.tables.timing.now path c.args.least.now solves c.args.limit
    c.args.reach.last c.args.reach.end c.in_ok-chain_to.field-0 fit last end c.if-reach-limit.true c.in_ok-chain_to.ensures

pub unreachable-requires : goal.unreachable-requires
unreachable-requires c =
    let reached = subst (λ o. IfNone o (c.args.limit ≤ c.args.reach.end)) c.in_default.is c.requires.reached in
    omega (arith, reached, c.if-reach-limit.false)

pub unreachable-requires-in_default-found : goal.unreachable-requires-in_default-found
unreachable-requires-in_default-found c =
    let network = c.args.tables.timing.now in
    let offsets = c.args.least.now.offsets in
    let limit = c.args.limit in
    let found = subst (IsTightest network offsets limit) c.in-Some.is c.requires.tightest in
    not_overloaded network offsets c.requires.within.0 limit c.in_default-found.field-0 c.requires.within.1
    (subst (IsFirstLoad network offsets limit) c.in_default-found.is found)

pub entries_at-requires-clause-link_index : goal.entries_at-requires-clause-link_index
entries_at-requires-clause-link_index c =
    let network = c.args.tables.timing.now in
    let offsets = c.args.least.now.offsets in
    let found = subst (IsTightest network offsets c.args.limit) c.in-Some.is c.requires.tightest in
    let is = subst (IsFirstLoad network offsets c.args.limit) c.in-Load.is found in
    slice_get_within (shared_links network) c.in-Load.link_index is.0 is.1.there

pub returns : goal.returns
returns c =
    λ path solves.
    let network = c.args.tables.timing.now in
    let lowest = c.args.least.now in
    let (fit, last, end) = c.requires.ends in
    let first = subst (IsTightest network lowest.offsets c.args.limit) c.in-Some.is c.requires.tightest in
    let is = subst (IsFirstLoad network lowest.offsets c.args.limit) c.in-Load.is first in
    load_pruning network path lowest solves c.args.limit c.in-Load.link_index c.in-Load.bound c.in_ok-link.link c.in_ok-link.entries fit
    (omega (arith, end, c.if-reach-limit.false)) is c.in_ok-link.ensures.link (c.in_ok-link.ensures.shown path solves)

pub returns-in_err-chain_to : goal.returns-in_err-chain_to
returns-in_err-chain_to c =
    let p = err_from_is_err_and c.from_residual.result c.from_residual.ensures.1 in
    rw p.1 tt

pub returns-in_err-link : goal.returns-in_err-link
returns-in_err-link c =
    let p = err_from_is_err_and c.from_residual-in_err-link.result c.from_residual-in_err-link.ensures.1 in
    rw p.1 tt
