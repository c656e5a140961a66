use Rattle.std.proofs.Common.{◌<◌, ◌≤◌, List, length, ℕ, All, sym, ap, ◌∙◌, subst, arith}
use Rattle.std.specs.Prelude.{option_copied, IfNone, IfSome}
use Rattle.std.proofs.lemmas.Result.{IfOk-weaker, err_from_is_err_and}
use Rattle.std.proofs.lemmas.Grind.{common_steps}
use Rattle.tsn_branch.specs.Links.{shared_links, IsUnloaded}
use Rattle.tsn_branch.specs.Loads.{IsFirstLoad, IsTightest}
use Rattle.tsn_branch.specs.Ends.{AreEnds}
use Rattle.tsn_branch.specs.Look.{IsFirstOverrun, IsShownBy, IsUntied}
use Rattle.tsn_branch.proofs.Leasts.{count, short, AreLeast-from, IsShownBy-from, small_offsets}
use Rattle.tsn_branch.specs.Descent.{IsTieBy}
use Rattle.tsn_branch.proofs.Tied.{tightest_for}
use Rattle.tsn_branch.proofs.judge.judge_known.Goals as goal

pub chain_to-requires-clause-stream : goal.chain_to-requires-clause-stream
chain_to-requires-clause-stream c =
    let network = c.args.tables.timing.now in
    let path = c.requires.some_path in
    let first : IsFirstOverrun network c.args.least.now.offsets c.in-Overrun.stream =
    subst (AreEnds network c.args.least.now.offsets) c.in-Overrun.is c.requires.ends in
    subst (λ n. c.in-Overrun.stream < n) (sym (count network path.0 c.args.least.now path.1)) first.counted

pub chain_to-requires-clause-short : goal.chain_to-requires-clause-short
chain_to-requires-clause-short c =
    let network = c.args.tables.timing.now in
    let path = c.requires.some_path in
    let first : IsFirstOverrun network c.args.least.now.offsets c.in-Overrun.stream =
    subst (AreEnds network c.args.least.now.offsets) c.in-Overrun.is c.requires.ends in
    short network path.0 c.args.least.now path.1 c.args.tables.right_conflicts.few c.in-Overrun.stream first.counted

pub chain_to-requires-then-end-aim-clause-stream : goal.chain_to-requires-then-end-aim-clause-stream
chain_to-requires-then-end-aim-clause-stream c =
    let network = c.args.tables.timing.now in
    let path = c.requires.some_path in
    let (fit, last, end) = subst (AreEnds network c.args.least.now.offsets) c.in-Within.is c.requires.ends in
    subst (λ n. c.in-Within.last < n) (sym (count network path.0 c.args.least.now path.1)) last.counted

pub chain_to-requires-then-end-aim-clause-short : goal.chain_to-requires-then-end-aim-clause-short
chain_to-requires-then-end-aim-clause-short c =
    let network = c.args.tables.timing.now in
    let path = c.requires.some_path in
    let (fit, last, end) = subst (AreEnds network c.args.least.now.offsets) c.in-Within.is c.requires.ends in
    short network path.0 c.args.least.now path.1 c.args.tables.right_conflicts.few c.in-Within.last last.counted

pub returns-in-Overrun : goal.returns-in-Overrun
returns-in-Overrun c =
    λ path solves.
    let network = c.args.tables.timing.now in
    let lowest = c.args.least.now in
    let first : IsFirstOverrun network lowest.offsets c.in-Overrun.stream = subst (AreEnds network lowest.offsets) c.in-Overrun.is c.requires.ends in (
      tt,
      (
        lowest.offsets,
        AreLeast-from network path lowest solves,
        first,
        subst (λ (chain : List ℕ). IsShownBy network path lowest.offsets c.in-Overrun.stream chain) (sym c.in_ok-chain_to-in-Overrun.ensures)
            (IsShownBy-from network path lowest solves c.in-Overrun.stream first.counted),
      ),
    )

pub returns-then-end-aim : goal.returns-then-end-aim
returns-then-end-aim c =
    λ path solves.
    let network = c.args.tables.timing.now in
    let lowest = c.args.least.now in
    let (fit, last, end) = subst (AreEnds network lowest.offsets) c.in-Within.is c.requires.ends in (
      tt,
      (
        lowest.offsets,
        AreLeast-from network path lowest solves,
        fit,
        end,
        c.if-end-aim.true,
        (
          last,
          subst (λ (chain : List ℕ). IsShownBy network path lowest.offsets c.in-Within.last chain) (sym c.in_ok-chain_to.ensures) (IsShownBy-from network path lowest solves c.in-Within.last last.counted),
        ),
      ),
    )

pub find_loads-requires-clause-count : goal.find_loads-requires-clause-count
find_loads-requires-clause-count c =
    let path = c.requires.some_path in
    ap (λ (offsets : List ℕ). length offsets) c.offsets.ensures ∙ count c.args.tables.timing.now path.0 c.args.least.now path.1

pub find_loads-requires-clause-small : goal.find_loads-requires-clause-small
find_loads-requires-clause-small c =
    let network = c.args.tables.timing.now in
    let path = c.requires.some_path in
    let (fit, last, end) = subst (AreEnds network c.args.least.now.offsets) c.in-Within.is c.requires.ends in
    subst (All (λ offset. offset ≤ 1000000000)) (sym c.offsets.ensures)
    (small_offsets network c.args.least.now.offsets c.args.tables.right_conflicts.formed (count network path.0 c.args.least.now path.1) fit)

pub judge_load-requires-clause-found : goal.judge_load-requires-clause-found
judge_load-requires-clause-found c =
    (c.args.aim.target, subst (λ (offsets : List ℕ). IsFirstLoad c.args.tables.timing.now offsets c.args.aim.target c.in-Closed.found) c.offsets.ensures c.in-Closed.ensures)

pub returns-in-Closed : goal.returns-in-Closed
returns-in-Closed c =
    λ path solves.
    let network = c.args.tables.timing.now in
    let offsets = c.args.least.now.offsets in
    let (fit, last, end) = subst (AreEnds network offsets) c.in-Within.is c.requires.ends in
    let found = subst (λ (list : List ℕ). IsFirstLoad network list c.args.aim.target c.in-Closed.found) c.offsets.ensures c.in-Closed.ensures in
    (c.in_ok-look-in-Closed.ensures.closes, c.in_ok-look-in-Closed.ensures.look path c.args.aim.target solves fit (omega (arith, end, c.if-end-aim.false)) found (option_copied c.args.aim.best))

pub find_tie-requires-clause-within : goal.find_tie-requires-clause-within
find_tie-requires-clause-within c =
    (c.args.aim.target, subst (λ (offsets : List ℕ). All (IsUnloaded c.args.tables.timing.now offsets c.args.aim.target) (shared_links c.args.tables.timing.now)) c.offsets.ensures c.in-Open.ensures.0)

pub find_tie-requires-clause-tightest : goal.find_tie-requires-clause-tightest
find_tie-requires-clause-tightest c =
    let network = c.args.tables.timing.now in
    let tightest = subst (λ (offsets : List ℕ). IsTightest network offsets c.tie_limit-limit.result c.in-Open.tightest) c.offsets.ensures c.in-Open.ensures.1 in
    tightest_for network c.args.least.now.offsets c.args.aim.target c.tie_limit-limit.result (option_copied c.args.aim.best) c.in-Open.tightest c.tie_limit-limit.ensures tightest

pub returns-in-Some : goal.returns-in-Some
returns-in-Some c =
    λ path solves.
    let network = c.args.tables.timing.now in
    let lowest = c.args.least.now in
    let (fit, last, end) = subst (AreEnds network lowest.offsets) c.in-Within.is c.requires.ends in
    let unloaded = subst (λ (offsets : List ℕ). All (IsUnloaded network offsets c.args.aim.target) (shared_links network)) c.offsets.ensures c.in-Open.ensures.0 in
    let found = subst (λ o. IfSome o (IsTieBy network lowest (option_copied c.args.aim.best))) c.in-Some.is c.in_ok-look.ensures.some in
    (found.0, found.1 path c.args.aim.target solves (omega (arith, end, c.if-end-aim.false)) unloaded)

pub judge_untied-requires-clause-ends : goal.judge_untied-requires-clause-ends
judge_untied-requires-clause-ends c = subst (AreEnds c.args.tables.timing.now c.args.least.now.offsets) c.in-Within.is c.requires.ends

pub returns : goal.returns
returns c =
    let network = c.args.tables.timing.now in
    let lowest = c.args.least.now in
    let unloaded = subst (λ (offsets : List ℕ). All (IsUnloaded network offsets c.args.aim.target) (shared_links network)) c.offsets.ensures c.in-Open.ensures.0 in
    let untied = subst (λ o. IfNone o (IsUntied network lowest.offsets (option_copied c.args.aim.best))) c.in_default.is c.in_ok-look.ensures.none in
    IfOk-weaker c.judge_untied.result _ _
    (λ judgement is path solves. is path c.args.aim.target (option_copied c.args.aim.best) solves (omega (arith, c.if-end-aim.false)) unloaded untied)
    c.judge_untied.ensures

pub find_loads-requires-clause-loads : goal.find_loads-requires-clause-loads
find_loads-requires-clause-loads c = grind (arith, common_steps) steps 2000000

pub returns-in_err-chain_to-in-Overrun : goal.returns-in_err-chain_to-in-Overrun
returns-in_err-chain_to-in-Overrun c =
    let p = err_from_is_err_and c.from_residual.result c.from_residual.ensures.1 in
    rw p.1 tt

pub returns-in_err-chain_to : goal.returns-in_err-chain_to
returns-in_err-chain_to c =
    let p = err_from_is_err_and c.from_residual-in_err-chain_to.result c.from_residual-in_err-chain_to.ensures.1 in
    rw p.1 tt
