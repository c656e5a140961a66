use Rattle.std.proofs.Common.{◌≡◌, pos, ◌≤ℤ◌, ◌<ℤ◌, Some, sym, ◌∙◌, subst, arith}
use Rattle.std.proofs.lemmas.Grind.{elements}
use Rattle.std.proofs.lemmas.Result.{err_from_is_err_and}
use Rattle.tsn_branch.specs.Links.{busy_by, load_by}
use Rattle.tsn_branch.specs.Loads.{IsFirstLoad}
use Rattle.tsn_branch.proofs.Leasts.{AreLeast-from}
use Rattle.tsn_branch.proofs.judge.judge_load.Goals as goal

pub returns-in_ok-link-in-Overload-clause-look : goal.returns-in_ok-link-in-Overload-clause-look
returns-in_ok-link-in-Overload-clause-look c path target solves fit below found best =
    let network = c.args.tables.timing.now in
    let offsets = c.args.least.now.offsets in
    let link_index = c.in-Overload.link_index in
    let is = subst (IsFirstLoad network offsets target) c.in-Overload.is found in
    let same_some : Some is.0 ≡ Some c.in_ok-link-in-Overload.link = sym is.1.there ∙ c.in_ok-link-in-Overload.ensures.link in
    let same : is.0 ≡ c.in_ok-link-in-Overload.link = cc same_some in (
      offsets,
      AreLeast-from network path c.args.least.now solves,
      fit,
      below,
      record { link_index = link_index; there = c.in_ok-link-in-Overload.ensures.link; unloaded_before = is.1.unloaded_before },
      subst (λ link. pos network.cycle <ℤ busy_by network offsets link) same is.2,
      c.in_ok-link-in-Overload.ensures.shown path solves,
    )

pub returns-in_ok-link-in-Load-clause-look : goal.returns-in_ok-link-in-Load-clause-look
returns-in_ok-link-in-Load-clause-look c path target solves fit below found best =
    let network = c.args.tables.timing.now in
    let offsets = c.args.least.now.offsets in
    let link_index = c.in-Load.link_index in
    let is = subst (IsFirstLoad network offsets target) c.in-Load.is found in
    let same_some : Some is.0 ≡ Some c.in_ok-link-in-Load.link = sym is.1.there ∙ c.in_ok-link-in-Load.ensures.link in
    let same : is.0 ≡ c.in_ok-link-in-Load.link = cc same_some in (
      offsets,
      AreLeast-from network path c.args.least.now solves,
      fit,
      below,
      record { link_index = link_index; there = c.in_ok-link-in-Load.ensures.link; unloaded_before = is.1.unloaded_before },
      subst (λ link. busy_by network offsets link ≤ℤ pos network.cycle) same is.2,
      subst (λ link. pos c.in-Load.bound ≡ load_by network offsets link) same is.3,
      is.4,
      c.in_ok-link-in-Load.ensures.shown path solves,
    )

pub entries_at-requires-clause-link_index : goal.entries_at-requires-clause-link_index
entries_at-requires-clause-link_index c = grind (arith, elements) steps 2000000

pub entries_at-requires-in-Load-clause-link_index : goal.entries_at-requires-in-Load-clause-link_index
entries_at-requires-in-Load-clause-link_index c = grind (arith, elements) steps 2000000

pub returns-in_err-link-in-Overload-clause-look : goal.returns-in_err-link-in-Overload-clause-look
returns-in_err-link-in-Overload-clause-look c =
    let p = err_from_is_err_and c.from_residual.result c.from_residual.ensures.1 in
    rw p.1 tt

pub returns-in_err-link-in-Overload-clause-closes : goal.returns-in_err-link-in-Overload-clause-closes
returns-in_err-link-in-Overload-clause-closes c =
    let p = err_from_is_err_and c.from_residual.result c.from_residual.ensures.1 in
    rw p.1 tt

pub returns-in_err-link-in-Load-clause-look : goal.returns-in_err-link-in-Load-clause-look
returns-in_err-link-in-Load-clause-look c =
    let p = err_from_is_err_and c.from_residual-in_err-link-in-Load.result c.from_residual-in_err-link-in-Load.ensures.1 in
    rw p.1 tt

pub returns-in_err-link-in-Load-clause-closes : goal.returns-in_err-link-in-Load-clause-closes
returns-in_err-link-in-Load-clause-closes c =
    let p = err_from_is_err_and c.from_residual-in_err-link-in-Load.result c.from_residual-in_err-link-in-Load.ensures.1 in
    rw p.1 tt
