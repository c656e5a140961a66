use Rattle.std.proofs.Common.{◌≡◌, [], None, sym, ◌∙◌, subst}
use Rattle.std.proofs.lemmas.Result.{err_from_is_err_and}
use Rattle.tsn_branch.specs.Descent.{Stands}
use Rattle.tsn_branch.proofs.Positions.{stands_root}
use Rattle.tsn_branch.proofs.descent.Descent.root.Goals as goal

pub returns-clause-stands : goal.returns-clause-stands
returns-clause-stands c =
    let none = c.in_ok-stack.ensures.releases ∙ c.in_ok-net_of.ensures in
    let empty : [] ≡ c.new-2.result.items = search in
    subst (λ path. Stands c.args.timing.now (record { path = path; stack = c.in_ok-stack.stack; splits = c.new-2.result.items; found = None })) (sym c.root.ensures)
    (subst (λ points. Stands c.args.timing.now (record { path = []; stack = c.in_ok-stack.stack; splits = points; found = None })) empty
    (stands_root c.args.timing.now c.in_ok-stack.stack None none c.in_ok-stack.ensures.none))

pub returns-in_err-net_of-clause-path : goal.returns-in_err-net_of-clause-path
returns-in_err-net_of-clause-path c =
    let p = err_from_is_err_and c.from_residual.result c.from_residual.ensures.1 in
    rw p.1 tt

pub returns-in_err-net_of-clause-stands : goal.returns-in_err-net_of-clause-stands
returns-in_err-net_of-clause-stands c =
    let p = err_from_is_err_and c.from_residual.result c.from_residual.ensures.1 in
    rw p.1 tt
