use Rattle.std.proofs.Common.{◌≡◌, ◌-◌, List, [], None, length, take, ap, ◌∙◌, subst, arith}
use Rattle.std.specs.Prelude.{IfSome}
use Rattle.std.proofs.lemmas.Grind.{pieces}
use Rattle.tsn_model.specs.declared.Decision.{Decision}
use Rattle.tsn_model.specs.Arcs.{arcs_of}
use Rattle.tsn_diff.specs.Stack.{Stack}
use Rattle.tsn_branch.specs.Releases.{releases_of}
use Rattle.tsn_branch.specs.Descent.{Stands}
use Rattle.tsn_branch.proofs.Positions.{stands_at}
use Rattle.tsn_branch.proofs.descent.Descent.at.Goals as goal

pub returns-in-Ok-Some-clause-stands : goal.returns-in-Ok-Some-clause-stands
returns-in-Ok-Some-clause-stands c =
    let network = c.args.timing.now in
    let path = c.path.result.now in
    let stack = c.in-Ok-Some.stack in
    let releases = subst (λ o. IfSome o (λ (s : Stack). s.least.releases ≡ releases_of network)) c.in-Ok-Some.field-0-is c.in-Ok-Some.ensures.releases in
    let arcs = subst (λ o. IfSome o (λ (s : Stack). s.least.arcs ≡ arcs_of network (take (length path - 1) path))) c.in-Ok-Some.field-0-is c.in-Ok-Some.ensures.arcs in
    let here = arcs ∙ ap (λ (p : List Decision). arcs_of network (take (length p - 1) p)) c.path.ensures.value in
    let empty : [] ≡ c.new.result.items = search in
    subst (λ points. Stands network (record { path = c.args.node; stack = stack; splits = points; found = None })) empty
    (stands_at network c.args.node stack None releases here)

pub stack_above-requires-clause-fits : goal.stack_above-requires-clause-fits
stack_above-requires-clause-fits c = search (pieces, arith) depth 5 fits 300
