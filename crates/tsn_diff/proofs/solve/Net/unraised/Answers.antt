use Rattle.std.proofs.Common.{ℕ, List, [], length, replicate, None, ◌∙◌, subst}
use Rattle.std.proofs.lemmas.Result.{err_from_is_err_and}
use Rattle.tsn_diff.specs.Labels.{labelling_of}
use Rattle.tsn_model.specs.declared.Arc.{Arc}
use Rattle.tsn_diff.specs.Forest.{Settles, least_by, labelling_by}
use Rattle.tsn_diff.specs.Answers.{Solves}
use Rattle.tsn_diff.proofs.Solutions.{Settles-unraised, Solves-settled}
use Rattle.tsn_diff.proofs.Views.{labelling_by-least_by}
use Rattle.tsn_diff.proofs.solve.Net.unraised.Goals as goal

pub invariant_of-result : goal.invariant_of-result
invariant_of-result c =
    let offsets = c.in_ok-labels.ensures.offsets in
    let items = c.in_ok-labels.labels.offsets.items in
    rw (c.new.ensures.items, c.in_ok-labels.ensures.last)
    (subst (λ (releases : List ℕ). Settles releases [] (record { offsets = items; last = replicate (length items) None })) (offsets ∙ c.self.view_is) (Settles-unraised items (rw offsets c.self.invariant.0) (rw offsets c.self.invariant.1)))

pub returns-clause-solves : goal.returns-clause-solves
returns-clause-solves c = subst (λ (arcs : List Arc). Solves c.args.self arcs (least_by c.args.self c.new.result.items (labelling_of c.in_ok-labels.labels))) c.new.ensures.items (Solves-settled c.args.self c.new.result.items (labelling_of c.in_ok-labels.labels) (invariant_of-result c))

pub returns-clause-settles : goal.returns-clause-settles
returns-clause-settles c =
    let labels = labelling_of c.in_ok-labels.labels in
    let s = invariant_of-result c in
    let seen : Settles c.args.self c.new.result.items (labelling_by (least_by c.args.self c.new.result.items labels)) = rw (labelling_by-least_by c.args.self c.new.result.items labels s.forest) s in
    subst (λ (arcs : List Arc). Settles c.args.self arcs (labelling_by (least_by c.args.self c.new.result.items labels))) c.new.ensures.items seen

pub returns-in_err-labels-clause-solves : goal.returns-in_err-labels-clause-solves
returns-in_err-labels-clause-solves c =
    let p = err_from_is_err_and c.from_residual.result c.from_residual.ensures.1 in
    rw p.1 tt

pub returns-in_err-labels-clause-settles : goal.returns-in_err-labels-clause-settles
returns-in_err-labels-clause-settles c =
    let p = err_from_is_err_and c.from_residual.result c.from_residual.ensures.1 in
    rw p.1 tt
