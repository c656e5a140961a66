use Rattle.std.proofs.Common.{◌≡◌, List, [], ◌∷◌, ◌++◌, length, ap, ◌∙◌}
use Rattle.std.proofs.lemmas.List.Elements.{All-push}
use Rattle.std.proofs.lemmas.Result.{err_from_is_err_and}
use Rattle.tsn_model.specs.declared.Arc.{Arc}
use Rattle.tsn_diff.specs.Labels.{labelling_of}
use Rattle.tsn_diff.specs.Limits.{IsArcAmong}
use Rattle.tsn_diff.proofs.Solutions.{IsForest-more}
use Rattle.tsn_diff.proofs.solve.Least.with_arc.Goals as goal

pub settle-requires : goal.settle-requires
settle-requires c =
    let least = c.self.inside in
    let s = c.self.invariant in
    let all : c.in_ok-all.all.items ≡ least.arcs.items ++ c.args.arc ∷ [] = c.in_ok-all.ensures ∙ ap (λ (arcs : List Arc). arcs ++ c.args.arc ∷ []) c.deref.ensures.value in
    let offsets = c.in_ok-from_slice.ensures.items ∙ c.deref-2.ensures.value in
    let last = c.in_ok-from_slice-2.ensures.items ∙ c.deref-3.ensures.value in
    record {
      among = rw (all, c.in_ok-copied.ensures) (All-push (IsArcAmong (length least.net)) least.arcs.items c.args.arc s.among (rw (← c.self.view_is) at c.requires));
      forest = rw (all, offsets, last) (IsForest-more least.arcs.items (labelling_of least.labels) c.args.arc s.forest);
      raised = rw (c.in_ok-copied.ensures, offsets, last) s.raised;
    }

pub returns : goal.returns
returns c =
    let all : c.in_ok-all.all.items ≡ c.self.inside.arcs.items ++ c.args.arc ∷ [] = c.in_ok-all.ensures ∙ ap (λ (arcs : List Arc). arcs ++ c.args.arc ∷ []) c.deref.ensures.value in
    rw (← c.self.view_is) (rw (c.in_ok-copied.ensures, all) at c.in_ok-settle.ensures)

pub returns-in_err-all : goal.returns-in_err-all
returns-in_err-all c =
    let p = err_from_is_err_and c.from_residual.result c.from_residual.ensures.1 in
    rw p.1 tt
