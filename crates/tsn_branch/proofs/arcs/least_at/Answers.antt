use Rattle.std.proofs.Common.{◌≡◌, ◌-◌, ◌<◌, ◌++◌, ◌∷◌, [], Contains, List, length, get_or, take, sym, ap, ◌∙◌, subst, arith}
use Rattle.std.proofs.lemmas.Result.{IfOk-weaker}
use Rattle.std.proofs.lemmas.Option.{slice_get_within, get_or_from_slice_get}
use Rattle.std.specs.Prelude.{IfSome, option_copied}
use Rattle.std.proofs.lemmas.Grind.{common_steps}
use Rattle.tsn_model.specs.declared.Arc.{Arc}
use Rattle.tsn_model.specs.declared.Triple.{Triple}
use Rattle.tsn_model.specs.declared.Decision.{Decision}
use Rattle.tsn_model.specs.Network.{Network}
use Rattle.tsn_model.specs.Arcs.{arcs_of, arc_on}
use Rattle.tsn_model.proofs.Decisions.{arcs_of-decided}
use Rattle.tsn_diff.specs.declared.solve.Feasibility.{Feasibility}
use Rattle.tsn_diff.specs.Offsets.{LeastOffsets}
use Rattle.tsn_diff.specs.Answers.{Answers, Solves}
use Rattle.tsn_branch.specs.Releases.{releases_of}
use Rattle.tsn_conflict.specs.Path.{Fits}
use Rattle.tsn_branch.specs.Least.{IsLeastAbove}
use Rattle.tsn_conflict.proofs.Paths.{by_last}
use Rattle.tsn_branch.proofs.arcs.least_at.Goals as goal

-- the arcs of all decisions but the last, and the last one's
answers_below : (network : Network) (path : List Decision) (last : Decision) (above : LeastOffsets) (arc : Arc) (outcome : Feasibility)
    → 0 < length path → last ≡ get_or path (length path - 1) last
    → IsLeastAbove network path above → arc ≡ arc_on network last.triple last.side → Answers above.releases (above.arcs ++ arc ∷ []) outcome → Answers (releases_of network) (arcs_of network path) outcome
answers_below network path last above arc outcome some at least is answers =
    let front : List Decision = take (length path - 1) path in
    let solves : Solves (releases_of network) (arcs_of network front) above = least in
    let arcs : above.arcs ++ arc ∷ [] ≡ arcs_of network path =
    ap (λ as'. as' ++ arc ∷ []) solves.arcs_are ∙ ap (λ a. arcs_of network front ++ a ∷ []) is ∙ sym (arcs_of-decided network front last.triple last.side) ∙ ap (arcs_of network) (sym (by_last path last some at)) in
    subst (λ rs. Answers rs (arcs_of network path) outcome) solves.releases_are (subst (λ as'. Answers above.releases as' outcome) arcs answers)

-- the triple of the last decision is one of the conflicts
last_among : (triples : List Triple) (path : List Decision) (last : Decision) → Fits triples path → 0 < length path → last ≡ get_or path (length path - 1) last → Contains triples last.triple
last_among triples path last fits some at = subst (λ (d : Decision). Contains triples d.triple) (sym at) (fits (length path - 1) last (omega arith))

pub arc-arc-requires : goal.arc-arc-requires
arc-arc-requires c =
    let path = c.path-path.result.now in
    let last = c.in-Some-last.last.now in
    let there = sym c.in-Some-last.ensures.value in
    let within = slice_get_within path (length path - 1) last there in
    let at = sym (get_or_from_slice_get path (length path - 1) last last there) in
    last_among c.args.conflicts.now.triples path last (subst (Fits c.args.conflicts.now.triples) (sym c.path-path.ensures.value) c.requires.fits) (omega arith) at

pub arcs_of-requires : goal.arcs_of-requires
arcs_of-requires c = subst (Fits c.args.conflicts.now.triples) (sym c.path-path.ensures.value) c.requires.fits

pub returns-in-Some-last : goal.returns-in-Some-last
returns-in-Some-last c =
    let network = c.args.timing.now in
    let path = c.path-path.result.now in
    let last = c.in-Some-last.last.now in
    let there = sym c.in-Some-last.ensures.value in
    let within = slice_get_within path (length path - 1) last there in
    let at = sym (get_or_from_slice_get path (length path - 1) last last there) in
    let above : IsLeastAbove network c.args.node.now c.in-Some.above.now = subst (λ o. IfSome (option_copied o) (IsLeastAbove network c.args.node.now)) c.in-Some.is c.requires.parent in
    let same = c.path-path.ensures.value in
    IfOk-weaker c.with_arc.result _ _
    (λ outcome answers.
    subst (λ p. Answers (releases_of network) (arcs_of network p) outcome) same
    (answers_below network path last c.in-Some.above.now c.arc-arc.result outcome (omega arith) at (subst (λ p. IsLeastAbove network p c.in-Some.above.now) (sym same) above)
    (c.arc-arc.ensures.value network c.requires.conflicts) answers))
    c.with_arc.ensures

pub with_arc-requires : goal.with_arc-requires
with_arc-requires c = grind (arith, common_steps) steps 2000000

pub least_by-found-requires-clause-among : goal.least_by-found-requires-clause-among
least_by-found-requires-clause-among c = grind (arith, common_steps) steps 2000000
