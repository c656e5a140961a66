use Rattle.std.proofs.Common.{Ok, length, pos, ap, arith}
use Rattle.std.proofs.lemmas.List.Elements.{All-contains, Contains-push}
use Rattle.std.proofs.lemmas.Result.{err_from_is_err_and}
use Rattle.tsn_diff.specs.Labels.{labelling_of}
use Rattle.tsn_diff.specs.Spread.{all_arcs}
use Rattle.tsn_diff.specs.Limits.{IsArcAmong}
use Rattle.tsn_diff.proofs.Forests.{HasSteps-from_forest}
use Rattle.tsn_diff.proofs.Solutions.{Refutes-from_closes, Refutes-same}
use Rattle.tsn_diff.proofs.stack.put_in.Goals as goal

pub spread-requires : goal.spread-requires
spread-requires g c = c.requires.0

pub returns-in_err-closing-clause-noted : goal.returns-in_err-closing-clause-noted
returns-in_err-closing-clause-noted g c = c.in_err-closing.ensures.noted

pub cycle-requires-clause-steps : goal.cycle-requires-clause-steps
cycle-requires-clause-steps g c = let closing = rw c.in-Some.is at c.in_ok-closing.ensures.closing in HasSteps-from_forest closing.0

pub cycle-requires-clause-stream : goal.cycle-requires-clause-stream
cycle-requires-clause-stream g c =
    let closing = rw c.in-Some.is at c.in_ok-closing.ensures.closing in
    let there = closing.1.there in
    let ends = rw there.arc at (c.requires.0.among c.in-Some.closing.index (record { from = 0; to = 0; weight = pos 0 }) there.index_in) in
    omega (arith, ends.from_below, c.in_ok-closing.ensures.noted.last)

pub returns-in_err-cycle-clause-noted : goal.returns-in_err-cycle-clause-noted
returns-in_err-cycle-clause-noted g c = c.in_ok-closing.ensures.noted

pub returns-in-Some-clause-noted : goal.returns-in-Some-clause-noted
returns-in-Some-clause-noted g c = c.in_ok-closing.ensures.noted

pub returns-in-Some-clause-closed : goal.returns-in-Some-clause-closed
returns-in-Some-clause-closed g c =
    let closing = rw c.in-Some.is at c.in_ok-closing.ensures.closing in
    let n = c.spread.ensures.noted in
    let refutes = Refutes-from_closes (all_arcs g.base) (labelling_of c.spread.new.labels) c.in-Some.closing.index closing.0 (rw n.offsets c.requires.0.among) closing.1.closes in
    rw (c.in_ok-cycle.ensures, ← closing.1.there.arc) (Refutes-same _ _ (all_arcs g.base) _ n.offsets refutes)

pub push-requires : goal.push-requires
push-requires g c =
    let ends = All-contains (IsArcAmong (length g.base.labels.offsets)) (all_arcs g.base) g.base.arc c.requires.0.among (Contains-push g.base.arcs g.base.arc) in
    let from = rw c.requires.0.arc_is at ends.from_below in
    omega (arith, from, c.requires.0.listed.count)

pub returns-in_err-push-clause-noted : goal.returns-in_err-push-clause-noted
returns-in_err-push-clause-noted g c = c.in_ok-closing.ensures.noted

pub returns-clause-noted : goal.returns-clause-noted
returns-clause-noted g c = c.in_ok-closing.ensures.noted

pub returns-clause-wide : goal.returns-clause-wide
returns-clause-wide g c = c.in_ok-closing.ensures.wide (ap Ok c.in_default.is)

pub returns-in_err-closing-clause-wide : goal.returns-in_err-closing-clause-wide
returns-in_err-closing-clause-wide g c =
    let p = err_from_is_err_and c.from_residual.result c.from_residual.ensures.1 in
    rw p.1 tt

pub returns-in_err-closing-clause-arcs : goal.returns-in_err-closing-clause-arcs
returns-in_err-closing-clause-arcs g c =
    let p = err_from_is_err_and c.from_residual.result c.from_residual.ensures.1 in
    rw p.1 tt

pub returns-in_err-closing-clause-marks : goal.returns-in_err-closing-clause-marks
returns-in_err-closing-clause-marks g c =
    let p = err_from_is_err_and c.from_residual.result c.from_residual.ensures.1 in
    rw p.1 tt

pub returns-in_err-closing-clause-closed : goal.returns-in_err-closing-clause-closed
returns-in_err-closing-clause-closed g c =
    let p = err_from_is_err_and c.from_residual.result c.from_residual.ensures.1 in
    rw p.1 tt

pub returns-in_err-closing-clause-refused : goal.returns-in_err-closing-clause-refused
returns-in_err-closing-clause-refused g c =
    let p = err_from_is_err_and c.from_residual.result c.from_residual.ensures.1 in
    rw p.1 tt
