use Rattle.std.proofs.Common.{◌+◌, ◌<◌, ◌≤◌, length, ⊎_elim, arith, refl, ap, ◌∙◌}
use Rattle.std.proofs.lemmas.Bool.{cases_lt}
use Rattle.std.proofs.lemmas.List.{get_or_append_left, get_or_push, length_push}
use Rattle.std.proofs.lemmas.List.Elements.{All-nil}
use Rattle.std.proofs.lemmas.Result.{err_from_is_err_and}
use Rattle.tsn_model.specs.declared.Arc.{Arc}
use Rattle.tsn_diff.proofs.listing.Listing.new.Goals as goal

pub loop-init : goal.loop-init
loop-init c = record { count = ap length c.in_ok-leaving.ensures.items; none = λ k d l. absurd (omega arith) }

pub loop-preserved : goal.loop-preserved
loop-preserved c =
    let xs = c.loop.leaving.items in
    let v = c.new.result in
    record {
      count = rw c.in_ok-push.ensures.items (length_push xs v ∙ ap (λ n. n + 1) c.loop.invariant.count);
      none = λ k d l.
          rw c.in_ok-push.ensures.items
          (⊎_elim (λ (below : k < length xs). rw (get_or_append_left xs _ d k below) (c.loop.invariant.none k d (omega (arith, c.loop.invariant.count))))
          (λ (here : length xs ≤ k). rw (get_or_push xs v d k (omega (arith, c.loop.invariant.count))) c.new.ensures.items) (cases_lt k (length xs)));
    }

pub returns-clause-listing : goal.returns-clause-listing
returns-clause-listing c =
    record {
      from_in = All-nil (λ (arc : Arc). arc.from < c.args.streams);
      count = omega (arith, c.loop.invariant.count);
      leaving = λ i d l. c.loop.invariant.none i d (omega arith);
      marks = rw c.new-2.ensures.items refl;
    }

pub returns-in_err-leaving-clause-marks : goal.returns-in_err-leaving-clause-marks
returns-in_err-leaving-clause-marks c =
    let p = err_from_is_err_and c.from_residual.result c.from_residual.ensures.1 in
    rw p.1 tt

pub returns-in_err-leaving-clause-listing : goal.returns-in_err-leaving-clause-listing
returns-in_err-leaving-clause-listing c =
    let p = err_from_is_err_and c.from_residual.result c.from_residual.ensures.1 in
    rw p.1 tt
