use Rattle.std.proofs.Common.{◌≡◌, ◌<◌, ◌++◌, ◌∷◌, [], length, arith, ap, ◌∙◌, length-set}
use Rattle.std.proofs.lemmas.Grind.{common_steps}
use Rattle.std.proofs.lemmas.List.{length_push}
use Rattle.std.proofs.lemmas.List.Elements.{All-push}
use Rattle.std.proofs.lemmas.Result.{err_from_is_err_and}
use Rattle.tsn_model.specs.declared.Arc.{Arc}
use Rattle.tsn_diff.proofs.Listings.{leaving_push}
use Rattle.tsn_diff.proofs.listing.Listing.push.Goals as goal

pub returns-clause-listing : goal.returns-clause-listing
returns-clause-listing c =
    λ arcs listed.
    let listing = c.args.self.now in
    let arc = c.args.arc in
    let marks : c.push_reserved.new.self.items ≡ listing.marks.items ++ c.args.mark ∷ [] = grind (arith, common_steps) in
    let index : c.len-index.result ≡ length arcs = c.len-index.ensures ∙ c.reserve.new.self.ok.0 ∙ ap length c.reserve.ensures.items ∙ listed.marks in
    record {
      from_in = All-push (λ (a : Arc). a.from < length listing.leaving.items) arcs arc listed.from_in c.requires.from;
      count = length-set listing.leaving.items _ _;
      leaving = leaving_push listing.leaving.items arcs arc c.push.new.self c.index_mut.result.now c.requires.from c.index_mut.ensures.value listed.leaving (rw index at c.in_ok-push.ensures.items);
      marks = omega (arith, ap length marks, length_push listing.marks.items c.args.mark, length_push arcs arc, listed.marks);
    }

pub returns-in_err-reserve-clause-marks : goal.returns-in_err-reserve-clause-marks
returns-in_err-reserve-clause-marks c =
    let p = err_from_is_err_and c.from_residual.result c.from_residual.ensures.1 in
    rw p.1 tt

pub returns-in_err-reserve-clause-listing : goal.returns-in_err-reserve-clause-listing
returns-in_err-reserve-clause-listing c =
    let p = err_from_is_err_and c.from_residual.result c.from_residual.ensures.1 in
    rw p.1 tt
