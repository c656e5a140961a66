use Rattle.std.proofs.Common.{◌≡◌, ◌<◌, ◌++◌, ◌∷◌, [], Some, length, arith, refl, ap, length-set}
use Rattle.std.proofs.lemmas.List.{length_push}
use Rattle.std.proofs.lemmas.List.Elements.{All-pop}
use Rattle.tsn_model.specs.declared.Arc.{Arc}
use Rattle.tsn_diff.proofs.Listings.{leaving_pop}
use Rattle.tsn_diff.proofs.listing.Listing.pop.Goals as goal

pub returns-clause-listing : goal.returns-clause-listing
returns-clause-listing c =
    λ arcs listed.
    let listing = c.args.self.now in
    let arc = c.args.arc in
    let marks : listing.marks.items ≡ c.pop.new.self.items ++ c.unwrap.result ∷ [] = rw c.unwrap.ensures at c.pop.ensures.items in
    let count = c.index_mut.result.now.ok.0 in
    record {
      from_in = (All-pop (λ (a : Arc). a.from < length listing.leaving.items) (arcs ++ arc ∷ []) arcs (Some arc) refl listed.from_in).0;
      count = length-set listing.leaving.items _ _;
      leaving = leaving_pop listing.leaving.items arcs arc c.pop-indexed.new.self c.index_mut.result.now c.requires.from c.index_mut.ensures.value listed.leaving (rw (← count) c.pop-indexed.ensures.rest);
      marks = omega (arith, ap length marks, length_push arcs arc, length_push c.pop.new.self.items c.unwrap.result, listed.marks);
    }
