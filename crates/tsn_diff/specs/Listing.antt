use Rattle.std.specs.Prelude.{◌≡◌, ℕ, suc, ◌<◌, ◌==◌, cond, List, [], ◌∷◌, length, slice_index_or, All, Vec}
use Rattle.std.specs.declared.alloc.Global.{Global}
use Rattle.tsn_model.specs.declared.Arc.{Arc}
use Rattle.tsn_diff.specs.declared.listing.Indexed.{Indexed}
use Rattle.tsn_diff.specs.declared.listing.Listing.{Listing}

-- the arcs that begin at a stream, with their indexes counted on from the first one's
abbrev pub leaving_from : ℕ → List Arc → ℕ → List Indexed
leaving_from index [] stream = []
leaving_from index (arc ∷ arcs) stream =
    cond (arc.from == stream) (record { index = index; arc = arc } ∷ leaving_from (suc index) arcs stream) (leaving_from (suc index) arcs stream)

-- the arcs that begin at a stream, with their indexes
abbrev pub arcs_leaving : List Arc → ℕ → List Indexed
arcs_leaving arcs stream = leaving_from 0 arcs stream

-- every arc begins at a stream, each stream's arcs are listed, and each arc has a mark
pub record IsListing (streams : ℕ) (arcs : List Arc) (listing : Listing) : Type 0 where
  pub from_in : All (λ arc. arc.from < streams) arcs
  pub count : length listing.leaving.items ≡ streams
  pub leaving : (stream : ℕ) (default : Vec Indexed Global) → stream < streams → (slice_index_or listing.leaving.items stream default).items ≡ arcs_leaving arcs stream
  pub marks : length listing.marks.items ≡ length arcs
