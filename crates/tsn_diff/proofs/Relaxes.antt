-- The arcs that leave a settled stream, looked at one after another.
use Rattle.std.proofs.Common.{pos, ◌≡◌, ℕ, ◌<◌, ◌≤◌, List, [], ◌∷◌, length, get_or, All, sym, ap, ◌∙◌, inl, ⊎_elim, arith, length-append}
use Rattle.std.proofs.lemmas.Bool.{cases_lt}
use Rattle.tsn_model.specs.declared.Arc.{Arc}
use Rattle.tsn_model.specs.Arcs.{arc_at, Holds}
use Rattle.tsn_diff.specs.declared.listing.Indexed.{Indexed}
use Rattle.tsn_diff.specs.declared.spread.Stage.{Stage}
use Rattle.tsn_diff.specs.declared.spread.Stage.TheVariants.{Waiting, Settled}
use Rattle.tsn_diff.specs.declared.spread.Wave.{Wave}
use Rattle.tsn_diff.specs.Forest.{Labelling}
use Rattle.tsn_diff.specs.Limits.{IsArcAmong}
use Rattle.tsn_diff.specs.Listing.{arcs_leaving}
use Rattle.tsn_diff.specs.Spread.{Base, all_arcs, IsIndexed, MeetsFrom, stage_of, IsWave, GoesOn}
use Rattle.tsn_diff.proofs.Listings.{arcs_leaving-indexed, arcs_leaving-all}
use Rattle.tsn_diff.proofs.Spreads.{arc_at-old, arc_at-new}

-- an arc that leaves the stream is one of all arcs
pub indexed_among : (base : Base) (stream : ℕ) (items : List Indexed) → items ≡ arcs_leaving base.arcs stream → (k : ℕ) (default : Indexed) → k < length items → IsIndexed (all_arcs base) (get_or items k default) × ((get_or items k default).arc.from ≡ stream)
indexed_among base stream items is k default l =
    let among : All (λ (p : Indexed). IsIndexed base.arcs p × (p.arc.from ≡ stream)) items = rw is (arcs_leaving-indexed base.arcs stream) in
    let here = among k default l in
    (record { index_in = omega (arith, here.0.index_in, length-append base.arcs (base.arc ∷ [])); arc = arc_at-old base (get_or items k default).index here.0.index_in ∙ here.0.arc }, here.1)

-- and joins two of the streams
pub among_indexed : (base : Base) (labels : Labelling) (stages : List Stage) (wave : Wave) (p : Indexed) → IsWave base labels stages wave
    → IsIndexed (all_arcs base) p → IsArcAmong (length labels.offsets) p.arc
among_indexed base labels stages wave p w there =
    rw (← there.arc, w.noted.offsets) (w.among p.index (record { from = 0; to = 0; weight = pos 0 }) there.index_in)

-- one that is met stays so while the stream is settled
pub met_still : (base : Base) (labels new : Labelling) (stages after : List Stage) (queue longer : List ℕ) (stream : ℕ) (p : Indexed) → GoesOn (all_arcs base) labels new stages after queue longer → stage_of after stream ≡ Settled → IsIndexed (all_arcs base) p × (p.arc.from ≡ stream) → Holds labels.offsets p.arc → Holds new.offsets p.arc
met_still base labels new stages after queue longer stream p g settled here met =
    let there : arc_at (all_arcs base) p.index ≡ p.arc = here.0.arc in
    let seen = g.seen p.index here.0.index_in (inl (rw there met)) in
    ⊎_elim (λ (m : Holds new.offsets (arc_at (all_arcs base) p.index)). rw there at m)
    (λ (w : stage_of after (arc_at (all_arcs base) p.index).from ≡ Waiting). let w' = rw (there, here.1, settled) at w in cc) seen

-- once all of them are met, so is every arc that begins at the stream
pub MeetsFrom-leaving : (base : Base) (labels : Labelling) (stages : List Stage) (wave : Wave) (stream : ℕ) → IsWave base labels stages wave → stage_of stages stream ≡ Settled → All (λ (p : Indexed). Holds labels.offsets p.arc) (arcs_leaving base.arcs stream) → MeetsFrom (all_arcs base) labels.offsets stream
MeetsFrom-leaving base labels stages wave stream w settled all index l e =
    ⊎_elim
    (λ (old : index < length base.arcs).
    let there = arc_at-old base index old in
    rw there (arcs_leaving-all (λ (a : Arc). Holds labels.offsets a) base.arcs stream all index old (rw there at e)))
    (λ (new : length base.arcs ≤ index).
    let first = w.fixed.begins in
    let from : base.arc.from ≡ stream = ap (λ (a : Arc). a.from) (sym (arc_at-new base index l new)) ∙ e in
    let first' = rw (from, settled) at first in
    cc)
    (cases_lt index (length base.arcs))
