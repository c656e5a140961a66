-- Descents, a decision more or fewer.
use Rattle.std.proofs.Common.{◌≡◌, ℕ, zero, suc, ◌+◌, ◌-◌, ◌≤◌, ◌<◌, List, [], ◌∷◌, ◌++◌, length, get_or, take, Some, refl, sym, ap, ◌∙◌, subst, arith, inl, inr}
use Rattle.std.specs.List.{slice_index_or}
use Rattle.std.specs.Prelude.{slice_set, slice_get, Contains}
use Rattle.std.proofs.lemmas.List.Elements.{All-pop, All-push}
use Rattle.std.proofs.Math.Seq.{set-append_seam, get_or-append_seam}
use Rattle.std.proofs.lemmas.Bool.{cases_lt}
use Rattle.std.proofs.lemmas.Option.{slice_get_within, get_or_from_slice_get}
use Rattle.std.proofs.lemmas.List.{take_all, take_more, length-append, length-take, length-take-le, take-append-le, get_or_append_left, get_or-append-add, get_or-take}
use Rattle.tsn_model.specs.declared.Triple.{Triple}
use Rattle.tsn_model.specs.declared.Side.{Side}
use Rattle.tsn_model.specs.declared.Decision.{Decision}
use Rattle.tsn_model.specs.Network.{Network}
use Rattle.tsn_model.specs.Arcs.{arcs_of}
use Rattle.tsn_model.specs.Certificate.{decided}
use Rattle.tsn_model.proofs.Decisions.{length-decided}
use Rattle.tsn_branch.specs.declared.judgement.SplitPoint.{SplitPoint}
use Rattle.tsn_conflict.specs.Path.{DecidesOnce, Fits}
use Rattle.tsn_branch.specs.Descent.{IsSplitPoint, AreSplitPoints}

pub arcs-nil : (network : Network) → arcs_of network [] ≡ []
unfolding arcs_of
arcs-nil network = refl

-- ---- split points

-- where no node was split
pub points_none : (network : Network) (path : List Decision) → AreSplitPoints network path []
points_none network path = record { base = length path; count = omega arith; each = λ k d below. absurd (omega arith) }

pub points_more : (network : Network) (path : List Decision) (points : List SplitPoint) (here : SplitPoint) (triple : Triple) (side : Side) → AreSplitPoints network path points → IsSplitPoint network path here
    → AreSplitPoints network (decided path triple side) (points ++ here ∷ [])
unfolding decided
points_more network path points here triple side all is =
    let base : ℕ = all.base in
    let count = all.count in
    let more = length-append points (here ∷ []) in
    let longer = length-append path (record { triple = triple; side = side } ∷ []) in
    record {
      base = base;
      count = omega arith;
      each = λ k d below.
          elim (cases_lt k (length points)) [
            | inl earlier ↦
                let front : take (base + k) (path ++ record { triple = triple; side = side } ∷ []) ≡ take (base + k) path = take-append-le (base + k) path (record { triple = triple; side = side } ∷ []) (omega arith) in
                let at : slice_index_or (points ++ here ∷ []) k d ≡ slice_index_or points k d = get_or_append_left points (here ∷ []) d k earlier in
                subst (λ p. IsSplitPoint network p (slice_index_or (points ++ here ∷ []) k d)) (sym front) (subst (IsSplitPoint network (take (base + k) path)) (sym at) (all.each k d earlier))
            | inr past ↦
                let last : k ≡ length points + 0 = omega arith in
                let at : slice_index_or (points ++ here ∷ []) k d ≡ here = ap (λ n. slice_index_or (points ++ here ∷ []) n d) last ∙ get_or-append-add points (here ∷ []) 0 d in
                let whole : take (base + k) (path ++ record { triple = triple; side = side } ∷ []) ≡ path =
                take-append-le (base + k) path (record { triple = triple; side = side } ∷ []) (omega arith) ∙ take_all (base + k) path (omega arith) in
                subst (λ p. IsSplitPoint network p (slice_index_or (points ++ here ∷ []) k d)) (sym whole) (subst (IsSplitPoint network path) (sym at) is)
          ];
    }

pub take-inner : {X : Type 0} (k n : ℕ) (xs : List X) → k ≤ n → take k (take n xs) ≡ take k xs
take-inner zero n xs order = refl
take-inner (suc k) zero xs order = absurd (omega arith)
take-inner (suc k) (suc n) [] order = refl
take-inner (suc k) (suc n) (x ∷ xs) order = ap (λ ys. x ∷ ys) (take-inner k n xs (omega arith))

pub points_above : (network : Network) (path : List Decision) (points : List SplitPoint) → AreSplitPoints network path points → AreSplitPoints network (take (length path - 1) path) (take (length points - 1) points)
points_above network path points all =
    let base : ℕ = all.base in
    let count = all.count in
    let of_points = length-take (length points - 1) points in
    let of_path = length-take (length path - 1) path in
    record {
      base = (length path - 1) - (length points - 1);
      count = omega arith;
      each = λ k d below.
          let same : ((length path - 1) - (length points - 1)) + k ≡ base + k = omega arith in
          let front : take (((length path - 1) - (length points - 1)) + k) (take (length path - 1) path) ≡ take (base + k) path =
          ap (λ n. take n (take (length path - 1) path)) same ∙ take-inner (base + k) (length path - 1) path (omega arith) in
          let at : slice_index_or (take (length points - 1) points) k d ≡ slice_index_or points k d = get_or-take (length points - 1) points k d (omega arith) in
          subst (λ p. IsSplitPoint network p (slice_index_or (take (length points - 1) points) k d)) (sym front) (subst (IsSplitPoint network (take (base + k) path)) (sym at) (all.each k d (omega arith)));
    }

-- the split points above the last decision don't depend on its side
pub points_turned : (network : Network) (front : List Decision) (triple : Triple) (a b : Side) (points : List SplitPoint) → AreSplitPoints network (decided front triple a) points → AreSplitPoints network (decided front triple b) points
unfolding decided
points_turned network front triple a b points all =
    let base : ℕ = all.base in
    let count = all.count in
    let first = length-append front (record { triple = triple; side = a } ∷ []) in
    let second = length-append front (record { triple = triple; side = b } ∷ []) in
    record {
      base = base;
      count = omega arith;
      each = λ k d below.
          let was : take (base + k) (front ++ record { triple = triple; side = a } ∷ []) ≡ take (base + k) front = take-append-le (base + k) front (record { triple = triple; side = a } ∷ []) (omega arith) in
          let now : take (base + k) (front ++ record { triple = triple; side = b } ∷ []) ≡ take (base + k) front = take-append-le (base + k) front (record { triple = triple; side = b } ∷ []) (omega arith) in
          subst (λ p. IsSplitPoint network p (slice_index_or points k d)) (was ∙ sym now) (all.each k d below);
    }

pub points_last : (network : Network) (front : List Decision) (triple : Triple) (side : Side) (points : List SplitPoint) (last : SplitPoint) → AreSplitPoints network (decided front triple side) points → 0 < length points → last ≡ get_or points (length points - 1) last
    → IsSplitPoint network front last
unfolding decided
points_last network front triple side points last all some is =
    let long = length-append front (record { triple = triple; side = side } ∷ []) in
    let base : ℕ = all.base in
    let count = all.count in
    let k : ℕ = length points - 1 in
    let front_is : take (base + k) (front ++ record { triple = triple; side = side } ∷ []) ≡ front =
    take-append-le (base + k) front (record { triple = triple; side = side } ∷ []) (omega arith) ∙ take_all (base + k) front (omega arith) in
    subst (λ p. IsSplitPoint network p last) front_is (subst (IsSplitPoint network (take (base + k) (front ++ record { triple = triple; side = side } ∷ []))) (sym is) (all.each k last (omega arith)))

-- the triples of a path that goes on otherwise are the same, or fewer
pub fits_turned : (triples : List Triple) (front : List Decision) (triple : Triple) (a b : Side) → Fits triples (decided front triple a) → Fits triples (decided front triple b)
unfolding decided
fits_turned triples front triple a b fits =
    let P : Decision → Type 0 = λ d. Contains triples d.triple in
    let both = All-pop P (front ++ record { triple = triple; side = a } ∷ []) front (Some (record { triple = triple; side = a })) refl fits in
    All-push P front (record { triple = triple; side = b }) both.0 both.1

-- a turn leaves the decisions above it
pub kept_turned : (front : List Decision) (triple : Triple) (a b : Side) (n : ℕ) → n ≤ length front → take n (decided front triple b) ≡ take n (decided front triple a)
unfolding decided
kept_turned front triple a b n within =
    take-append-le n front (record { triple = triple; side = b } ∷ []) within ∙ sym (take-append-le n front (record { triple = triple; side = a } ∷ []) within)

-- a decision more on one of the triples
pub fits_more : (triples : List Triple) (path : List Decision) (triple : Triple) (side : Side) → Contains triples triple → Fits triples path → Fits triples (decided path triple side)
unfolding decided
fits_more triples path triple side among fits = All-push (λ (d : Decision). Contains triples d.triple) path (record { triple = triple; side = side }) fits among
