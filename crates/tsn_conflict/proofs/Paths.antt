-- Paths, by their last decision, and with a turn.
use Rattle.std.proofs.Common.{◌≡◌, ℕ, ◌+◌, ◌-◌, ◌<◌, List, [], ◌∷◌, ◌++◌, length, get_or, take, Some, sym, ap, ◌∙◌, arith, inl, inr}
use Rattle.std.specs.List.{slice_index_or}
use Rattle.std.specs.Prelude.{slice_set, slice_get}
use Rattle.std.proofs.Math.Seq.{set-append_seam, get_or-append_seam}
use Rattle.std.proofs.lemmas.Bool.{cases_lt}
use Rattle.std.proofs.lemmas.Option.{slice_get_within, get_or_from_slice_get}
use Rattle.std.proofs.lemmas.List.{take_all, take_more, length-append, length-take-le, get_or_append_left, get_or-append-add, get_or-take}
use Rattle.tsn_model.specs.declared.Triple.{Triple}
use Rattle.tsn_model.specs.declared.Side.{Side}
use Rattle.tsn_model.specs.declared.Decision.{Decision}
use Rattle.tsn_model.specs.Certificate.{decided}
use Rattle.tsn_model.proofs.Decisions.{length-decided}
use Rattle.tsn_conflict.specs.Path.{DecidesOnce}

pub by_last : (path : List Decision) (last : Decision) → 0 < length path → last ≡ get_or path (length path - 1) last → path ≡ decided (take (length path - 1) path) last.triple last.side
unfolding decided
by_last path last some is =
    let k : ℕ = length path - 1 in
    sym (take_all (k + 1) path (omega arith)) ∙ take_more path k last (omega arith) ∙ ap (λ d. take k path ++ d ∷ []) (sym is)

-- a turn at some depth decides no triple twice
pub once_turned : (path : List Decision) (depth : ℕ) (triple : Triple) (a b : Side) → DecidesOnce path → slice_get path depth ≡ Some (record { triple = triple; side = a }) → DecidesOnce (decided (take depth path) triple b)
unfolding decided
once_turned path depth triple a b once at =
    λ i j d less below same.
    let last : Decision = record { triple = triple; side = b } in
    let within = slice_get_within path depth (record { triple = triple; side = a }) at in
    let front = length-take-le depth path (omega arith) in
    let whole = length-append (take depth path) (last ∷ []) in
    let first : slice_index_or (take depth path ++ last ∷ []) i d ≡ slice_index_or path i d = get_or_append_left (take depth path) (last ∷ []) d i (omega arith) ∙ get_or-take depth path i d (omega arith) in
    elim (cases_lt j depth) [
      | inl earlier ↦
          let second : slice_index_or (take depth path ++ last ∷ []) j d ≡ slice_index_or path j d = get_or_append_left (take depth path) (last ∷ []) d j (omega arith) ∙ get_or-take depth path j d earlier in
          once i j d less (omega arith) (ap (λ (e : Decision). e.triple) (sym first) ∙ same ∙ ap (λ (e : Decision). e.triple) second)
      | inr past ↦
          let end : j ≡ length (take depth path) + 0 = omega arith in
          let second : slice_index_or (take depth path ++ last ∷ []) j d ≡ last = ap (λ n. slice_index_or (take depth path ++ last ∷ []) n d) end ∙ get_or-append-add (take depth path) (last ∷ []) 0 d in
          let there = get_or_from_slice_get path depth (record { triple = triple; side = a }) d at in
          once i depth d (omega arith) within (ap (λ (e : Decision). e.triple) (sym first) ∙ same ∙ ap (λ (e : Decision). e.triple) second ∙ sym (ap (λ (e : Decision). e.triple) there))
    ]

last_place : (front : List Decision) (triple : Triple) (a : Side) (path : List Decision) → path ≡ decided front triple a → length path - 1 ≡ length front
last_place front triple a path is = let long = ap length is ∙ length-decided front triple a in omega arith

pub set_last : (front : List Decision) (triple : Triple) (a b : Side) (path : List Decision) → path ≡ decided front triple a → slice_set path (length path - 1) (record { triple = triple; side = b }) ≡ decided front triple b
unfolding decided
set_last front triple a b path is =
    ap (λ n. slice_set path n (record { triple = triple; side = b })) (last_place front triple a path is)
    ∙ ap (λ p. slice_set p (length front) (record { triple = triple; side = b })) is
    ∙ set-append_seam front (record { triple = triple; side = a }) [] (record { triple = triple; side = b })

pub get_last : (front : List Decision) (triple : Triple) (a : Side) (path : List Decision) (d : Decision) → path ≡ decided front triple a → get_or path (length path - 1) d ≡ record { triple = triple; side = a }
unfolding decided
get_last front triple a path d is =
    ap (λ n. get_or path n d) (last_place front triple a path is) ∙ ap (λ p. get_or p (length front) d) is ∙ get_or-append_seam front (record { triple = triple; side = a }) [] d
