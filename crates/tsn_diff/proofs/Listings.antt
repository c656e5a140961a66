use Rattle.std.proofs.Common.{◌≡◌, ◌≢◌, ℕ, zero, suc, ◌+◌, ◌-◌, ◌<◌, ◌==◌, cond, List, [], ◌∷◌, ◌++◌, length, get_or, set, take, All, Vec, Global, refl, sym, ap, ◌∙◌, ⊎_elim, arith, append-nil, append_assoc, length-append, eqb-true, get_or-set_same, get_or-set_other}
use Rattle.std.proofs.lemmas.Bool.{cases_eq, eq-eqb, ne_eqb}
use Rattle.std.proofs.lemmas.List.{get_or_at, length_push, take_at}
use Rattle.std.proofs.lemmas.List.Elements.{All-nil, All-cons, All-head, All-tail}
use Rattle.tsn_model.specs.Arcs.{arc_at}
use Rattle.tsn_model.specs.declared.Arc.{Arc}
use Rattle.tsn_diff.specs.declared.listing.Indexed.{Indexed}
use Rattle.tsn_diff.specs.declared.listing.Listing.{Listing}
use Rattle.tsn_diff.specs.Listing.{leaving_from, arcs_leaving, IsListing}
use Rattle.tsn_diff.specs.Spread.{IsIndexed}
use Rattle.tsn_diff.proofs.Cases.{by_bool}

-- a list without its last element
pub take_front : {X : Type 0} (xs : List X) (y : X) → take (length (xs ++ y ∷ []) - 1) (xs ++ y ∷ []) ≡ xs
take_front xs y = take_at xs (y ∷ []) _ (omega (arith, length_push xs y))

-- lists that are one with their last elements are one without
pub front_same : {X : Type 0} (xs ys : List X) (x y : X) → xs ++ x ∷ [] ≡ ys ++ y ∷ [] → xs ≡ ys
front_same {X} xs ys x y is = sym (take_front xs x) ∙ ap (λ (zs : List X). take (length zs - 1) zs) is ∙ take_front ys y

-- the arcs that leave a stream, with one more arc
leaving_from-push : (index : ℕ) (arcs : List Arc) (arc : Arc) (stream : ℕ) → leaving_from index (arcs ++ arc ∷ []) stream ≡ leaving_from index arcs stream ++ cond (arc.from == stream) (record { index = index + length arcs; arc = arc } ∷ []) []
leaving_from-push index [] arc stream = let e : index + 0 ≡ index = omega arith in rw e refl
leaving_from-push index (a ∷ arcs) arc stream =
    let more = leaving_from-push (suc index) arcs arc stream in
    let e : suc index + length arcs ≡ index + suc (length arcs) = omega arith in
    let more' = rw e at more in
    by_bool (a.from == stream)
    (λ yes. rw (yes, more') refl)
    (λ no. rw (no, more') refl)

-- it is last among those of its stream
arcs_leaving-same : (arcs : List Arc) (arc : Arc) → arcs_leaving (arcs ++ arc ∷ []) arc.from ≡ arcs_leaving arcs arc.from ++ record { index = length arcs; arc = arc } ∷ []
arcs_leaving-same arcs arc =
    let e : 0 + length arcs ≡ length arcs = omega arith in
    let more = rw (eq-eqb arc.from arc.from refl, e) at (leaving_from-push 0 arcs arc arc.from) in
    more

-- and not among those of another
arcs_leaving-other : (arcs : List Arc) (arc : Arc) (stream : ℕ) → stream ≢ arc.from → arcs_leaving (arcs ++ arc ∷ []) stream ≡ arcs_leaving arcs stream
arcs_leaving-other arcs arc stream unlike =
    let more = rw (ne_eqb arc.from stream (λ e. unlike (sym e))) at (leaving_from-push 0 arcs arc stream) in
    more ∙ append-nil (arcs_leaving arcs stream)

-- one list of each stream, and that of the arc's first stream replaced
module _ (lists : List (Vec Indexed Global)) (arcs : List Arc) (arc : Arc) (list was : Vec Indexed Global) (from_in : arc.from < length lists) (is : was ≡ get_or lists arc.from was) where
  pub leaving_push : ((stream : ℕ) (default : Vec Indexed Global) → stream < length lists → (get_or lists stream default).items ≡ arcs_leaving arcs stream) → list.items ≡ was.items ++ record { index = length arcs; arc = arc } ∷ []
      → (stream : ℕ) (default : Vec Indexed Global) → stream < length lists → (get_or (set lists arc.from list) stream default).items ≡ arcs_leaving (arcs ++ arc ∷ []) stream
  leaving_push leaving more stream default l =
      ⊎_elim
      (λ (e : stream ≡ arc.from).
      let here : was.items ≡ arcs_leaving arcs arc.from = ap (λ (v : Vec Indexed Global). v.items) is ∙ leaving arc.from was from_in in
      rw e (ap (λ (v : Vec Indexed Global). v.items) (get_or-set_same lists arc.from list default from_in) ∙ more ∙ ap (λ (xs : List Indexed). xs ++ record { index = length arcs; arc = arc } ∷ []) here ∙ sym (arcs_leaving-same arcs arc)))
      (λ (e : stream ≢ arc.from). ap (λ (v : Vec Indexed Global). v.items) (get_or-set_other lists arc.from stream list default e) ∙ leaving stream default l ∙ sym (arcs_leaving-other arcs arc stream e))
      (cases_eq stream arc.from)

  pub leaving_pop : ((stream : ℕ) (default : Vec Indexed Global) → stream < length lists → (get_or lists stream default).items ≡ arcs_leaving (arcs ++ arc ∷ []) stream) → list.items ≡ take (length was.items - 1) was.items
      → (stream : ℕ) (default : Vec Indexed Global) → stream < length lists → (get_or (set lists arc.from list) stream default).items ≡ arcs_leaving arcs stream
  leaving_pop leaving less stream default l =
      ⊎_elim
      (λ (e : stream ≡ arc.from).
      let here : was.items ≡ arcs_leaving arcs arc.from ++ record { index = length arcs; arc = arc } ∷ [] = ap (λ (v : Vec Indexed Global). v.items) is ∙ leaving arc.from was from_in ∙ arcs_leaving-same arcs arc in
      rw e (ap (λ (v : Vec Indexed Global). v.items) (get_or-set_same lists arc.from list default from_in) ∙ less ∙ rw here (take_front (arcs_leaving arcs arc.from) (record { index = length arcs; arc = arc }))))
      (λ (e : stream ≢ arc.from). ap (λ (v : Vec Indexed Global). v.items) (get_or-set_other lists arc.from stream list default e) ∙ leaving stream default l ∙ arcs_leaving-other arcs arc stream e)
      (cases_eq stream arc.from)

-- each arc that leaves a stream begins there, and stands at its index
leaving_from-indexed : (before arcs : List Arc) (stream : ℕ) → All (λ (p : Indexed). IsIndexed (before ++ arcs) p × (p.arc.from ≡ stream)) (leaving_from (length before) arcs stream)
leaving_from-indexed before [] stream = All-nil (λ (p : Indexed). IsIndexed (before ++ []) p × (p.arc.from ≡ stream))
leaving_from-indexed before (a ∷ arcs) stream =
    let P = λ (p : Indexed). IsIndexed (before ++ a ∷ arcs) p × (p.arc.from ≡ stream) in
    let all : before ++ a ∷ [] ++ arcs ≡ before ++ a ∷ arcs = append_assoc before (a ∷ []) arcs in
    let index : length (before ++ a ∷ []) ≡ suc (length before) = omega (arith, length_push before a) in
    let rest : All P (leaving_from (suc (length before)) arcs stream) = rw (← all, ← index) (leaving_from-indexed (before ++ a ∷ []) arcs stream) in
    by_bool (a.from == stream)
    (λ yes. rw yes (All-cons P (record { index = length before; arc = a }) (leaving_from (suc (length before)) arcs stream)
    (record { index_in = omega (arith, length-append before (a ∷ arcs)); arc = get_or_at before a arcs _ (length before) refl }, eqb-true a.from stream yes) rest))
    (λ no. rw no rest)

pub arcs_leaving-indexed : (arcs : List Arc) (stream : ℕ) → All (λ (p : Indexed). IsIndexed arcs p × (p.arc.from ≡ stream)) (arcs_leaving arcs stream)
arcs_leaving-indexed arcs stream = leaving_from-indexed [] arcs stream

-- what holds of each of them holds of every arc that begins there
leaving_from-all : (P : Arc → Type 0) (index : ℕ) (arcs : List Arc) (stream : ℕ) → All (λ (p : Indexed). P p.arc) (leaving_from index arcs stream) → (q : ℕ) → q < length arcs → (arc_at arcs q).from ≡ stream → P (arc_at arcs q)
leaving_from-all P index [] stream all q l e = absurd (omega arith)
leaving_from-all P index (a ∷ arcs) stream all zero l e =
    All-head (λ (p : Indexed). P p.arc) (record { index = index; arc = a }) (leaving_from (suc index) arcs stream) (rw (eq-eqb a.from stream e) at all)
leaving_from-all P index (a ∷ arcs) stream all (suc q) l e =
    leaving_from-all P (suc index) arcs stream
    (by_bool (a.from == stream)
    (λ yes. All-tail (λ (p : Indexed). P p.arc) (record { index = index; arc = a }) (leaving_from (suc index) arcs stream) (rw yes at all))
    (λ no. rw no at all)) q (omega arith) e

pub arcs_leaving-all : (P : Arc → Type 0) (arcs : List Arc) (stream : ℕ) → All (λ (p : Indexed). P p.arc) (arcs_leaving arcs stream) → (q : ℕ) → q < length arcs → (arc_at arcs q).from ≡ stream → P (arc_at arcs q)
arcs_leaving-all P arcs stream all q l e = leaving_from-all P 0 arcs stream all q l e

-- the list of a stream, as it is read
pub leaving_is : (n : ℕ) (listing : Listing) (arcs : List Arc) (stream : ℕ) (list : Vec Indexed Global) (items : List Indexed) → IsListing n arcs listing → stream < n → items ≡ list.items → list ≡ get_or listing.leaving.items stream list → items ≡ arcs_leaving arcs stream
leaving_is n listing arcs stream list items listed l value read =
    value ∙ ap (λ (v : Vec Indexed Global). v.items) read ∙ listed.leaving stream list l
