-- Steps back, as ways to a root.
use Rattle.std.proofs.Common.{◌≡◌, ◌≢◌, ℕ, zero, suc, ◌<◌, ◌≤◌, true, false, eqb, List, [], ◌∷◌, ◌++◌, length, map, Option, Some, None, refl, sym, ap, subst, arith, ⊎_elim, length-append}
use Rattle.std.proofs.lemmas.Bool.{false≢true, eqb-true, ne_eqb, or_cases}
use Rattle.std.proofs.lemmas.List.{length-map}
use Rattle.std.proofs.lemmas.Map.Steps.{length-le_from_distinct_below}
use Rattle.std.specs.List.{IsDistinct, AllByRecursion, list_any}
use Rattle.tsn_diff.specs.declared.forest.Step.{Step}
use Rattle.tsn_diff.specs.Steps.{last_of, Path, Rooted, steps_back}
use Rattle.tsn_diff.specs.Steps.Path.{here, back}

-- two ways back from one stream to a root are equally long
pub length-path_same : {last : List (Option Step)} {i r q : ℕ} {ss ts : List Step} → Path last i ss r → last_of last r ≡ None → Path last i ts q → last_of last q ≡ None → length ss ≡ length ts
length-path_same here e here f = refl
length-path_same here e (back h p) f = cc
length-path_same (back h p) e here f = cc
length-path_same {last} {i} {r} {q} (back {step = s} h p) e (back {step = t} {steps = ts} g w) f =
    let same : t ≡ s = cc in
    ap suc (length-path_same p e (subst (λ x. Path last x.from ts q) same w) f)

-- the streams on a way back
abbrev pub streams_on : ℕ → List Step → List ℕ
streams_on i ss = i ∷ map (λ s. s.from) ss

-- a stream whose way to a root is longer than all of this way is not on it
pub apart : {last : List (Option Step)} {j r : ℕ} {ss : List Step} (i n : ℕ) → ((ts : List Step) (q : ℕ) → Path last i ts q → last_of last q ≡ None → length ts ≡ n) → Path last j ss r → last_of last r ≡ None → length ss < n → AllByRecursion (λ y. eqb i y ≡ false) (streams_on j ss)
apart {last} {j} i n long here e l =
    let unlike : i ≢ j = λ same. let k : 0 ≡ n = long [] j (subst (λ x. Path last x [] j) (sym same) here) e in absurd (omega arith) in
    (ne_eqb i j unlike, tt)
apart {last} {j} {r} i n long (back {step = s} {steps = ss} h p) e l =
    let unlike : i ≢ j = λ same. let k : length (s ∷ ss) ≡ n = long (s ∷ ss) r (subst (λ x. Path last x (s ∷ ss) r) (sym same) (back h p)) e in absurd (omega arith) in
    (ne_eqb i j unlike, apart i n long p e (omega arith))

-- no stream is twice on a way to a root
pub IsDistinct-streams_on : {last : List (Option Step)} {i r : ℕ} {ss : List Step} → Path last i ss r → last_of last r ≡ None → IsDistinct eqb (streams_on i ss)
unfolding IsDistinct
IsDistinct-streams_on here e = (tt, tt)
IsDistinct-streams_on {last} {i} {r} (back {step = s} {steps = ss} h p) e =
    (apart i (suc (length ss)) (λ ts q w f. length-path_same w f (back {step = s} h p) e) p e (omega arith), IsDistinct-streams_on p e)

-- every stream on a way back is one of the first n
pub streams_on-below : {last : List (Option Step)} {i r : ℕ} {ss : List Step} (n : ℕ) → ((j : ℕ) (s : Step) → last_of last j ≡ Some s → s.from < n) → Path last i ss r → i < n → (q : ℕ) → list_any (eqb q) (streams_on i ss) ≡ true → q < n
streams_on-below {last} {i} n below here l q t =
    ⊎_elim (λ (a : eqb q i ≡ true). let e : q ≡ i = eqb-true q i a in omega arith) (λ (b : false ≡ true). absurd (false≢true b)) (or_cases (eqb q i) false t)
streams_on-below {last} {i} n below (back {step = s} {steps = ss} h p) l q t =
    ⊎_elim (λ (a : eqb q i ≡ true). let e : q ≡ i = eqb-true q i a in omega arith) (λ (b : list_any (eqb q) (streams_on s.from ss) ≡ true). streams_on-below n below p (below i s h) q b) (or_cases (eqb q i) _ t)

-- a way back and one that goes on from its end
pub Path-append : {last : List (Option Step)} {i j r : ℕ} {ss ts : List Step} → Path last i ss j → Path last j ts r → Path last i (ss ++ ts) r
Path-append here w = w
Path-append (back h p) w = back h (Path-append p w)

-- a way back to a root has fewer steps than there are streams
pub length-path : {last : List (Option Step)} {i r : ℕ} {ss : List Step} (n : ℕ) → ((j : ℕ) (s : Step) → last_of last j ≡ Some s → s.from < n) → Path last i ss r → last_of last r ≡ None → i < n → length ss < n
length-path {last} {i} {r} {ss} n below p e l =
    let k : length (streams_on i ss) ≤ n = length-le_from_distinct_below (streams_on i ss) n (IsDistinct-streams_on p e) (streams_on-below n below p l) in
    omega (arith, length-map ss (λ (s : Step). s.from))

-- so has any way back
pub length-path_any : {last : List (Option Step)} {i j : ℕ} {ss : List Step} (n : ℕ) → ((j : ℕ) (s : Step) → last_of last j ≡ Some s → s.from < n) → Path last i ss j → Rooted last j → i < n → length ss < n
length-path_any {last} {i} {j} {ss} n below p rest l =
    let k : length (ss ++ rest.steps) < n = length-path n below (Path-append p rest.path) rest.ends l in
    omega (arith, length-append ss rest.steps)

-- one step more
pub Rooted-back : {last : List (Option Step)} (i : ℕ) (s : Step) → last_of last i ≡ Some s → Rooted last s.from → Rooted last i
Rooted-back i s h r = record { steps = s ∷ r.steps; root = r.root; path = back h r.path; ends = r.ends }

pub Rooted-here : {last : List (Option Step)} (i : ℕ) → last_of last i ≡ None → Rooted last i
Rooted-here i e = record { steps = []; root = i; path = here; ends = e }

-- the steps of a way to a root are those that are counted back with no end in between
pub steps_back_is : {last : List (Option Step)} {i r : ℕ} {ss : List Step} (n : ℕ) → Path last i ss r → last_of last r ≡ None → length ss < n → steps_back n last None i ≡ ss
steps_back_is zero p e l = absurd (omega arith)
steps_back_is {last} {i} (suc n) here e l = rw e refl
steps_back_is {last} {i} (suc n) (back {step = s} {steps = ss} h p) e l = rw h (ap (λ xs. s ∷ xs) (steps_back_is n p e (omega arith)))
