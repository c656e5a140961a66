-- The elements of an array, taken one after another.
use Rattle.std.proofs.Common.{◌≡◌, ◌<◌, ◌≤◌, ◌-◌, ℕ, zero, suc, List, [], ◌∷◌, ◌++◌, length, map, Option, Some, None, refl, sym, ap, ◌∙◌, append_assoc, append-nil, arith}
use Rattle.std.specs.Prelude.{option_and_then}
use Rattle.std.proofs.lemmas.List.{map-append}
use Rattle.json.specs.Token.{Token}
use Rattle.json.specs.Json.{Parse, parse_map, after_end_array}
use Rattle.tsn_cert.specs.Form.{many, elements_taken}
use Rattle.tsn_cert.proofs.Many.{many_over, many_more}
use Rattle.tsn_codec.specs.Takes.{FaultOf}
use Rattle.tsn_codec.specs.declared.tokens.Unread.{Unread}
use Rattle.tsn_codec.specs.declared.tokens.Unread.TheVariants.{OtherForm, Memory}

-- what was found, before what the rest gives
abbrev pub prefixed : {A : Type 0} → List A → Option (List A × List Token) → Option (List A × List Token)
prefixed found o = parse_map (λ xs. found ++ xs) o

-- ---- a loop that takes each element

prefixed_nil : {A : Type 0} (o : Option (List A × List Token)) → prefixed [] o ≡ o
prefixed_nil None = refl
prefixed_nil (Some p) = refl

prefixed_cons : {A : Type 0} (found : List A) (x : A) (o : Option (List A × List Token))
    → prefixed found (parse_map (λ xs. x ∷ xs) o) ≡ prefixed (found ++ x ∷ []) o
prefixed_cons found x None = refl
prefixed_cons found x (Some p) = ap (λ xs. Some (xs, p.1)) (sym (append_assoc found (x ∷ []) p.0))

pub taken_start : {A : Type 0} (p : Parse A) (found : List A) (ts : List Token) → found ≡ [] → prefixed found (many p (length ts) ts) ≡ elements_taken p ts
taken_start p found ts empty = ap (λ xs. prefixed xs (many p (length ts) ts)) empty ∙ prefixed_nil (many p (length ts) ts)

pub taken_more : {A : Type 0} (p : Parse A) (m : ℕ) (found grown : List A) (ts r : List Token) (x : A) (whole : Option (List A × List Token))
    → 0 < m → after_end_array ts ≡ None → p ts ≡ Some (x, r) → grown ≡ found ++ x ∷ [] → prefixed found (many p m ts) ≡ whole
    → prefixed grown (many p (m - 1) r) ≡ whole
taken_more p zero found grown ts r x whole some going e pushed h = let bad : ⊥ = omega (arith, some) in absurd bad
taken_more p (suc m) found grown ts r x whole some going e pushed h =
    let less : suc m - 1 ≡ m = omega arith in
    ap (λ k. prefixed grown (many p k r)) less ∙ ap (λ xs. prefixed xs (many p m r)) pushed ∙ sym (prefixed_cons found x (many p m r))
    ∙ ap (λ o. prefixed found (option_and_then (λ y. parse_map (λ xs. y.0 ∷ xs) (many p m y.1)) o)) (sym e)
    ∙ ap (prefixed found) (sym (many_more p m ts going)) ∙ h

pub taken_none : {A : Type 0} (p : Parse A) (m : ℕ) (found : List A) (ts : List Token) (whole : Option (List A × List Token))
    → after_end_array ts ≡ None → p ts ≡ None → prefixed found (many p m ts) ≡ whole → whole ≡ None
unfolding many
taken_none p zero found ts whole going e h = sym h
taken_none p (suc m) found ts whole going e h =
    sym h ∙ ap (prefixed found) (many_more p m ts going) ∙ ap (λ o. prefixed found (option_and_then (λ y. parse_map (λ xs. y.0 ∷ xs) (many p m y.1)) o)) e

pub taken_over : {A : Type 0} (p : Parse A) (m : ℕ) (found : List A) (ts r : List Token) (whole : Option (List A × List Token))
    → length ts ≤ m → after_end_array ts ≡ Some r → prefixed found (many p m ts) ≡ whole → whole ≡ Some (found, r)
taken_over p m found ts r whole enough e h = sym h ∙ ap (prefixed found) (many_over p m ts r enough e) ∙ ap (λ xs. Some (xs, r)) (append-nil found)

-- what is no element makes the list none
pub fault_up : {A B : Type 0} (e : Unread) (part : Option A) (whole : Option B) → (part ≡ None → whole ≡ None) → FaultOf e part → FaultOf e whole
fault_up OtherForm part whole h e = h e
fault_up Memory part whole h e = tt

-- ---- what is seen of a list

-- one more element was found
pub seen_more : {X A : Type 0} (seen : X → A) (old new : List X) (x : X) → new ≡ old ++ x ∷ [] → map seen new ≡ map seen old ++ seen x ∷ []
seen_more seen old new x pushed = ap (map seen) pushed ∙ map-append seen old (x ∷ [])

-- what is seen as itself
pub map_same : {A : Type 0} (xs : List A) → map (λ x. x) xs ≡ xs
map_same [] = refl
map_same (x ∷ xs) = ap (λ ys. x ∷ ys) (map_same xs)
