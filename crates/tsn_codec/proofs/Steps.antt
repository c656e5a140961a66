-- Which part of which step isn't of the form: what tokens show is so of the value that they spell.
use Rattle.std.proofs.Common.{◌≡◌, ◌≤◌, ◌-◌, ℕ, List, [], ◌∷◌, ◌++◌, length, Bool, true, false, Option, Some, None, Result, Ok, Err, refl, sym, ap, ◌∙◌, subst, arith, inl, inr}
use Rattle.std.specs.Prelude.{◌&&◌, option_and_then, option_map, unwrap_or, is_some, slice_get, IfErr}
use Rattle.json.specs.Token.{Token}
use Rattle.json.specs.Json.{Parse, after_end_array, items, value}
use Rattle.json.proofs.Grammar.{items_end}
use Rattle.serde_json.specs.Data.{Data, Items, item, no_items, array}
use Rattle.serde_json.specs.Read.{of_items, converted}
use Rattle.tsn_cert.specs.Argument.{step_form, step_in, steps_form, steps_in}
use Rattle.tsn_cert.specs.Fact.{fact_form, clause_form}
use Rattle.tsn_cert.specs.Fault.{named}
use Rattle.tsn_cert.specs.Form.{Form, list, closed, elements_taken, after_begin_array}
use Rattle.tsn_cert.specs.Json.{elements, listed}
use Rattle.tsn_cert.specs.Move.{move_form, moves_form}
use Rattle.tsn_cert.specs.Says.{Says, value_read}
use Rattle.tsn_cert.specs.declared.fact.Fact.{Fact}
use Rattle.tsn_cert.specs.declared.fault.FileFault.TheVariants as fault
use Rattle.tsn_cert.specs.declared.step.Step.{Step}
use Rattle.tsn_cert.proofs.ArgumentSays.{steps_says}
use Rattle.tsn_cert.proofs.Says.{list_says}
use Rattle.tsn_codec.specs.ArgumentSays.{fact_element, move_element, step_element}
use Rattle.tsn_codec.specs.Lists.{Stops}
use Rattle.tsn_codec.specs.Matter.{is_pair, are_lists, element_at, IsFirstOther, IsStepMisfit, IsStepsMisfit, IsWhy}
use Rattle.tsn_codec.specs.Steps.{of_step, moves_end, HasNoMoves, StopsMoves, MovesStop, parts_end, PartsStop, StepStops, StandsBehind, StopsBehind, StopsSteps, TakesArray, TakesStep, unread_of}
use Rattle.tsn_codec.specs.Takes.{FaultOf}
use Rattle.tsn_cert.specs.Told.{Finds}
use Rattle.tsn_cert.specs.declared.refused.Misfit.{Misfit}
use Rattle.tsn_cert.specs.declared.refused.Part.{Part}
use Rattle.tsn_cert.specs.declared.refused.Part.TheVariants as part
use Rattle.tsn_cert.specs.declared.refused.Refused.{Refused}
use Rattle.tsn_cert.specs.declared.refused.Refused.TheVariants.{NotJson, WrongShape, NumberTooLarge, Memory}
use Rattle.tsn_codec.proofs.Lists.{stops_none, stops_value, stops_items, stops_first, first_stop, NextItem, next_item, says_of, says_none, says_some, whole_array, no_array, array_inside}
use Rattle.tsn_codec.proofs.Firsts.{placed_first}
use Rattle.tsn_codec.proofs.Pairs.{both_same, never_some}

-- ---- nothing is taken

no_moves_taken : (clause : List Fact) (ts : List Token) → moves_form.taken ts ≡ None → moves_end clause ts ≡ None
no_moves_taken clause ts e = ap (option_and_then (λ p. closed (record { clause = clause; moves = p.0 }) p.1)) e

no_moves_end : (clause : List Fact) (ts : List Token) → HasNoMoves ts → moves_end clause ts ≡ None
no_moves_end clause ts (inl none) = no_moves_taken clause ts (ap (option_and_then (elements_taken move_form.taken)) none)
no_moves_end clause ts (inr h) =
    ap (option_and_then (λ p. closed (record { clause = clause; moves = p.0 }) p.1)) h.2
    ∙ ap (option_map (λ rest. (record { clause = clause; moves = h.0 }, rest))) h.3

stopped_moves_end : (clause : List Fact) (number : ℕ) (ts : List Token) → StopsMoves number ts → moves_end clause ts ≡ None
stopped_moves_end clause number ts h = no_moves_taken clause ts (stops_none move_form h.1 ts h.0 h.2 h.3)

pub moves_none : (clause : List Fact) (it : Option Part) (ts : List Token) → MovesStop it ts → moves_end clause ts ≡ None
moves_none clause None ts h = no_moves_end clause ts h
moves_none clause (Some (part.Fact n)) ts h = absurd h
moves_none clause (Some (part.Move n)) ts h = stopped_moves_end clause n ts h

no_facts_taken : (ts : List Token) → clause_form.taken ts ≡ None → parts_end ts ≡ None
no_facts_taken ts e = ap (option_and_then (λ p. moves_end p.0 p.1)) e

parts_none : (it : Option Part) (ts : List Token) → PartsStop it ts → parts_end ts ≡ None
parts_none None ts (inl none) = no_facts_taken ts (ap (option_and_then (elements_taken fact_form.taken)) none)
parts_none None ts (inr h) = ap (option_and_then (λ p. moves_end p.0 p.1)) h.2 ∙ no_moves_end h.0 h.1 h.3
parts_none (Some (part.Fact n)) ts h = no_facts_taken ts (stops_none fact_form h.1 ts h.0 h.2 h.3)
parts_none (Some (part.Move n)) ts h = ap (option_and_then (λ p. moves_end p.0 p.1)) h.2 ∙ stopped_moves_end h.0 n h.1 h.3

pub step_none : (it : Option Part) (ts : List Token) → StepStops it ts → step_form.taken ts ≡ None
step_none None ts (inl none) = ap (option_and_then parts_end) none
step_none None ts (inr h) = ap (option_and_then parts_end) h.1 ∙ parts_none None h.0 h.2
step_none (Some it) ts h = ap (option_and_then parts_end) h.1 ∙ parts_none (Some it) h.0 h.2

behind_stops : {A : Type 0} (p : Parse A) (xs : List A) (ts at : List Token) → StandsBehind p xs ts at → after_end_array at ≡ None → p at ≡ None
    → Stops p xs ts
behind_stops p [] ts at h going none = rw h (going, none)
behind_stops p (x ∷ xs) ts at h going none = (h.0, (h.1.0, h.1.1, behind_stops p xs h.1.0 at h.1.2 going none))

steps_stop : (m : Misfit) (ts : List Token) (h : StopsBehind m ts) → Stops step_form.taken h.0 ts
steps_stop m ts h = behind_stops step_form.taken h.0 ts h.1 h.3 h.4 (step_none h.2 h.1 h.5)

pub steps_none : (m : Misfit) (ts : List Token) → StopsSteps m ts → steps_form.taken ts ≡ None
steps_none m ts (inl h) = ap (option_and_then (elements_taken step_form.taken)) h.1
steps_none m ts (inr h) = stops_none step_form h.2.0 ts h.0 h.1 (steps_stop m h.0 h.2)

-- one more step is taken before that
pub stands_more : {A : Type 0} (p : Parse A) (found grown : List A) (x : A) (ts rest whole : List Token) → after_end_array ts ≡ None
    → p ts ≡ Some (x, rest) → grown ≡ found ++ x ∷ [] → StandsBehind p found whole ts → StandsBehind p grown whole rest
stands_more p [] grown x ts rest whole going e pushed h = rw (pushed, h) (going, (rest, e, refl))
stands_more p (y ∷ found) grown x ts rest whole going e pushed h =
    rw pushed (h.0, (h.1.0, h.1.1, stands_more p found (found ++ x ∷ []) x ts rest h.1.0 going e refl h.1.2))

-- ---- the values of an array

begun : {A : Type 0} (form : Form A) (ts : List Token) (o : Option (List Token)) (x : List A × List Token) → after_begin_array ts ≡ o
    → (list form).taken ts ≡ Some x → (inner : List Token) × (after_begin_array ts ≡ Some inner)
begun form ts None x e h = never_some x (sym (ap (option_and_then (elements_taken form.taken)) e) ∙ h)
begun form ts (Some inner) x e h = (inner, e)

-- an array that begins is no end
no_end : (ts inner : List Token) → after_begin_array ts ≡ Some inner → after_end_array ts ≡ None
no_end ts inner e = ap after_end_array (whole_array ts inner e)

no_more : (depth n : ℕ) (ts r : List Token) (is : Items) (rest : List Token) → length ts ≤ n → after_end_array ts ≡ Some r
    → converted of_items (items (value depth) n ts) ≡ Some (is, rest) → is ≡ no_items
no_more depth n ts r is rest enough e h =
    let over : Some (no_items, r) ≡ Some (is, rest) = sym (ap (converted of_items) (items_end (value depth) n ts r enough e)) ∙ h in
    sym (both_same (no_items, r) (is, rest) over).0

-- what stands there in a list of another element says
abbrev Values : ℕ → ℕ → List Token → Items → List Token → Type 0
Values depth n ts is rest = (length ts ≤ n) × (converted of_items (items (value depth) n ts) ≡ Some (is, rest))

next_value : (depth n : ℕ) (ts : List Token) (is : Items) (rest : List Token) → after_end_array ts ≡ None → Values depth n ts is rest
    → NextItem depth n ts is rest
next_value depth n ts is rest going v = next_item depth n ts is rest going v.0 (value depth ts) refl v.1

-- a list stands there, and this behind it
abbrev NextList : {A : Type 0} → Form A → List A → ℕ → ℕ → List Token → Items → List Token → Type 0
NextList form xs depth n behind is rest =
    (d : Data) × (ds : Items) × (is ≡ item d ds) × ((list form).said d ≡ Some xs) × Values depth (n - 1) behind ds rest

next_list : {A : Type 0} (form : Form A) → Says 8 form → (xs : List A) (depth n : ℕ) → 9 ≤ depth → (ts behind : List Token) (is : Items)
    (rest : List Token) → (list form).taken ts ≡ Some (xs, behind) → Values depth n ts is rest → NextList form xs depth n behind is rest
next_list form says xs depth n deep ts behind is rest e v =
    let begins = begun form ts (after_begin_array ts) (xs, behind) refl e in
    let it = next_value depth n ts is rest (no_end ts begins.0 begins.1) v in
    let both = says_some ((list form).said it.0) it.2 behind xs (says_of 9 (list form) (list_says 8 form says) depth deep ts it.0 it.2 it.4 ∙ e) in
    (it.0, it.1, it.3, both.0, (subst (λ r. length r ≤ n - 1) both.1 it.5, subst (λ r. converted of_items (items (value depth) (n - 1) r) ≡ Some (it.1, rest)) both.1 it.6))

-- a list that stops stands there
abbrev StoppedList : {A : Type 0} → Form A → ℕ → Items → Type 0
StoppedList form number is = (d : Data) × (ds : Items) × (x : Data) × (is ≡ item d ds) × IsFirstOther form.said d number x

stopped_list : {A : Type 0} (form : Form A) → Says 8 form → (xs : List A) (number depth n : ℕ) → 9 ≤ depth → (ts inner : List Token) (is : Items)
    (rest : List Token) → after_begin_array ts ≡ Some inner → Stops form.taken xs inner → number ≡ length xs → Values depth n ts is rest
    → StoppedList form number is
stopped_list form says xs number depth n deep ts inner is rest e s counted v =
    let it = next_value depth n ts is rest (no_end ts inner e) v in
    let stopped = stops_value 8 form says depth deep xs ts inner it.0 it.2 it.4 e s in
    let first = first_stop form.said xs number it.0 stopped.0 counted stopped.1 stopped.2 in
    (it.0, it.1, first.0, it.3, first.1)

-- ---- no pair

and_false : (a : Bool) → (a && false) ≡ false
and_false true = refl
and_false false = refl

not_second : (c m : Data) (ds : List Data) → elements m ≡ None → are_lists (c ∷ m ∷ ds) ≡ false
not_second c m [] e = ap (λ o. is_some (elements c) && is_some o) e ∙ and_false (is_some (elements c))
not_second c m (x ∷ ds) e = refl

not_first : (c : Data) (ds : List Data) → elements c ≡ None → are_lists (c ∷ ds) ≡ false
not_first c [] e = refl
not_first c (m ∷ []) e = ap (λ o. is_some o && is_some (elements m)) e
not_first c (m ∷ x ∷ ds) e = refl

no_second : (c : Data) (depth n : ℕ) (ts : List Token) (is : Items) (rest : List Token) (o : Option (List Token)) → after_end_array ts ≡ o
    → after_begin_array ts ≡ None → Values depth n ts is rest → are_lists (c ∷ listed is) ≡ false
no_second c depth n ts is rest (Some r) end none v = rw (no_more depth n ts r is rest v.0 end v.1) refl
no_second c depth n ts is rest None end none v =
    let it = next_value depth n ts is rest end v in
    rw it.3 (not_second c it.0 (listed it.1) (no_array depth ts it.0 it.2 it.4 none))

no_first : (depth n : ℕ) (ts : List Token) (is : Items) (rest : List Token) (o : Option (List Token)) → after_end_array ts ≡ o
    → after_begin_array ts ≡ None → Values depth n ts is rest → are_lists (listed is) ≡ false
no_first depth n ts is rest (Some r) end none v = rw (no_more depth n ts r is rest v.0 end v.1) refl
no_first depth n ts is rest None end none v =
    let it = next_value depth n ts is rest end v in
    rw it.3 (not_first it.0 (listed it.1) (no_array depth ts it.0 it.2 it.4 none))

no_moves_value : (c : Data) (depth n : ℕ) → 9 ≤ depth → (ts : List Token) (is : Items) (rest : List Token) → HasNoMoves ts → Values depth n ts is rest
    → are_lists (c ∷ listed is) ≡ false
no_moves_value c depth n deep ts is rest (inl none) v = no_second c depth n ts is rest (after_end_array ts) refl none v
no_moves_value c depth n deep ts is rest (inr h) v =
    let it = next_list move_form move_element h.0 depth n deep ts h.1 is rest h.2 v in
    let more = next_value depth (n - 1) h.1 it.1 rest h.3 it.4 in
    rw (it.2, more.3) refl

no_lists_value : (depth n : ℕ) → 9 ≤ depth → (ts : List Token) (is : Items) (rest : List Token) → PartsStop None ts → Values depth n ts is rest
    → are_lists (listed is) ≡ false
no_lists_value depth n deep ts is rest (inl none) v = no_first depth n ts is rest (after_end_array ts) refl none v
no_lists_value depth n deep ts is rest (inr h) v =
    let it = next_list fact_form fact_element h.0 depth n deep ts h.1 is rest h.2 v in
    rw it.2 (no_moves_value it.0 depth (n - 1) deep h.1 it.1 rest h.3 it.4)

-- ---- a step

-- what is inside of an array
inside_values : (depth : ℕ) (inner : List Token) (is : Items) (rest : List Token)
    → converted of_items (items (value depth) (length inner) inner) ≡ Some (is, rest) → Values depth (length inner) inner is rest
inside_values depth inner is rest e = (omega arith, e)

step_misfit : (number depth : ℕ) → 10 ≤ depth → (it : Option Part) (ts : List Token) (d : Data) (rest : List Token) → value_read depth ts ≡ Some (d, rest)
    → StepStops it ts → IsStepMisfit number d (of_step number it)
step_misfit number depth deep None ts d rest spelled (inl none) =
    (refl, ap (λ o. unwrap_or (option_map are_lists o) false) (no_array depth ts d rest spelled none))
step_misfit number depth deep None ts d rest spelled (inr h) =
    let it = array_inside depth (omega arith) ts h.0 d rest spelled h.1 in
    let no = no_lists_value (depth - 1) (length h.0) (omega arith) h.0 it.0 rest h.2 (inside_values (depth - 1) h.0 it.0 rest it.2) in
    (refl, ap is_pair it.1 ∙ no)
step_misfit number depth deep (Some (part.Fact n)) ts d rest spelled h =
    let it = array_inside depth (omega arith) ts h.0 d rest spelled h.1 in
    let s = h.2 in
    let at = stopped_list fact_form fact_element s.1 n (depth - 1) (length h.0) (omega arith) h.0 s.0 it.0 rest s.2 s.3 s.4
    (inside_values (depth - 1) h.0 it.0 rest it.2) in
    let whole : d ≡ array (item at.0 at.1) = it.1 ∙ ap array at.3 in
    (refl, (at.0, at.2, ap (element_at 0) whole, at.4))
step_misfit number depth deep (Some (part.Move n)) ts d rest spelled h =
    let it = array_inside depth (omega arith) ts h.0 d rest spelled h.1 in
    let b = h.2 in
    let s = b.3 in
    let c = next_list fact_form fact_element b.0 (depth - 1) (length h.0) (omega arith) h.0 b.1 it.0 rest b.2
    (inside_values (depth - 1) h.0 it.0 rest it.2) in
    let at = stopped_list move_form move_element s.1 n (depth - 1) (length h.0 - 1) (omega arith) b.1 s.0 c.1 rest s.2 s.3 s.4 c.4 in
    let whole : d ≡ array (item c.0 (item at.0 at.1)) = it.1 ∙ ap array (c.2 ∙ ap (item c.0) at.3) in
    (refl, (c.0, at.0, at.2, ap (element_at 0) whole, ap (element_at 1) whole, ap is_some c.3, at.4))

-- ---- steps

-- the value behind some elements
value_behind : {A : Type 0} (least : ℕ) (form : Form A) → Says least form → (xs : List A) (depth n : ℕ) → least ≤ depth → (ts at : List Token) (is : Items)
    (rest : List Token) → StandsBehind form.taken xs ts at → after_end_array at ≡ None → Values depth n ts is rest
    → (d : Data) × (r : List Token) × (value_read depth at ≡ Some (d, r)) × (slice_get (listed is) (length xs) ≡ Some d)
value_behind least form says [] depth n deep ts at is rest h going v =
    let start : after_end_array ts ≡ None = ap after_end_array h ∙ going in
    let it = next_value depth n ts is rest start v in
    (it.0, it.2, subst (λ ts. value_read depth ts ≡ Some (it.0, it.2)) h it.4, ap (λ is. slice_get (listed is) 0) it.3)
value_behind least form says (x ∷ xs) depth n deep ts at is rest h going v =
    let it = next_value depth n ts is rest h.0 v in
    let both = says_some (form.said it.0) it.2 h.1.0 x (says_of least form says depth deep ts it.0 it.2 it.4 ∙ h.1.1) in
    let more = value_behind least form says xs depth (n - 1) deep h.1.0 at it.1 rest h.1.2 going
    (subst (λ r. Values depth (n - 1) r it.1 rest) both.1 (it.5, it.6)) in
    (more.0, more.1, more.2, ap (λ is. slice_get (listed is) (length (x ∷ xs))) it.3 ∙ more.3)

with_step : (v : Data) (number : ℕ) (step : Data) (it : Option Part) → IsFirstOther step_in v number step → IsStepMisfit number step (of_step number it)
    → IsStepsMisfit v (of_step number it)
with_step v number step None first h = (number, step, first, h)
with_step v number step (Some it) first h = (number, step, first, h)

pub steps_misfit : (depth : ℕ) → 11 ≤ depth → (m : Misfit) (ts : List Token) (v : Data) (rest : List Token) → value_read depth ts ≡ Some (v, rest)
    → StopsSteps m ts → IsStepsMisfit v m
steps_misfit depth deep m ts v rest spelled (inl h) = subst (IsStepsMisfit v) (sym h.0) (no_array depth ts v rest spelled h.1)
steps_misfit depth deep m ts v rest spelled (inr h) =
    let s = h.2 in
    let it = array_inside depth (omega arith) ts h.0 v rest spelled h.1 in
    let values = inside_values (depth - 1) h.0 it.0 rest it.2 in
    let step = value_behind 8 step_form step_element s.0 (depth - 1) (length h.0) (omega arith) h.0 s.1 it.0 rest s.3 s.4 values in
    let why = step_misfit (length s.0) (depth - 1) (omega arith) s.2 s.1 step.0 step.1 step.2 s.5 in
    let stopped = stops_items 8 step_form step_element (depth - 1) (length h.0) (omega arith) s.0 h.0 it.0 rest values.0 it.2 (steps_stop m h.0 s) in
    let at = stops_first step_form.said s.0 (listed it.0) stopped in
    let first : IsFirstOther step_in v (length s.0) step.0 =
    (listed it.0, ap elements it.1, (placed_first (λ e. is_some (step_in e)) (listed it.0) (length s.0) at.1 at.2, step.3)) in
    subst (IsStepsMisfit v) (sym s.6) (with_step v (length s.0) step.0 s.2 first why)

-- what was taken is what the value says
pub steps_found : (ts rest : List Token) (v : Data) (r : Result (List Step) Refused) → value_read 127 ts ≡ Some (v, []) → TakesArray r ts rest
    → Finds (λ steps. steps) r (steps_in v) × IfErr r (IsWhy (IsStepsMisfit v))
steps_found ts rest v (Ok steps) spelled h =
    (ap (named fault.WrongShape) (says_some (steps_in v) [] rest steps (says_of 6 steps_form steps_says 127 (omega arith) ts v [] spelled ∙ h)).0, tt)
steps_found ts rest v (Err (NotJson e)) spelled h = absurd h
steps_found ts rest v (Err (WrongShape m)) spelled h =
    let none = says_none (steps_in v) [] (says_of 6 steps_form steps_says 127 (omega arith) ts v [] spelled ∙ steps_none m ts h) in
    (ap (named fault.WrongShape) none, steps_misfit 127 (omega arith) m ts v [] spelled h)
steps_found ts rest v (Err (NumberTooLarge e)) spelled h = absurd h
steps_found ts rest v (Err Memory) spelled h = (tt, tt)

-- ---- why nothing is taken

pub array_unread : (ts rest : List Token) (why : Refused) → TakesArray (Err why) ts rest → FaultOf (unread_of why) (steps_form.taken ts)
array_unread ts rest (NotJson e) h = absurd h
array_unread ts rest (WrongShape m) h = steps_none m ts h
array_unread ts rest (NumberTooLarge e) h = absurd h
array_unread ts rest Memory h = tt

pub step_unread : (number : ℕ) (ts rest : List Token) (why : Refused) → TakesStep step_form.taken StepStops number (Err why) ts rest
    → FaultOf (unread_of why) (step_form.taken ts)
step_unread number ts rest (NotJson e) h = absurd h
step_unread number ts rest (WrongShape m) h = step_none h.0 ts h.2
step_unread number ts rest (NumberTooLarge e) h = absurd h
step_unread number ts rest Memory h = tt
