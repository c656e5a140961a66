-- The text of an argument in parts, and what it says.
use Rattle.std.proofs.Common.{◌≡◌, ℕ, List, [], ◌∷◌, ◌++◌, Bool, true, false, Some, Ok, map, codes, decimal, refl, sym, ap, ◌∙◌, append_assoc, lit<}
use Rattle.std.proofs.lemmas.Fmt.{decimal_digit}
use Rattle.json.specs.Print.{escape_byte}
use Rattle.serde_json.specs.Written.{comma_if, compact_text, items_text}
use Rattle.tsn_cert.specs.Json.{items_of_list, file_text, value_of}
use Rattle.tsn_cert.specs.Fault.{shaped, answer}
use Rattle.tsn_cert.specs.Argument.{step_value, argument_of, argument_fits, argument_in, argument_value}
use Rattle.tsn_cert.specs.ArgumentText.{head_text, steps_text, tail_text, ArgumentTextHasParts}
use Rattle.tsn_cert.specs.declared.step.Step.{Step}
use Rattle.tsn_cert.specs.declared.argument.Argument.{Argument}
use Rattle.tsn_cert.specs.declared.argument.Goal.{Goal}
use Rattle.tsn_cert.specs.declared.argument.Goal.TheVariants as aim

-- the elements of an array of steps, and what stands behind its bracket
items_parts : (later : Bool) (steps : List Step) (rest : List ℕ)
    → items_text later (items_of_list (map step_value steps)) ++ rest ≡ steps_text later steps ++ 93 ∷ rest
items_parts later [] rest = refl
items_parts later (step ∷ steps) rest =
    let comma = comma_if later in
    let text = compact_text (step_value step) in
    let others = items_text true (items_of_list (map step_value steps)) in
    append_assoc comma (text ++ others) rest
    ∙ ap (λ l. comma ++ l) (append_assoc text others rest ∙ ap (λ l. text ++ l) (items_parts true steps rest))
    ∙ sym (append_assoc (comma ++ text) (steps_text true steps) (93 ∷ rest) ∙ append_assoc comma text (steps_text true steps ++ 93 ∷ rest))

-- the steps, and what stands behind them
steps_parts : (steps : List Step) (target : ℕ)
    → (items_text false (items_of_list (map step_value steps)) ++ (codes ",\"target\":" ++ (decimal target ++ 125 ∷ []))) ++ 10 ∷ []
    ≡ steps_text false steps ++ tail_text target
steps_parts steps target =
    let items = items_text false (items_of_list (map step_value steps)) in
    let end = codes ",\"target\":" ++ (decimal target ++ 125 ∷ []) in
    let ended : end ++ 10 ∷ [] ≡ codes ",\"target\":" ++ (decimal target ++ codes "}\n") =
    ap (λ l. codes ",\"target\":" ++ l) (append_assoc (decimal target) (125 ∷ []) (10 ∷ [])) in
    append_assoc items end (10 ∷ []) ∙ items_parts false steps (end ++ 10 ∷ []) ∙ ap (λ l. steps_text false steps ++ 93 ∷ l) ended

three : decimal 3 ≡ 51 ∷ []
three = decimal_digit 3 (lit< tt)

goal_parts : (goal : Goal) (steps : List Step) (target : ℕ)
    → file_text (argument_value (record { goal = goal; target = target; steps = steps })) ≡ head_text goal ++ (steps_text false steps ++ tail_text target)
unfolding escape_byte
goal_parts aim.First steps target = rw three (ap (λ l. head_text aim.First ++ l) (steps_parts steps target))
goal_parts aim.Least steps target = rw three (ap (λ l. head_text aim.Least ++ l) (steps_parts steps target))
goal_parts aim.None steps target = rw three (ap (λ l. head_text aim.None ++ l) (steps_parts steps target))

pub argument_text_parts : ArgumentTextHasParts
argument_text_parts argument = goal_parts argument.goal argument.steps argument.target

pub argument_in-printed : (s : List ℕ) (a : Argument) → value_of s ≡ Some (argument_value a) → argument_of (argument_value a) ≡ Some a
    → argument_fits a ≡ true → argument_in s ≡ Ok a
argument_in-printed s a e back fits = ap (answer argument_of argument_fits) e ∙ ap (shaped argument_fits) back ∙ rw fits refl
