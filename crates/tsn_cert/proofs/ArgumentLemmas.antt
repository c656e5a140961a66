-- What is printed of an argument is read again.
use Rattle.std.proofs.Common.{◌≡◌, Some, None, true, refl, ap, ◌∙◌, arith, lit<, lit≤}
use Rattle.std.specs.Prelude.{option_and_then, nat_le}
use Rattle.std.specs.List.{list_all}
use Rattle.std.proofs.lemmas.Bool.{and_parts}
use Rattle.json.proofs.Printed.Utf8.{are_ascii}
use Rattle.serde_json.specs.Data.{string}
use Rattle.serde_json.specs.Read.{max_depth}
use Rattle.tsn_cert.specs.Fault.{shaped, answer}
use Rattle.tsn_cert.specs.Plan.{max_time}
use Rattle.tsn_cert.specs.Fact.{clause_in, clause_value}
use Rattle.tsn_cert.specs.Move.{moves_in, moves_value}
use Rattle.tsn_cert.specs.Argument.{step_in, step_value, step_fits, steps_in, steps_value, goal_of, goal_word, argument_of, argument_value, argument_fits}
use Rattle.tsn_cert.specs.Certificate.{tree_or, certificate_of, certificate_fits}
use Rattle.tsn_cert.specs.ArgumentLaws.{IsArgumentInGrammar, ArgumentIsReadAgain}
use Rattle.tsn_cert.specs.declared.step.Step.{Step}
use Rattle.tsn_cert.specs.declared.argument.Argument.{Argument}
use Rattle.tsn_cert.specs.declared.argument.Goal.{Goal}
use Rattle.tsn_cert.specs.declared.argument.Goal.TheVariants as aim
use Rattle.tsn_cert.proofs.FactLemmas.{clause_written}
use Rattle.tsn_cert.proofs.MoveLemmas.{moves_written}
use Rattle.tsn_cert.proofs.Values.{IsWritten, read_again, deeper, both, one, array_written, list_written, time_written}

-- ---- steps

pub step_written : (s : Step) → IsWritten 5 (step_fits s) (step_value s)
step_written s = array_written (both (one (deeper (lit≤ tt) (clause_written s.clause))) (one (moves_written s.moves)))

pub step_back : (s : Step) → clause_in (clause_value s.clause) ≡ Some s.clause → moves_in (moves_value s.moves) ≡ Some s.moves → step_in (step_value s) ≡ Some s
step_back s clause moves =
    let rest = moves_in (moves_value s.moves) in
    ap (λ o. option_and_then (λ fs. option_and_then (λ ms. Some (record { clause = fs; moves = ms })) rest) o) clause
    ∙ ap (λ o. option_and_then (λ ms. Some (record { clause = s.clause; moves = ms })) o) moves

-- ---- arguments

goal_back : (g : Goal) → goal_of (string (goal_word g)) ≡ Some g
goal_back aim.First = refl
goal_back aim.Least = refl
goal_back aim.None = refl

goal_ascii : (g : Goal) → are_ascii (goal_word g) ≡ true
goal_ascii aim.First = refl
goal_ascii aim.Least = refl
goal_ascii aim.None = refl

pub argument_written : (a : Argument) → IsWritten max_depth (argument_fits a) (argument_value a)
argument_written a =
    let steps : IsWritten 6 (list_all step_fits a.steps) (steps_value a.steps) = list_written step_fits step_value step_written a.steps in
    let time : IsWritten 0 (nat_le a.target max_time) _ = time_written a.target in
    let low = steps.shallow in
    let none = steps.no_float in
    record {
      shallow = omega (arith, low);
      no_float = rw none refl;
      plain = λ h.
          let parts = and_parts (nat_le a.target max_time) (list_all step_fits a.steps) h in
          ((refl, lit< tt, (refl, goal_ascii a.goal, (refl, steps.plain parts.1, (refl, time.plain parts.0, tt)))), refl);
    }

pub argument_back : (a : Argument) → steps_in (steps_value a.steps) ≡ Some a.steps → argument_of (argument_value a) ≡ Some a
argument_back a steps =
    let rest = steps_in (steps_value a.steps) in
    ap (λ o. option_and_then (λ g. option_and_then (λ ss. Some (record { goal = g; target = a.target; steps = ss })) rest) o) (goal_back a.goal)
    ∙ ap (λ o. option_and_then (λ ss. Some (record { goal = a.goal; target = a.target; steps = ss })) o) steps

-- the file of an argument within the limits says that argument, where the grammar has it
pub argument_read_again : (a : Argument) → IsArgumentInGrammar a → argument_fits a ≡ true → ArgumentIsReadAgain a
argument_read_again a form fits =
    ap (answer certificate_of certificate_fits) (read_again (argument_written a) fits)
    ∙ ap (λ o. shaped certificate_fits (tree_or None o)) form ∙ rw fits refl

-- where lists have one
