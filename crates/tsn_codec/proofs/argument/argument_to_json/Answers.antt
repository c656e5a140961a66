use Rattle.std.proofs.Common.{◌≡◌, ◌∙◌, ap, map, subst, Some, codes}
use Rattle.serde_json.specs.Data.{object, string, member, no_members}
use Rattle.serde_json.specs.View.{view}
use Rattle.serde_json.specs.Written.{has_float}
use Rattle.tsn_cert.specs.Argument.{argument_format, argument_value, goal_word, step_value, steps_in, steps_value}
use Rattle.tsn_cert.specs.Json.{array_value, file_text, number_value}
use Rattle.tsn_cert.proofs.ArgumentLemmas.{argument_back, argument_written}
use Rattle.tsn_codec.proofs.ArgumentParts.{argument_in-printed}
use Rattle.tsn_codec.proofs.Elements.{map_same}
use Rattle.tsn_codec.proofs.argument.argument_to_json.Goals as goal

pub returns-clause-text : goal.returns-clause-text
returns-clause-text c =
    let a = c.args.argument.now in
    let steps : view c.in_ok-steps.steps ≡ steps_value a.steps =
    c.in_ok-steps.ensures.value ∙ ap (λ xs. array_value (map step_value xs)) (map_same c.list.result.now ∙ c.list.ensures) in
    let is : view c.in_ok-value.value ≡ argument_value a =
    c.in_ok-value.ensures
    ∙ ap (λ d. object (member (codes "format") (number_value argument_format) (member (codes "goal") (string (goal_word a.goal))
    (member (codes "steps") d (member (codes "target") (number_value a.target) no_members))))) steps in
    c.in_ok-file_text.ensures.text (ap has_float is ∙ (argument_written a).no_float) ∙ ap file_text is

pub returns-clause-reads_back : goal.returns-clause-reads_back
returns-clause-reads_back c fits =
    let a = c.args.argument.now in
    let same = map_same c.list.result.now ∙ c.list.ensures in
    let steps : view c.in_ok-steps.steps ≡ steps_value a.steps = c.in_ok-steps.ensures.value ∙ ap (λ xs. array_value (map step_value xs)) same in
    let is : view c.in_ok-value.value ≡ argument_value a =
    c.in_ok-value.ensures
    ∙ ap (λ d. object (member (codes "format") (number_value argument_format) (member (codes "goal") (string (goal_word a.goal))
    (member (codes "steps") d (member (codes "target") (number_value a.target) no_members))))) steps in
    let back = subst (λ xs. steps_in (array_value (map step_value xs)) ≡ Some xs) same c.in_ok-steps.ensures.reads_back in
    let read = c.in_ok-file_text.ensures.reads_back (rw is (argument_written a).shallow) ∙ ap Some is in
    argument_in-printed _ a read (argument_back a back) fits

pub returns-clause-grammar : goal.returns-clause-grammar
returns-clause-grammar c =
    let a = c.args.argument.now in
    let same = map_same c.list.result.now ∙ c.list.ensures in
    argument_back a (subst (λ xs. steps_in (array_value (map step_value xs)) ≡ Some xs) same c.in_ok-steps.ensures.reads_back)
