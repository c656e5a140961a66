use Rattle.std.proofs.Common.{◌≡◌, ◌+◌, ◌<◌, ◌≤◌, Some, option_map, position, length, drop, refl, ap, sym, ◌∙◌}
use Rattle.std.specs.Prelude.{is_some}
use Rattle.std.specs.Str.{bytes_eq}
use Rattle.std.proofs.lemmas.List.{length-map}
use Rattle.tsn_net.specs.DocumentView.{texts_view}
use Rattle.tsn_net.specs.Matter.{first_again}
use Rattle.tsn_net.proofs.RouteLemmas.{repeats-found, repeats-passed, text-at, text_in, behind, find-after, find-at}
use Rattle.tsn_net.proofs.routes.repeated.Goals as goal

pub returns-in-Some-clause-twice : goal.returns-in-Some-clause-twice
returns-in-Some-clause-twice c =
    let names = c.args.names.now in
    let i = c.loop-i.i in
    let at = behind names i c.index-names-i.result _ c.loop-i-test.true c.index-names-i.is (rw (← c.text-name.ensures) c.number_of_text.ensures) in
    sym (sym c.loop-i.invariant.0 ∙ repeats-found names i c.index-names-i.result c.loop-i-test.true c.index-names-i.is
    (sym at.2 ∙ ap is_some c.in-Some.is))

pub returns-in-Some-clause-first : goal.returns-in-Some-clause-first
returns-in-Some-clause-first c =
    let names = c.args.names.now in
    let i = c.loop-i.i in
    let at = behind names i c.index-names-i.result _ c.loop-i-test.true c.index-names-i.is (rw (← c.text-name.ensures) c.number_of_text.ensures) in
    let within : i < length (texts_view names) = rw (length-map names text_in) c.loop-i-test.true in
    ap is_some (sym (sym c.loop-i.invariant.1 ∙ find-at _ i (length (texts_view names)) within (at.1 ∙ ap is_some c.in-Some.is)))

pub returns-in-Some-clause-so : goal.returns-in-Some-clause-so
returns-in-Some-clause-so c = λ nodes.
    let names = c.args.names.now in
    let i = c.loop-i.i in
    let at = behind names i c.index-names-i.result _ c.loop-i-test.true c.index-names-i.is (rw (← c.text-name.ensures) c.number_of_text.ensures) in
    let within : i < length (texts_view names) = rw (length-map names text_in) c.loop-i-test.true in
    let two : 2 ≤ length (texts_view names) = rw (length-map names text_in) c.requires in
    let first : first_again (texts_view names) ≡ Some i =
    sym c.loop-i.invariant.1 ∙ find-at _ i (length (texts_view names)) within (at.1 ∙ ap is_some c.in-Some.is) in
    let here = c.text-name.ensures ∙ text-at names i c.index-names-i.result c.loop-i-test.true c.index-names-i.is in
    let again : option_map (λ b. i + 1 + b) (position (bytes_eq c.text-name.result.now) (drop (i + 1) (texts_view names)))
    ≡ Some (i + 1 + c.in-Some.behind) =
    ap (option_map (λ b. i + 1 + b)) (sym (rw c.text-name.ensures at.0) ∙ c.in-Some.is) in
    (refl, (two, first, here, again))

pub loop-i-preserved : goal.loop-i-preserved
loop-i-preserved c =
    let names = c.args.names.now in
    let i = c.loop-i.i in
    let at = behind names i c.index-names-i.result _ c.loop-i-test.true c.index-names-i.is (rw (← c.text-name.ensures) c.number_of_text.ensures) in
    let within : i < length (texts_view names) = rw (length-map names text_in) c.loop-i-test.true in
    let none = ap is_some c.in_default.is in (
      sym (repeats-passed names i c.index-names-i.result c.loop-i-test.true c.index-names-i.is (sym at.2 ∙ none)) ∙ c.loop-i.invariant.0,
      sym (find-after _ i (length (texts_view names)) within (at.1 ∙ none)) ∙ c.loop-i.invariant.1,
    )
