use Rattle.std.proofs.Common.{ℕ, List, not, ap, sym, ◌∙◌}
use Rattle.std.specs.Prelude.{is_some}
use Rattle.std.specs.List.{find}
use Rattle.tsn_net.specs.DocumentView.{texts_view}
use Rattle.tsn_net.specs.Conditions.{is_name}
use Rattle.tsn_net.proofs.MatterLemmas.{found_amiss}
use Rattle.tsn_model.proofs.Rest.{rest_seen, rest_none, find_here, find_later}
use Rattle.tsn_net.proofs.RouteLemmas.{text_in}
use Rattle.tsn_net.proofs.tables.no_name_in.Goals as goal

pub returns-then-not-is_name-clause-first : goal.returns-then-not-is_name-clause-first
returns-then-not-is_name-clause-first c =
    let vs = c.args.texts.now in
    let i = c.loop-value.value-index in
    let name = c.text-name.result.now in
    let next = rest_seen text_in vs i c.value-item.result name c.loop-value-test.true c.value-item.is c.text-name.ensures in
    find_here (λ (n : List ℕ). not (is_name n)) _ _ name next _
    (ap not (sym c.is_name.ensures ∙ c.if-not-is_name.true)) c.loop-value.invariant

pub returns-then-not-is_name-clause-found : goal.returns-then-not-is_name-clause-found
returns-then-not-is_name-clause-found c = ap is_some (returns-then-not-is_name-clause-first c)
    ∙ found_amiss (is_name) (texts_view c.args.texts.now)

pub loop-value-preserved : goal.loop-value-preserved
loop-value-preserved c =
    let vs = c.args.texts.now in
    let i = c.loop-value.value-index in
    let name = c.text-name.result.now in
    let next = rest_seen text_in vs i c.value-item.result name c.loop-value-test.true c.value-item.is c.text-name.ensures in
    find_later (λ (n : List ℕ). not (is_name n)) _ _ name next _
    (ap not (sym c.is_name.ensures ∙ c.if-not-is_name.false)) c.loop-value.invariant

pub returns-clause-first : goal.returns-clause-first
returns-clause-first c =
    let vs = c.args.texts.now in
    sym (ap (find (λ n. not (is_name n)))
    (rest_none text_in vs c.loop-value.value-index c.loop-value-test.false)) ∙ c.loop-value.invariant

pub returns-clause-found : goal.returns-clause-found
returns-clause-found c = ap is_some (returns-clause-first c)
    ∙ found_amiss (is_name) (texts_view c.args.texts.now)
