use Rattle.std.proofs.Common.{◌≡◌, true, Some, None, option_map, refl, sym, ◌∙◌, rules, tests}
use Rattle.tsn_net.specs.Schema.{is_table}
use Rattle.tsn_net.specs.Document.{table_at, value_at}
use Rattle.tsn_net.specs.DocumentView.{document_view}
use Rattle.tsn_net.specs.Conditions.{holds, missing_key}
use Rattle.tsn_net.specs.Matter.{absent_key, other_key}
use Rattle.tsn_net.proofs.MatterLemmas.{missing-found}
use Rattle.tsn_net.proofs.document.Document.missing_key.Goals as goal

pub returns-in-Some : goal.returns-in-Some
unfolding holds missing_key
returns-in-Some c =
    let d = value_at (document_view c.args.self.now) c.args.place in
    let is : is_table d ≡ true = search (rules, tests) in
    let found : absent_key (table_at c.args.place) d ≡ Some c.in-Some.key =
    rw (← c.value_at-value.ensures, ← c.table_at-table.ensures) (sym c.absent_key.ensures ∙ c.in-Some.is) in
    let beside : option_map (λ name. name.now) c.other_key.result ≡ other_key (table_at c.args.place) d =
    rw (← c.value_at-value.ensures, ← c.table_at-table.ensures) c.other_key.ensures.first in
    (missing-found (table_at c.args.place) d (Some c.in-Some.key) is found, (refl, (found, beside)))

pub returns-in-None : goal.returns-in-None
unfolding holds missing_key
returns-in-None c =
    let d = value_at (document_view c.args.self.now) c.args.place in
    let is : is_table d ≡ true = search (rules, tests) in
    let found : absent_key (table_at c.args.place) d ≡ None = rw (← c.value_at-value.ensures, ← c.table_at-table.ensures) (sym c.absent_key.ensures
    ∙ c.in-None.is) in
    (missing-found (table_at c.args.place) d None is found, tt)
