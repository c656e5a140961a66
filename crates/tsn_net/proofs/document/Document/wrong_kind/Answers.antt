use Rattle.std.proofs.Common.{◌≡◌, true, Some, None, refl, sym, ◌∙◌, rules, tests}
use Rattle.tsn_net.specs.Schema.{is_table}
use Rattle.tsn_net.specs.Document.{table_at, value_at}
use Rattle.tsn_net.specs.DocumentView.{document_view}
use Rattle.tsn_net.specs.Conditions.{holds, wrong_kind}
use Rattle.tsn_net.specs.Matter.{amiss_key}
use Rattle.tsn_net.proofs.MatterLemmas.{amiss-found}
use Rattle.tsn_net.proofs.document.Document.wrong_kind.Goals as goal

pub returns-in-Some : goal.returns-in-Some
unfolding holds wrong_kind
returns-in-Some c =
    let d = value_at (document_view c.args.self.now) c.args.place in
    let is : is_table d ≡ true = search (rules, tests) in
    let found : amiss_key (table_at c.args.place) d ≡ Some c.in-Some.key =
    rw (← c.value_at-value.ensures, ← c.table_at.ensures) (sym c.amiss_key.ensures ∙ c.in-Some.is) in
    (amiss-found (table_at c.args.place) d (Some c.in-Some.key) is found, (refl, (is, found)))

pub returns-in-None : goal.returns-in-None
unfolding holds wrong_kind
returns-in-None c =
    let d = value_at (document_view c.args.self.now) c.args.place in
    let is : is_table d ≡ true = search (rules, tests) in
    let found : amiss_key (table_at c.args.place) d ≡ None = rw (← c.value_at-value.ensures, ← c.table_at.ensures) (sym c.amiss_key.ensures ∙ c.in-None.is) in
    (amiss-found (table_at c.args.place) d None is found, tt)
