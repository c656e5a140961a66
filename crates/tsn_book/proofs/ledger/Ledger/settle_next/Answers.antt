use Rattle.std.proofs.Common.{◌≡◌, List, sym, ap, ◌∙◌, subst, arith}
use Rattle.std.specs.Prelude.{OnOk}
use Rattle.std.proofs.lemmas.Grind.{common_steps}
use Rattle.tsn_model.specs.declared.Decision.{Decision}
use Rattle.tsn_model.specs.Search.{Settlement}
use Rattle.tsn_model.specs.Walk.{IsPlaceOf}
use Rattle.tsn_model.proofs.Walking.{place_stays}
use Rattle.tsn_conflict.specs.declared.outcome.Look.{Look}
use Rattle.tsn_conflict.specs.Outcome.{outcome_of}
use Rattle.tsn_book.specs.Arena.{settled_in, IsLeafOutcome}
use Rattle.tsn_book.specs.Book.{Progress}
use Rattle.tsn_book.specs.Below.{next_path}
use Rattle.tsn_book.specs.Ledger.{next_outcome}
use Rattle.tsn_book.proofs.Below.{split_next, closes_leaf}
use Rattle.tsn_book.proofs.ledger.Ledger.settle_next.Goals as goal

pub split_at-requires-clause-next : goal.split_at-requires-clause-next
split_at-requires-clause-next c = sym c.next.ensures ∙ c.in-Some.ensures

pub returns-in-Some-clause-walk : goal.returns-in-Some-clause-walk
returns-in-Some-clause-walk c =
    let walk = c.args.walk.now in
    let is = sym c.in-Some.ensures ∙ c.next.ensures in
    subst (λ (path : List Decision). OnOk c.split_at.result (c.split_at.new.walk ≡ path))
    (split_next walk c.in-Some.triple ∙ ap (λ (look : Look). next_path walk (outcome_of look)) is) c.split_at.ensures.walk

pub go_on-requires-clause-at : goal.go_on-requires-clause-at
go_on-requires-clause-at c =
    let ledger = c.args.self.now in
    let settlement : Settlement = record { teller = c.args.teller; event = record { path = c.path.result.now; outcome = next_outcome ledger } } in
    subst (λ (history : List Settlement). IsPlaceOf history c.args.walk.now c.args.place) (sym (ap (λ (p : Progress). p.history) c.in-Ok.ensures.ok))
    (place_stays (settled_in ledger.tree) settlement c.args.walk.now c.args.place c.requires.at)

pub returns-in-Ok-clause-walk : goal.returns-in-Ok-clause-walk
returns-in-Ok-clause-walk c =
    c.go_on.ensures.walk ∙ sym (closes_leaf c.args.walk.now (next_outcome c.args.self.now)
    (subst (λ (look : Look). IsLeafOutcome (outcome_of look)) c.next.ensures c.in_default.ensures))

pub split_at-requires-clause-agrees : goal.split_at-requires-clause-agrees
split_at-requires-clause-agrees c = grind (arith, common_steps) steps 2000000

pub split_at-requires-clause-at : goal.split_at-requires-clause-at
split_at-requires-clause-at c = grind (arith, common_steps) steps 2000000

pub returns-in-Some-clause-agrees : goal.returns-in-Some-clause-agrees
returns-in-Some-clause-agrees c = grind (arith, common_steps) steps 2000000

pub returns-in-Some-clause-waiting : goal.returns-in-Some-clause-waiting
returns-in-Some-clause-waiting c = grind (arith, common_steps) steps 2000000

pub returns-in-Some-clause-at : goal.returns-in-Some-clause-at
returns-in-Some-clause-at c = grind (arith, common_steps) steps 2000000

pub returns-in-Some-clause-refused : goal.returns-in-Some-clause-refused
returns-in-Some-clause-refused c = grind (arith, common_steps) steps 2000000

pub returns-in-Some-clause-stays : goal.returns-in-Some-clause-stays
returns-in-Some-clause-stays c = grind (arith, common_steps) steps 2000000

pub settle_here-requires-clause-agrees : goal.settle_here-requires-clause-agrees
settle_here-requires-clause-agrees c = grind (arith, common_steps) steps 2000000
