use Rattle.std.proofs.Common.{◌≡◌, ◌-◌, List, length, take, sym, ap, ◌∙◌, subst, arith}
use Rattle.std.proofs.lemmas.Grind.{common_steps}
use Rattle.tsn_model.specs.declared.Decision.{Decision}
use Rattle.tsn_model.specs.declared.Side.TheVariants.{Left}
use Rattle.tsn_model.specs.Search.{split}
use Rattle.tsn_model.proofs.Decisions.{length-decided, take-decided}
use Rattle.tsn_model.specs.Walk.{IsPlaceOf}
use Rattle.tsn_conflict.specs.Right.{SplitsUndecided}
use Rattle.tsn_conflict.specs.declared.outcome.Look.{Look}
use Rattle.tsn_conflict.specs.Outcome.{outcome_of}
use Rattle.tsn_book.specs.Arena.{settled_in}
use Rattle.tsn_book.specs.Book.{Progress, IsFault}
use Rattle.tsn_book.specs.Ledger.{progress_of, next_outcome, with_one}
use Rattle.tsn_book.proofs.Below.{above_push, left_place}
use Rattle.tsn_book.proofs.Ledgers.{places_made}
use Rattle.tsn_book.proofs.ledger.Ledger.split_at.Goals as goal

pub overflow_sub-depth : goal.overflow_sub-depth
overflow_sub-depth c =
    let long = ap length (c.path-2.ensures.value ∙ c.in_default.ensures.ok) ∙ length-decided c.args.walk.now c.args.triple Left in
    omega (arith, long)

pub settle_here-requires-clause-at : goal.settle_here-requires-clause-at
settle_here-requires-clause-at c =
    let above = above_push c.path-2.result.now c.path-3.result.now c.args.walk.now c.args.triple (c.path-2.ensures.value ∙ c.in_default.ensures.ok)
    (c.path-3.ensures.value ∙ c.in_default.ensures.ok) in
    subst (λ (path : List Decision). IsPlaceOf (settled_in c.args.self.now.tree) path c.args.place) (sym above) c.requires.at

pub settle_here-requires-clause-undecided : goal.settle_here-requires-clause-undecided
settle_here-requires-clause-undecided c =
    let above = above_push c.path-2.result.now c.path-3.result.now c.args.walk.now c.args.triple (c.path-2.ensures.value ∙ c.in_default.ensures.ok)
    (c.path-3.ensures.value ∙ c.in_default.ensures.ok) in
    rw c.requires.next (subst (λ (path : List Decision). SplitsUndecided c.args.self.now.tree.network path (split c.args.triple)) (sym above)
    c.requires.undecided)

pub returns-in-Err-settle_here-clause-stays : goal.returns-in-Err-settle_here-clause-stays
returns-in-Err-settle_here-clause-stays c =
    c.pop.ensures ∙ ap (λ (path : List Decision). take (length path - 1) path) c.in_default.ensures.ok ∙ take-decided c.args.walk.now c.args.triple Left

pub returns-in-Err-settle_here-clause-fault : goal.returns-in-Err-settle_here-clause-fault
returns-in-Err-settle_here-clause-fault c =
    let before = c.args.self.now in
    let above = above_push c.path-2.result.now c.path-3.result.now c.args.walk.now c.args.triple (c.path-2.ensures.value ∙ c.in_default.ensures.ok)
    (c.path-3.ensures.value ∙ c.in_default.ensures.ok) in
    subst (λ (look : Look). IsFault before.tree.network before.bounds.limit (settled_in before.tree)
    (record { path = c.args.walk.now; outcome = outcome_of look }) c.in-Err-settle_here.fault) c.requires.next
    (subst (λ (path : List Decision). IsFault before.tree.network before.bounds.limit (settled_in before.tree)
    (record { path = path; outcome = next_outcome before }) c.in-Err-settle_here.fault) above c.in-Err-settle_here.ensures.fault)

settled : (c : goal.After-len) → progress_of c.settle_here.new.self ≡ with_one c.args.self.now c.args.teller c.args.walk.now (split c.args.triple)
settled c =
    let before = c.args.self.now in
    let above = above_push c.path-2.result.now c.path-3.result.now c.args.walk.now c.args.triple (c.path-2.ensures.value ∙ c.in_default.ensures.ok)
    (c.path-3.ensures.value ∙ c.in_default.ensures.ok) in
    c.in_default-settle_here.ensures.ok
    ∙ ap (λ (path : List Decision). with_one before c.args.teller path (next_outcome before)) above
    ∙ ap (λ (look : Look). with_one before c.args.teller c.args.walk.now (outcome_of look)) c.requires.next

pub overflow_sub-result : goal.overflow_sub-result
overflow_sub-result c =
    (left_place (settled_in c.args.self.now.tree) (settled_in c.settle_here.new.self.tree) c.args.teller c.args.walk.now c.args.triple c.len.result
    (ap (λ (p : Progress). p.history) (settled c)) (c.len.ensures.count ∙ places_made c.settle_here.new.self c.settle_here.ensures.agrees)).0

pub returns : goal.returns
returns c =
    let left = left_place (settled_in c.args.self.now.tree) (settled_in c.settle_here.new.self.tree) c.args.teller c.args.walk.now c.args.triple c.len.result
    (ap (λ (p : Progress). p.history) (settled c)) (c.len.ensures.count ∙ places_made c.settle_here.new.self c.settle_here.ensures.agrees) in
    record {
      agrees = c.settle_here.ensures.agrees;
      ok = settled c;
      waiting = c.in_default-settle_here.ensures.waiting;
      walk = c.in_default.ensures.ok;
      at = subst (λ (path : List Decision). IsPlaceOf (settled_in c.settle_here.new.self.tree) path (c.len.result - 2)) (sym c.in_default.ensures.ok) left.1;
      refused = tt;
      stays = tt;
      fault = tt;
    }

pub push-requires : goal.push-requires
push-requires c = grind (arith, common_steps) steps 2000000
