use Rattle.std.proofs.Common.{◌++◌, ◌∷◌, [], map, reverse, sym, ap, ◌∙◌, subst, arith}
use Rattle.std.specs.Prelude.{All}
use Rattle.std.proofs.lemmas.List.{map-append}
use Rattle.std.proofs.lemmas.Grind.{common_steps}
use Rattle.tsn_model.specs.Network.{Network}
use Rattle.tsn_conflict.specs.Outcome.{outcome_of}
use Rattle.tsn_conflict.specs.Right.{HasProof}
use Rattle.tsn_book.specs.declared.event.Event.{Event}
use Rattle.tsn_book.specs.Event.{event_of}
use Rattle.tsn_book.specs.Book.{Progress, IsFault}
use Rattle.tsn_book.proofs.Below.{book_after, settled_more, here, next_first, one_more, settled_count, refused_event}
use Rattle.tsn_book.proofs.book.Book.settle_all.Goals as goal

pub settle-requires-clause-proof : goal.settle-requires-clause-proof
settle-requires-clause-proof c =
    let i = c.loop-event.invariant in
    let event = c.in-Some.event in
    let P : Event → Type 0 = λ e. HasProof c.args.self.now.network e.node (outcome_of e.look) in
    let next = next_first c.args.events.items i.taken c.loop-event.rest.items c.pop.new.self.items event i.all c.in-Some.ensures.items in
    subst (λ (n : Network). HasProof n event.node (outcome_of event.look)) (sym (ap (λ (p : Progress). p.network) i.settled))
    (here P i.taken event (reverse c.pop.new.self.items) (subst (All P) next c.requires.proofs))

pub loop-event-preserved : goal.loop-event-preserved
loop-event-preserved c =
    let i = c.loop-event.invariant in
    let event = c.in-Some.event in
    let next = next_first c.args.events.items i.taken c.loop-event.rest.items c.pop.new.self.items event i.all c.in-Some.ensures.items in
    record {
      taken = i.taken ++ event ∷ [];
      all = one_more c.args.events.items i.taken event (reverse c.pop.new.self.items) next;
      settled =
          settled_more c.args.self.now c.loop-event.self c.settle.new.self c.args.teller (map event_of i.taken) (event_of event)
          i.settled c.in_default-settle.ensures.ok
          ∙ ap (book_after c.args.self.now c.args.teller) (sym (map-append event_of i.taken (event ∷ [])));
      lawful = c.in_default-settle.ensures.lawful;
    }

pub returns-in-Err-clause-fault : goal.returns-in-Err-clause-fault
returns-in-Err-clause-fault c =
    let i = c.loop-event.invariant in
    let book = c.args.self.now in
    let now = c.settle.new.self in
    let event = c.in-Some.event in
    let next = next_first c.args.events.items i.taken c.loop-event.rest.items c.pop.new.self.items event i.all c.in-Some.ensures.items in
    let settled = c.in-Err.ensures.refused ∙ i.settled in
    let many = settled_count book now c.args.teller (map event_of i.taken) settled in
    let is = subst (λ (p : Progress). IsFault p.network p.limit p.history (event_of event) c.in-Err.refused.fault) (sym c.in-Err.ensures.refused)
    c.in-Err.ensures.fault in
    refused_event book now c.args.teller c.args.events.items i.taken event (reverse c.pop.new.self.items) _ c.in-Err.refused.fault next settled
    (omega (arith, many, c.count.ensures.count, c.count-before.ensures.count)) is

pub loop-event-init : goal.loop-event-init
loop-event-init c = grind (arith, common_steps) steps 2000000

pub returns-clause-some : goal.returns-clause-some
returns-clause-some c = grind (arith, common_steps) steps 2000000

pub returns-clause-fault : goal.returns-clause-fault
returns-clause-fault c = grind (arith, common_steps) steps 2000000

pub returns-clause-lawful : goal.returns-clause-lawful
returns-clause-lawful c = grind (arith, common_steps) steps 2000000
