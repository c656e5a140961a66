use Rattle.std.proofs.Common.{◌≡◌, ◌<◌, map, take, drop, length, rules, sym, ap, ◌∙◌, false, true, arith}
use Rattle.std.proofs.lemmas.List.{take-map}
use Rattle.std.proofs.lemmas.Grind.{elements}
use Rattle.tsn_model.specs.Network.{Network}
use Rattle.tsn_model.specs.Search.{tally_of}
use Rattle.tsn_conflict.specs.Outcome.{outcome_of}
use Rattle.tsn_incumbent.specs.Halves.{half}
use Rattle.tsn_book.specs.declared.refusal.BatchRefusal.{BatchRefusal}
use Rattle.tsn_book.specs.declared.event.Event.{Event}
use Rattle.tsn_book.specs.Event.{event_of}
use Rattle.tsn_incumbent.proofs.Batching.{outcomes_given, history_taken, halves_taken, takes_all, takes_some}
use Rattle.tsn_incumbent.proofs.desk.Desk.settle_all.Goals as goal

pub invariant_of-self : goal.invariant_of-self
invariant_of-self g c =
    let names = g.K.Named.names in
    let k = c.args.owner.teller in
    let call = c.settle_all-settled in
    let before = c.self.inside.book in
    let items = c.args.events.items in
    let outcomes = map (λ (event : Event). outcome_of event.look) items in
    let events = map event_of items in
    let more = history_taken call.result (λ (r : BatchRefusal). r.settled) (λ (r : BatchRefusal). map event_of (take r.settled items))
    (λ (r : BatchRefusal). r.settled < length items) (λ (r : BatchRefusal). r.rest.items ≡ drop r.settled items)
    before call.new.self k events (λ (r : BatchRefusal). sym (take-map event_of r.settled items)) call.ensures.all call.ensures.some in
    let network = call.ensures.network ∙ c.self.invariant.0.network in
    let tally = c.tally-tally.ensures.tally ∙ ap (λ (n : Network). tally_of n k call.new.self.history) network in
    let within : k < length c.self.inside.halves.items = omega (arith, c.requires.within, c.self.invariant.1.count) in
    let mine = c.set_in_place.ensures.second ∙ (λ i. half (c.requires.table i) ((c.requires.share i).number) true (tally i)) in (
      record { network = network; tellers = call.ensures.tellers ∙ c.self.invariant.0.tellers; limit = call.ensures.limit ∙ c.self.invariant.0.limit },
      halves_taken call.result (λ (r : BatchRefusal). r.settled) names before call.new.self k events more c.self.inside.halves.items c.set_in_place.new.second c.self.invariant.1 within mine,
    )

pub returns-clause-all : goal.returns-clause-all
returns-clause-all g c =
    let names = g.K.Named.names in
    let k = c.args.owner.teller in
    let call = c.settle_all-settled in
    let before = c.self.inside.book in
    let items = c.args.events.items in
    let outcomes = map (λ (event : Event). outcome_of event.look) items in
    let events = map event_of items in
    let more = history_taken call.result (λ (r : BatchRefusal). r.settled) (λ (r : BatchRefusal). map event_of (take r.settled items))
    (λ (r : BatchRefusal). r.settled < length items) (λ (r : BatchRefusal). r.rest.items ≡ drop r.settled items)
    before call.new.self k events (λ (r : BatchRefusal). sym (take-map event_of r.settled items)) call.ensures.all call.ensures.some in
    let network = call.ensures.network ∙ c.self.invariant.0.network in
    let tally = c.tally-tally.ensures.tally ∙ ap (λ (n : Network). tally_of n k call.new.self.history) network in
    let share : c.args.share.now.tally ≡ tally_of names.race.network k before.history = search rules in
    let is = c.set_in_place.ensures.first ∙ (λ i. half (c.requires.table i) ((c.requires.share i).number) false (tally i)) in
    takes_all call.result (λ (r : BatchRefusal). r.settled) names before call.new.self k events more c.args.share.now c.set_in_place.new.first outcomes (outcomes_given items) share is

pub returns-clause-some : goal.returns-clause-some
returns-clause-some g c =
    let names = g.K.Named.names in
    let k = c.args.owner.teller in
    let call = c.settle_all-settled in
    let before = c.self.inside.book in
    let items = c.args.events.items in
    let outcomes = map (λ (event : Event). outcome_of event.look) items in
    let events = map event_of items in
    let more = history_taken call.result (λ (r : BatchRefusal). r.settled) (λ (r : BatchRefusal). map event_of (take r.settled items))
    (λ (r : BatchRefusal). r.settled < length items) (λ (r : BatchRefusal). r.rest.items ≡ drop r.settled items)
    before call.new.self k events (λ (r : BatchRefusal). sym (take-map event_of r.settled items)) call.ensures.all call.ensures.some in
    let network = call.ensures.network ∙ c.self.invariant.0.network in
    let tally = c.tally-tally.ensures.tally ∙ ap (λ (n : Network). tally_of n k call.new.self.history) network in
    let share : c.args.share.now.tally ≡ tally_of names.race.network k before.history = search rules in
    let is = c.set_in_place.ensures.first ∙ (λ i. half (c.requires.table i) ((c.requires.share i).number) false (tally i)) in
    takes_some call.result (λ (r : BatchRefusal). r.settled) names before call.new.self k events more c.args.share.now c.set_in_place.new.first outcomes (outcomes_given items) share is
    (λ (r : BatchRefusal). r.settled < length items) _ (λ (r : BatchRefusal). r.rest.items ≡ drop r.settled items) call.ensures.some

pub settle_all-settled-requires-clause-teller : goal.settle_all-settled-requires-clause-teller
settle_all-settled-requires-clause-teller c = grind (arith, elements) steps 2000000

pub settle_all-settled-requires-clause-proofs : goal.settle_all-settled-requires-clause-proofs
settle_all-settled-requires-clause-proofs c = grind (arith, elements) steps 2000000

pub tally-tally-requires : goal.tally-tally-requires
tally-tally-requires c = grind (arith, elements) steps 2000000

pub set_in_place-requires-clause-first : goal.set_in_place-requires-clause-first
set_in_place-requires-clause-first c = grind (arith, elements) steps 2000000

pub set_in_place-requires-clause-second : goal.set_in_place-requires-clause-second
set_in_place-requires-clause-second c = grind (arith, elements) steps 2000000

pub set_in_place-requires-clause-number : goal.set_in_place-requires-clause-number
set_in_place-requires-clause-number c = grind (arith, elements) steps 2000000
