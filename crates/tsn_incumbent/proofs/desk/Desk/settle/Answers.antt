use Rattle.std.proofs.Common.{◌≡◌, ◌<◌, length, rules, ap, ◌∙◌, subst, false, true, arith}
use Rattle.std.specs.Prelude.{OnErr}
use Rattle.std.proofs.lemmas.Grind.{elements}
use Rattle.tsn_model.specs.Network.{Network}
use Rattle.tsn_model.specs.Search.{Settlement, tally_of}
use Rattle.tsn_incumbent.specs.Halves.{half}
use Rattle.tsn_book.specs.Event.{event_of}
use Rattle.tsn_book.specs.Book.{Progress}
use Rattle.tsn_incumbent.proofs.Desks.{halves_answer, share_settled, share_refused}
use Rattle.tsn_incumbent.proofs.desk.Desk.settle.Goals as goal

pub invariant_of-self : goal.invariant_of-self
invariant_of-self g c =
    let names = g.K.Named.names in
    let before = c.self.inside.book in
    let items = c.self.inside.halves.items in
    let settlement : Settlement = record { teller = c.args.owner.teller; event = event_of c.args.event } in
    let call = c.settle-settled in
    let network = call.ensures.network ∙ c.self.invariant.0.network in
    let tally = c.tally-tally.ensures.tally ∙ ap (λ (n : Network). tally_of n c.args.owner.teller call.new.self.history) network in
    let within : c.args.owner.teller < length items = omega (arith, c.requires.within, c.self.invariant.1.count) in
    let mine = c.set_in_place.ensures.second ∙ (λ i. half (c.requires.table i) ((c.requires.share i).number) true (tally i)) in (
      record { network = network; tellers = call.ensures.tellers ∙ c.self.invariant.0.tellers; limit = call.ensures.limit ∙ c.self.invariant.0.limit },
      halves_answer call.result names items before call.new.self settlement c.set_in_place.new.second call.ensures.ok call.ensures.refused c.self.invariant.1 within mine,
    )

pub returns-clause-share : goal.returns-clause-share
returns-clause-share g c =
    let names = g.K.Named.names in
    let before = c.self.inside.book in
    let settlement : Settlement = record { teller = c.args.owner.teller; event = event_of c.args.event } in
    let call = c.settle-settled in
    let network = call.ensures.network ∙ c.self.invariant.0.network in
    let tally = c.tally-tally.ensures.tally ∙ ap (λ (n : Network). tally_of n c.args.owner.teller call.new.self.history) network in
    let share : c.args.share.now.tally ≡ tally_of names.race.network c.args.owner.teller before.history = search rules in
    let is = c.set_in_place.ensures.first ∙ (λ i. half (c.requires.table i) ((c.requires.share i).number) false (tally i)) in
    share_settled call.result names before call.new.self settlement c.args.share.now c.set_in_place.new.first call.ensures.ok share is

pub returns-clause-refused : goal.returns-clause-refused
returns-clause-refused g c =
    let names = g.K.Named.names in
    let before = c.self.inside.book in
    let call = c.settle-settled in
    let network = call.ensures.network ∙ c.self.invariant.0.network in
    let tally = c.tally-tally.ensures.tally ∙ ap (λ (n : Network). tally_of n c.args.owner.teller call.new.self.history) network in
    let share : c.args.share.now.tally ≡ tally_of names.race.network c.args.owner.teller before.history = search rules in
    let is = c.set_in_place.ensures.first ∙ (λ i. half (c.requires.table i) ((c.requires.share i).number) false (tally i)) in
    subst (λ (p : Progress). OnErr call.result ((call.new.self ≡ p) × (c.set_in_place.new.first ≡ c.args.share.now))) c.self.view_is
    (share_refused call.result names before call.new.self c.args.owner.teller c.args.share.now c.set_in_place.new.first call.ensures.refused c.requires.share share is)

pub settle-settled-requires-clause-teller : goal.settle-settled-requires-clause-teller
settle-settled-requires-clause-teller c = grind (arith, elements) steps 2000000

pub settle-settled-requires-clause-proof : goal.settle-settled-requires-clause-proof
settle-settled-requires-clause-proof c = grind (arith, elements) steps 2000000

pub tally-tally-requires : goal.tally-tally-requires
tally-tally-requires c = grind (arith, elements) steps 2000000

pub set_in_place-requires-clause-first : goal.set_in_place-requires-clause-first
set_in_place-requires-clause-first c = grind (arith, elements) steps 2000000

pub set_in_place-requires-clause-second : goal.set_in_place-requires-clause-second
set_in_place-requires-clause-second c = grind (arith, elements) steps 2000000

pub set_in_place-requires-clause-number : goal.set_in_place-requires-clause-number
set_in_place-requires-clause-number c = grind (arith, elements) steps 2000000
