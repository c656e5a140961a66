use Rattle.std.proofs.Common.{◌≡◌, ◌<◌, map, take, length, rules, ap, ◌∙◌, false, true, arith, refl}
use Rattle.std.proofs.lemmas.Grind.{elements}
use Rattle.tsn_model.specs.Network.{Network}
use Rattle.tsn_model.specs.Search.{tally_of}
use Rattle.tsn_conflict.specs.Outcome.{outcome_of}
use Rattle.tsn_incumbent.specs.Halves.{half}
use Rattle.tsn_book.specs.declared.refusal.WalkRefusal.{WalkRefusal}
use Rattle.tsn_book.specs.Below.{events_below, path_after}
use Rattle.tsn_incumbent.proofs.Batching.{outcomes_below, history_taken, halves_taken, takes_all, takes_some}
use Rattle.tsn_incumbent.proofs.desk.Desk.settle_below.Goals as goal

pub invariant_of-self : goal.invariant_of-self
invariant_of-self g c =
    let names = g.K.Named.names in
    let k = c.args.owner.teller in
    let call = c.settle_below-settled in
    let before = c.self.inside.book in
    let outcomes = map outcome_of c.args.looks in
    let events = events_below c.args.from.now outcomes in
    let more = history_taken call.result (λ (r : WalkRefusal). r.settled) (λ (r : WalkRefusal). take r.settled events)
    (λ (r : WalkRefusal). r.settled < length c.args.looks) (λ (r : WalkRefusal). call.new.from ≡ path_after c.args.from.now (take r.settled outcomes))
    before call.new.self k events (λ (r : WalkRefusal). refl) call.ensures.all call.ensures.some in
    let network = call.ensures.network ∙ c.self.invariant.0.network in
    let tally = c.tally-tally.ensures.tally ∙ ap (λ (n : Network). tally_of n k call.new.self.history) network in
    let within : k < length c.self.inside.halves.items = omega (arith, c.requires.within, c.self.invariant.1.count) in
    let mine = c.set_in_place.ensures.second ∙ (λ i. half (c.requires.table i) ((c.requires.share i).number) true (tally i)) in (
      record { network = network; tellers = call.ensures.tellers ∙ c.self.invariant.0.tellers; limit = call.ensures.limit ∙ c.self.invariant.0.limit },
      halves_taken call.result (λ (r : WalkRefusal). r.settled) names before call.new.self k events more c.self.inside.halves.items c.set_in_place.new.second c.self.invariant.1 within mine,
    )

pub returns-clause-all : goal.returns-clause-all
returns-clause-all g c =
    let names = g.K.Named.names in
    let k = c.args.owner.teller in
    let call = c.settle_below-settled in
    let before = c.self.inside.book in
    let outcomes = map outcome_of c.args.looks in
    let events = events_below c.args.from.now outcomes in
    let more = history_taken call.result (λ (r : WalkRefusal). r.settled) (λ (r : WalkRefusal). take r.settled events)
    (λ (r : WalkRefusal). r.settled < length c.args.looks) (λ (r : WalkRefusal). call.new.from ≡ path_after c.args.from.now (take r.settled outcomes))
    before call.new.self k events (λ (r : WalkRefusal). refl) call.ensures.all call.ensures.some in
    let network = call.ensures.network ∙ c.self.invariant.0.network in
    let tally = c.tally-tally.ensures.tally ∙ ap (λ (n : Network). tally_of n k call.new.self.history) network in
    let share : c.args.share.now.tally ≡ tally_of names.race.network k before.history = search rules in
    let is = c.set_in_place.ensures.first ∙ (λ i. half (c.requires.table i) ((c.requires.share i).number) false (tally i)) in
    takes_all call.result (λ (r : WalkRefusal). r.settled) names before call.new.self k events more c.args.share.now c.set_in_place.new.first outcomes (outcomes_below c.args.from.now outcomes) share is

pub returns-clause-some : goal.returns-clause-some
returns-clause-some g c =
    let names = g.K.Named.names in
    let k = c.args.owner.teller in
    let call = c.settle_below-settled in
    let before = c.self.inside.book in
    let outcomes = map outcome_of c.args.looks in
    let events = events_below c.args.from.now outcomes in
    let more = history_taken call.result (λ (r : WalkRefusal). r.settled) (λ (r : WalkRefusal). take r.settled events)
    (λ (r : WalkRefusal). r.settled < length c.args.looks) (λ (r : WalkRefusal). call.new.from ≡ path_after c.args.from.now (take r.settled outcomes))
    before call.new.self k events (λ (r : WalkRefusal). refl) call.ensures.all call.ensures.some in
    let network = call.ensures.network ∙ c.self.invariant.0.network in
    let tally = c.tally-tally.ensures.tally ∙ ap (λ (n : Network). tally_of n k call.new.self.history) network in
    let share : c.args.share.now.tally ≡ tally_of names.race.network k before.history = search rules in
    let is = c.set_in_place.ensures.first ∙ (λ i. half (c.requires.table i) ((c.requires.share i).number) false (tally i)) in
    takes_some call.result (λ (r : WalkRefusal). r.settled) names before call.new.self k events more c.args.share.now c.set_in_place.new.first outcomes (outcomes_below c.args.from.now outcomes) share is
    (λ (r : WalkRefusal). r.settled < length c.args.looks) _ (λ (r : WalkRefusal). call.new.from ≡ path_after c.args.from.now (take r.settled outcomes)) call.ensures.some

pub settle_below-settled-requires-clause-teller : goal.settle_below-settled-requires-clause-teller
settle_below-settled-requires-clause-teller c = grind (arith, elements) steps 2000000

pub settle_below-settled-requires-clause-proofs : goal.settle_below-settled-requires-clause-proofs
settle_below-settled-requires-clause-proofs c = grind (arith, elements) steps 2000000

pub tally-tally-requires : goal.tally-tally-requires
tally-tally-requires c = grind (arith, elements) steps 2000000

pub set_in_place-requires-clause-first : goal.set_in_place-requires-clause-first
set_in_place-requires-clause-first c = grind (arith, elements) steps 2000000

pub set_in_place-requires-clause-second : goal.set_in_place-requires-clause-second
set_in_place-requires-clause-second c = grind (arith, elements) steps 2000000

pub set_in_place-requires-clause-number : goal.set_in_place-requires-clause-number
set_in_place-requires-clause-number c = grind (arith, elements) steps 2000000
