use Rattle.std.proofs.Common.{◌≡◌, ◌<◌, length, map, drop, subst, ap, sym, ◌∙◌, arith}
use Rattle.std.specs.Prelude.{All}
use Rattle.std.proofs.lemmas.List.Elements.{All-map}
use Rattle.std.proofs.lemmas.Grind.{elements}
use Rattle.tsn_model.specs.Search.{tally_of}
use Rattle.tsn_model.specs.Core.{IsAboveSeen}
use Rattle.tsn_conflict.specs.Outcome.{outcome_of}
use Rattle.tsn_book.specs.declared.refusal.BatchRefusal.{BatchRefusal}
use Rattle.tsn_book.specs.declared.event.Event.{Event}
use Rattle.tsn_book.specs.Event.{event_of}
use Rattle.tsn_incumbent.specs.Teller.{Known, head_of}
use Rattle.tsn_incumbent.proofs.Desks.{refuses_at}
use Rattle.tsn_incumbent.proofs.Tellers.{keeps_taken}
use Rattle.tsn_incumbent.proofs.single.settle_all_as.Goals as goal

pub invariant_of-teller : goal.invariant_of-teller
invariant_of-teller g c =
    let names = g.K.Named.names in
    let events = c.args.events.items in
    let above = subst (λ (t : Known). All (λ (event : Event). IsAboveSeen names.race.network t.standing.seen (outcome_of event.look)) events) (sym c.teller.view_is) c.requires.seen in
    keeps_taken names c.teller.inside.number c.teller.inside.seat c.teller.inside.share c.settle_all.new.share c.teller.invariant
    c.settle_all.result (λ (r : BatchRefusal). r.settled) (λ (r : BatchRefusal). r.settled < length events) (λ (r : BatchRefusal). r.rest.items ≡ drop r.settled events) (map (λ (event : Event). outcome_of event.look) events)
    (All-map (IsAboveSeen names.race.network _) (λ (event : Event). outcome_of event.look) events above) c.settle_all.ensures.all c.settle_all.ensures.some

pub returns-clause-fault : goal.returns-clause-fault
returns-clause-fault g c =
    let names = g.K.Named.names in
    let inside = c.teller.inside in
    let mine = ap (λ n. tally_of names.race.network n c.settle_all.new.self.history) c.teller.invariant.numbered ∙ c.settle_all.ensures.agrees in
    refuses_at names (record { standing = head_of inside.seat.standings; tally = c.settle_all.new.share.tally }) c.settle_all.new.self c.settle_all.ensures.book c.settle_all.ensures.lawful mine
    c.settle_all.result (λ (r : BatchRefusal). r.settled) (λ (r : BatchRefusal). r.fault) (map event_of c.args.events.items) c.settle_all.ensures.fault

pub settle_all-requires-clause-table : goal.settle_all-requires-clause-table
settle_all-requires-clause-table c = grind (arith, elements) steps 2000000

pub settle_all-requires-clause-share : goal.settle_all-requires-clause-share
settle_all-requires-clause-share c = grind (arith, elements) steps 2000000

pub settle_all-requires-clause-within : goal.settle_all-requires-clause-within
settle_all-requires-clause-within c = grind (arith, elements) steps 2000000

pub settle_all-requires-clause-proofs : goal.settle_all-requires-clause-proofs
settle_all-requires-clause-proofs c = grind (arith, elements) steps 2000000
