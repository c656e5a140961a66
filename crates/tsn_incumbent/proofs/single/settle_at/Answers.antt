use Rattle.std.proofs.Common.{ap, sym, subst, ◌∙◌, arith}
use Rattle.std.proofs.lemmas.Grind.{elements}
use Rattle.tsn_model.specs.Search.{tally_of}
use Rattle.tsn_model.specs.Core.{IsAboveSeen}
use Rattle.tsn_conflict.specs.Outcome.{outcome_of}
use Rattle.tsn_book.specs.declared.refusal.EventRefusal.{EventRefusal}
use Rattle.tsn_book.specs.Event.{event_of}
use Rattle.tsn_incumbent.specs.Teller.{Known, head_of}
use Rattle.tsn_incumbent.proofs.Desks.{refuses}
use Rattle.tsn_incumbent.proofs.Tellers.{keeps_answer}
use Rattle.tsn_incumbent.proofs.single.settle_at.Goals as goal

pub invariant_of-teller : goal.invariant_of-teller
invariant_of-teller g c =
    let seen = ap (λ (k : Known). k.standing.seen) c.teller.view_is in
    keeps_answer _ g.K.Named.names c.teller.inside.number c.teller.inside.seat c.teller.inside.share (outcome_of c.args.event.look) c.settle.new.share c.teller.invariant
    (subst (λ n. IsAboveSeen g.K.Named.names.race.network n (outcome_of c.args.event.look)) (sym seen) c.requires.seen)
    c.settle.result c.settle.ensures.share c.settle.ensures.refused

pub returns-clause-fault : goal.returns-clause-fault
returns-clause-fault g c =
    let names = g.K.Named.names in
    let inside = c.teller.inside in
    let mine = ap (λ n. tally_of names.race.network n c.settle.new.self.history) c.teller.invariant.numbered ∙ c.settle.ensures.agrees in
    refuses names (record { standing = head_of inside.seat.standings; tally = c.settle.new.share.tally }) c.settle.new.self c.settle.ensures.book c.settle.ensures.lawful mine
    c.settle.result (λ (r : EventRefusal). r.fault) (event_of c.args.event) c.settle.ensures.fault

pub settle-requires-clause-table : goal.settle-requires-clause-table
settle-requires-clause-table c = grind (arith, elements) steps 2000000

pub settle-requires-clause-share : goal.settle-requires-clause-share
settle-requires-clause-share c = grind (arith, elements) steps 2000000

pub settle-requires-clause-within : goal.settle-requires-clause-within
settle-requires-clause-within c = grind (arith, elements) steps 2000000

pub settle-requires-clause-proof : goal.settle-requires-clause-proof
settle-requires-clause-proof c = grind (arith, elements) steps 2000000
