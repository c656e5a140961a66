use Rattle.std.proofs.Common.{◌≡◌, ◌<◌, ◌++◌, length, map, take, subst, ap, sym, ◌∙◌, rules, arith}
use Rattle.std.specs.Prelude.{All, OnOk, IfErr}
use Rattle.std.proofs.lemmas.Grind.{elements}
use Rattle.tsn_model.specs.Search.{tally_of}
use Rattle.tsn_model.specs.Core.{IsAboveSeen}
use Rattle.tsn_conflict.specs.Outcome.{outcome_of}
use Rattle.tsn_book.specs.declared.refusal.WalkRefusal.{WalkRefusal}
use Rattle.tsn_book.specs.Below.{path_after, events_below, settlements_by}
use Rattle.tsn_incumbent.specs.Teller.{Known, head_of, settled_all}
use Rattle.tsn_incumbent.proofs.Batching.{outcomes_below}
use Rattle.tsn_incumbent.proofs.Desks.{refuses_at, lawful_of}
use Rattle.tsn_incumbent.proofs.Stepping.{settles_all, settles_some}
use Rattle.tsn_incumbent.proofs.Tellers.{keeps_taken}
use Rattle.tsn_incumbent.proofs.shared.settle_below_at.Goals as goal

pub invariant_of-teller : goal.invariant_of-teller
invariant_of-teller g c =
    let names = g.K.Named.names in
    let outcomes = map outcome_of c.args.looks in
    let above = subst (λ (t : Known). All (IsAboveSeen names.race.network t.standing.seen) outcomes) (sym c.teller.view_is) c.requires.seen in
    keeps_taken names c.teller.inside.number c.teller.inside.seat c.teller.inside.share c.settle_below.new.share c.teller.invariant
    c.settle_below.result (λ (r : WalkRefusal). r.settled) (λ (r : WalkRefusal). r.settled < length c.args.looks) (λ (r : WalkRefusal). c.settle_below.new.from ≡ path_after c.args.from.now (take r.settled outcomes)) outcomes
    above c.settle_below.ensures.all c.settle_below.ensures.some

pub returns-clause-fault : goal.returns-clause-fault
returns-clause-fault g c =
    let names = g.K.Named.names in
    let inside = c.teller.inside in
    let mine = ap (λ n. tally_of names.race.network n c.settle_below.new.self.history) c.teller.invariant.numbered ∙ c.settle_below.ensures.agrees in
    refuses_at names (record { standing = head_of inside.seat.standings; tally = c.settle_below.new.share.tally }) c.settle_below.new.self c.settle_below.ensures.book c.settle_below.ensures.lawful mine
    c.settle_below.result (λ (r : WalkRefusal). r.settled) (λ (r : WalkRefusal). r.fault) (events_below c.args.from.now (map outcome_of c.args.looks)) c.settle_below.ensures.fault

pub returns-clause-steps : goal.returns-clause-steps
returns-clause-steps g c =
    let names = g.K.Named.names in
    let call = c.settle_below in
    let old = c.args.teller.now in
    let new : Known = record { standing = head_of c.teller.inside.seat.standings; tally = call.new.share.tally } in
    let before = c.args.desk.now.history in
    let after = call.new.self.history in
    let outcomes = map outcome_of c.args.looks in
    let events = events_below c.args.from.now outcomes in
    let taken : OnOk call.result (new ≡ settled_all outcomes old) = search rules in
    let more : OnOk call.result (after ≡ before ++ settlements_by old.standing.number events) = search rules in
    settles_all names old new before after (lawful_of names call.new.self call.ensures.book call.ensures.lawful) call.result events outcomes
    (outcomes_below c.args.from.now outcomes) c.requires.seen more taken

pub returns-clause-steps_of_some : goal.returns-clause-steps_of_some
returns-clause-steps_of_some g c =
    let names = g.K.Named.names in
    let call = c.settle_below in
    let old = c.args.teller.now in
    let new : Known = record { standing = head_of c.teller.inside.seat.standings; tally = call.new.share.tally } in
    let before = c.args.desk.now.history in
    let after = call.new.self.history in
    let outcomes = map outcome_of c.args.looks in
    let events = events_below c.args.from.now outcomes in
    let stands = λ (r : WalkRefusal). call.new.from ≡ path_after c.args.from.now (take r.settled outcomes) in
    let some : IfErr call.result (λ (r : WalkRefusal). (r.settled < length c.args.looks) × (new ≡ settled_all (take r.settled outcomes) old) × stands r) = search rules in
    let more : IfErr call.result (λ (r : WalkRefusal). after ≡ before ++ settlements_by old.standing.number (take r.settled events)) = search rules in
    settles_some names old new before after (lawful_of names call.new.self call.ensures.book call.ensures.lawful) call.result (λ (r : WalkRefusal). r.settled)
    (λ (r : WalkRefusal). r.settled < length c.args.looks) stands events outcomes (outcomes_below c.args.from.now outcomes) c.requires.seen more some

pub settle_below-requires-clause-table : goal.settle_below-requires-clause-table
settle_below-requires-clause-table c = grind (arith, elements) steps 2000000

pub settle_below-requires-clause-share : goal.settle_below-requires-clause-share
settle_below-requires-clause-share c = grind (arith, elements) steps 2000000

pub settle_below-requires-clause-within : goal.settle_below-requires-clause-within
settle_below-requires-clause-within c = grind (arith, elements) steps 2000000

pub settle_below-requires-clause-proofs : goal.settle_below-requires-clause-proofs
settle_below-requires-clause-proofs c = grind (arith, elements) steps 2000000
