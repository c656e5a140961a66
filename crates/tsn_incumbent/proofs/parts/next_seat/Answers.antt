use Rattle.std.proofs.Common.{◌≡◌, ◌-◌, Some, ◌∙◌, ap, arith}
use Rattle.std.proofs.lemmas.Grind.{elements}
use Rattle.tsn_incumbent.specs.Teller.{rest_of}
use Rattle.tsn_incumbent.proofs.Seats.{cuts}
use Rattle.tsn_incumbent.proofs.parts.next_seat.Goals as goal

pub split-more-requires-clause-number : goal.split-more-requires-clause-number
split-more-requires-clause-number g c = let is : c.in-Some.seat ≡ rest_of g.K.Named.names c.args.number (c.args.tellers - c.args.number) = (cc) in (cuts g.K.Named.names c.args.number c.args.tellers _ is c.if-number-tellers.true).once

pub split-more-requires-clause-another : goal.split-more-requires-clause-another
split-more-requires-clause-another g c = let is : c.in-Some.seat ≡ rest_of g.K.Named.names c.args.number (c.args.tellers - c.args.number) = (cc) in (cuts g.K.Named.names c.args.number c.args.tellers _ is c.if-number-tellers.true).another

pub returns-then-number-tellers-clause-one : goal.returns-then-number-tellers-clause-one
returns-then-number-tellers-clause-one g c =
    let is : c.in-Some.seat ≡ rest_of g.K.Named.names c.args.number (c.args.tellers - c.args.number) = (cc) in
    let cut = cuts g.K.Named.names c.args.number c.args.tellers _ is c.if-number-tellers.true in
    λ i. record { race = (c.split-more.ensures.races.1 ∙ c.requires.race.0) i; standings = (c.split-more.ensures.one ∙ cut.one) i }

pub returns-then-number-tellers-clause-more : goal.returns-then-number-tellers-clause-more
returns-then-number-tellers-clause-more g c low =
    let is : c.in-Some.seat ≡ rest_of g.K.Named.names c.args.number (c.args.tellers - c.args.number) = (cc) in
    let cut = cuts g.K.Named.names c.args.number c.args.tellers _ is c.if-number-tellers.true in
    ap Some (λ i. record { race = (c.split-more.ensures.races.0 ∙ c.requires.race.0) i; standings = (c.split-more.ensures.others ∙ cut.more) i })

pub unreachable-requires : goal.unreachable-requires
unreachable-requires c = grind (arith, elements) steps 2000000

pub split-more-requires-clause-seat : goal.split-more-requires-clause-seat
split-more-requires-clause-seat c = grind (arith, elements) steps 2000000
