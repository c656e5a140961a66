use Rattle.std.proofs.Common.{rules, sym, ap, ◌∙◌, subst}
use Rattle.tsn_incumbent.specs.Flowspans.{IsIncumbent}
use Rattle.tsn_incumbent.specs.Standings.{Seated, Race, HoldsAll, IsAtMostKnown, least_posted}
use Rattle.tsn_incumbent.proofs.Lists.{least_posted_among}
use Rattle.tsn_incumbent.proofs.Moves.{closes}
use Rattle.tsn_incumbent.proofs.incumbent.Incumbent.end.Goals as goal

pub load-word-requires : goal.load-word-requires
load-word-requires c = (search rules, search rules, closes _ _ _ _ _ (search rules) (search rules))

pub returns-clause-least : goal.returns-clause-least
returns-clause-least c =
    let told = c.load-word.ensures.2.1 (subst HoldsAll (sym c.seat.view_is) c.requires.all) in
    told.0 ∙ ap (λ (p : Seated). least_posted p.race.network p.standings) c.seat.view_is ∙ ap (λ (r : Race). least_posted r.network c.args.seat.standings) c.requires.seat
    ∙ least_posted_among c.args.self.network c.args.seat.standings

pub returns-clause-incumbent : goal.returns-clause-incumbent
returns-clause-incumbent c =
    let told = c.load-word.ensures.2.1 (subst HoldsAll (sym c.seat.view_is) c.requires.all) in
    subst (λ (r : Race). IsIncumbent r.network c.load-word.result) (ap (λ (p : Seated). p.race) c.seat.view_is ∙ c.requires.seat) told.1.0

pub returns-clause-at_most : goal.returns-clause-at_most
returns-clause-at_most c =
    let told = c.load-word.ensures.2.1 (subst HoldsAll (sym c.seat.view_is) c.requires.all) in
    subst (λ (p : Seated). IsAtMostKnown c.load-word.result p.standings) c.seat.view_is told.1.1
