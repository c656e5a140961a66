use Rattle.std.proofs.Common.{◌≡◌, [], sym, ap, ◌∙◌, subst, arith}
use Rattle.std.proofs.lemmas.Grind.{elements}
use Rattle.tsn_book.specs.Book.{Progress}
use Rattle.tsn_incumbent.specs.Names.{Names, progress_of}
use Rattle.tsn_incumbent.specs.Desk.{Halved, others_from}
use Rattle.tsn_incumbent.proofs.Seats.{opens}
use Rattle.tsn_incumbent.proofs.parts.Parts.share.Goals as goal

pub invariant_of-new : goal.invariant_of-new
invariant_of-new g c =
    let names = g.K.Named.names in
    let is = c.self.view_is ∙ c.requires in
    let i = c.self.invariant in
    let empty = i.empty ∙ ap (λ (n : Names). progress_of n []) is in
    let count : c.self.inside.tellers ≡ names.race.tellers = sym i.counted ∙ ap (λ (n : Names). n.race.tellers) is in (
      record { network = ap (λ (p : Progress). p.network) empty; tellers = ap (λ (p : Progress). p.tellers) empty; limit = ap (λ (p : Progress). p.limit) empty },
      subst (Halved names c.in_ok-all.others.items) (sym (ap (λ (p : Progress). p.history) empty)) (opens names c.in_ok-all.others.items (c.in_ok-all.ensures.others ∙ ap (others_from names 0) count)),
    )

pub tellers_of-requires-clause-race : goal.tellers_of-requires-clause-race
tellers_of-requires-clause-race c = grind (arith, elements) steps 2000000

pub tellers_of-requires-clause-seat : goal.tellers_of-requires-clause-seat
tellers_of-requires-clause-seat c = grind (arith, elements) steps 2000000

pub tellers_of-requires-clause-pairs : goal.tellers_of-requires-clause-pairs
tellers_of-requires-clause-pairs c = grind (arith, elements) steps 2000000
