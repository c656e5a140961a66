use Rattle.std.proofs.Common.{◌≡◌, rules, sym, ap, ◌∙◌, subst}
use Rattle.std.specs.Prelude.{IfOk}
use Rattle.tsn_model.specs.Search.{tally_of}
use Rattle.tsn_book.specs.Book.{Progress}
use Rattle.tsn_incumbent.specs.Teller.{Known, head_of}
use Rattle.tsn_incumbent.specs.Desk.{IsBest}
use Rattle.tsn_incumbent.proofs.Desks.{copies}
use Rattle.tsn_incumbent.proofs.shared.kept_as.Goals as goal

pub returns-clause-best : goal.returns-clause-best
returns-clause-best g c =
    let names = g.K.Named.names in
    let inside = c.teller.inside in
    let same : ◌≡◌ {A = Progress} c.deref.result.now c.deref_mut.result.now = search rules in
    let mine =
    ap (λ n. tally_of names.race.network n c.deref.result.now.history) c.teller.invariant.numbered
    ∙ ap (λ (p : Progress). tally_of names.race.network inside.number p.history) same
    ∙ sym c.agree.ensures.agrees in
    subst (λ (k : Known). IfOk c.best.result (IsBest names k)) c.teller.view_is
    (copies names (record { standing = head_of inside.seat.standings; tally = inside.share.tally }) c.deref.result.now c.best.ensures.book c.best.ensures.lawful mine c.best.result c.best.ensures.kept)
