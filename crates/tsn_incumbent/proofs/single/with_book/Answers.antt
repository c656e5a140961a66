use Rattle.std.proofs.Common.{◌≡◌, rules, sym, ap, ◌∙◌, subst}
use Rattle.std.specs.Prelude.{IfOk}
use Rattle.tsn_model.specs.Search.{tally_of}
use Rattle.tsn_book.specs.Book.{Progress}
use Rattle.tsn_incumbent.specs.Teller.{Known, head_of}
use Rattle.tsn_incumbent.specs.Desk.{IsReading}
use Rattle.tsn_incumbent.proofs.Desks.{reads}
use Rattle.tsn_incumbent.proofs.single.with_book.Goals as goal

pub returns-clause-reading : goal.returns-clause-reading
returns-clause-reading g c =
    let names = g.K.Named.names in
    let inside = c.teller.inside in
    let same : ◌≡◌ {A = Progress} c.deref.result.now c.deref_mut.result.now = search rules in
    let mine =
    ap (λ n. tally_of names.race.network n c.deref.result.now.history) c.teller.invariant.numbered
    ∙ ap (λ (p : Progress). tally_of names.race.network inside.number p.history) same
    ∙ sym c.agree.ensures.agrees in
    subst (λ (k : Known). IfOk c.counts.result (IsReading names k)) c.teller.view_is
    (reads names (record { standing = head_of inside.seat.standings; tally = inside.share.tally }) c.deref.result.now c.counts.ensures.book c.counts.ensures.lawful mine c.counts.result c.counts.ensures.counts)
