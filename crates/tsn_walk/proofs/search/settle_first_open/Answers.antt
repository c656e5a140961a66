use Rattle.std.proofs.Common.{sym, ap, ◌∙◌, subst}
use Rattle.tsn_model.specs.Certificate.{beyond}
use Rattle.tsn_conflict.specs.Outcome.{outcome_of}
use Rattle.tsn_book.specs.Book.{IsMet}
use Rattle.tsn_walk.proofs.Settling.{open_fits, lent_met}
use Rattle.tsn_walk.proofs.search.settle_first_open.Goals as goal

pub look-requires-clause-fits : goal.look-requires-clause-fits
look-requires-clause-fits g c =
    let tables = c.args.course.now.setting.now.tables in
    let of = c.requires.search.of_network in
    open_fits tables.timing.now tables.conflicts.now tables.right_conflicts c.args.book.now.history (rw (sym of.timing) at c.best.ensures.lawful.legal) c.in_ok-node.node c.in_ok-node.ensures

pub record-requires-clause-met : goal.record-requires-clause-met
record-requires-clause-met g c =
    let same = sym c.requires.search.of_network.timing in
    let network = c.args.course.now.setting.now.tables.timing.now in
    let history = c.args.book.now.history in
    let outcome = outcome_of c.in_ok-look.look in
    let target = c.beyond-target.ensures ∙ ap (λ best. beyond network best) (rw same at c.best.ensures.best) in
    let met = lent_met network history c.in_ok-node.node c.beyond-target.result c.kept.result outcome target (rw same at c.kept.ensures.kept) (rw same at c.kept.ensures.best) c.in_ok-look.ensures.met c.in_ok-look.ensures.ties in
    subst (λ n. IsMet n history c.in_ok-node.node outcome) (sym same) met
