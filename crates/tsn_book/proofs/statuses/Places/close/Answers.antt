use Rattle.std.proofs.Common.{set, ap, ◌∙◌}
use Rattle.std.proofs.lemmas.List.{map-set}
use Rattle.tsn_book.specs.declared.statuses.Mark.TheVariants.{Leaf as marked_leaf}
use Rattle.tsn_book.specs.declared.statuses.Status.TheVariants.{Leaf}
use Rattle.tsn_book.specs.Places.{Placed, status_of}
use Rattle.tsn_book.proofs.statuses.Places.close.Goals as goal

pub returns-clause-statuses : goal.returns-clause-statuses
returns-clause-statuses c =
    let inside = c.self.inside in
    map-set (status_of inside.splits.items) inside.marks.items c.args.place (marked_leaf c.args.event)
    ∙ ap (λ (places : Placed). set places.statuses c.args.place (Leaf c.args.event)) c.self.view_is
