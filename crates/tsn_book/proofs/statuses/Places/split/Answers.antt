use Rattle.std.proofs.Common.{◌≡◌, length, set, ◌++◌, ◌∷◌, [], ap, ◌∙◌, arith}
use Rattle.tsn_book.specs.declared.statuses.Status.TheVariants.{Open, Split}
use Rattle.tsn_book.specs.Places.{Placed}
use Rattle.tsn_book.proofs.Branchings.{split_statuses}
use Rattle.tsn_book.proofs.statuses.Places.split.Goals as goal

pub returns-clause-statuses : goal.returns-clause-statuses
returns-clause-statuses c =
    let inside = c.self.inside in
    let number : c.len.result ≡ length inside.splits.items = omega (arith, c.len.ensures, inside.splits.ok) in
    rw (c.push_reserved-3.ensures.items, c.push_reserved-2.ensures.items, c.push_reserved.ensures.items)
    (split_statuses inside.marks.items inside.splits.items c.self.invariant c.args.place c.len.result
    (record { place = c.args.place; triple = c.args.triple; event = c.args.event }) number
    ∙ ap (λ (places : Placed). (set places.statuses c.args.place (Split c.args.triple (length places.origins) c.args.event) ++ Open ∷ []) ++ Open ∷ [])
    c.self.view_is)
