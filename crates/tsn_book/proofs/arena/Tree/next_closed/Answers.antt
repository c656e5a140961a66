use Rattle.std.proofs.Common.{◌+◌, ◌&&◌, arith, ap, ◌∙◌}
use Rattle.std.proofs.Math.Bool.{and-false}
use Rattle.tsn_book.specs.Arena.{flag_at}
use Rattle.tsn_book.proofs.Closing.{root_closed, parent_open, parent_closed}
use Rattle.tsn_book.proofs.arena.Tree.next_closed.Goals.{else-closed-children-via-then-closed-children+else-closed-children-2, else-closed-children-via-else-closed-children}
use Rattle.tsn_book.proofs.arena.Tree.next_closed.Goals as goal

pub returns-in_default : goal.returns-in_default
returns-in_default c = root_closed c.requires.tree c.args.closed.now c.args.place c.requires.closing c.in_default.ensures

pub returns-then-closed-children-2 : goal.returns-then-closed-children-2
returns-then-closed-children-2 c =
    let of = c.in-Some.ensures in
    (omega (arith, of.of.which, of.first, of.before), parent_closed of c.if-closed-children.true c.if-closed-children-2.true)

pub returns-else-closed-children : goal.returns-else-closed-children
returns-else-closed-children c =
    let closed = c.args.closed.now in
    let children = c.in-Some.children in
    let open_above = parent_open c.requires.tree closed c.args.place c.in-Some.parent children c.requires.closing c.in-Some.ensures in
    elim c.else-closed-children.branch [
      | else-closed-children-via-else-closed-children w ↦ open_above (ap (λ b. b && flag_at closed (children + 1)) w.if-closed-children.false)
      | else-closed-children-via-then-closed-children+else-closed-children-2 w ↦
          open_above (ap (λ b. flag_at closed children && b) w.if-closed-children-2.false ∙ and-false (flag_at closed children))
    ]
