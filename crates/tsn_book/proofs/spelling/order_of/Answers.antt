use Rattle.std.proofs.Common.{◌∷◌, [], length, ap, subst, arith}
use Rattle.std.proofs.lemmas.List.{length-append, nil_from_length}
use Rattle.tsn_book.specs.Arena.{paths_of, settled_in}
use Rattle.tsn_book.specs.Spelling.{IsWalk}
use Rattle.tsn_book.proofs.Preorder.{walk_begins, walk_done}
use Rattle.tsn_book.proofs.Passing.{within, room, none_open, children_within, split_passed, leaf_passed}
use Rattle.tsn_book.proofs.spelling.order_of.Goals as goal

pub loop-place-init : goal.loop-place-init
loop-place-init c =
    rw c.in_ok-stack.ensures.items (rw c.in_ok-order.ensures.items (walk_begins c.requires.tree c.requires.finished))

pub status-status-requires : goal.status-status-requires
status-status-requires c =
    let inside = within c.args.tree.now c.requires.tree _ c.pop.new.self.items c.in-Some.place _ c.in-Some.ensures.items c.loop-place.invariant in
    omega (arith, inside, c.requires.tree.counted)

pub unreachable-requires : goal.unreachable-requires
unreachable-requires c =
    none_open c.args.tree.now c.requires.tree _ c.pop.new.self.items c.in-Some.place _ c.in-Some.ensures.items c.loop-place.invariant
    _ c.status-status.ensures.known c.in-Open.is

pub overflow_add-children : goal.overflow_add-children
overflow_add-children c =
    let inside = children_within c.args.tree.now c.requires.tree _ c.pop.new.self.items c.in-Some.place _ c.in-Some.ensures.items c.loop-place.invariant
    _ c.status-status.ensures.known _ _ _ c.in-Split.is in
    omega (arith, inside, c.status-status.ensures.small, c.requires.tree.counted)

pub loop-place-smaller-in-Continue-branch-5 : goal.loop-place-smaller-in-Continue-branch-5
loop-place-smaller-in-Continue-branch-5 c =
    let more = room c.args.tree.now c.requires.tree _ c.pop.new.self.items c.in-Some.place _ c.in-Some.ensures.items c.loop-place.invariant in
    omega (arith, more, ap length c.in_ok-push-in-Split-3.ensures.items, length-append c.loop-place.order.items (c.in-Split.event ∷ []))

pub loop-place-preserved-in-Continue-branch-5 : goal.loop-place-preserved-in-Continue-branch-5
loop-place-preserved-in-Continue-branch-5 c =
    rw c.in_ok-push-in-Split-2.ensures.items (rw c.in_ok-push-in-Split.ensures.items (rw c.in_ok-push-in-Split-3.ensures.items
    (split_passed c.args.tree.now c.requires.tree _ c.pop.new.self.items c.in-Some.place _ c.in-Some.ensures.items c.loop-place.invariant
    _ c.status-status.ensures.known c.in-Split.triple _ _ c.in-Split.is)))

pub loop-place-smaller : goal.loop-place-smaller
loop-place-smaller c =
    let more = room c.args.tree.now c.requires.tree _ c.pop.new.self.items c.in-Some.place _ c.in-Some.ensures.items c.loop-place.invariant in
    omega (arith, more, ap length c.in_ok-push-in-Leaf.ensures.items, length-append c.loop-place.order.items (c.in-Leaf.event ∷ []))

pub loop-place-preserved : goal.loop-place-preserved
loop-place-preserved c =
    rw c.in_ok-push-in-Leaf.ensures.items
    (leaf_passed c.args.tree.now c.requires.tree _ c.pop.new.self.items c.in-Some.place _ c.in-Some.ensures.items c.loop-place.invariant
    _ c.status-status.ensures.known _ c.in-Leaf.is)

pub returns : goal.returns
returns c =
    let tree = c.args.tree.now in
    let none = nil_from_length c.loop-place.stack.items (omega (arith, c.in_default.ensures.cases.0, c.loop-place.stack.ok)) in
    walk_done c.requires.tree.legal c.loop-place.order.items
    (subst (λ s. IsWalk (paths_of tree.places.origins) (settled_in tree) s c.loop-place.order.items) none c.loop-place.invariant)
