use Rattle.std.proofs.Common.{◌≡◌, ◌++◌, ◌∷◌, [], arith, sym, ap, ◌∙◌, subst}
use Rattle.std.proofs.lemmas.Grind.{common_steps}
use Rattle.tsn_model.specs.Certificate.{decided}
use Rattle.tsn_book.specs.Arena.{paths_of, path_at, history_of, IsAhead}
use Rattle.tsn_model.specs.Search.{IsFirstOpen}
use Rattle.tsn_book.proofs.Places.{root_place, decided_by}
use Rattle.tsn_book.proofs.Walking.{child_undecided, root_ahead, open_is_first, nothing_open}
use Rattle.tsn_book.proofs.arena.Tree.first_open.Goals as goal

pub bounds-closed-0 : goal.bounds-closed-0
bounds-closed-0 c =
    let root = root_place c.requires.tree in
    omega (arith, root.0, c.requires.tree.counted, c.requires.closed.counted)

pub returns-then-closed : goal.returns-then-closed
returns-then-closed c =
    nothing_open c.requires.tree c.args.closed.now c.requires.closed c.if-closed.true

pub loop-child-init : goal.loop-child-init
loop-child-init c =
    let self = c.args.self.now in
    let history = history_of self.places.origins self.events.items in
    let root = root_place c.requires.tree in
    (root.0, c.if-closed.false, c.root-node.ensures ∙ sym root.1, subst (IsAhead history) (sym root.1) (root_ahead history))

pub loop-child-preserved : goal.loop-child-preserved
loop-child-preserved c =
    let self = c.args.self.now in
    let next = c.in-Some.ensures in
    let known = c.loop-child.invariant in
    let path = path_at (paths_of self.places.origins) c.loop-child.place in
    let longer : c.push.new.self ≡ path ++ c.in-Some.decision ∷ [] =
    c.in_ok-push.ensures.ok ∙ ap (λ p. decided p c.in-Some.decision.triple c.in-Some.decision.side) known.2 ∙ decided_by path c.in-Some.decision in
    (next.1, next.3, longer ∙ sym next.2, next.4 known.3)

pub push-requires : goal.push-requires
push-requires c =
    let next = c.in-Some.ensures in
    let known = c.loop-child.invariant in
    child_undecided c.requires.tree c.in-Some.child next.1 c.loop-child.node c.in-Some.decision
    (next.2 ∙ ap (λ p. p ++ c.in-Some.decision ∷ []) (sym known.2))

pub returns : goal.returns
returns c =
    let self = c.args.self.now in
    let known = c.loop-child.invariant in
    subst (IsFirstOpen (history_of self.places.origins self.events.items)) (sym known.2)
    (open_is_first c.requires.tree c.loop-child.place c.in_default.ensures known.3)

pub first_child-requires-clause-some : goal.first_child-requires-clause-some
first_child-requires-clause-some c = grind (arith, common_steps) steps 2000000
