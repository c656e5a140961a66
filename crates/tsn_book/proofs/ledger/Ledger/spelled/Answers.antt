use Rattle.tsn_book.specs.Arena.{settled_in}
use Rattle.tsn_book.specs.Book.{AreNodesOf, SpellsAccepted}
use Rattle.std.proofs.Common.{sym, ap, ◌∙◌, subst, length}
use Rattle.tsn_model.specs.Search.{kept_of}
use Rattle.tsn_cert.specs.declared.cert.Cert.{Cert}
use Rattle.tsn_book.proofs.Preorder.{order_spells, order_nodes, order_accepted, order_counted}
use Rattle.tsn_book.proofs.ledger.Ledger.spelled.Goals as goal

pub of-requires : goal.of-requires
of-requires c =
    let tree = c.args.self.tree in
    order_spells tree.places.origins tree.events.items _ c.requires.plan c.requires.order c.requires.agrees.tree.legal

pub returns-clause-accepted : goal.returns-clause-accepted
returns-clause-accepted c =
    let tree = c.args.self.tree in
    subst (λ (cert : Cert). SpellsAccepted tree.network (kept_of tree.network (settled_in tree)) cert.nodes) (sym c.of.ensures)
    (order_accepted tree.places.origins tree.events.items _ c.requires.plan c.requires.order)

pub returns-clause-nodes : goal.returns-clause-nodes
returns-clause-nodes c =
    let tree = c.args.self.tree in
    subst (λ (cert : Cert). AreNodesOf tree.network (settled_in tree) cert.nodes) (sym c.of.ensures)
    (order_nodes tree.places.origins tree.events.items _ c.requires.plan c.requires.order)

pub returns-clause-counted : goal.returns-clause-counted
returns-clause-counted c =
    let tree = c.args.self.tree in
    ap (λ (cert : Cert). length cert.nodes) c.of.ensures ∙ order_counted tree.network (settled_in tree) _ tree.events.items _ c.requires.order
