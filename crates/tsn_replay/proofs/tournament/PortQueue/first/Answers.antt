use Rattle.std.proofs.Common.{◌≡◌, ◌-◌, ◌≤◌, ◌<◌, ℕ, length, get_or, ◌∙◌, subst, arith}
use Rattle.std.proofs.lemmas.List.{get_or_default}
use Rattle.tsn_replay.specs.Ports.{IsFirstPort, port_time, port_in}
use Rattle.tsn_replay.proofs.Tournaments.{leaf_first, root_late}
use Rattle.tsn_replay.proofs.tournament.PortQueue.first.Goals as goal

pub returns-then-index-end : goal.returns-then-index-end
returns-then-index-end c =
    let root : c.index.result.now ≡ get_or c.self.inside.times.items 1 0 = c.index.ensures ∙ get_or_default c.self.inside.times.items 1 c.index.result.now 0 (omega arith) in
    let leaf : get_or c.self.inside.times.items c.first_leaf.result 0 ≡ get_or c.self.inside.times.items 1 0 =
    subst (λ ts. get_or ts c.first_leaf.result 0 ≡ get_or ts 1 0) c.deref.ensures.value c.first_leaf.ensures.least in
    subst (λ ps. IsFirstPort ps c.args.end (c.first_leaf.result - c.self.inside.leaves)) c.self.view_is
    (leaf_first c.self.inside.ports.items c.self.inside.leaves c.self.inside.times.items c.self.invariant c.args.end c.first_leaf.result (omega arith) c.first_leaf.ensures.low c.first_leaf.ensures.high leaf (omega arith))

pub returns-else-index-end : goal.returns-else-index-end
returns-else-index-end c =
    let root : c.index.result.now ≡ get_or c.self.inside.times.items 1 0 = c.index.ensures ∙ get_or_default c.self.inside.times.items 1 c.index.result.now 0 (omega arith) in
    subst (λ ps. (number : ℕ) → number < length ps → c.args.end ≤ port_time (port_in ps number)) c.self.view_is
    (root_late c.self.inside.ports.items c.self.inside.leaves c.self.inside.times.items c.self.invariant c.args.end (omega arith))
