use Rattle.std.proofs.Common.{◌*◌, ◌≤◌, ◌<◌, ℕ, length, ap, ◌∙◌, subst, arith}
use Rattle.tsn_model.specs.declared.Link.{Link}
use Rattle.tsn_model.specs.Network.{Network, IsWellFormed, link_at}
use Rattle.tsn_gate.proofs.Links.{no_octet_time, rate-le}
use Rattle.tsn_gate.proofs.taprio.shortest_entry.Goals as goal

pub returns-then-link-links : goal.returns-then-link-links
returns-then-link-links c =
    let past = subst (λ (n : Network). length n.links ≤ c.args.link) c.deref.ensures (subst (λ (n : ℕ). n ≤ c.args.link) c.links.ensures.value c.if-link-links.true) in
    let none = no_octet_time c.args.problem.now.network c.args.link past in
    omega arith

pub overflow_mul-result : goal.overflow_mul-result
overflow_mul-result c =
    let slow = rate-le c.args.problem.now.network (subst IsWellFormed c.deref-2.ensures c.cycle-limits.ensures.well_formed) c.args.link
    (subst (λ (n : Network). c.args.link < length n.links) c.deref.ensures (subst (λ (n : ℕ). c.args.link < n) c.links.ensures.value c.if-link-links.false)) in
    let read = ap (λ (l : Link). l.octet_time) (c.link.ensures ∙ ap (λ n. link_at n c.args.link) c.deref-3.ensures) in
    omega arith

pub returns : goal.returns
returns c = ap (λ (l : Link). 60 * l.octet_time) (c.link.ensures ∙ ap (λ n. link_at n c.args.link) c.deref-3.ensures)
