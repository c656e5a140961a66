use Rattle.std.proofs.Common.{ap, ◌∙◌, subst, arith}
use Rattle.tsn_model.specs.declared.Link.{Link}
use Rattle.tsn_model.specs.Network.{IsWellFormed, link_at}
use Rattle.tsn_gate.specs.Table.{name_at}
use Rattle.tsn_gate.proofs.Links.{IsLink-at, name_found}
use Rattle.tsn_gate.proofs.list.names.Goals as goal

pub node_name-from-requires : goal.node_name-from-requires
node_name-from-requires c =
    let joins = (IsLink-at c.args.problem.now.network (subst IsWellFormed c.deref.ensures c.cycle-limits.ensures.well_formed) c.args.link c.requires).from in
    let from = ap (λ (l : Link). l.from) (c.link-joined.ensures ∙ ap (λ n. link_at n c.args.link) c.deref-2.ensures) in
    omega arith

pub node_name-to-requires : goal.node_name-to-requires
node_name-to-requires c =
    let joins = (IsLink-at c.args.problem.now.network (subst IsWellFormed c.deref.ensures c.cycle-limits.ensures.well_formed) c.args.link c.requires).to in
    let to = ap (λ (l : Link). l.to) (c.link-joined.ensures ∙ ap (λ n. link_at n c.args.link) c.deref-2.ensures) in
    omega arith

pub returns : goal.returns
returns c =
    let joined = c.link-joined.ensures ∙ ap (λ n. link_at n c.args.link) c.deref-2.ensures in
    record {
      from = name_found c.args.problem.now c.link-joined.result.from c.node_name-from.result.now c.node_name-from.ensures ∙ ap (λ (l : Link). name_at c.args.problem.now l.from) joined;
      to = name_found c.args.problem.now c.link-joined.result.to c.node_name-to.result.now c.node_name-to.ensures ∙ ap (λ (l : Link). name_at c.args.problem.now l.to) joined;
    }
