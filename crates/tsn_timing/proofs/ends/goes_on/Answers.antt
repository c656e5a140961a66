use Rattle.std.proofs.Common.{◌∙◌, sym, ap, arith}
use Rattle.std.proofs.lemmas.Grind.{common_steps}
use Rattle.tsn_model.specs.declared.Link.{Link}
use Rattle.tsn_model.specs.Network.{link_at, route_of}
use Rattle.tsn_timing.proofs.Ending.{found_on, none_on}
use Rattle.tsn_timing.proofs.ends.goes_on.Goals as goal

pub returns-then-link-node : goal.returns-then-link-node
returns-then-link-node c =
    let network = c.args.timing.now in
    let inside = c.loop-hop-test.true in
    let last = c.loop-hop.invariant.last in
    let from = ap (λ (l : Link). l.from) (c.link.ensures ∙ ap (link_at network) c.route_link.ensures.value) in
    sym (found_on network (route_of network c.args.stream) c.args.node c.loop-hop.hop (omega arith) (sym from ∙ c.if-link-node.true))

pub returns : goal.returns
returns c =
    let network = c.args.timing.now in
    let past = c.loop-hop-test.false in
    let done = c.loop-hop.auto.hop-end in
    let last = c.loop-hop.invariant.last in
    sym (none_on network (route_of network c.args.stream) c.args.node c.loop-hop.hop (omega arith) c.loop-hop.invariant.so_far)

pub loop-hop-preserved : goal.loop-hop-preserved
loop-hop-preserved c = grind (arith, common_steps) steps 2000000
