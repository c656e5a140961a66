use Rattle.std.proofs.Common.{◌&&◌, get_or, arith}
use Rattle.std.specs.Prelude.{◌==◌}
use Rattle.std.proofs.lemmas.List.{get_or_default}
use Rattle.std.proofs.lemmas.Grind.{common_steps}
use Rattle.tsn_model.specs.declared.Link.{Link}
use Rattle.tsn_net.proofs.IndexLemmas.{first_more}
use Rattle.tsn_net.proofs.index.number_links.Goals as goal

pub loop-k-preserved : goal.loop-k-preserved
loop-k-preserved c = λ p.
    let links = c.args.links.now in
    let none : Link = record { from = 0; to = 0; octet_time = 0; propagation = 0 } in
    let link = get_or links c.loop-k.k none in
    first_more (λ (l : Link). l.from == p.0 && l.to == p.1) links c.loop-k.k link _ _ c.loop-k-test.true
    (get_or_default links c.loop-k.k none link c.loop-k-test.true) (c.loop-k.invariant p) (c.in_ok-enter.ensures p)

pub same-numbers : goal.same-numbers
same-numbers c = grind (arith, common_steps) steps 2000000

pub returns : goal.returns
returns c = grind (arith, common_steps) steps 2000000
