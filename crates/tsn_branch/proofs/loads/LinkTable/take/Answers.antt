use Rattle.std.proofs.Common.{sym, ap, ◌∙◌, arith}
use Rattle.std.proofs.lemmas.Result.{on_ok_weaker}
use Rattle.tsn_branch.specs.Loads.{link_with, users_upto}
use Rattle.tsn_branch.proofs.Loading.{used_more, unused_same}
use Rattle.tsn_branch.proofs.loads.LinkTable.take.Goals as goal

pub returns-in_default-clause-upto : goal.returns-in_default-clause-upto
returns-in_default-clause-upto c =
    c.requires.upto ∙ ap (link_with c.args.timing.now c.args.self.now.link) (sym (unused_same c.args.timing.now c.args.self.now.link c.args.stream (sym c.in_default.ensures)))

pub put-requires-clause-hop : goal.put-requires-clause-hop
put-requires-clause-hop c = sym c.in-Some.ensures

pub put-requires-clause-some : goal.put-requires-clause-some
put-requires-clause-some c = (users_upto c.args.timing.now c.args.self.now.link c.args.stream, c.requires.upto)

pub put-requires-clause-short : goal.put-requires-clause-short
put-requires-clause-short c = let short = c.requires.short in let few = c.requires.few in omega arith

pub returns-clause-upto : goal.returns-clause-upto
returns-clause-upto c =
    let network = c.args.timing.now in
    let link = c.args.self.now.link in
    let whole = ap (link_with network link) (sym (used_more network link c.args.stream c.in-Some.hop (sym c.in-Some.ensures))) in
    on_ok_weaker c.put.result (λ put. put (users_upto network link c.args.stream) c.requires.upto ∙ whole) c.put.ensures.put
