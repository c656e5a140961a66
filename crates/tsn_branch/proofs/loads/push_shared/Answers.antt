use Rattle.std.proofs.Common.{[], ◌∷◌, ◌++◌, map, sym, ap, ◌∙◌, arith}
use Rattle.std.proofs.lemmas.List.{map_push}
use Rattle.tsn_branch.specs.Loads.{link_in, shared_link, shared_upto}
use Rattle.tsn_branch.proofs.Loading.{shared_more, shared_same}
use Rattle.tsn_branch.proofs.loads.push_shared.Goals as goal

pub returns-then-len-lt2 : goal.returns-then-len-lt2
returns-then-len-lt2 c =
    let network = c.args.timing.now in
    let few = c.if-len-lt2.true in
    let counted = c.in_ok-table.table.users.ok.0 in
    let long = c.len.ensures in
    c.requires.upto ∙ ap (map (shared_link network)) (sym (shared_same network c.args.link (link_in c.in_ok-table.table) c.in_ok-table.ensures (omega arith)))

pub returns : goal.returns
returns c =
    let network = c.args.timing.now in
    let several = c.if-len-lt2.false in
    let counted = c.in_ok-table.table.users.ok.0 in
    let long = c.len.ensures in
    let more = shared_more network c.args.link (link_in c.in_ok-table.table) c.in_ok-table.ensures (omega arith) in
    ap (map link_in) c.in_ok-push.ensures.items ∙ map_push link_in c.args.tables.now.items c.in_ok-table.table
    ∙ (λ k. c.requires.upto k ++ c.in_ok-table.ensures k ∷ [])
    ∙ sym (ap (map (shared_link network)) more ∙ map_push (shared_link network) (shared_upto network c.args.link) c.args.link)
