use Rattle.std.proofs.Common.{◌∷◌, ◌++◌, [], get_or, sym, ◌∙◌}
use Rattle.std.proofs.lemmas.List.{map_more}
use Rattle.tsn_branch.specs.declared.loads.User.{User}
use Rattle.tsn_branch.specs.Loads.{entry_by}
use Rattle.tsn_branch.proofs.judge.add_entries.Goals as goal

pub loop-user-preserved : goal.loop-user-preserved
loop-user-preserved c =
    let users = c.args.users.now in
    let index = c.loop-user.user-index in
    let user : User = get_or users index (record { stream = 0; start = 0 }) in
    c.in_default.ensures.items
    ∙ (λ k. c.loop-user.invariant k ++ record { frame = record { stream = user.stream; shift = 0 }; chain = c.in_ok-chain.ensures k } ∷ [])
    ∙ sym (map_more (entry_by c.args.least.now) users index (record { stream = 0; start = 0 }) c.loop-user-test.true)
