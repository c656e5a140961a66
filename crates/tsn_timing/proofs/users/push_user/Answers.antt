use Rattle.tsn_timing.proofs.Using.{user_pushed}
use Rattle.tsn_timing.proofs.users.push_user.Goals as goal

pub returns : goal.returns
returns c =
    user_pushed c.args.lists.now.items c.args.link c.args.user c.index_mut.result.now (record { list = c.push.new.self }) c.requires
    c.index_mut.ensures.value c.in_ok-push.ensures.items
