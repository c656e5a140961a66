use Rattle.tsn_timing.proofs.Using.{empty_more}
use Rattle.tsn_timing.proofs.users.no_users.Goals as goal

pub loop-link-preserved : goal.loop-link-preserved
loop-link-preserved c = empty_more c.loop-link.lists.items _ _ c.loop-link._link c.loop-link.invariant c.in_ok-push.ensures.items c.new.ensures.items
