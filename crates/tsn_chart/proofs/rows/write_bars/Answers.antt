use Rattle.std.proofs.Common.{arith}
use Rattle.std.proofs.lemmas.Grind.{elements}
use Rattle.tsn_timing.proofs.Using.{no_user, user_counted}
use Rattle.tsn_chart.proofs.rows.write_bars.Goals as goal

pub write_frames-requires-clause-stream : goal.write_frames-requires-clause-stream
write_frames-requires-clause-stream c =
    (user_counted c.args.sheet.now.timing.now c.link-link.result _ _ (c.users-user-items.ensures.hops c.loop-user.user-index no_user c.loop-user-test.true)).0

pub write_frames-requires-clause-hop : goal.write_frames-requires-clause-hop
write_frames-requires-clause-hop c =
    (user_counted c.args.sheet.now.timing.now c.link-link.result _ _ (c.users-user-items.ensures.hops c.loop-user.user-index no_user c.loop-user-test.true)).1

pub loop-user-init : goal.loop-user-init
loop-user-init c = grind (arith, elements) steps 2000000

pub loop-user-preserved : goal.loop-user-preserved
loop-user-preserved c = grind (arith, elements) steps 2000000
