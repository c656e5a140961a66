use Rattle.std.proofs.Common.{◌-◌, ◌≤◌, arith}
use Rattle.tsn_gate.proofs.Entries.{lasts_long}
use Rattle.tsn_gate.proofs.timeline.Timeline.extend.Goals as goal

pub returns-in_ok-append-clause-long : goal.returns-in_ok-append-clause-long
returns-in_ok-append-clause-long c least lasts all =
    let some : 1 ≤ c.args.end - c.args.self.now.end = omega arith in
    c.in_ok-append.ensures.ok.long least (lasts_long least (c.args.end - c.args.self.now.end) some lasts) all
