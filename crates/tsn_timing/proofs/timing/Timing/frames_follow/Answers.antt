use Rattle.std.proofs.Common.{arith}
use Rattle.tsn_timing.proofs.Neighbouring.{apart_on_all}
use Rattle.tsn_timing.proofs.timing.Timing.frames_follow.Goals as goal

pub returns : goal.returns
returns c =
    λ yes. apart_on_all c.args.self.now c.args.offsets.now c.loop-link.link c.cycle-limits.ensures.well_formed (omega arith) c.loop-link.invariant.apart
