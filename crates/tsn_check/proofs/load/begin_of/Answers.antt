use Rattle.std.proofs.Common.{arith}
use Rattle.tsn_check.proofs.Shifts.{shift_short}
use Rattle.tsn_check.proofs.load.begin_of.Goals as goal

pub overflow_add-result : goal.overflow_add-result
overflow_add-result c =
    let frame = c.args.frame in
    let short = shift_short c.args.timing.now frame.stream frame.shift c.cycle-limits.ensures.well_formed c.requires.sent c.requires.stream in
    omega arith

pub returns-clause-bound : goal.returns-clause-bound
returns-clause-bound c =
    let frame = c.args.frame in
    let short = shift_short c.args.timing.now frame.stream frame.shift c.cycle-limits.ensures.well_formed c.requires.sent c.requires.stream in
    omega arith
