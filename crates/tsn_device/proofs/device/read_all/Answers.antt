use Rattle.std.proofs.Common.{arith}
use Rattle.std.proofs.lemmas.Grind.{common_steps}
use Rattle.tsn_device.proofs.device.read_all.Goals as goal

pub slice_bounds-read-end : goal.slice_bounds-read-end
slice_bounds-read-end c = grind (arith, common_steps) steps 2000000

pub returns-then-count-eq0-clause-whole : goal.returns-then-count-eq0-clause-whole
returns-then-count-eq0-clause-whole c = grind (arith, common_steps) steps 2000000

pub returns-then-count-eq0-clause-too_long : goal.returns-then-count-eq0-clause-too_long
returns-then-count-eq0-clause-too_long c = grind (arith, common_steps) steps 2000000

pub returns-then-count-eq0-clause-broken : goal.returns-then-count-eq0-clause-broken
returns-then-count-eq0-clause-broken c = grind (arith, common_steps) steps 2000000

pub returns-then-count-eq0-clause-kept : goal.returns-then-count-eq0-clause-kept
returns-then-count-eq0-clause-kept c = grind (arith, common_steps) steps 2000000

pub slice_bounds-piece-end : goal.slice_bounds-piece-end
slice_bounds-piece-end c = grind (arith, common_steps) steps 2000000

pub slice_bounds-extend_from_slice-end : goal.slice_bounds-extend_from_slice-end
slice_bounds-extend_from_slice-end c = grind (arith, common_steps) steps 2000000

pub returns-clause-whole : goal.returns-clause-whole
returns-clause-whole c = grind (arith, common_steps) steps 2000000

pub returns-clause-too_long : goal.returns-clause-too_long
returns-clause-too_long c = grind (arith, common_steps) steps 2000000

pub returns-clause-broken : goal.returns-clause-broken
returns-clause-broken c = grind (arith, common_steps) steps 2000000

pub returns-clause-kept : goal.returns-clause-kept
returns-clause-kept c = grind (arith, common_steps) steps 2000000
