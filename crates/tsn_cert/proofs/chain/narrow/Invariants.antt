use Rattle.std.proofs.Common.{◌≡◌, take}
use Rattle.tsn_cert.proofs.chain.narrow.Given as goal

abbrev pub invariant-loop-depth : goal.invariant-loop-depth
invariant-loop-depth l = l.list.items ≡ take l.depth-index l.depths
