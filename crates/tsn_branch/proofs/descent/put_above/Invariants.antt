use Rattle.std.proofs.Common.{◌≡◌, take}
use Rattle.tsn_model.specs.Arcs.{arcs_of}
use Rattle.tsn_branch.specs.Releases.{releases_of}
use Rattle.tsn_branch.proofs.descent.put_above.Given as goal

abbrev pub invariant-loop-depth : goal.invariant-loop-depth
invariant-loop-depth l = record {
  releases : l.stack.least.releases ≡ releases_of l.fn.timing;
  arcs : l.stack.least.arcs ≡ arcs_of l.fn.timing (take l.depth l.path);
}
