use Rattle.std.proofs.Common.{◌≡◌, ◌<◌, ℕ}
use Rattle.tsn_model.specs.Network.{hop_count}
use Rattle.tsn_model.specs.PlainWords.{Under}
use Rattle.tsn_model.proofs.Tolerating.{IsPastHop}
use Rattle.tsn_model.proofs.tolerance.delay_before.Given as goal

abbrev pub invariant-loop-k : goal.invariant-loop-k
invariant-loop-k l = record {
  so_far : Under l.least l.most (λ slack. (before : ℕ) → before < l.k → IsPastHop l.network l.link l.i before slack);
  end : l.k-end ≡ hop_count l.network l.i;
}
