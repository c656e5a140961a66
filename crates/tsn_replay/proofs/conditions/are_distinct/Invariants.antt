use Rattle.std.proofs.Common.{◌≡◌, ◌≢◌, ◌<◌, ℕ, length, get_or}
use Rattle.tsn_model.specs.Bridge.{LinkGates}
use Rattle.tsn_replay.proofs.conditions.are_distinct.Given as goal

abbrev pub invariant-loop-number : goal.invariant-loop-number
invariant-loop-number l = record {
  done : (i j : ℕ) (d : LinkGates) → i < j → j < l.number → (get_or l.lists i d).link ≢ (get_or l.lists j d).link;
  last : l.number-end ≡ length l.lists;
}
