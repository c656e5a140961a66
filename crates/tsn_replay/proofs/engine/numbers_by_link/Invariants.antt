use Rattle.std.proofs.Common.{◌≡◌, ◌<◌, ℕ, length, get_or}
use Rattle.tsn_model.specs.Bridge.{LinkGates}
use Rattle.tsn_replay.proofs.engine.numbers_by_link.Given as goal

abbrev pub invariant-loop-number : goal.invariant-loop-number
invariant-loop-number l = record {
  count : length l.numbers.items ≡ l.links;
  of_list : (number : ℕ) (d : LinkGates) → number < l.number → get_or l.numbers.items (get_or l.gates number d).link 0 ≡ number;
  last : l.number-end ≡ length l.gates;
}
