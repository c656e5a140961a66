-- Streams that send one frame a cycle.
use Rattle.std.proofs.Common.{arith, ◌≡◌, ℕ, [], Contains, sym, subst}
use Rattle.tsn_model.specs.Network.{Network, turns_of, burst_of}
use Rattle.tsn_model.specs.Timing.{Sends}
use Rattle.tsn_model.proofs.Lists.{Contains-head, Contains-cons_cases, Contains-nil}
use Rattle.tsn_model.proofs.Shifts.{single_shift}

-- this frame starts at the stream's offset
pub one_shift : (network : Network) (i shift : ℕ) → turns_of network i ≡ 1 → burst_of network i ≡ 1 → Sends network i shift → shift ≡ 0
one_shift network i shift turn frame sent = grind (arith, Contains-cons_cases, single_shift, Contains-nil)

pub sent_from_one : (network : Network) (i : ℕ) → turns_of network i ≡ 1 → burst_of network i ≡ 1 → Sends network i 0
sent_from_one network i turn frame = subst (λ xs. Contains xs 0) (sym (single_shift network i turn frame)) (Contains-head 0 [])
