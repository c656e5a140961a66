use Rattle.std.proofs.Common.{◌≡◌, ℕ, ◌<◌, [], length, get_or, Vec, Global}
use Rattle.tsn_diff.specs.declared.listing.Indexed.{Indexed}
use Rattle.tsn_diff.proofs.listing.Listing.new.Given as goal

abbrev pub invariant-loop : goal.invariant-loop
invariant-loop l =
    record {
      count : length l.leaving.items ≡ l.counter;
      none : (k : ℕ) (default : Vec Indexed Global) → k < l.counter → (get_or l.leaving.items k default).items ≡ [];
    }
