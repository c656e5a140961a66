use Rattle.std.proofs.Common.{ℕ, ◌<◌, ◌≤◌}
use Rattle.std.specs.List.{slice_index_or}
use Rattle.tsn_model.specs.Search.{tally_of}
use Rattle.tsn_core.proofs.shared.has_posted_all.Given as goal

abbrev pub invariant-loop-teller : goal.invariant-loop-teller
invariant-loop-teller l = (k : ℕ) → k < l.teller → (slice_index_or l.tellers k (record { seen = 0; posted = 0 })).posted ≤ (tally_of l.book.network k l.book.history).solved
