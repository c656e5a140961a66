use Rattle.std.proofs.Common.{ℕ, ◌<◌, get_or}
use Rattle.tsn_book.specs.declared.log.Settled.{Settled}
use Rattle.tsn_book.specs.Solving.{IsSolvedBy}
use Rattle.tsn_book.proofs.book.any_solved.Given as goal

-- none of the events so far
abbrev pub invariant-loop-number : goal.invariant-loop-number
invariant-loop-number l =
    (k : ℕ) → k < l.number → (d : Settled) → IsSolvedBy l.teller l.flowspan (get_or l.events.items k d) → ⊥
