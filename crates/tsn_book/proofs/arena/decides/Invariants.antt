use Rattle.std.proofs.Common.{◌≡◌, ℕ, ◌<◌, get_or}
use Rattle.tsn_model.specs.declared.Decision.{Decision}
use Rattle.tsn_book.proofs.arena.decides.Given as goal

-- none of the decisions so far
abbrev pub invariant-loop-decision : goal.invariant-loop-decision
invariant-loop-decision l = (k : ℕ) → k < l.decision-index → (d : Decision) → (get_or l.path k d).triple ≡ l.triple → ⊥
