-- What a teller has solved.
use Rattle.std.specs.Prelude.{◌≡◌, ℕ}
use Rattle.tsn_model.specs.Search.{Outcome, split, solved, pruned, tied, refuted}
use Rattle.tsn_conflict.specs.Outcome.{outcome_of}
use Rattle.tsn_book.specs.declared.log.Settled.{Settled}

-- a solved leaf of that flowspan
abbrev pub Solves : ℕ → Outcome → Type 0
Solves flowspan (split triple) = ⊥
Solves flowspan (solved offsets bound leaf chains) = bound ≡ flowspan
Solves flowspan (pruned bound leaf) = ⊥
Solves flowspan (tied bound leaf chains) = ⊥
Solves flowspan (refuted leaf) = ⊥

-- and of that teller
abbrev pub IsSolvedBy : ℕ → ℕ → Settled → Type 0
IsSolvedBy teller flowspan settled = (settled.teller ≡ teller) × Solves flowspan (outcome_of settled.look)
