-- What a look finds, as the definitions have it.
use Rattle.std.specs.Prelude.{◌≡◌, ℕ}
use Rattle.tsn_model.specs.Search as search
use Rattle.tsn_model.specs.Search.{split, solved, pruned, tied, refuted}
use Rattle.tsn_conflict.specs.declared.outcome.Look.{Look}
use Rattle.tsn_conflict.specs.declared.outcome.Look.TheVariants.{Split, Solved, Pruned, Tied, Refuted}
use Rattle.tsn_cert.specs.Leaf.{bound_leaf, leaf_of}

-- the outcome that a look of the code is
abbrev pub outcome_of : Look → search.Outcome
outcome_of (Split triple) = split triple
outcome_of (Solved solution leaf chains) = solved solution.offsets solution.flowspan (bound_leaf leaf) chains
outcome_of (Pruned bound leaf) = pruned bound (bound_leaf leaf)
outcome_of (Tied bound leaf chains) = tied bound (bound_leaf leaf) chains
outcome_of (Refuted leaf) = refuted (leaf_of leaf)

-- the outcome is solved, with this flowspan
abbrev pub IsSolvedBy : ℕ → search.Outcome → Type 0
IsSolvedBy flowspan (split triple) = ⊥
IsSolvedBy flowspan (solved offsets bound leaf chains) = flowspan ≡ bound
IsSolvedBy flowspan (pruned bound leaf) = ⊥
IsSolvedBy flowspan (tied bound leaf chains) = ⊥
IsSolvedBy flowspan (refuted leaf) = ⊥

-- it is not
abbrev pub IsUnsolved : search.Outcome → Type 0
IsUnsolved (split triple) = Unit {0}
IsUnsolved (solved offsets bound leaf chains) = ⊥
IsUnsolved (pruned bound leaf) = Unit {0}
IsUnsolved (tied bound leaf chains) = Unit {0}
IsUnsolved (refuted leaf) = Unit {0}
