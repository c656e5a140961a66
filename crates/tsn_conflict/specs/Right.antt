-- What is right of what a look finds, whatever was settled before.
--     HasProof             a leaf is right for its own bound
--     SplitsUndecided      a split is on a conflict that the path doesn't decide
use Rattle.std.specs.Prelude.{◌≡◌, List}
use Rattle.tsn_model.specs.declared.Decision.{Decision}
use Rattle.tsn_model.specs.Network.{Network}
use Rattle.tsn_model.specs.Schedule.{IsValid, flowspan, IsConflict}
use Rattle.tsn_model.specs.Certificate.{Proves, HasBound, AreChains}
use Rattle.tsn_model.specs.Search.{Outcome, split, solved, pruned, tied, refuted, Refutes, ShowsOffsets}
use Rattle.tsn_conflict.specs.Path.{IsUndecided}

-- a leaf is right for its own bound; a solved one has a valid schedule of that flowspan, with chains that show its offsets, and a tied
-- one has chains of the path
abbrev pub HasProof : Network → List Decision → Outcome → Type 0
HasProof network path (split triple) = Unit {0}
HasProof network path (solved offsets bound leaf chains) =
    IsValid network offsets × (flowspan network offsets ≡ bound) × Proves network path bound leaf × HasBound leaf × ShowsOffsets network path chains offsets
HasProof network path (pruned bound leaf) = Proves network path bound leaf
HasProof network path (tied bound leaf chains) = Proves network path bound leaf × HasBound leaf × AreChains network path chains
HasProof network path (refuted leaf) = Refutes network path leaf

-- a split is on a conflict that the path doesn't decide
abbrev pub SplitsUndecided : Network → List Decision → Outcome → Type 0
SplitsUndecided network path (split triple) = IsConflict network triple × IsUndecided path triple
SplitsUndecided network path (solved offsets bound leaf chains) = Unit {0}
SplitsUndecided network path (pruned bound leaf) = Unit {0}
SplitsUndecided network path (tied bound leaf chains) = Unit {0}
SplitsUndecided network path (refuted leaf) = Unit {0}
