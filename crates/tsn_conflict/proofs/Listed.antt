-- What is known of a triple that is kept.
use Rattle.std.proofs.Common.{◌≡◌, pos, neg_ℤ, Bool, true, false, true≢false, Contains, refl, sym, subst, arith}
use Rattle.std.specs.Prelude.{◌↔◌, ◌+ℤ◌, ◌<ℤ◌, MatchBool}
use Rattle.std.proofs.lemmas.Int.{ints}
use Rattle.tsn_model.specs.declared.Triple.{Triple}
use Rattle.tsn_model.specs.declared.Side.TheVariants.{Left, Right}
use Rattle.tsn_model.specs.Network.{Network, IsWellFormed}
use Rattle.tsn_model.specs.Schedule.{IsConflict}
use Rattle.tsn_model.specs.Arcs.{arc_between, arc_on}
use Rattle.tsn_model.proofs.Conflicts.{conflict_listed, listed_conflict}
use Rattle.tsn_model.proofs.Limits.{period-le}
use Rattle.tsn_conflict.specs.Kept.{Kept, AreConflictsOf}

pub conflict_kept : (network : Network) (kept : Kept) (triple : Triple) → AreConflictsOf network kept → Contains kept.triples triple → IsConflict network triple
conflict_kept network kept triple is has = listed_conflict network triple (subst (λ ts. Contains ts triple) is.triples has)

pub arc_on-left : (network : Network) (triple : Triple) → arc_on network triple Left ≡ arc_between network triple.left triple.right triple.link triple.lag
unfolding arc_on
arc_on-left network triple = refl

pub arc_on-right : (network : Network) (triple : Triple)
    → arc_on network triple Right ≡ arc_between network triple.right triple.left triple.link (neg_ℤ triple.lag)
unfolding arc_on
arc_on-right network triple = refl

-- a conflict's lag is within its streams' periods
pub lag_bounds : (network : Network) (triple : Triple) → IsWellFormed network → IsConflict network triple
    → (pos 0 <ℤ (triple.lag +ℤ pos 1000000000)) × (triple.lag <ℤ pos 1000000000)
lag_bounds network triple formed conflict = grind (arith, period-le, ints)

pub has_from : (network : Network) (kept : Kept) (triple : Triple) (found : Bool) → AreConflictsOf network kept
    → MatchBool found (IsConflict network triple) (IsConflict network triple → ⊥)
    → (found ≡ true) ↔ Contains kept.triples triple
has_from network kept triple true is conflict =
    (λ _. subst (λ ts. Contains ts triple) (sym is.triples) (conflict_listed network is.formed triple conflict), λ _. refl)
has_from network kept triple false is none = (λ never. absurd (true≢false (sym never)), λ has. absurd (none (conflict_kept network kept triple is has)))
