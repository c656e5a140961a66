-- Moves about rooms on a link.
use Rattle.std.proofs.Common.{◌≡◌, ℕ, ◌<◌, ◌≤◌, List, ◌∷◌, Bool, true, false, Contains, sym, subst, inl, inr}
use Rattle.std.specs.Prelude.{MatchBool}
use Rattle.tsn_model.specs.declared.Frame.{Frame}
use Rattle.tsn_model.specs.Network.{Network}
use Rattle.tsn_model.specs.Argument.{View}
use Rattle.tsn_model.proofs.Lists.{Contains-more, Contains-cons_cases}
use Rattle.tsn_argue.specs.Faults.{AreShut, IsFirstOpen}

-- a frame that isn't the first is one of all where it is one of the others
pub among_too : (first frame : Frame) (others : List Frame) (b : Bool) → (frame ≡ first → ⊥) → MatchBool b (Contains others frame) (Contains others frame → ⊥)
    → MatchBool b (Contains (first ∷ others) frame) (Contains (first ∷ others) frame → ⊥)
among_too first frame others true differ has = Contains-more first others frame has
among_too first frame others false differ none = λ has. elim (Contains-cons_cases first others frame has) [
  | inl same ↦ differ (sym same)
  | inr more ↦ none more
]

-- the same with other words for where the room is and which places are meant
module _ (network : Network) (view : View) (link : ℕ) (frames : List Frame) (low high work least most low' high' least' most' : ℕ)
    (low_is : low ≡ low') (high_is : high ≡ high') (least_is : least ≡ least') (most_is : most ≡ most') where
  pub shut_same : AreShut network view link frames low high work least most → AreShut network view link frames low' high' work least' most'
  shut_same shut =
      subst (λ n. AreShut network view link frames low' high' work least' n) most_is
      (subst (λ n. AreShut network view link frames low' high' work n most) least_is
      (subst (λ n. AreShut network view link frames low' n work least most) high_is
      (subst (λ n. AreShut network view link frames n high work least most) low_is shut)))

  pub open_same : (place : ℕ) → IsFirstOpen network view link frames low high work least most place
      → IsFirstOpen network view link frames low' high' work least' most' place
  open_same place opens =
      subst (λ n. IsFirstOpen network view link frames low' high' work least' n place) most_is
      (subst (λ n. IsFirstOpen network view link frames low' high' work n most place) least_is
      (subst (λ n. IsFirstOpen network view link frames low' n work least most place) high_is
      (subst (λ n. IsFirstOpen network view link frames n high work least most place) low_is opens)))
