-- Frames of a move, judged one after another.
use Rattle.std.proofs.Common.{◌≡◌, ◌≢◌, ℕ, zero, suc, ◌+◌, ◌<◌, ◌≤◌, List, [], ◌∷◌, ◌++◌, length, take, get_or, AllPairs, Contains, refl, sym, ap, ◌∙◌, subst, inl, inr, arith}
use Rattle.std.proofs.lemmas.List.{get_or_default, take_more, take_all}
use Rattle.std.proofs.lemmas.List.Elements.{All-push, All-nil}
use Rattle.std.proofs.lemmas.List.Quantifiers.{all_pairs_push}
use Rattle.std.proofs.lemmas.Option.{slice_get-get_or}
use Rattle.tsn_model.specs.declared.Frame.{Frame}
use Rattle.tsn_model.specs.Network.{Network}
use Rattle.tsn_model.specs.Certificate.{IsFrameOn}
use Rattle.tsn_model.specs.Argument.{AreOn, AreSome}
use Rattle.tsn_model.proofs.Lists.{Contains-cons_cases}
use Rattle.tsn_argue.specs.Faults.{IsWrongFrame, AreWrongOn, IsWrongChoice, AreAmong, AreWrongAmong}
use Rattle.tsn_check.specs.declared.wrong.Wrong.{Wrong}

no_pairs : AllPairs {X = Frame} ◌≢◌ []
no_pairs = λ i j d order below. absurd (omega arith)

-- different frames, and one more that isn't one of them
differ_push : (xs : List Frame) (y : Frame) → AllPairs ◌≢◌ xs → (Contains xs y → ⊥) → AllPairs ◌≢◌ (xs ++ y ∷ [])
differ_push xs y differ new = all_pairs_push ◌≢◌ xs y differ (λ k d below same. new (k, below, get_or_default xs k y d below ∙ same))

-- one more was seen
pub seen_more : (seen new some : List Frame) (k : ℕ) (d : Frame) → k < length some → seen ≡ take k some → new ≡ seen ++ get_or some k d ∷ []
    → new ≡ take (k + 1) some
seen_more seen new some k d below before more = more ∙ ap (λ xs. xs ++ get_or some k d ∷ []) before ∙ sym (take_more some k d below)

module _ (network : Network) (link : ℕ) where
  pub on_none : AreOn network link []
  on_none = record { different = no_pairs; on_link = All-nil (IsFrameOn network link) }

  on_push : (xs : List Frame) (y : Frame) → AreOn network link xs → IsFrameOn network link y → (Contains xs y → ⊥) → AreOn network link (xs ++ y ∷ [])
  on_push xs y on uses new = record {
    different = differ_push xs y on.different new;
    on_link = All-push (IsFrameOn network link) xs y on.on_link uses;
  }

  pub on_one : (first : Frame) → IsFrameOn network link first → AreOn network link (first ∷ [])
  on_one first uses = on_push [] first on_none uses (λ has. let below = has.1 in omega arith)

  pub on_more : (first : Frame) (others : List Frame) (k : ℕ) (d : Frame) → k < length others → AreOn network link (first ∷ take k others)
      → IsFrameOn network link (get_or others k d) → (Contains (first ∷ take k others) (get_or others k d) → ⊥)
      → AreOn network link (first ∷ take (k + 1) others)
  on_more first others k d below on uses new =
      subst (λ xs. AreOn network link (first ∷ xs)) (sym (take_more others k d below)) (on_push (first ∷ take k others) (get_or others k d) on uses new)

  pub wrong_first : (first : Frame) (others : List Frame) (fault : Wrong) → IsWrongFrame network link [] first fault
      → AreWrongOn network link (first ∷ others) fault
  wrong_first first others fault wrong = record { k = zero; there = first; right_before = on_none; at = refl; wrong = wrong }

  pub wrong_next : (first : Frame) (others : List Frame) (k : ℕ) (d : Frame) (fault : Wrong) → k < length others
      → AreOn network link (first ∷ take k others) → IsWrongFrame network link (first ∷ take k others) (get_or others k d) fault
      → AreWrongOn network link (first ∷ others) fault
  wrong_next first others k d fault below on wrong = record {
    k = suc k;
    there = get_or others k d;
    right_before = on;
    at = slice_get-get_or others k d below;
    wrong = wrong;
  }

-- a frame that isn't the first one and none of the others
pub none_behind : (first frame : Frame) (others : List Frame) → (frame ≡ first → ⊥) → (Contains others frame → ⊥) → Contains (first ∷ others) frame → ⊥
none_behind first frame others other none has = elim (Contains-cons_cases first others frame has) [
  | inl same ↦ other (sym same)
  | inr more ↦ none more
]

module _ (frames : List Frame) where
  pub among_none : AreAmong frames []
  among_none = record { different = no_pairs; among = All-nil (Contains frames) }

  among_push : (some : List Frame) (y : Frame) → AreAmong frames some → Contains frames y → (Contains some y → ⊥) → AreAmong frames (some ++ y ∷ [])
  among_push some y are has new = record {
    different = differ_push some y are.different new;
    among = All-push (Contains frames) some y are.among has;
  }

  pub among_more : (some : List Frame) (k : ℕ) (d : Frame) → k < length some → AreAmong frames (take k some) → Contains frames (get_or some k d)
      → (Contains (take k some) (get_or some k d) → ⊥) → AreAmong frames (take (k + 1) some)
  among_more some k d below are has new = subst (AreAmong frames) (sym (take_more some k d below)) (among_push (take k some) (get_or some k d) are has new)

  pub wrong_among : (some : List Frame) (k : ℕ) (d : Frame) (fault : Wrong) → k < length some → AreAmong frames (take k some)
      → IsWrongChoice frames (take k some) (get_or some k d) fault → AreWrongAmong frames some fault
  wrong_among some k d fault below are wrong = inr (record {
    k = k;
    there = get_or some k d;
    right_before = are;
    at = slice_get-get_or some k d below;
    wrong = wrong;
  })

  pub some_all : (some : List Frame) (k : ℕ) → 1 ≤ length some → length some ≤ k → AreAmong frames (take k some) → AreSome frames some
  some_all some k one done are =
      let all : AreAmong frames some = subst (AreAmong frames) (take_all k some done) are in
      record { one = omega arith; different = all.different; among = all.among }
