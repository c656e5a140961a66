-- Frames of a move on a link, taken one after another.
use Rattle.std.proofs.Common.{◌≡◌, ℕ, suc, ◌+◌, ◌-◌, ◌<◌, ◌≤◌, List, [], ◌∷◌, ◌++◌, map, length, take, get_or, ℤ, fold, All, sym, ap, ◌∙◌, subst, arith}
use Rattle.std.specs.Prelude.{drop}
use Rattle.std.specs.Int.{int_min, int_max}
use Rattle.std.proofs.lemmas.Int.{ints, clamps}
use Rattle.std.proofs.lemmas.List.{map-append, take_more, take_all, length-append}
use Rattle.std.proofs.lemmas.List.Sums.{fold-append, sum_by-append}
use Rattle.tsn_model.specs.Network.{Network}
use Rattle.tsn_model.specs.declared.Frame.{Frame}
use Rattle.tsn_model.specs.Timing.{separation}
use Rattle.tsn_model.specs.Certificate.{least, IsFrameOn}
use Rattle.tsn_model.specs.Argument.{View, head_at, end_at, most, first_head, last_end, work_on, AreOn}
use Rattle.tsn_model.proofs.Lists.{least-map_push}
use Rattle.tsn_argue.specs.Loads.{IsLoad}
use Rattle.tsn_argue.specs.declared.link.Load.{Load}

most-map_push : {X : Type 0} (f : X → ℤ) (xs : List X) (x y : X) → most (map f ((x ∷ xs) ++ y ∷ [])) ≡ int_max (most (map f (x ∷ xs))) (f y)
unfolding most
most-map_push f xs x y = ap (λ zs. fold int_max (f x) zs) (map-append f xs (y ∷ [])) ∙ fold-append int_max (f x) (map f xs) (f y ∷ [])

module _ (network : Network) (view : View) (link : ℕ) where
  -- what some frames come to with one more
  load_push : (first : Frame) (xs : List Frame) (y : Frame) (old next new : Load) → IsLoad network view link (first ∷ xs) old
      → IsLoad network view link (y ∷ []) next → new.head ≡ int_min old.head next.head → new.end ≡ int_max old.end next.end → new.work ≡ old.work + next.work
      → IsLoad network view link (first ∷ (xs ++ y ∷ [])) new
  unfolding first_head last_end work_on least most
  load_push first xs y old next new is more head end work = record {
    head = head ∙ (λ i. int_min (is.head i) (more.head i)) ∙ sym (least-map_push (head_at network view link) (first ∷ xs) y (omega arith));
    end = end ∙ (λ i. int_max (is.end i) (more.end i)) ∙ sym (most-map_push (end_at network view link) xs first y);
    work = work ∙ (λ i. is.work i + more.work i) ∙ sym (sum_by-append (λ f. separation network f.stream link) (first ∷ xs) (y ∷ []));
    head_low = omega (arith, ints, clamps, head, is.head_low, more.head_low);
    head_high = omega (arith, ints, clamps, head, is.head_high, more.head_high);
    end_low = omega (arith, ints, clamps, end, is.end_low, more.end_low);
    end_high = omega (arith, ints, clamps, end, is.end_high, more.end_high);
    short = omega (arith, work, is.short, more.short, length-append xs (y ∷ []));
  }

  pub load_more : (first : Frame) (others : List Frame) (k : ℕ) (d : Frame) → k < length others → (old next new : Load)
      → IsLoad network view link (first ∷ take k others) old → IsLoad network view link (get_or others k d ∷ []) next
      → new.head ≡ int_min old.head next.head → new.end ≡ int_max old.end next.end → new.work ≡ old.work + next.work
      → IsLoad network view link (first ∷ take (k + 1) others) new
  load_more first others k d below old next new is more head end work =
      subst (λ list. IsLoad network view link (first ∷ list) new) (sym (take_more others k d below))
      (load_push first (take k others) (get_or others k d) old next new is more head end work)

-- what stands for a frame past the last one
abbrev pub no_frame : Frame
no_frame = record { stream = 0; shift = 0 }

-- the first of some frames, and the others
pub first_others : (xs : List Frame) → 1 ≤ length xs → get_or xs 0 no_frame ∷ take (length xs - 1) (drop 1 xs) ≡ xs
first_others [] some = absurd (omega (arith, some))
first_others (x ∷ xs) some = ap (λ ys. x ∷ ys) (take_all (suc (length xs) - 1) xs (omega arith))

pub parts_on : (network : Network) (link : ℕ) (frames : List Frame) → 1 ≤ length frames → All (IsFrameOn network link) frames
    → All (IsFrameOn network link) (get_or frames 0 no_frame ∷ take (length frames - 1) (drop 1 frames))
parts_on network link frames some on = subst (All (IsFrameOn network link)) (sym (first_others frames some)) on

pub packed_on : (network : Network) (link : ℕ) (frames : List Frame) → 1 ≤ length frames
    → AreOn network link (get_or frames 0 no_frame ∷ take (length frames - 1) (drop 1 frames)) → AreOn network link frames
packed_on network link frames some on = subst (AreOn network link) (first_others frames some) on
