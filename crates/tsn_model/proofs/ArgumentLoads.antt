-- What the frames on a link show by the room that a view leaves them.
use Rattle.std.proofs.Common.{◌≢◌, ℕ, ◌+◌, ◌≤◌, ◌<◌, List, [], ◌∷◌, map, length, get_or, All, AllPairs, Contains, ℤ, pos, ◌+ℤ◌, ◌-ℤ◌, ◌≤ℤ◌, ◌<ℤ◌, fold, refl, sym, arith, inl, inr}
use Rattle.std.specs.Int.{int_max}
use Rattle.std.proofs.lemmas.Int.{ints, fold-int_max_bounds}
use Rattle.std.proofs.lemmas.List.Elements.{All-nil, All-cons, All-head, All-tail, All-contains}
use Rattle.tsn_model.specs.declared.Frame.{Frame}
use Rattle.tsn_model.specs.Network.{Network, IsWellFormed}
use Rattle.tsn_model.specs.Timing.{separation}
use Rattle.tsn_model.specs.Schedule.{IsValid, offset_of}
use Rattle.tsn_model.specs.Certificate.{least, IsFrameOn, begin_on, end_on}
use Rattle.tsn_model.specs.Argument.{View, Fits, head_at, end_at, most, first_head, last_end, work_on, AreOn, AreSome}
use Rattle.tsn_model.proofs.Lists.{All-unmap, AllPairs-head}
use Rattle.tsn_model.proofs.Packing.{packed}
use Rattle.tsn_model.proofs.Orders.{begins, different_apart, one_before_other}
use Rattle.tsn_model.proofs.Routes.{UsesLink-counted}
use Rattle.tsn_model.proofs.Soundness.{least-le, natural_above, natural_from}

-- the greatest of some signed numbers is at least each
most-ge : (xs : List ℤ) → All (λ x. x ≤ℤ most xs) xs
unfolding most
most-ge [] = All-nil (λ x. x ≤ℤ most [])
most-ge (x ∷ xs) =
    let bounds = fold-int_max_bounds x xs (fold int_max x xs) refl in
    All-cons (λ y. y ≤ℤ fold int_max x xs) x xs bounds.0 bounds.1

module _ (network : Network) (formed : IsWellFormed network) (offsets : List ℕ) (valid : IsValid network offsets) (link : ℕ) where
  abbrev begin_of : Frame → ℕ
  begin_of frame = begins network offsets link frame

  abbrev work : Frame → ℕ
  work frame = separation network frame.stream link

  no_frame : Frame
  no_frame = record { stream = 0; shift = 0 }

  -- between two instants there is room for the frames' work, if all are between them
  packed_on : (frames : List Frame) (low high : ℤ) → 0 < length frames → AreOn network link frames → All (λ i. low ≤ℤ pos (begin_of i)) frames
      → All (λ i. pos (begin_of i + work i) ≤ℤ high) frames
      → (low +ℤ pos (work_on network link frames)) ≤ℤ high
  unfolding work_on
  packed_on frames low high some are heads ends =
      let first = natural_above low in
      let last = natural_from high (begin_of (get_or frames 0 no_frame) + work (get_or frames 0 no_frame)) (ends 0 no_frame some) in
      let is_last = last.1 in
      let begun : All (λ i. first.number ≤ begin_of i) frames = λ k d below. first.least (begin_of (get_or frames k d)) (heads k d below) in
      let done : All (λ i. begin_of i + work i ≤ last.0) frames = λ k d below. let end = ends k d below in omega (arith, ints, end, is_last) in
      let apart : AllPairs (λ a b. (t : ℕ) → (begin_of a ≤ t) × (t < begin_of a + work a) → (begin_of b ≤ t) × (t < begin_of b + work b) → ⊥) frames =
      λ i j d order below t in_first in_second.
      different_apart network offsets (get_or frames i d) (get_or frames j d) link valid (are.different i j d order below)
      (are.on_link i d (omega arith)) (are.on_link j d below) t
      (record { begun = in_first.0; not_ended = in_first.1 }) (record { begun = in_second.0; not_ended = in_second.1 }) in
      let order : first.number ≤ last.0 = let begins = begun 0 no_frame some in let ends_first = done 0 no_frame some in omega arith in
      let fits = packed begin_of work first.number last.0 frames order begun done apart in
      let above = first.above in
      omega (arith, ints, above, is_last, fits)

  module _ (view : View) (fits : Fits network offsets view) where
    pub heads_below : (frames : List Frame) → All (IsFrameOn network link) frames → All (λ i. first_head network view link frames ≤ℤ pos (begin_of i)) frames
    unfolding first_head head_at begin_on
    heads_below frames on_link k d below =
        let i = get_or frames k d in
        let head = All-unmap (λ x. least (map (head_at network view link) frames) ≤ℤ x) (head_at network view link) frames
        (least-le (map (head_at network view link) frames)) k d below in
        let low = fits.low i.stream (UsesLink-counted network i.stream link (on_link k d below).uses) in
        omega (arith, ints, head, low)

    pub ends_above : (frames : List Frame) → All (IsFrameOn network link) frames
        → All (λ i. pos (begin_of i + work i) ≤ℤ last_end network view link frames) frames
    unfolding last_end end_at end_on begin_on
    ends_above frames on_link k d below =
        let i = get_or frames k d in
        let end = All-unmap (λ x. x ≤ℤ most (map (end_at network view link) frames)) (end_at network view link) frames
        (most-ge (map (end_at network view link) frames)) k d below in
        let high = fits.high i.stream (UsesLink-counted network i.stream link (on_link k d below).uses) in
        omega (arith, ints, end, high)

    -- frames that don't fit on the link
    pub pack_sound : (frames : List Frame) → AreOn network link frames
        → last_end network view link frames <ℤ (first_head network view link frames +ℤ pos (work_on network link frames)) → ⊥
    unfolding first_head last_end work_on least most
    pack_sound [] are past = omega (arith, ints, past)
    pack_sound (i ∷ frames) are past =
        let room = packed_on (i ∷ frames) (first_head network view link (i ∷ frames)) (last_end network view link (i ∷ frames)) (omega arith) are
        (heads_below (i ∷ frames) are.on_link) (ends_above (i ∷ frames) are.on_link) in
        omega (arith, ints, past, room)

    module _ (j : Frame) (frames : List Frame) (are : AreOn network link (j ∷ frames)) where
      abbrev uses : All (IsFrameOn network link) frames
      uses = All-tail (IsFrameOn network link) j frames are.on_link

      abbrev j_uses : IsFrameOn network link j
      j_uses = All-head (IsFrameOn network link) j frames are.on_link

      not_j : (i : Frame) → Contains frames i → i ≢ j
      not_j i has same = All-contains (λ k. j ≢ k) frames i (AllPairs-head ◌≢◌ j frames are.different) has (sym same)

      i_uses : (i : Frame) → Contains frames i → IsFrameOn network link i
      i_uses i has = All-contains (IsFrameOn network link) frames i uses has

      -- some of the frames are on the link too
      some_on : (some : List Frame) → AreSome frames some → AreOn network link some
      some_on some are_some = record {
        different = are_some.different;
        on_link = λ k d below. i_uses (get_or some k d) (are_some.among k d below);
      }

      -- where there is no room for all before the last end of the others, each of these is done before stream j
      done_before : last_end network view link frames <ℤ (first_head network view link (j ∷ frames) +ℤ pos (work_on network link (j ∷ frames)))
          → (i : Frame) → Contains frames i
          → begin_of i + work i ≤ begin_of j
      done_before past i has = elim (one_before_other network offsets i j link formed valid (not_j i has) (i_uses i has) j_uses) [
        | inl before ↦ before
        | inr after ↦
            let ends = ends_above frames uses in
            let end_of_i : pos (begin_of i + work i) ≤ℤ last_end network view link frames = All-contains
            (λ k. pos (begin_of k + work k) ≤ℤ last_end network view link frames) frames i ends has in
            let end_of_j : pos (begin_of j + work j) ≤ℤ last_end network view link frames = omega (arith, ints, after, end_of_i) in
            let room = packed_on (j ∷ frames) (first_head network view link (j ∷ frames)) (last_end network view link frames) (omega arith) are
            (heads_below (j ∷ frames) are.on_link)
            (All-cons (λ k. pos (begin_of k + work k) ≤ℤ last_end network view link frames) j frames end_of_j ends) in
            absurd (omega (arith, ints, past, room))
      ]

      -- where there is no room for all after the first head of the others, stream j is done before each of these
      begins_after : last_end network view link (j ∷ frames) <ℤ (first_head network view link frames +ℤ pos (work_on network link (j ∷ frames)))
          → (i : Frame) → Contains frames i
          → begin_of j + work j ≤ begin_of i
      begins_after past i has = elim (one_before_other network offsets i j link formed valid (not_j i has) (i_uses i has) j_uses) [
        | inr after ↦ after
        | inl before ↦
            let heads = heads_below frames uses in
            let head_of_i : first_head network view link frames ≤ℤ pos (begin_of i) = All-contains
            (λ k. first_head network view link frames ≤ℤ pos (begin_of k)) frames i heads has in
            let head_of_j : first_head network view link frames ≤ℤ pos (begin_of j) = omega (arith, ints, before, head_of_i) in
            let room = packed_on (j ∷ frames) (first_head network view link frames) (last_end network view link (j ∷ frames)) (omega arith) are
            (All-cons (λ k. first_head network view link frames ≤ℤ pos (begin_of k)) j frames head_of_j heads) (ends_above (j ∷ frames) are.on_link) in
            absurd (omega (arith, ints, past, room))
      ]

      pub last_sound : (some : List Frame) → AreSome frames some
          → last_end network view link frames <ℤ (first_head network view link (j ∷ frames) +ℤ pos (work_on network link (j ∷ frames)))
          → ((first_head network view link some +ℤ pos (work_on network link some)) -ℤ pos (begin_on network link j)) ≤ℤ pos (offset_of offsets j.stream)
      unfolding begin_on
      last_sound some are_some past =
          let on = some_on some are_some in
          let ends : All (λ i. pos (begin_of i + work i) ≤ℤ pos (begin_of j)) some =
          λ k d below. let done = done_before past (get_or some k d) (are_some.among k d below) in omega (arith, ints, done) in
          let room = packed_on some (first_head network view link some) (pos (begin_of j)) are_some.one on (heads_below some on.on_link) ends in
          omega (arith, ints, room)

      pub first_sound : (some : List Frame) → AreSome frames some
          → last_end network view link (j ∷ frames) <ℤ (first_head network view link frames +ℤ pos (work_on network link (j ∷ frames)))
          → pos (offset_of offsets j.stream) ≤ℤ ((last_end network view link some -ℤ pos (work_on network link some)) -ℤ pos (end_on network link j))
      unfolding end_on begin_on
      first_sound some are_some past =
          let on = some_on some are_some in
          let heads : All (λ i. pos (begin_of j + work j) ≤ℤ pos (begin_of i)) some =
          λ k d below. let after = begins_after past (get_or some k d) (are_some.among k d below) in omega (arith, ints, after) in
          let room = packed_on some (pos (begin_of j + work j)) (last_end network view link some) are_some.one on heads (ends_above some on.on_link) in
          omega (arith, ints, room)
