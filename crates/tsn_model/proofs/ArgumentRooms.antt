-- What the rooms on a link show of the frames there.
use Rattle.std.proofs.Common.{◌≡◌, ◌≢◌, ℕ, ◌+◌, ◌-◌, ◌≤◌, ◌<◌, ◌⊎◌, List, [], ◌∷◌, map, sum_by, get_or, All, Contains, ℤ, pos, negsuc, ◌-ℤ◌, ◌≤ℤ◌, leb, true, false, refl, sym, ap, ◌∙◌, subst, arith, inl, inr, zero-le}
use Rattle.std.proofs.lemmas.Int.{ints}
use Rattle.std.proofs.lemmas.Bool.{cases_eq, cases_lt, cond-true, le-leb}
use Rattle.std.proofs.lemmas.List.Elements.{All-head, All-tail, All-contains}
use Rattle.tsn_model.specs.declared.Frame.{Frame}
use Rattle.tsn_model.specs.Network.{Network, IsWellFormed}
use Rattle.tsn_model.specs.Timing.{separation}
use Rattle.tsn_model.specs.Schedule.{IsValid, offset_of}
use Rattle.tsn_model.specs.Certificate.{least, IsFrameOn, begin_on, end_on}
use Rattle.tsn_model.specs.Argument.{View, Fits, head_at, end_at, most, first_head, last_end, work_on, AreOn, natural, may_lie, from_left, from_right, unit_on, works_left, works_right, left_over, right_over, idle_on, IsFixed, Edge, outermost, beside, IsEdge, left_edge, right_edge, IsShut, AreInTurn, lost}
use Rattle.tsn_model.proofs.Lists.{Contains-more}
use Rattle.tsn_model.proofs.Orders.{begins, different_apart, one_before_other}
use Rattle.tsn_model.proofs.Routes.{UsesLink-counted}
use Rattle.tsn_model.proofs.Rooms.{IsClearOf, AreApart, IsChain, lost_in, place, rooms_fit}
use Rattle.tsn_model.proofs.ArgumentLoads.{heads_below, ends_above}

natural-le : (z : ℤ) (n : ℕ) → z ≤ℤ pos n → natural z ≤ n
unfolding natural
natural-le (pos m) n h = omega (arith, ints, h)
natural-le (negsuc m) n h = zero-le

natural-ge : (z : ℤ) (n : ℕ) → pos n ≤ℤ z → n ≤ natural z
unfolding natural
natural-ge (pos m) n h = omega (arith, ints, h)
natural-ge (negsuc m) n h = absurd (omega (arith, ints, h))

cases_frame : (a b : Frame) → (a ≡ b) ⊎ (a ≢ b)
cases_frame a b = elim (cases_eq a.stream b.stream) [
  | inr differ ↦ inr (λ same. differ (ap (λ (frame : Frame). frame.stream) same))
  | inl stream ↦ elim (cases_eq a.shift b.shift) [
    | inr differ ↦ inr (λ same. differ (ap (λ (frame : Frame). frame.shift) same))
    | inl shift ↦ inl (λ i. record { stream = stream i; shift = shift i })
  ]
]

module _ (network : Network) (formed : IsWellFormed network) (offsets : List ℕ) (valid : IsValid network offsets) (link : ℕ) where
  abbrev begin_of : Frame → ℕ
  begin_of frame = begins network offsets link frame

  abbrev work : Frame → ℕ
  work frame = separation network frame.stream link

  apart_on : (frames : List Frame) → AreOn network link frames → AreApart begin_of work frames
  apart_on frames are = λ i j d order below t in_first in_second.
      different_apart network offsets (get_or frames i d) (get_or frames j d) link valid (are.different i j d order below)
      (are.on_link i d (omega arith)) (are.on_link j d below) t
      (record { begun = in_first.0; not_ended = in_first.1 }) (record { begun = in_second.0; not_ended = in_second.1 })

  -- none straddles the begin or the end of one of them
  clear_at_begin : (i : Frame) → IsFrameOn network link i → (frames : List Frame) → All (IsFrameOn network link) frames
      → All (IsClearOf begin_of work (begin_of i)) frames
  clear_at_begin i on frames are k d below = elim (cases_frame (get_or frames k d) i) [
    | inl same ↦ let begin_same : begin_of (get_or frames k d) ≡ begin_of i = ap begin_of same in inr (omega arith)
    | inr differ ↦ elim (one_before_other network offsets (get_or frames k d) i link formed valid differ (are k d below) on) [
      | inl before ↦ inl before
      | inr after ↦ inr (omega arith)
    ]
  ]

  clear_at_end : (i : Frame) → IsFrameOn network link i → (frames : List Frame) → All (IsFrameOn network link) frames
      → All (IsClearOf begin_of work (begin_of i + work i)) frames
  clear_at_end i on frames are k d below = elim (cases_frame (get_or frames k d) i) [
    | inl same ↦ let end_same : begin_of (get_or frames k d) + work (get_or frames k d) ≡ begin_of i + work i = ap (λ f. begin_of f + work f) same in inl
        (omega arith)
    | inr differ ↦ elim (one_before_other network offsets (get_or frames k d) i link formed valid differ (are k d below) on) [
      | inl before ↦ inl (omega arith)
      | inr after ↦ inr after
    ]
  ]

  module _ (view : View) (fits : Fits network offsets view) where
    head_low : (i : Frame) → IsFrameOn network link i → natural (head_at network view link i) ≤ begin_of i
    unfolding head_at begin_on
    head_low i on =
        let low = fits.low i.stream (UsesLink-counted network i.stream link on.uses) in
        natural-le (head_at network view link i) (begin_of i) (omega (arith, ints, low))

    end_high : (i : Frame) → IsFrameOn network link i → begin_of i + work i ≤ natural (end_at network view link i)
    unfolding end_at end_on begin_on
    end_high i on =
        let high = fits.high i.stream (UsesLink-counted network i.stream link on.uses) in
        natural-ge (end_at network view link i) (begin_of i + work i) (omega (arith, ints, high))

    fixed_head : (i : Frame) → IsFrameOn network link i → IsFixed view i → natural (head_at network view link i) ≡ begin_of i
    unfolding head_at begin_on
    fixed_head i on fixed =
        let high = fits.high i.stream (UsesLink-counted network i.stream link on.uses) in
        let least = head_low i on in
        let most = natural-ge (head_at network view link i) (begin_of i) (omega (arith, ints, high, fixed)) in
        omega arith

    fixed_end : (i : Frame) → IsFrameOn network link i → IsFixed view i → natural (end_at network view link i) ≡ begin_of i + work i
    unfolding end_at end_on begin_on
    fixed_end i on fixed =
        let low = fits.low i.stream (UsesLink-counted network i.stream link on.uses) in
        let most = end_high i on in
        let least = natural-le (end_at network view link i) (begin_of i + work i) (omega (arith, ints, low, fixed)) in
        omega arith

    begun_on : (frames : List Frame) → All (IsFrameOn network link) frames → All (λ i. natural (first_head network view link frames) ≤ begin_of i) frames
    begun_on frames on k d below =
        natural-le (first_head network view link frames) (begin_of (get_or frames k d))
        (heads_below network formed offsets valid link view fits frames on k d below)

    ended_on : (frames : List Frame) → All (IsFrameOn network link) frames → All (λ i. begin_of i + work i ≤ natural (last_end network view link frames)) frames
    ended_on frames on k d below =
        natural-ge (last_end network view link frames) (begin_of (get_or frames k d) + work (get_or frames k d))
        (ends_above network formed offsets valid link view fits frames on k d below)

    -- a frame that is there may be there
    may_lie_there : (low high : ℕ) (frames : List Frame) → All (IsFrameOn network link) frames
        → All (λ i. low ≤ begin_of i → begin_of i + work i ≤ high → may_lie network view link low high i ≡ true) frames
    unfolding may_lie
    may_lie_there low high frames on k d below above_low below_high =
        let i = get_or frames k d in
        let least = head_low i (on k d below) in
        let most = end_high i (on k d below) in
        let first = le-leb (low + work i) (natural (end_at network view link i)) (omega arith) in
        let second = le-leb (natural (head_at network view link i) + work i) high (omega arith) in
        cond-true (leb (low + work i) (natural (end_at network view link i))) (leb (natural (head_at network view link i) + work i) high) false first ∙ second

    near_left : (low : ℕ) (frames : List Frame) → All (IsFrameOn network link) frames → All (λ i. from_left network view link low i ≤ begin_of i - low) frames
    unfolding from_left
    near_left low frames on k d below =
        let least = head_low (get_or frames k d) (on k d below) in
        omega arith

    near_right : (high : ℕ) (frames : List Frame) → All (IsFrameOn network link) frames
        → All (λ i. from_right network view link high i ≤ high - (begin_of i + work i)) frames
    unfolding from_right
    near_right high frames on k d below =
        let most = end_high (get_or frames k d) (on k d below) in
        omega arith

    module _ (j : Frame) (frames : List Frame) (are : AreOn network link (j ∷ frames)) where
      abbrev all : List Frame
      all = j ∷ frames

      abbrev j_on : IsFrameOn network link j
      j_on = All-head (IsFrameOn network link) j frames are.on_link

      abbrev begun : All (λ i. natural (first_head network view link all) ≤ begin_of i) all
      begun = begun_on all are.on_link

      abbrev ended : All (λ i. begin_of i + work i ≤ natural (last_end network view link all)) all
      ended = ended_on all are.on_link

      among_on : (i : Frame) → Contains frames i → IsFrameOn network link i
      among_on i has = All-contains (IsFrameOn network link) frames i (All-tail (IsFrameOn network link) j frames are.on_link) has

      -- an edge is an instant after the first that no frame straddles
      record IsClearLeft (low : ℕ) : Type 0 where
        order : natural (first_head network view link all) ≤ low
        clear : All (IsClearOf begin_of work low) all

      clear_left : (edge : Edge) → IsEdge view frames edge → IsClearLeft (left_edge network view link all edge)
      unfolding left_edge
      clear_left outermost is = record { order = omega arith; clear = λ k d below. inr (begun k d below) }
      clear_left (beside i) is =
          let i_on = among_on i is.0 in
          let same = fixed_end i i_on is.1 in
          let after = All-contains (λ i. natural (first_head network view link all) ≤ begin_of i) all i begun (Contains-more j frames i is.0) in
          record {
            order = omega arith;
            clear = subst (λ t. All (IsClearOf begin_of work t) all) (sym same) (clear_at_end i i_on all are.on_link);
          }

      record IsClearRight (high : ℕ) : Type 0 where
        order : high ≤ natural (last_end network view link all)
        clear : All (IsClearOf begin_of work high) all

      clear_right : (edge : Edge) → IsEdge view frames edge → IsClearRight (right_edge network view link all edge)
      unfolding right_edge
      clear_right outermost is = record { order = omega arith; clear = λ k d below. inl (ended k d below) }
      clear_right (beside i) is =
          let i_on = among_on i is.0 in
          let same = fixed_head i i_on is.1 in
          let before = All-contains (λ i. begin_of i + work i ≤ natural (last_end network view link all)) all i ended (Contains-more j frames i is.0) in
          record {
            order = omega arith;
            clear = subst (λ t. All (IsClearOf begin_of work t) all) (sym same) (clear_at_begin i i_on all are.on_link);
          }

      -- the place of stream j's frame isn't shut
      not_shut : (before after : Edge) → IsEdge view frames before → IsEdge view frames after
          → IsShut network view link all (left_edge network view link all before) (right_edge network view link all after) (work j) (begin_of j) → ⊥
      unfolding work_on works_left works_right idle_on left_over right_over
      not_shut before after is_before is_after shut =
          let low = left_edge network view link all before in
          let high = right_edge network view link all after in
          let first = natural (first_head network view link all) in
          let last = natural (last_end network view link all) in
          let idle = last - (first + sum_by work all) in
          let left = clear_left before is_before in
          let right = clear_right after is_after in
          let above = shut.begin in
          let below = shut.end in
          let full = shut.full in
          let few : last ≤ (first + sum_by work all) + idle = omega arith in
          let fit = place begin_of work (unit_on network link all) first low (begin_of j) (begin_of j + work j) high last idle (high - low)
          (from_left network view link low) (from_right network view link high) (may_lie network view link low high) all
          left.order above (omega arith) below right.order (apart_on all are) begun ended
          left.clear (clear_at_begin j j_on all are.on_link) (clear_at_end j j_on all are.on_link) right.clear
          (near_left low all are.on_link) (near_right high all are.on_link) (may_lie_there low high all are.on_link) few in
          omega arith

      pub fill_sound : (before after : Edge) → IsEdge view frames before → IsEdge view frames after → (start : ℕ)
          → ((x : ℕ) → natural (head_at network view link j) ≤ x → x < start
          → IsShut network view link all (left_edge network view link all before) (right_edge network view link all after) (work j) x)
          → (pos start -ℤ pos (begin_on network link j)) ≤ℤ pos (offset_of offsets j.stream)
      unfolding begin_on
      fill_sound before after is_before is_after start shut = elim (cases_lt (begin_of j) start) [
        | inr reached ↦ omega (arith, ints, reached)
        | inl earlier ↦
            let least = head_low j j_on in
            absurd (not_shut before after is_before is_after (shut (begin_of j) least earlier))
      ]

      pub fill_back_sound : (before after : Edge) → IsEdge view frames before → IsEdge view frames after → (finish : ℕ)
          → ((x : ℕ) → finish < x + work j → x + work j ≤ natural (end_at network view link j)
          → IsShut network view link all (left_edge network view link all before) (right_edge network view link all after) (work j) x)
          → pos (offset_of offsets j.stream) ≤ℤ (pos finish -ℤ pos (end_on network link j))
      unfolding begin_on end_on
      fill_back_sound before after is_before is_after finish shut = elim (cases_lt finish (begin_of j + work j)) [
        | inr reached ↦ omega (arith, ints, reached)
        | inl later ↦
            let most = end_high j j_on in
            absurd (not_shut before after is_before is_after (shut (begin_of j) later most))
      ]

    -- ---- rooms between frames that can't move

    gap_of : Frame → ℕ × ℕ
    gap_of i = (natural (head_at network view link i), natural (end_at network view link i))

    chain_of : (frames fixed : List Frame) → All (IsFrameOn network link) frames → All (Contains frames) fixed
        → (low : ℕ) → low ≤ natural (last_end network view link frames) → AreInTurn network view link low fixed
        → IsChain begin_of work low (natural (last_end network view link frames)) frames (map gap_of fixed)
    unfolding gap_of
    chain_of frames [] on among low within turn = within
    chain_of frames (i ∷ fixed) on among low within turn =
        let has = All-head (Contains frames) i fixed among in
        let i_on = All-contains (IsFrameOn network link) frames i on has in
        let head = fixed_head i i_on turn.0 in
        let end = fixed_end i i_on turn.0 in
        let ended = All-contains (λ i. begin_of i + work i ≤ natural (last_end network view link frames)) frames i (ended_on frames on) has in (
          turn.1,
          omega arith,
          subst (λ t. All (IsClearOf begin_of work t) frames) (sym head) (clear_at_begin i i_on frames on),
          subst (λ t. All (IsClearOf begin_of work t) frames) (sym end) (clear_at_end i i_on frames on),
          chain_of frames fixed on (All-tail (Contains frames) i fixed among) (natural (end_at network view link i)) (omega arith) turn.2,
        )

    lost_same : (frames fixed : List Frame) (low high : ℕ)
        → lost_in begin_of work (unit_on network link frames) (λ from to. from_left network view link from) (may_lie network view link)
        (idle_on network view link frames) low high frames (map gap_of fixed)
        ≡ lost network view link frames low high fixed
    unfolding gap_of lost_in lost works_left left_over
    lost_same frames [] low high = refl
    lost_same frames (i ∷ fixed) low high =
        ap (λ n. left_over network view link frames low (natural (head_at network view link i)) (natural (head_at network view link i) - low) + n)
        (lost_same frames fixed (natural (end_at network view link i)) high)

    -- the first head of frames on the link is before their last end
    in_order : (frames : List Frame) → All (IsFrameOn network link) frames
        → natural (first_head network view link frames) ≤ natural (last_end network view link frames)
    unfolding first_head last_end least most natural
    in_order [] on = omega arith
    in_order (i ∷ frames) on =
        let first = All-head (λ y. natural (first_head network view link (i ∷ frames)) ≤ begin_of y) i frames (begun_on (i ∷ frames) on) in
        let last = All-head (λ y. begin_of y + work y ≤ natural (last_end network view link (i ∷ frames))) i frames (ended_on (i ∷ frames) on) in
        omega arith

    pub waste_sound : (frames : List Frame) → AreOn network link frames → (fixed : List Frame) → All (Contains frames) fixed
        → AreInTurn network view link (natural (first_head network view link frames)) fixed
        → idle_on network view link frames
        < lost network view link frames (natural (first_head network view link frames)) (natural (last_end network view link frames)) fixed
        → ⊥
    unfolding work_on idle_on
    waste_sound frames are fixed among turn past =
        let first = natural (first_head network view link frames) in
        let last = natural (last_end network view link frames) in
        let idle = last - (first + sum_by work frames) in
        let few : last ≤ (first + sum_by work frames) + idle = omega arith in
        let chain = chain_of frames fixed are.on_link among first (in_order frames are.on_link) turn in
        let fit = rooms_fit begin_of work (unit_on network link frames) (λ from to. from_left network view link from) (may_lie network view link)
        first last idle frames (apart_on frames are) (begun_on frames are.on_link) (ended_on frames are.on_link)
        (λ low high. near_left low frames are.on_link) (λ low high. may_lie_there low high frames are.on_link) few (map gap_of fixed) chain in
        let same = lost_same frames fixed first last in
        omega arith
