-- The frames' slots of links, as they are gathered and put in order, and what it says that they follow one another.
use Rattle.std.proofs.Common.{◌≡◌, ℕ, ◌+◌, ◌≤◌, ◌<◌, Some, List, [], ◌++◌, map, length, get_or, All, AllPairs, Contains, refl, sym, ap, ◌∙◌, subst, arith, inl, inr}
use Rattle.std.specs.List.Sorted.{IsPermutation}
use Rattle.std.proofs.lemmas.Bool.{cases_lt, cases_order}
use Rattle.std.proofs.lemmas.List.{get_or_default}
use Rattle.std.proofs.lemmas.List.Elements.{All-nil, All-map, All-append, Contains-append_left, Contains-append_right}
use Rattle.std.proofs.lemmas.List.Sorted.{All-permutation, Contains-permutation}
use Rattle.tsn_model.specs.Network.{Network, IsWellFormed, stream_count, hop_count, route_link}
use Rattle.tsn_model.specs.Timing.{separation, shifts, start, Sends, hop_on}
use Rattle.tsn_model.specs.Schedule.{offset_of, AreApart, IsConflict, Overlaps}
use Rattle.tsn_model.proofs.Lists.{Contains-map}
use Rattle.tsn_model.proofs.Routes.{use_of, UsesLink-exists}
use Rattle.tsn_timing.specs.declared.neighbours.Slot.{Slot}
use Rattle.tsn_timing.specs.Neighbours.{slot_at, later, AreSlots, AreApartAt, IsBefore}
use Rattle.tsn_timing.specs.declared.users.User.{User}
use Rattle.tsn_timing.proofs.Using.{hop_on-route}

abbrev pub IsInOrder : Slot → Type 0
IsInOrder o = o.begin ≤ o.end

abbrev made : ℕ → ℕ → ℕ → Slot
made stream begin end = record { stream = stream; begin = begin; end = end }

pub first_is : (network : Network) (offset i k begin length : ℕ) → begin ≡ start network i k
    → length ≡ separation network i (route_link network i k) → made i (offset + begin) (offset + begin + length) ≡ slot_at network offset i k 0
unfolding slot_at
first_is network offset i k begin length begins lasts = grind arith

-- that of a later frame is so much later
later_is : (network : Network) (offset i k shift : ℕ) → later (slot_at network offset i k 0) shift ≡ slot_at network offset i k shift
unfolding slot_at
later_is network offset i k shift = grind arith

module _ (network : Network) (offsets : List ℕ) (link : ℕ) where
  -- those of the first n users of the link
  pub record AreSoFar (users : List User) (n : ℕ) (slots : List Slot) : Type 0 where
    pub in_order : All IsInOrder slots
    pub each : (m shift : ℕ) (user : User) → m < n → user ≡ get_or users m user → Sends network user.stream shift
        → Contains slots (slot_at network (offset_of offsets user.stream) user.stream user.hop shift)

  pub none_so_far : (users : List User) (slots : List Slot) → slots ≡ [] → AreSoFar users 0 slots
  none_so_far users slots none = record {
    in_order = subst (All IsInOrder) (sym none) (All-nil IsInOrder);
    each = λ m shift user below. absurd (omega arith);
  }

  pub one_user_more : (users : List User) (n : ℕ) (user : User) (slots : List Slot) (first : Slot) → user ≡ get_or users n user → n < length users
      → first ≡ slot_at network (offset_of offsets user.stream) user.stream user.hop 0 → first.begin ≤ first.end → AreSoFar users n slots
      → AreSoFar users (n + 1) (slots ++ map (later first) (shifts network user.stream))
  one_user_more users n user slots first here inside is order so_far =
      let new = map (later first) (shifts network user.stream) in
      record {
        in_order = All-append IsInOrder slots new so_far.in_order (All-map IsInOrder (later first) (shifts network user.stream) (λ k d below. omega arith));
        each = λ m shift other below other_is sent. elim (cases_lt m n) [
          | inl earlier ↦ Contains-append_left slots new _ (so_far.each m shift other earlier other_is sent)
          | inr at ↦
              let last : m ≡ n = omega arith in
              let same : user ≡ other = here ∙ get_or_default users n user other inside ∙ ap (λ k. get_or users k other) (sym last) ∙ sym other_is in
              let that : later first shift ≡ slot_at network (offset_of offsets user.stream) user.stream user.hop shift = ap (λ o. later o shift) is
              ∙ later_is network (offset_of offsets user.stream) user.stream user.hop shift in
              let sent_here : Sends network user.stream shift = subst (λ (u : User). Sends network u.stream shift) (sym same) sent in
              Contains-append_right slots new _
              (subst (λ (u : User). Contains new (slot_at network (offset_of offsets u.stream) u.stream u.hop shift)) same
              (subst (Contains new) that (Contains-map (later first) (shifts network user.stream) shift sent_here)))
        ];
      }

  -- all users of the link, and so all its hops
  pub all_so_far : IsWellFormed network → (users : List User) (n : ℕ) (slots : List Slot) → length users ≤ n
      → ((i hop : ℕ) → hop_on network i link ≡ Some hop → Contains users (record { stream = i; hop = hop })) → AreSoFar users n slots
      → AreSlots network offsets link slots
  all_so_far formed users n slots all listed so_far = record {
    in_order = so_far.in_order;
    each = λ i k shift counted below on sent.
        let place = listed i k (hop_on-route network formed i counted k link below on) in
        so_far.each place.0 shift (record { stream = i; hop = k }) (let inside = place.1 in omega arith) (sym place.2) sent;
  }

  pub sorted : (slots others : List Slot) → IsPermutation slots others → AreSlots network offsets link slots
      → AreSlots network offsets link others
  sorted slots others moved are = record {
    in_order = All-permutation IsInOrder slots others moved are.in_order;
    each = λ i k shift counted below on sent. Contains-permutation slots others _ moved (are.each i k shift counted below on sent);
  }

-- ---- one after the other

pub passes_on : (a b c : Slot) → b.begin ≤ b.end → IsBefore a b → IsBefore b c → IsBefore a c
passes_on a b c order first second = grind arith

-- each of the first n is before those of them that follow it
abbrev pub AreFollowing : List Slot → ℕ → Type 0
AreFollowing slots n = (j k : ℕ) (d : Slot) → j < k → k < n → IsBefore (get_or slots j d) (get_or slots k d)

-- the same by any default of the reading
pub read_before : (slots : List Slot) (j k : ℕ) (x y : Slot) → j < length slots → k < length slots
    → IsBefore (get_or slots j x) (get_or slots k y) → (d : Slot) → IsBefore (get_or slots j d) (get_or slots k d)
read_before slots j k x y j_inside k_inside before d =
    subst (λ o. IsBefore o (get_or slots k d)) (get_or_default slots j x d j_inside)
    (subst (IsBefore (get_or slots j x)) (get_or_default slots k y d k_inside) before)

pub one_more_follows : (slots : List Slot) (last n : ℕ) → n ≡ last + 1 → n < length slots → All IsInOrder slots
    → ((d : Slot) → IsBefore (get_or slots last d) (get_or slots n d)) → AreFollowing slots n → AreFollowing slots (n + 1)
one_more_follows slots last n is inside order next before = λ j k d less below. elim (cases_lt k n) [
  | inl earlier ↦ before j k d less earlier
  | inr at ↦
      let here : n ≡ k = omega arith in
      subst (λ m. IsBefore (get_or slots j d) (get_or slots m d)) here (elim (cases_lt j last) [
        | inl further ↦
            passes_on (get_or slots j d) (get_or slots last d) (get_or slots n d) (order last d (omega arith))
            (before j last d further (omega arith)) (next d)
        | inr beside ↦ let same : last ≡ j = omega arith in subst (λ m. IsBefore (get_or slots m d) (get_or slots n d)) same (next d)
      ])
]

-- of two frames that overlap neither is before the other
not_before : (network : Network) (first second i k s j l t link instant : ℕ) → route_link network i k ≡ link
    → instant < first + start network i k + s + separation network i link → second + start network j l + t ≤ instant
    → IsBefore (slot_at network first i k s) (slot_at network second j l t) → ⊥
unfolding slot_at
not_before network first second i k s j l t link instant i_link not_ended begun before = grind arith

module _ (network : Network) (offsets : List ℕ) where
  abbrev at_frame : ℕ → ℕ → ℕ → Slot
  at_frame i k shift = slot_at network (offset_of offsets i) i k shift

  different : (i k s j l t : ℕ) → i < j → at_frame i k s ≡ at_frame j l t → ⊥
  unfolding slot_at
  different i k s j l t less same = let stream = ap (λ (o : Slot). o.stream) same in omega arith

  pub apart_from_following : (link : ℕ) (slots : List Slot) → AreSlots network offsets link slots → AllPairs IsBefore slots
      → AreApartAt network offsets link
  apart_from_following link slots are following triple at conflict overlaps =
      let i = triple.left in
      let j = triple.right in
      let ordered = conflict.ordered in
      let counted = conflict.counted in
      let i_use = use_of network i triple.link conflict.left_uses in
      let j_use = use_of network j triple.link conflict.right_uses in
      let i_frame = at_frame i i_use.hop overlaps.left in
      let j_frame = at_frame j j_use.hop overlaps.right in
      let i_place = are.each i i_use.hop overlaps.left (omega arith) i_use.counted (i_use.same_link ∙ at) overlaps.left_sent in
      let j_place = are.each j j_use.hop overlaps.right counted j_use.counted (j_use.same_link ∙ at) overlaps.right_sent in
      meet i_place.0 j_place.0 i_frame j_frame i_place.1 j_place.1 i_place.2 j_place.2
      (λ same. different i i_use.hop overlaps.left j j_use.hop overlaps.right ordered same)
      (not_before network (offset_of offsets i) (offset_of offsets j) i i_use.hop overlaps.left j j_use.hop overlaps.right triple.link overlaps.instant
      i_use.same_link (omega arith) (omega arith))
      (not_before network (offset_of offsets j) (offset_of offsets i) j j_use.hop overlaps.right i i_use.hop overlaps.left triple.link overlaps.instant
      j_use.same_link (omega arith) (omega arith))
    where
      reads : (p : ℕ) (x d : Slot) → p < length slots → get_or slots p x ≡ x → get_or slots p d ≡ x
      reads p x d inside is = get_or_default slots p d x inside ∙ is

      meet : (p q : ℕ) (x y : Slot) → p < length slots → q < length slots → get_or slots p x ≡ x → get_or slots q y ≡ y
          → (x ≡ y → ⊥) → (IsBefore x y → ⊥) → (IsBefore y x → ⊥) → ⊥
      meet p q x y p_inside q_inside p_is q_is differ not_first not_second = elim (cases_order p q) [
        | inl same ↦ differ (sym p_is ∙ (ap (λ m. get_or slots m x) same ∙ reads q y x q_inside q_is))
        | inr other ↦ elim other [
          | inl less ↦
              let before = following p q x less q_inside in
              not_first (subst (IsBefore x) (reads q y x q_inside q_is) (subst (λ o. IsBefore o (get_or slots q x)) p_is before))
          | inr more ↦
              let before = following q p y more p_inside in
              not_second (subst (IsBefore y) (reads p x y p_inside p_is) (subst (λ o. IsBefore o (get_or slots p y)) q_is before))
        ]
      ]

  -- no frames overlap on any link, where none do on the first links
  pub apart_on_all : (links : ℕ) → IsWellFormed network → length network.links ≤ links → ((link : ℕ) → link < links → AreApartAt network offsets link)
      → AreApart network offsets
  apart_on_all links formed all apart triple conflict overlaps =
      let exists = UsesLink-exists network triple.left triple.link formed conflict.left_uses in
      apart triple.link (omega arith) triple refl conflict overlaps
