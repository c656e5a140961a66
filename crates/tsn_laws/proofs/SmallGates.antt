-- The gates of the small network.
use Rattle.std.proofs.Common.{◌≡◌, ℕ, zero, suc, ◌+◌, ◌*◌, ◌≤◌, ◌<◌, ◌⊎◌, IsBitSet, bit_and, refl, sym, ap, subst, arith, inl, inr, suc-ne-zero}
use Rattle.tsn_model.specs.Network.{stream_at, octets_of, turns_of, burst_of, route_of, link_at}
use Rattle.tsn_model.specs.Timing.{occupancy, transfer, hop_delay, ready_after, Sends, hop_on, start_on, UsesLink}
use Rattle.tsn_model.specs.Schedule.{offset_of}
use Rattle.tsn_model.specs.Gates.{guard_of, InWindow, InGuard, IsWanted, closed_octet, scheduled_octet, background_octet}
use Rattle.tsn_model.specs.Kept.{IsKept}
use Rattle.tsn_model.specs.Examples.{small_network, small_offsets}
use Rattle.tsn_gate.specs.Examples.{SmallGates, SmallKeptGates}
use Rattle.tsn_gate.proofs.SingleFrames.{one_shift, sent_from_one}

-- when each stream's window begins
begins : (i : ℕ) → UsesLink small_network i 4
    → ((i ≡ 0) × (offset_of small_offsets i + start_on small_network i 4 ≡ 1626)) ⊎ ((i ≡ 1) × (offset_of small_offsets i + start_on small_network i 4 ≡ 2298))
unfolding small_network small_offsets stream_at octets_of route_of link_at occupancy transfer hop_delay ready_after start_on hop_on
begins zero uses = inl (refl, refl)
begins (suc zero) uses = inr (refl, refl)
begins (suc (suc k)) uses = absurd (cc uses)

lasts : (i : ℕ) → UsesLink small_network i 4 → occupancy small_network i 4 ≡ 672
unfolding small_network small_offsets stream_at octets_of route_of link_at occupancy transfer hop_delay start_on hop_on
lasts zero uses = refl
lasts (suc zero) uses = refl
lasts (suc (suc k)) uses = absurd (cc uses)

first_uses : UsesLink small_network 0 4
unfolding small_network stream_at octets_of route_of link_at occupancy transfer hop_delay start_on hop_on
first_uses = refl

second_uses : UsesLink small_network 1 4
unfolding small_network stream_at octets_of route_of link_at occupancy transfer hop_delay start_on hop_on
second_uses = refl

first_begins : offset_of small_offsets 0 + start_on small_network 0 4 ≡ 1626
first_begins = elim (begins 0 first_uses) [ inl first ↦ first.1 | inr second ↦ absurd (omega (arith, second.0)) ]

second_begins : offset_of small_offsets 1 + start_on small_network 1 4 ≡ 2298
second_begins = elim (begins 1 second_uses) [ inl first ↦ absurd (omega (arith, first.0)) | inr second ↦ second.1 ]

guard_is : guard_of small_network 4 ≡ 12336
unfolding small_network guard_of link_at
guard_is = refl

cycle_is : small_network.cycle ≡ 1000000
unfolding small_network
cycle_is = refl

-- each stream sends one frame, at its offset
sent_at : (i shift : ℕ) → UsesLink small_network i 4 → Sends small_network i shift → shift ≡ 0
unfolding small_network stream_at turns_of burst_of route_of hop_on
sent_at zero shift uses sent = one_shift small_network 0 shift refl refl sent
sent_at (suc zero) shift uses sent = one_shift small_network 1 shift refl refl sent
sent_at (suc (suc k)) shift uses sent = absurd (cc uses)

first_frame : Sends small_network 0 0
unfolding small_network stream_at turns_of burst_of
first_frame = sent_from_one small_network 0 refl refl

second_frame : Sends small_network 1 0
unfolding small_network stream_at turns_of burst_of
second_frame = sent_from_one small_network 1 refl refl

-- the instants of the windows
in_windows : (t : ℕ) → InWindow small_network small_offsets 4 t → (1626 ≤ t) × (t < 2970)
in_windows t (i, uses, occupies) =
    let long = lasts i uses in
    let at_offset = sent_at i occupies.shift uses occupies.sent in
    elim (begins i uses) [ inl first ↦ let at = first.1 in (omega arith, omega arith) | inr second ↦ let at = second.1 in (omega arith, omega arith) ]

first_window : (t : ℕ) → 1626 ≤ t → t < 2298 → InWindow small_network small_offsets 4 t
first_window t low high = let at = first_begins in let long = lasts 0 first_uses in
    (0, first_uses, record { shift = 0; sent = first_frame; frame = record { begun = omega arith; not_ended = omega arith } })

second_window : (t : ℕ) → 2298 ≤ t → t < 2970 → InWindow small_network small_offsets 4 t
second_window t low high = let at = second_begins in let long = lasts 1 second_uses in
    (1, second_uses, record { shift = 0; sent = second_frame; frame = record { begun = omega arith; not_ended = omega arith } })

-- the instants of the guard, of the first cycle
in_guards : (t : ℕ) → t < 1000000 → InGuard small_network small_offsets 4 t → (t < 2298) ⊎ (989290 ≤ t)
in_guards t below guard =
    let before = guard.not_begun in
    let near = guard.guarded in
    let whole = guard_is in
    let at_offset = sent_at guard.stream guard.shift guard.uses guard.sent in
    let cycles : guard.cycles * small_network.cycle ≡ guard.cycles * 1000000 = ap (λ n. guard.cycles * n) cycle_is in
    grind (arith, begins)

this_guard : (t : ℕ) → t < 1626 → InGuard small_network small_offsets 4 t
this_guard t high = grind (arith, first_begins, guard_is, first_frame, first_uses)

next_guard : (t : ℕ) → 989290 ≤ t → t < 1000000 → InGuard small_network small_offsets 4 t
next_guard t low high = grind (arith, first_begins, guard_is, cycle_is, first_frame, first_uses)

pub small_gates : SmallGates
small_gates = record {
  in_window = inl (first_window 1626 (omega arith) (omega arith), refl);
  before_window = inr (inl ((λ window. let at = in_windows 1625 window in let low = at.0 in omega arith), this_guard 1625 (omega arith), refl));
  early = λ wanted. not_scheduled 1625 (λ window. let at = in_windows 1625 window in let low = at.0 in omega arith) wanted;
  last_instant = inl (second_window 2969 (omega arith) (omega arith), refl);
  after_window = inr (inr (
    (λ window. let at = in_windows 2970 window in let high = at.1 in omega arith),
    (λ guard. elim (in_guards 2970 (omega arith) guard) [ inl low ↦ omega arith | inr high ↦ omega arith ]),
    refl,
  ));
  late = λ wanted. not_scheduled 2970 (λ window. let at = in_windows 2970 window in let high = at.1 in omega arith) wanted;
  guard_begins =
      inr (inl ((λ window. let at = in_windows 989290 window in let high = at.1 in omega arith), next_guard 989290 (omega arith) (omega arith), refl));
  before_guard = inr (inr (
    (λ window. let at = in_windows 989289 window in let high = at.1 in omega arith),
    (λ guard. elim (in_guards 989289 (omega arith) guard) [ inl low ↦ omega arith | inr high ↦ omega arith ]),
    refl,
  ));
}
  where
    not_scheduled : (t : ℕ) → ¬ InWindow small_network small_offsets 4 t → IsWanted small_network small_offsets 4 t scheduled_octet → ⊥
    not_scheduled t outside (inl (inside, same)) = outside inside
    not_scheduled t outside (inr (inl (out, guard, same))) = absurd (omega (arith, same))
    not_scheduled t outside (inr (inr (out, no_guard, same))) = absurd (omega (arith, same))

-- a window's octet is kept by one that opens the scheduled class alone
window_kept : (octet : ℕ) → IsWanted small_network small_offsets 4 1626 octet → octet ≡ 128
window_kept octet (inl (inside, same)) = same
window_kept octet (inr (inl (out, guard, same))) = absurd (out (first_window 1626 (omega arith) (omega arith)))
window_kept octet (inr (inr (out, no_guard, same))) = absurd (out (first_window 1626 (omega arith) (omega arith)))

guard_kept : (octet : ℕ) → IsWanted small_network small_offsets 4 1625 octet → octet ≡ 0
guard_kept octet (inl (inside, same)) = let at = in_windows 1625 inside in let low = at.0 in absurd (omega arith)
guard_kept octet (inr (inl (out, guard, same))) = same
guard_kept octet (inr (inr (out, no_guard, same))) = absurd (no_guard (this_guard 1625 (omega arith)))

pub small_kept_gates : SmallKeptGates
small_kept_gates = record {
  guard_given = (0, small_gates.before_window, record { scheduled = λ is. absurd (is refl); others = λ is. absurd (is refl) });
  background_closed = (127, small_gates.after_window, record { scheduled = λ is. absurd (is refl); others = λ is. absurd (is refl) });
  window_closed = λ kept. closed_not kept;
  guard_opened = λ kept. opened_not kept;
}
  where
    closed_not : IsKept small_network small_offsets 4 1626 closed_octet → ⊥
    closed_not (wanted, is, keeps) = keeps.scheduled (subst (λ o. IsBitSet o 7) (sym (window_kept wanted is)) (λ never. suc-ne-zero _ never)) refl

    opened_not : IsKept small_network small_offsets 4 1625 background_octet → ⊥
    opened_not (wanted, is, keeps) = keeps.others (λ never. suc-ne-zero _ never) (ap (λ o. bit_and o 127) (guard_kept wanted is))
