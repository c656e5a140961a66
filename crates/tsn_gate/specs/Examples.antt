-- The gates of a small network, worked out by hand: those of the link to C of `small_network`, by its schedule.
use Rattle.tsn_model.specs.Gates.{IsWanted, closed_octet, scheduled_octet, background_octet}
use Rattle.tsn_model.specs.Kept.{IsKept}
use Rattle.tsn_model.specs.Examples.{small_network, small_offsets}

-- The two windows are from 1626 on and before 2970; the guard before them lasts 12,336 ns, so it begins at 989290 of the cycle before.
pub record SmallGates : Type 0 where
  pub in_window : IsWanted small_network small_offsets 4 1626 scheduled_octet
  pub before_window : IsWanted small_network small_offsets 4 1625 closed_octet
  pub early : IsWanted small_network small_offsets 4 1625 scheduled_octet → ⊥
  pub last_instant : IsWanted small_network small_offsets 4 2969 scheduled_octet
  pub after_window : IsWanted small_network small_offsets 4 2970 background_octet
  pub late : IsWanted small_network small_offsets 4 2970 scheduled_octet → ⊥
  pub guard_begins : IsWanted small_network small_offsets 4 989290 closed_octet
  pub before_guard : IsWanted small_network small_offsets 4 989289 background_octet

-- What may stand in place of these gates: a guard may go to the scheduled class, and background may be closed; a window may not be closed, nor a guard opened to others.
pub record SmallKeptGates : Type 0 where
  pub guard_given : IsKept small_network small_offsets 4 1625 scheduled_octet
  pub background_closed : IsKept small_network small_offsets 4 2970 closed_octet
  pub window_closed : IsKept small_network small_offsets 4 1626 closed_octet → ⊥
  pub guard_opened : IsKept small_network small_offsets 4 1625 background_octet → ⊥
