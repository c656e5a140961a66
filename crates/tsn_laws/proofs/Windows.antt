-- What is left of a stream's offset by its release, its period and its latest instant.
use Rattle.std.proofs.Common.{ℕ, List, arith}
use Rattle.std.proofs.lemmas.Int.{ints, clamps}
use Rattle.tsn_model.specs.Network.{Network}
use Rattle.tsn_model.specs.Schedule.{latest_offset, FitsPeriod, IsReleased, IsInTime, IsWithinWindow}

module _ (network : Network) (offsets : List ℕ) (i : ℕ) where
  pub window_of : IsReleased network offsets i × FitsPeriod network offsets i × IsInTime network offsets i → IsWithinWindow network offsets i
  unfolding latest_offset
  window_of parts =
      let released = parts.0 in
      let fits = parts.1 in
      let in_time = parts.2 in
      record { least = omega (arith, released); greatest = omega (arith, ints, clamps, fits, in_time) }

  pub parts_of : IsWithinWindow network offsets i → IsReleased network offsets i × FitsPeriod network offsets i × IsInTime network offsets i
  unfolding latest_offset
  parts_of window =
      let least = window.least in
      let greatest = window.greatest in
      (omega (arith, least), omega (arith, ints, clamps, greatest), omega (arith, ints, clamps, greatest))
