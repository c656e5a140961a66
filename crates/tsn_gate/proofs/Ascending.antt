-- A stream's frames come one after another.
use Rattle.std.proofs.Common.{ℕ, ◌+◌, ◌*◌, ◌≤◌, ◌<◌, List, map, get_or, All, AllPairs, arith}
use Rattle.std.specs.List.{range_with_len}
use Rattle.tsn_model.specs.Network.{Network, IsWellFormed, period_of, burst_of, turns_of}
use Rattle.tsn_model.specs.Timing.{pace, shifts, UsesLink}
use Rattle.tsn_model.specs.Schedule.{IsValid}
use Rattle.tsn_model.proofs.Lists.{All-map-range, AllPairs-range, AllPairs-map, AllPairs-flat_map}
use Rattle.tsn_model.proofs.Routes.{UsesLink-counted, occupancy-pos, occupancy-le-pace, burst-le-period}
use Rattle.tsn_model.proofs.Shifts.{part_below}

module _ (network : Network) (i : ℕ) (some : 0 < pace network i) (room : burst_of network i * pace network i ≤ period_of network i) where
  abbrev shift_at : ℕ → ℕ → ℕ
  shift_at turn place = turn * period_of network i + place * pace network i

  abbrev of_turn : ℕ → List ℕ
  of_turn turn = map (shift_at turn) (range_with_len 0 (burst_of network i))

  in_turn : (turn : ℕ) → AllPairs ◌<◌ (of_turn turn)
  in_turn turn =
      AllPairs-map ◌<◌ (shift_at turn) (range_with_len 0 (burst_of network i))
      (λ k l d order inside.
      let less = AllPairs-range (burst_of network i) 0 k l d order inside in
      let gap = part_below (get_or (range_with_len 0 (burst_of network i)) k d) (get_or (range_with_len 0 (burst_of network i)) l d) (pace network i) less in
      omega arith)

  -- each frame of a period begins before any of a later one
  across : (turn later : ℕ) → turn < later → All (λ first. All (λ second. first < second) (of_turn later)) (of_turn turn)
  across turn later less =
      All-map-range (λ first. All (λ second. first < second) (of_turn later)) (shift_at turn) (burst_of network i) 0
      (λ place low high. All-map-range (λ second. shift_at turn place < second) (shift_at later) (burst_of network i) 0
      (λ other from until.
      let periods = part_below turn later (period_of network i) less in
      let places = part_below place (burst_of network i) (pace network i) (omega arith) in
      omega arith))

  all_ascend : AllPairs ◌<◌ (shifts network i)
  unfolding shifts
  all_ascend = AllPairs-flat_map ◌<◌ ◌<◌ of_turn (range_with_len 0 (turns_of network i)) (AllPairs-range (turns_of network i) 0) in_turn across

pub shifts_ascend : (network : Network) (offsets : List ℕ) (i link : ℕ) → IsWellFormed network → IsValid network offsets → UsesLink network i link
    → AllPairs ◌<◌ (shifts network i)
shifts_ascend network offsets i link formed valid uses =
    let some = occupancy-pos network i link formed uses in
    let short = occupancy-le-pace network i link uses in
    all_ascend network i (omega arith) (burst-le-period network offsets i valid (UsesLink-counted network i link uses))
