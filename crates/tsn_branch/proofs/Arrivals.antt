-- The first stream that arrives last, stream by stream.
use Rattle.std.proofs.Common.{◌≡◌, ℕ, ◌+◌, ◌<◌, ◌≤◌, List, map, arith}
use Rattle.std.specs.List.{range_with_len}
use Rattle.tsn_model.specs.Network.{Network, stream_count}
use Rattle.tsn_model.specs.Timing.{arrival}
use Rattle.tsn_model.specs.Schedule.{flowspan, offset_of}
use Rattle.tsn_model.proofs.Lists.{greatest-le, All-map-range}
use Rattle.tsn_model.proofs.Schedules.{arrival-le-flowspan}
use Rattle.tsn_branch.specs.Look.{IsFirstLast}

-- among the first n streams, the first that arrives last, and when
pub record IsLastSoFar (network : Network) (offsets : List ℕ) (n last end : ℕ) : Type 0 where
  pub counted : last < n
  pub arrives : offset_of offsets last + arrival network last ≡ end
  pub sooner_before : (j : ℕ) → j < last → offset_of offsets j + arrival network j < end
  pub none_later : (j : ℕ) → j < n → offset_of offsets j + arrival network j ≤ end

module _ (network : Network) (offsets : List ℕ) where
  pub flowspan_is : (last end : ℕ) → IsLastSoFar network offsets (stream_count network) last end → end ≡ flowspan network offsets
  unfolding flowspan
  flowspan_is last end all =
      let arrives = all.arrives in
      let high = greatest-le (map (λ i. offset_of offsets i + arrival network i) (range_with_len 0 (stream_count network))) end
      (All-map-range (λ x. x ≤ end) (λ i. offset_of offsets i + arrival network i) (stream_count network) 0 (λ i low below. all.none_later i (omega arith))) in
      let low = arrival-le-flowspan network offsets last all.counted in
      omega arith

  pub IsFirstLast-from : (last end : ℕ) → IsLastSoFar network offsets (stream_count network) last end → IsFirstLast network offsets last
  IsFirstLast-from last end all =
      let is = flowspan_is last end all in
      let arrives = all.arrives in
      record {
        counted = all.counted;
        arrives = omega arith;
        sooner_before = λ j below. let before = all.sooner_before j below in omega arith;
      }
