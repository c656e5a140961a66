-- What is said of a list of offsets.
--     Judges                                       the judgement of a list
--     IsFirstPastPeriod, IsFirstEarly, IsFirstTooLate, IsFirstOverlapWith, ..    its parts, by stream and by pair of streams
--     ComesAfter, IsAfter, IsBetween, IsLeastBetween    by how much frames come after others
use Rattle.std.specs.Prelude.{◌≡◌, ℕ, ◌+◌, ◌<◌, ◌⊎◌, ℤ, pos, ◌-ℤ◌, ◌≤ℤ◌, ◌<ℤ◌, neg_ℤ, List}
use Rattle.tsn_model.specs.declared.Triple.{Triple}
use Rattle.tsn_model.specs.Network.{Network, stream_count, period_of, release_of, latest_of}
use Rattle.tsn_model.specs.Timing.{Sends, arrival, span}
use Rattle.tsn_model.specs.Schedule.{IsValid, IsFirstViolation, FitsPeriod, IsReleased, IsInTime, offset_of}
use Rattle.tsn_model.specs.PlainWords.{IsOverlap}
use Rattle.tsn_timing.specs.declared.timing.Validity.{Validity}
use Rattle.tsn_timing.specs.declared.timing.Validity.TheVariants.{Valid, Refused}

-- the offsets are a valid schedule, or this is the first reason for which they are none
abbrev pub Judges : Network → List ℕ → Validity → Type 0
Judges network offsets Valid = IsValid network offsets
Judges network offsets (Refused violation) = IsFirstViolation network offsets violation

-- the first stream that isn't done within its period
pub record IsFirstPastPeriod (network : Network) (offsets : List ℕ) (i : ℕ) : Type 0 where
  pub counted : i < stream_count network
  pub past : period_of network i < offset_of offsets i + span network i
  pub fit_before : (j : ℕ) → j < i → FitsPeriod network offsets j

-- the first stream that starts before its release
pub record IsFirstEarly (network : Network) (offsets : List ℕ) (i : ℕ) : Type 0 where
  pub counted : i < stream_count network
  pub early : offset_of offsets i < release_of network i
  pub released_before : (j : ℕ) → j < i → IsReleased network offsets j

-- the first stream that arrives after its latest instant
pub record IsFirstTooLate (network : Network) (offsets : List ℕ) (i : ℕ) : Type 0 where
  pub counted : i < stream_count network
  pub late : latest_of network i < offset_of offsets i + arrival network i
  pub in_time_before : (j : ℕ) → j < i → IsInTime network offsets j

-- ---- overlaps

-- some frame of stream j comes that much after one of stream i, were both offsets 0
pub record ComesAfter (network : Network) (i j : ℕ) (lag : ℤ) : Type 0 where
  pub first : ℕ
  pub second : ℕ
  pub first_sent : Sends network i first
  pub second_sent : Sends network j second
  pub is : lag ≡ pos second -ℤ pos first

-- some frame of stream j comes that much after a shift of another stream's, and that is above the one number and below the other
pub record IsAfter (network : Network) (j first : ℕ) (low high lag : ℤ) : Type 0 where
  pub second : ℕ
  pub sent : Sends network j second
  pub is : lag ≡ pos second -ℤ pos first
  pub above : low <ℤ lag
  pub below : lag <ℤ high

-- a number that sums of instants don't bring out of range
pub record IsNear (number : ℤ) : Type 0 where
  pub low : neg_ℤ (pos 4000000000) ≤ℤ number
  pub high : number ≤ℤ pos 4000000000

-- the same after some frame of stream i
pub record IsBetween (network : Network) (i j : ℕ) (low high lag : ℤ) : Type 0 where
  pub first : ℕ
  pub sent : Sends network i first
  pub after : IsAfter network j first low high lag

-- the least one
pub record IsLeastBetween (network : Network) (i j : ℕ) (low high lag : ℤ) : Type 0 where
  pub between : IsBetween network i j low high lag
  pub least : (other : ℤ) → IsBetween network i j low high other → lag ≤ℤ other

-- frames of the streams that are a lag apart overlap on the link
abbrev pub IsOverlapOf : Network → List ℕ → ℕ → ℕ → ℕ → ℤ → Type 0
IsOverlapOf network offsets left right link lag = IsOverlap network offsets (record { left = left; right = right; link = link; lag = lag })

-- no two frames of the streams overlap on the link
abbrev pub AreApartOn : Network → List ℕ → ℕ → ℕ → ℕ → Type 0
AreApartOn network offsets left right link = (lag : ℤ) → IsOverlapOf network offsets left right link lag → ⊥

-- the least lag by which frames of the streams overlap on the link
pub record IsLeastOverlap (network : Network) (offsets : List ℕ) (left right link : ℕ) (lag : ℤ) : Type 0 where
  pub overlap : IsOverlapOf network offsets left right link lag
  pub least : (other : ℤ) → IsOverlapOf network offsets left right link other → lag ≤ℤ other

-- no two frames of the streams overlap on any link
abbrev pub ArePairApart : Network → List ℕ → ℕ → ℕ → Type 0
ArePairApart network offsets left right = (link : ℕ) → AreApartOn network offsets left right link

-- the triple's link is less than that one; or it is the same, and the triple's lag is no greater than that one
abbrev pub ComesFirst : Triple → ℕ → ℤ → Type 0
ComesFirst triple link lag = (triple.link < link) ⊎ ((triple.link ≡ link) × (triple.lag ≤ℤ lag))

-- the first overlap of the two streams
pub record IsFirstOverlapWith (network : Network) (offsets : List ℕ) (left right : ℕ) (triple : Triple) : Type 0 where
  pub same_left : triple.left ≡ left
  pub same_right : triple.right ≡ right
  pub overlap : IsOverlap network offsets triple
  pub first : (link : ℕ) (lag : ℤ) → IsOverlapOf network offsets left right link lag → ComesFirst triple link lag

-- the stream overlaps with no later one
abbrev pub HasNoOverlap : Network → List ℕ → ℕ → Type 0
HasNoOverlap network offsets left = (right : ℕ) → ArePairApart network offsets left right

-- the first overlap of the stream with a later one
pub record IsFirstOverlapOf (network : Network) (offsets : List ℕ) (left : ℕ) (triple : Triple) : Type 0 where
  pub first : IsFirstOverlapWith network offsets left triple.right triple
  pub apart_before : (right : ℕ) → right < triple.right → ArePairApart network offsets left right
