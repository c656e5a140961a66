-- Tables of sums of works, in units.
--     key_of, work_of                  the parts of a row
--     IsUnit, AreLow, AreSmall         what works have to be for a table of them
--     Covers                           which rooms a table tells of
--     TellsReached, marked             which amounts some works reach, and with one more work
--     TellsFilled, most_marked         the most that they fill of a room
use Rattle.std.specs.Prelude.{◌≡◌, ℕ, zero, suc, ◌+◌, ◌-◌, ◌*◌, ◌/◌, ◌%◌, ◌^◌, ◌≤◌, ◌<◌, leb, cond, Bool, true, false, List, slice_index_or, All}
use Rattle.tsn_model.specs.Argument.{reaches, filled}

-- how far from where a room begins a frame is at least, and its work
abbrev pub key_of : ℕ × ℕ → ℕ
key_of row = row.0

abbrev pub work_of : ℕ × ℕ → ℕ
work_of row = row.1

-- the works are multiples of the unit, and none is 0
pub record IsUnit (unit : ℕ) (works : List (ℕ × ℕ)) : Type 0 where
  pub some : 0 < unit
  pub each : All (λ work. (unit ≤ work.1) × (work.1 % unit ≡ 0)) works

-- the works are no longer than this
abbrev pub AreLow : List (ℕ × ℕ) → Type 0
AreLow works = All (λ work. work.1 < 2 ^ 32) works

-- rooms up to this one that have no more than 4,096 units have no more than so many
abbrev pub Covers : ℕ → ℕ → ℕ → Type 0
Covers unit units most = (room : ℕ) → room ≤ most → room ≤ 4096 * unit → room / unit ≤ units

abbrev pub AreSmall : List (ℕ × ℕ) → Type 0
AreSmall works = All (λ work. work.0 + work.1 < 2 ^ 63) works

-- the table tells of so many units, and of fewer, whether some of the works add up to them
abbrev pub TellsReached : List (ℕ × ℕ) → ℕ → ℕ → List Bool → Type 0
TellsReached works unit units table = (k : ℕ) → k ≤ units → slice_index_or table k false ≡ reaches works (k * unit)

-- so many units are reached already, or with one more work, so many units, that asks for so much
unfoldable pub marked : List Bool → ℕ → ℕ → ℕ → ℕ → Bool
marked table need back unit k = cond (slice_index_or table k false) true (cond (leb need (k * unit)) (slice_index_or table (k - back) false) false)

-- the most that is reached up to so many units
unfoldable pub most_marked : List Bool → ℕ → ℕ → ℕ
most_marked table unit zero = 0
most_marked table unit (suc k) = cond (slice_index_or table (suc k) false) (suc k * unit) (most_marked table unit k)

-- the table tells of rooms of so many units, and of fewer, the most that the works fill
abbrev pub TellsFilled : List (ℕ × ℕ) → ℕ → ℕ → List ℕ → Type 0
TellsFilled works unit units table = (k : ℕ) → k ≤ units → slice_index_or table k 0 ≡ filled works (k * unit)
