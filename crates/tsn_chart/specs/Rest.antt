-- The longest time for which a link stays open for the background.
--     IsOpenFrom        open without a break
--     IsLongestOpen     the longest such time
--     Run, go_on        how long a list is open up to some entry
use Rattle.std.specs.Prelude.{ℕ, ◌+◌, ◌≤◌, ◌<◌, ◌==◌, max, if◌then◌else◌, List}
use Rattle.tsn_model.specs.declared.GateEntry.{GateEntry}
use Rattle.tsn_model.specs.Gates.{cycle_of, IsOctetAt, background_octet}
use Rattle.tsn_chart.specs.declared.rest.Run.{Run}

-- at each of so many nanoseconds from that instant on the gates of the background classes alone are open, in this cycle and the next
abbrev pub IsOpenFrom : List GateEntry → ℕ → ℕ → Type 0
IsOpenFrom entries start length = (t : ℕ) → start ≤ t → t < start + length → IsOctetAt entries t background_octet

-- the longest such time from any instant on, but no more than the cycle
pub record IsLongestOpen (entries : List GateEntry) (longest : ℕ) : Type 0 where
  pub within : longest ≤ cycle_of entries
  pub start : ℕ
  pub is_open : IsOpenFrom entries start longest
  pub most : (other length : ℕ) → length ≤ cycle_of entries → IsOpenFrom entries other length → length ≤ longest

-- one entry more: how long it has been open at its end, and the longest so far
abbrev pub go_on : Run → GateEntry → Run
go_on run entry =
    if entry.octet == background_octet
    then record { current = run.current + entry.interval; longest = max run.longest (run.current + entry.interval) }
    else record { current = 0; longest = run.longest }
