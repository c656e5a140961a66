-- How the entries of a merged list are made from the times of the background that it keeps.
--     Keeps                         one more entry, in order
--     NoneScheduled, IsOpening      from when on the scheduled class is open between two such times
--     IsFilled                      the octets between them
use Rattle.std.specs.Prelude.{◌≡◌, ◌≢◌, ℕ, ◌+◌, ◌≤◌, ◌<◌, ◌⊎◌, Bool, IsTrue, List, ◌∷◌, ◌++◌}
use Rattle.tsn_model.specs.declared.GateEntry.{GateEntry}
use Rattle.tsn_model.specs.Gates.{closed_octet, scheduled_octet}
use Rattle.tsn_gate.specs.declared.windows.Window.{Window}
use Rattle.tsn_gate.specs.Entries.{octet_at, HasOctet}
use Rattle.tsn_gate.specs.Merged.{background_times, kept_times}

-- of that entry, which begins at `start`, and any behind it the same is kept as was to be
abbrev pub Keeps : ℕ → ℕ → GateEntry → ℕ → ℕ → List Window → List Window → ℕ → Type 0
Keeps least cycle entry start from old new next = (rest : List GateEntry)
    → old ++ kept_times least cycle from (background_times start (entry ∷ rest)) ≡ new ++ kept_times least cycle next (background_times (start + entry.interval) rest)

-- no window is open from `from` on and before `until`
abbrev pub NoneScheduled : List GateEntry → ℕ → ℕ → Type 0
NoneScheduled entries from until = (t : ℕ) → from ≤ t → t < until → octet_at entries t ≢ scheduled_octet

-- the last instant up to which a guard can stay closed, where it may; else `from`
pub record IsOpening (entries : List GateEntry) (from until least : ℕ) (closes : Bool) (opens : ℕ) : Type 0 where
  pub low : from ≤ opens
  pub high : opens ≤ until
  pub long : (opens ≡ from) ⊎ (IsTrue closes × (from + least ≤ opens))
  pub enough : (opens ≡ from) ⊎ (opens ≡ until) ⊎ (opens + least ≤ until)
  pub shut : NoneScheduled entries from opens
  pub last : IsTrue closes → (end : ℕ) → from + least ≤ end → end ≤ until → (end ≡ until) ⊎ (end + least ≤ until) → NoneScheduled entries from end → end ≤ opens

-- the new entries are closed up to such an instant, and then open to the scheduled class
pub record IsFilled (entries new : List GateEntry) (from until least : ℕ) (closes : Bool) : Type 0 where
  pub opens : ℕ
  pub opening : IsOpening entries from until least closes opens
  pub closed : HasOctet new from opens closed_octet
  pub scheduled : HasOctet new opens until scheduled_octet
