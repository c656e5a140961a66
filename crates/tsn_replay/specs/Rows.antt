-- The rows of a replay's table: the starts of the scheduled frames, planned and actual.
--     passages_of, AreRows          a row for each cycle, stream, shift and hop, in this order
--     row_text, table_text          its text
use Rattle.std.specs.Prelude.{◌≡◌, ℕ, ◌+◌, ◌*◌, ◌≤◌, ◌<◌, ◌==◌, Bool, true, not, List, [], ◌∷◌, ◌++◌, map, filter, length, slice_get, slice_index_or, unwrap_or, Contains, codes, All, Option, Some, None, ◌↔◌}
use Rattle.std.specs.List.{flat_map, range_with_len}
use Rattle.std.specs.Fmt.{decimal}
use Rattle.tsn_model.specs.Network.{Network, IsWellFormed, stream_count, hop_count}
use Rattle.tsn_model.specs.Timing.{shifts}
use Rattle.tsn_model.specs.Bridge.{Passage, ScheduledStart, BridgeRun, IsPassage, StartedAt, planned}
use Rattle.tsn_timing.specs.Problem.{NamedNetwork}
use Rattle.tsn_replay.specs.declared.trace.Row.{Row}
use Rattle.tsn_replay.specs.Frames.{AreSpaced, AreFirsts, frames_of, index_of}

-- what a trace shows: the run, and its table
pub record Traced : Type 0 where
  pub run : BridgeRun
  pub rows : List Row

-- the passages of a frame, by hop; those of a stream in a cycle, by shift; those of a cycle, by stream; and all, by cycle
abbrev pub frame_passages : Network → ℕ → ℕ → ℕ → List Passage
frame_passages network cycle stream shift = map (λ hop. record { stream = stream; shift = shift; cycle = cycle; hop = hop }) (range_with_len 0 (hop_count network stream))

abbrev pub stream_passages : Network → ℕ → ℕ → List Passage
stream_passages network cycle stream = flat_map (frame_passages network cycle stream) (shifts network stream)

abbrev pub cycle_passages : Network → ℕ → List Passage
cycle_passages network cycle = flat_map (stream_passages network cycle) (range_with_len 0 (stream_count network))

abbrev pub passages_of : Network → ℕ → List Passage
passages_of network cycles = flat_map (cycle_passages network) (range_with_len 0 cycles)

-- the passage of a row
abbrev pub row_passage : Row → Passage
row_passage row = record { stream = row.stream; shift = row.shift; cycle = row.cycle; hop = row.hop }

-- the row tells when its passage is planned to start, and when it did, if it has
pub record IsRow (network : Network) (offsets : List ℕ) (run : BridgeRun) (row : Row) : Type 0 where
  pub planned_at : row.planned ≡ planned network offsets (row_passage row)
  pub started : (t : ℕ) → (row.actual ≡ Some t) ↔ StartedAt run (row_passage row) t

-- a right row for each passage, by cycle, then stream, then shift, then hop
pub record AreRows (network : Network) (offsets : List ℕ) (cycles : ℕ) (run : BridgeRun) (rows : List Row) : Type 0 where
  pub passages : map row_passage rows ≡ passages_of network cycles
  pub right : All (IsRow network offsets run) rows

-- no route has more hops than that, and that is no more than a route may have
pub record IsWidth (network : Network) (width : ℕ) : Type 0 where
  pub covers : (i : ℕ) → i < stream_count network → hop_count network i ≤ width
  pub few : width ≤ 64

-- where a passage stands in a table with so many cells for each frame of each cycle
unfoldable pub cell_of : Network → ℕ → Passage → ℕ
cell_of network width passage = (passage.cycle * frames_of network + index_of network passage.stream passage.shift) * width + passage.hop

-- the table has the starts of the passages
pub record IsTable (network : Network) (width cycles : ℕ) (starts : List ScheduledStart) (table : List (Option ℕ)) : Type 0 where
  pub count : length table ≡ cycles * frames_of network * width
  pub has : (passage : Passage) (t : ℕ) → IsPassage network cycles passage → (slice_index_or table (cell_of network width passage) None ≡ Some t) ↔ Contains starts (record { passage = passage; time = t })

-- the starts of so many cycles can be read in the table, and when they are planned
pub record AreTimes (network : Network) (offsets firsts : List ℕ) (width : ℕ) (table : List (Option ℕ)) (cycles : ℕ) : Type 0 where
  pub formed : IsWellFormed network
  pub spaced : AreSpaced network
  pub count : length offsets ≡ stream_count network
  pub small : All (λ offset. offset ≤ network.cycle) offsets
  pub placed : AreFirsts network firsts
  pub wide : IsWidth network width
  pub few : cycles ≤ 16
  pub cells : length table ≡ cycles * frames_of network * width

-- the row of a passage, by the table
unfoldable pub row_of : Network → List ℕ → ℕ → List (Option ℕ) → Passage → Row
row_of network offsets width table passage = record {
  stream = passage.stream;
  shift = passage.shift;
  cycle = passage.cycle;
  hop = passage.hop;
  planned = planned network offsets passage;
  actual = slice_index_or table (cell_of network width passage) None;
}

-- the frame didn't start when it was planned to
abbrev pub is_late_by : ℕ → Option ℕ → Bool
is_late_by planned (Some time) = not (time == planned)
is_late_by planned None = true

unfoldable pub is_late : Row → Bool
is_late row = is_late_by row.planned row.actual

-- the actual start in decimal, or `-` where there is none
abbrev pub start_text : Option ℕ → List ℕ
start_text (Some time) = decimal time
start_text None = codes "-"

-- the name of a stream; past the last one, none
abbrev pub stream_name : NamedNetwork → ℕ → List ℕ
stream_name problem stream = unwrap_or (slice_get problem.stream_names stream) []

-- a line: the stream's name, the cycle, the hop, the planned and the actual start, with spaces between, and a line feed
unfoldable pub row_text : NamedNetwork → Row → List ℕ
row_text problem row = stream_name problem row.stream ++ (codes " " ++ (decimal row.cycle ++ (codes " " ++ (decimal row.hop ++ (codes " " ++ (decimal row.planned ++ (codes " " ++ (start_text row.actual ++ 10 ∷ []))))))))

-- the last line: how many frames are late
unfoldable pub late_text : ℕ → List ℕ
late_text count = codes "late " ++ (decimal count ++ 10 ∷ [])

-- a line for each row, and the last line
abbrev pub table_text : NamedNetwork → List Row → List ℕ
table_text problem rows = flat_map (row_text problem) rows ++ late_text (length (filter is_late rows))
