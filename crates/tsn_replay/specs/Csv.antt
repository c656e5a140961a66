-- The rows of a replay's table as comma-separated values (RFC 4180).
--     start_field                   a field
--     record_text, csv_text         a record, and all of them
use Rattle.std.specs.Prelude.{ℕ, List, [], ◌∷◌, ◌++◌, codes, Option, Some, None}
use Rattle.std.specs.List.{flat_map}
use Rattle.std.specs.Fmt.{decimal}
use Rattle.tsn_timing.specs.Problem.{NamedNetwork}
use Rattle.tsn_text.specs.Field.{quoted_field}
use Rattle.tsn_replay.specs.declared.trace.Row.{Row}
use Rattle.tsn_replay.specs.Rows.{stream_name}

-- the actual start in decimal; empty where there is none
abbrev pub start_field : Option ℕ → List ℕ
start_field (Some time) = decimal time
start_field None = []

-- the cycle, the hop, and the planned and the actual start, each after a comma, and the end of the line
unfoldable pub numbers_text : Row → List ℕ
numbers_text row =
    codes "," ++ (decimal row.cycle ++ (codes "," ++ (decimal row.hop ++ (codes "," ++ (decimal row.planned ++ (codes "," ++ (start_field row.actual ++ 13 ∷ 10 ∷ [])))))))

-- a record: the stream's name in quotes, and the numbers
abbrev pub record_text : NamedNetwork → Row → List ℕ
record_text problem row = quoted_field (stream_name problem row.stream) ++ numbers_text row

-- the names of the columns
abbrev pub header_text : List ℕ
header_text = codes "stream,cycle,hop,planned,actual\r\n"

-- the header, and a record for each row
abbrev pub csv_text : NamedNetwork → List Row → List ℕ
csv_text problem rows = header_text ++ flat_map (record_text problem) rows
