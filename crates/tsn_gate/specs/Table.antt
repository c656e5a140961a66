-- A gate control list as a table.
--     entry_text, head_text     its lines
--     name_at, table_text       the table of a list
use Rattle.std.specs.Prelude.{ℕ, ◌/◌, ◌%◌, true, List, [], ◌∷◌, ◌++◌, length, slice_get, unwrap_or, codes}
use Rattle.std.specs.List.{flat_map}
use Rattle.std.specs.Fmt.{decimal, digit_glyph}
use Rattle.tsn_model.specs.declared.GateEntry.{GateEntry}
use Rattle.tsn_model.specs.Network.{link_at}
use Rattle.tsn_model.specs.Bridge.{LinkGates}
use Rattle.tsn_timing.specs.Problem.{NamedNetwork}

-- an octet as two upper case hexadecimal digits, a space, the interval in decimal, and a line feed
unfoldable pub entry_text : GateEntry → List ℕ
entry_text entry = (digit_glyph true (entry.octet / 16) ∷ digit_glyph true (entry.octet % 16) ∷ []) ++ (codes " " ++ (decimal entry.interval ++ 10 ∷ []))

-- the link's number, the names of the nodes that it joins, and the number of entries
unfoldable pub head_text : ℕ → List ℕ → List ℕ → ℕ → List ℕ
head_text link from to count = codes "link " ++ (decimal link ++ (codes " " ++ (from ++ (codes " " ++ (to ++ (codes " " ++ (decimal count ++ 10 ∷ [])))))))

-- the name of a node; past the last one, none
abbrev pub name_at : NamedNetwork → ℕ → List ℕ
name_at problem node = unwrap_or (slice_get problem.node_names node) []

-- the head, and a line for each entry
unfoldable pub table_text : NamedNetwork → LinkGates → List ℕ
table_text problem list =
    let link = link_at problem.network list.link in
    head_text list.link (name_at problem link.from) (name_at problem link.to) (length list.entries) ++ flat_map entry_text list.entries
