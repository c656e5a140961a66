-- What a device doesn't take of gate control lists, in words.
--     is_long, is_short          a list that it doesn't take
--     limits_lines               a line for each reason
--     closed_lines               a line for each list that leaves others no time
use Rattle.std.specs.Prelude.{ℕ, Bool, nat_lt, ◌==◌, if◌then◌else◌, Option, Some, None, List, [], ◌∷◌, ◌++◌, length, codes}
use Rattle.std.specs.List.{flat_map, list_any}
use Rattle.std.specs.Fmt.{decimal}
use Rattle.tsn_model.specs.declared.GateEntry.{GateEntry}
use Rattle.tsn_model.specs.Network.{Network}
use Rattle.tsn_model.specs.Gates.{background_octet}
use Rattle.tsn_model.specs.Bridge.{LinkGates}
use Rattle.tsn_gate.specs.Taprio.{shortest_entry}

-- more than `most` entries
abbrev pub is_long : ℕ → List GateEntry → Bool
is_long most entries = nat_lt most (length entries)

-- an entry shorter than `least`
abbrev pub is_short : ℕ → List GateEntry → Bool
is_short least entries = list_any (λ entry. nat_lt entry.interval least) entries

-- `link 4: 31 entries, more than 30`
unfoldable pub long_text : ℕ → LinkGates → List ℕ
long_text most list =
    if is_long most list.entries
    then codes "link " ++ (decimal list.link ++ (codes ": " ++ (decimal (length list.entries) ++ (codes " entries, more than " ++ (decimal most ++ 10 ∷ [])))))
    else []

-- `link 4: an entry shorter than 480 ns`
unfoldable pub short_text : ℕ → LinkGates → List ℕ
short_text least list =
    if is_short least list.entries then codes "link " ++ (decimal list.link ++ (codes ": an entry shorter than " ++ (decimal least ++ codes " ns\n"))) else []

-- the shortest entry that a device takes on a link: the one that is given, or what Linux takes
abbrev pub least_on : Network → Option ℕ → ℕ → ℕ
least_on network (Some least) link = least
least_on network None link = shortest_entry network link

abbrev pub device_line : Network → ℕ → Option ℕ → LinkGates → List ℕ
device_line network most least list = long_text most list ++ short_text (least_on network least list.link) list

-- those of all lists
abbrev pub limits_lines : Network → ℕ → Option ℕ → List LinkGates → List ℕ
limits_lines network most least lists = flat_map (device_line network most least) lists

-- the background's gates are open at some time
abbrev pub has_background : List GateEntry → Bool
has_background entries = list_any (λ entry. entry.octet == background_octet) entries

-- `link 4: no time is left to other frames`
unfoldable pub closed_text : LinkGates → List ℕ
closed_text list = if has_background list.entries then [] else codes "link " ++ (decimal list.link ++ codes ": no time is left to other frames\n")

abbrev pub closed_lines : List LinkGates → List ℕ
closed_lines lists = flat_map closed_text lists
