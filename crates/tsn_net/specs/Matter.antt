-- What is the matter where a condition holds: the key, the value, the number or the name that is wrong.
--     matter_code           the condition that a matter is of
--     IsMatter              what it tells of a place is so
--     FindsFault            the document's fault, with what is the matter; none where it has none
use Rattle.std.specs.Prelude.{◌≡◌, ℕ, ℤ, pos, ◌+◌, ◌-◌, ◌<◌, ◌≤◌, ◌%◌, Bool, true, false, not, ◌||◌, ◌==◌, nat_lt, sum_by, List, [], ◌∷◌, length, take, drop, slice_index_or, position, Option, Some, None, IfSome, is_some, is_none, option_map}
use Rattle.std.specs.List.{list_any, find, range_with_len}
use Rattle.std.specs.Str.{bytes_eq}
use Rattle.toml.specs.Data.{Data, get}
use Rattle.tsn_model.specs.declared.fault.Place.{Place}
use Rattle.tsn_model.specs.declared.fault.Place.TheVariants.{Top, Node, Cable, Stream}
use Rattle.tsn_model.specs.declared.fault.Code.{Code}
use Rattle.tsn_model.specs.declared.fault.Code.TheVariants as code
use Rattle.tsn_model.specs.declared.fault.NetFault.{NetFault}
use Rattle.tsn_net.specs.declared.schema.Key.{Key}
use Rattle.tsn_net.specs.declared.schema.Key.TheVariants as key
use Rattle.tsn_net.specs.declared.schema.Table.{Table}
use Rattle.tsn_net.specs.declared.schema.Table.TheVariants as tables
use Rattle.tsn_net.specs.declared.matter.Matter.{Matter}
use Rattle.tsn_net.specs.declared.matter.Matter.TheVariants as matter
use Rattle.tsn_net.specs.declared.conditions.Amiss.{Amiss}
use Rattle.tsn_net.specs.declared.matter.End.{End}
use Rattle.tsn_net.specs.declared.matter.End.TheVariants.{First, Last}
use Rattle.tsn_net.specs.Schema.{name_of, required, known, keys_in, is_table, holds_at, has_kind, name_keys, number_keys, table_keys}
use Rattle.tsn_net.specs.Document.{Document, value_at, table_at, integer_or, integer_at, number_at, number_or, text_at}
use Rattle.tsn_net.specs.DocumentView.{texts_view, step_view}
use Rattle.tsn_net.specs.Conditions.{holds, first_place, fault_of, is_within, is_name, is_rate, routes_of, names_along, steps_of, different, few, are_miscounted, is_long, frames_of, has_name, joins, is_no_way, talker_of, other_talker, second_entry, given_again, has_cable, is_quick, inner_steps, names_station, names_bridge, inner}

-- the condition that it is of
abbrev pub matter_code : Matter → Code
matter_code (matter.MissingKey k beside) = code.MissingKey
matter_code matter.NoTable = code.WrongKind
matter_code (matter.WrongKind k) = code.WrongKind
matter_code (matter.UnknownKey name) = code.UnknownKey
matter_code (matter.OutOfRange k number) = code.Limit
matter_code (matter.TooMany k count) = code.Limit
matter_code (matter.TooManyFrames count) = code.Limit
matter_code (matter.NoName k text) = code.Limit
matter_code (matter.RouteCount count) = code.Limit
matter_code (matter.LongRoute count) = code.Limit
matter_code (matter.NoRouteName text) = code.Limit
matter_code matter.ManyLinks = code.Limit
matter_code (matter.TakenName number) = code.DuplicateName
matter_code (matter.NoNode name) = code.UnknownName
matter_code (matter.BadRate mbps) = code.BadRate
matter_code matter.Loop = code.DuplicateCable
matter_code (matter.TakenCable number) = code.DuplicateCable
matter_code (matter.ShortRoute count) = code.BadRoute
matter_code (matter.Twice name before again) = code.BadRoute
matter_code (matter.NoStation name end) = code.BadRoute
matter_code (matter.NoBridge name) = code.BadRoute
matter_code (matter.OtherTalker name other) = code.BadRoute
matter_code (matter.SecondEntry name from other) = code.BadRoute
matter_code (matter.GivenTwice names) = code.BadRoute
matter_code (matter.NoCable step) = code.NoCable
matter_code matter.NoStream = code.NoStream
matter_code (matter.BadPeriod period cycle) = code.BadPeriod
matter_code (matter.BadSlack slack step) = code.BadSlack

-- the first key that a table has to have and hasn't
abbrev pub absent_key : Table → Data → Option Key
absent_key t d = find (λ k. is_none (get (name_of k) d)) (required t d)

-- its first key that isn't written
abbrev pub other_key : Table → Data → Option (List ℕ)
other_key t d = find (λ name. not (list_any (λ k. bytes_eq (name_of k) name) (known t d))) (keys_in d)

-- the first key of which it has a value of another kind
abbrev pub amiss_key : Table → Data → Option Key
amiss_key t d = find (λ k. holds_at k (λ v. not (has_kind k v)) d) (known t d)

-- the least and the greatest number at a key
abbrev pub least_at : Key → ℕ
least_at key.Cycle = 1
least_at key.Octets = 64
least_at key.Latest = 1
least_at key.Period = 1
least_at key.Frames = 1
least_at _ = 0

abbrev pub most_at : Key → ℕ
most_at key.Slack = 1000000
most_at key.Proc = 1000000
most_at key.Prop = 1000000
most_at key.Octets = 1522
most_at key.Frames = 16
most_at key.Node = 1024
most_at key.Link = 2048
most_at key.Stream = 2048
most_at key.Route = 65
most_at key.Routes = 32
most_at _ = 1000000000

-- the number at a key, which is the least where there is none that may be left out
abbrev pub number_of : Key → Data → ℤ
number_of key.Latest d = integer_or (pos 1) key.Latest d
number_of key.Period d = integer_or (pos 1) key.Period d
number_of key.Frames d = integer_or (pos 1) key.Frames d
number_of k d = integer_at k d

abbrev pub is_in_range : Key → Data → Bool
is_in_range k d = is_within (least_at k) (most_at k) (number_of k d)

-- how many tables a document has at a key of its top table
abbrev pub count_at : Key → Document → ℕ
count_at key.Node d = length d.nodes
count_at key.Link d = length d.cables
count_at key.Stream d = length d.streams
count_at _ d = 0

-- the first key of a table at which the text is no name, the first at which the number is outside its limits, and the first key of the top
-- table at which there are too many tables
abbrev pub nameless_key : Table → Data → Option Key
nameless_key t d = find (λ k. not (is_name (text_at k d))) (name_keys t)

abbrev pub outside_key : Table → Data → Option Key
outside_key t d = find (λ k. not (is_in_range k d)) (number_keys t)

abbrev pub crowded_key : Document → Option Key
crowded_key d = find (λ k. nat_lt (most_at k) (count_at k d)) table_keys

abbrev pub breaks_key_limit : Table → Data → Bool
breaks_key_limit t d = is_some (nameless_key t d) || is_some (outside_key t d)

-- the names and the numbers of a table are within their limits
abbrev pub KeepsLimits : Table → Data → Type 0
KeepsLimits t d = (nameless_key t d ≡ None) × (outside_key t d ≡ None)

-- the tables like that of a place that stand before it
abbrev pub number_in : Place → ℕ
number_in (Node n) = n
number_in (Cable k) = k
number_in (Stream i) = i
number_in _ = 0

abbrev pub tables_like : Document → Place → List Data
tables_like d (Node n) = d.nodes
tables_like d (Cable k) = d.cables
tables_like d (Stream i) = d.streams
tables_like d _ = []

abbrev pub tables_before : Document → Place → List Data
tables_before d p = take (number_in p) (tables_like d p)

-- the nodes that a cable or the routes of a stream name, in order
abbrev pub nodes_named : Document → Place → List (List ℕ)
nodes_named d (Cable k) = let cable = value_at d (Cable k) in text_at key.A cable ∷ text_at key.B cable ∷ []
nodes_named d p = names_along (routes_of (value_at d p))

-- what a matter tells of a table by itself is so, and the first that is wrong: a name, then a number, and last the routes: how many they
-- are, how long each is, their names, and how many links they have
abbrev pub IsOfTable : Table → Data → Matter → Type 0
IsOfTable t d (matter.NoName k text) = (nameless_key t d ≡ Some k) × (text.now ≡ text_at k d)
IsOfTable t d (matter.OutOfRange k number) = (nameless_key t d ≡ None) × (outside_key t d ≡ Some k) × (number ≡ number_of k d)
IsOfTable t d (matter.RouteCount count) =
    (t ≡ tables.Stream) × KeepsLimits t d × (are_miscounted (routes_of d) ≡ true) × (count ≡ length (routes_of d))
IsOfTable t d (matter.LongRoute count) =
    (t ≡ tables.Stream) × KeepsLimits t d × (are_miscounted (routes_of d) ≡ false) × (option_map length (find is_long (routes_of d)) ≡ Some count)
IsOfTable t d (matter.NoRouteName text) =
    (t ≡ tables.Stream) × KeepsLimits t d × (are_miscounted (routes_of d) ≡ false) × (find is_long (routes_of d) ≡ None)
    × (find (λ name. not (is_name name)) (names_along (routes_of d)) ≡ Some text.now)
IsOfTable t d matter.ManyLinks =
    (t ≡ tables.Stream) × KeepsLimits t d × (are_miscounted (routes_of d) ≡ false) × (find is_long (routes_of d) ≡ None)
    × (find (λ name. not (is_name name)) (names_along (routes_of d)) ≡ None) × (few (different (steps_of (routes_of d))) ≡ None)
IsOfTable t d _ = ⊥

-- the name at an end of a route
abbrev pub end_of : End → List (List ℕ) → List ℕ
end_of First route = slice_index_or route 0 []
end_of Last route = slice_index_or route (length route - 1) []

-- the first index of a route whose name stands again behind it
abbrev pub stands_again : List (List ℕ) → ℕ → Bool
stands_again route i = list_any (bytes_eq (slice_index_or route i [])) (drop (i + 1) route)

abbrev pub first_again : List (List ℕ) → Option ℕ
first_again route = find (stands_again route) (range_with_len 0 (length route))

-- two names or more, none of them twice
abbrev pub HasDistinct : List (List ℕ) → Type 0
HasDistinct route = (2 ≤ length route) × (first_again route ≡ None)

-- what it tells of a route among these nodes is so, and the first that is wrong: the number of names, one that stands twice, the first
-- end, the last one, and then what is between them
abbrev pub IsOfRoute : List Data → List (List ℕ) → Matter → Type 0
IsOfRoute nodes route (matter.ShortRoute count) = (count ≡ length route) × (count < 2)
IsOfRoute nodes route (matter.Twice name before again) =
    (2 ≤ length route) × (first_again route ≡ Some before) × (name.now ≡ slice_index_or route before [])
    × (option_map (λ behind. before + 1 + behind) (position (bytes_eq name.now) (drop (before + 1) route)) ≡ Some again)
IsOfRoute nodes route (matter.NoStation name First) = HasDistinct route × (name.now ≡ end_of First route) × (names_station nodes name.now ≡ false)
IsOfRoute nodes route (matter.NoStation name Last) =
    HasDistinct route × (names_station nodes (end_of First route) ≡ true) × (name.now ≡ end_of Last route) × (names_station nodes name.now ≡ false)
IsOfRoute nodes route (matter.NoBridge name) =
    HasDistinct route × (names_station nodes (end_of First route) ≡ true) × (names_station nodes (end_of Last route) ≡ true)
    × (find (λ n. not (names_bridge nodes n)) (inner route) ≡ Some name.now)
IsOfRoute nodes route _ = ⊥

-- what it tells of some routes among these nodes is so, and the first that is wrong: one that is none by itself, then one that begins
-- elsewhere, a bridge that is entered twice, and last one that is given twice
abbrev pub IsOfRoutes : List Data → List (List (List ℕ)) → Matter → Type 0
IsOfRoutes nodes routes (matter.OtherTalker name other) =
    (find (is_no_way nodes) routes ≡ None) × (name.now ≡ talker_of routes) × (other_talker routes ≡ Some other.now)
IsOfRoutes nodes routes (matter.SecondEntry name from other) =
    (find (is_no_way nodes) routes ≡ None) × (other_talker routes ≡ None) × (second_entry nodes routes ≡ Some (name.now, from.now, other.now))
IsOfRoutes nodes routes (matter.GivenTwice names) =
    (find (is_no_way nodes) routes ≡ None) × (other_talker routes ≡ None) × (second_entry nodes routes ≡ None)
    × (given_again routes ≡ Some (texts_view names.now))
IsOfRoutes nodes routes m = (route : List (List ℕ)) × (find (is_no_way nodes) routes ≡ Some route) × IsOfRoute nodes route m

-- the first step without a cable, and the first of those that another one follows over which a frame of so many octets takes no longer
-- than the slack
abbrev pub first_gap : List Data → List (List ℕ × List ℕ) → Option (List ℕ × List ℕ)
first_gap cables steps = find (λ p. not (has_cable cables p)) steps

abbrev pub first_quick : ℕ → ℕ → List Data → List Data → List (List ℕ × List ℕ) → Option (List ℕ × List ℕ)
first_quick slack octets nodes cables steps = find (is_quick slack octets nodes cables) steps

-- what a matter tells of a place is so; where more is the matter by one condition, it is the first
abbrev pub IsMatter : Document → Place → Matter → Type 0
IsMatter d p (matter.MissingKey k beside) =
    (absent_key (table_at p) (value_at d p) ≡ Some k) × (option_map (λ name. name.now) beside ≡ other_key (table_at p) (value_at d p))
IsMatter d p matter.NoTable = is_table (value_at d p) ≡ false
IsMatter d p (matter.WrongKind k) = (is_table (value_at d p) ≡ true) × (amiss_key (table_at p) (value_at d p) ≡ Some k)
IsMatter d p (matter.UnknownKey name) = other_key (table_at p) (value_at d p) ≡ Some name.now
IsMatter d p (matter.OutOfRange k number) = IsOfTable (table_at p) (value_at d p) (matter.OutOfRange k number)
IsMatter d p (matter.TooMany k count) = (p ≡ Top) × KeepsLimits (table_at p) (value_at d p) × (crowded_key d ≡ Some k) × (count ≡ count_at k d)
IsMatter d p (matter.TooManyFrames count) =
    (p ≡ Top) × KeepsLimits (table_at p) (value_at d p) × (crowded_key d ≡ None) × (count ≡ sum_by (frames_of (number_at key.Cycle d.top)) d.streams)
    × (65536 < count)
IsMatter d p (matter.NoName k text) = IsOfTable (table_at p) (value_at d p) (matter.NoName k text)
IsMatter d p (matter.RouteCount count) = IsOfTable (table_at p) (value_at d p) (matter.RouteCount count)
IsMatter d p (matter.LongRoute count) = IsOfTable (table_at p) (value_at d p) (matter.LongRoute count)
IsMatter d p (matter.NoRouteName text) = IsOfTable (table_at p) (value_at d p) (matter.NoRouteName text)
IsMatter d p matter.ManyLinks = IsOfTable (table_at p) (value_at d p) matter.ManyLinks
IsMatter d p (matter.TakenName number) =
    position (λ t. bytes_eq (text_at key.Name (value_at d p)) (text_at key.Name t)) (tables_before d p) ≡ Some number
IsMatter d p (matter.NoNode name) = find (λ n. not (has_name d.nodes n)) (nodes_named d p) ≡ Some name.now
IsMatter d p (matter.BadRate mbps) = (mbps ≡ integer_at key.Mbps (value_at d p)) × (is_rate mbps ≡ false)
IsMatter d p matter.Loop = bytes_eq (text_at key.A (value_at d p)) (text_at key.B (value_at d p)) ≡ true
IsMatter d p (matter.TakenCable number) =
    let cable = value_at d p in
    (bytes_eq (text_at key.A cable) (text_at key.B cable) ≡ false)
    × (position (joins (text_at key.A cable) (text_at key.B cable)) (tables_before d p) ≡ Some number)
IsMatter d p (matter.ShortRoute count) = IsOfRoutes d.nodes (routes_of (value_at d p)) (matter.ShortRoute count)
IsMatter d p (matter.Twice name before again) = IsOfRoutes d.nodes (routes_of (value_at d p)) (matter.Twice name before again)
IsMatter d p (matter.NoStation name end) = IsOfRoutes d.nodes (routes_of (value_at d p)) (matter.NoStation name end)
IsMatter d p (matter.NoBridge name) = IsOfRoutes d.nodes (routes_of (value_at d p)) (matter.NoBridge name)
IsMatter d p (matter.OtherTalker name other) = IsOfRoutes d.nodes (routes_of (value_at d p)) (matter.OtherTalker name other)
IsMatter d p (matter.SecondEntry name from other) = IsOfRoutes d.nodes (routes_of (value_at d p)) (matter.SecondEntry name from other)
IsMatter d p (matter.GivenTwice names) = IsOfRoutes d.nodes (routes_of (value_at d p)) (matter.GivenTwice names)
IsMatter d p (matter.NoCable step) = first_gap d.cables (steps_of (routes_of (value_at d p))) ≡ Some (step_view step)
IsMatter d p matter.NoStream = length d.streams ≡ 0
IsMatter d p (matter.BadPeriod period cycle) =
    (cycle ≡ number_at key.Cycle d.top) × (period ≡ number_or cycle key.Period (value_at d p)) × ((cycle % period == 0) ≡ false)
IsMatter d p (matter.BadSlack slack step) =
    let stream = value_at d p in
    (slack ≡ number_at key.Slack d.top)
    × (first_quick slack (number_at key.Octets stream) d.nodes d.cables (inner_steps (routes_of stream)) ≡ Some (step_view step))

-- ---- what is found

-- where the condition of a code holds a matter of it, and else none
abbrev pub Finds : Code → Document → Place → Option Matter → Type 0
Finds c d p found = (is_some found ≡ holds c d p) × IfSome found (λ m. (matter_code m ≡ c) × IsMatter d p m)

-- where a table breaks a limit a matter of that, and else none
abbrev pub FindsIn : Bool → Table → Data → Option Matter → Type 0
FindsIn breaks t d found = (is_some found ≡ breaks) × IfSome found (λ m. (matter_code m ≡ code.Limit) × IsOfTable t d m)

abbrev pub FindsRoute : List Data → List (List ℕ) → Option Matter → Type 0
FindsRoute nodes route found =
    (is_some found ≡ is_no_way nodes route) × IfSome found (λ m. (matter_code m ≡ code.BadRoute) × IsOfRoute nodes route m)

-- of the first route that is none by itself what is the matter with it, where there is one
abbrev pub FindsNoWay : List Data → List (List (List ℕ)) → Option Matter → Type 0
FindsNoWay nodes routes found =
    (is_some found ≡ is_some (find (is_no_way nodes) routes))
    × IfSome found (λ m. (matter_code m ≡ code.BadRoute)
    × (route : List (List ℕ)) × (find (is_no_way nodes) routes ≡ Some route) × IsOfRoute nodes route m)

abbrev pub FindsRoutes : List Data → List (List (List ℕ)) → Option Matter → Type 0
FindsRoutes nodes routes found =
    (is_some found
    ≡ (list_any (is_no_way nodes) routes || is_some (other_talker routes) || is_some (second_entry nodes routes) || is_some (given_again routes)))
    × IfSome found (λ m. (matter_code m ≡ code.BadRoute) × IsOfRoutes nodes routes m)

-- the first place of these where the condition holds, with what is the matter there
abbrev pub FindsAmong : Code → Document → List Place → Option Amiss → Type 0
FindsAmong c d ps found =
    (option_map (λ a. a.place) found ≡ find (holds c d) ps) × IfSome found (λ a. (matter_code a.matter ≡ c) × IsMatter d a.place a.matter)

-- the same of all places
abbrev pub FindsFirst : Code → Document → Option Amiss → Type 0
FindsFirst c d found =
    (option_map (λ a. a.place) found ≡ first_place c d) × IfSome found (λ a. (matter_code a.matter ≡ c) × IsMatter d a.place a.matter)

-- the fault that it is
abbrev pub amiss_fault : Amiss → NetFault
amiss_fault a = record { code = matter_code a.matter; place = a.place }

-- the fault of a document, with what is the matter there
abbrev pub FindsFault : Document → Option Amiss → Type 0
FindsFault d found =
    (option_map amiss_fault found ≡ fault_of d)
    × IfSome found (λ a. IsMatter d a.place a.matter)
