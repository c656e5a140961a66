-- Which fault a document has, in words: the least condition that holds anywhere, at the first place where it holds; that
-- what is told of it is one thing alone, as is the problem that a file states; and that streams keep the offsets that a file says.
use Rattle.std.specs.Prelude.{◌≡◌, ◌≤◌, ◌<◌, ◌⊎◌, ◌↔◌, ℕ, List, map, All, true, false, Some, None, length, option_map}
use Rattle.std.specs.List.{flat_map}
use Rattle.toml.specs.Data.{Data}
use Rattle.tsn_model.specs.Network.{Network, IsRoute, route_of}
use Rattle.tsn_model.specs.Unions.{union_of}
use Rattle.tsn_net.specs.Branches.{IsWay}
use Rattle.tsn_model.specs.declared.fault.Place.{Place}
use Rattle.tsn_model.specs.declared.fault.Place.TheVariants.{Text, Top, Node, Cable, Stream}
use Rattle.tsn_model.specs.declared.fault.Code.{Code}
use Rattle.tsn_model.specs.declared.fault.NetFault.{NetFault}
use Rattle.tsn_net.specs.declared.matter.Matter.{Matter}
use Rattle.tsn_net.specs.declared.matter.Matter.TheVariants as matter
use Rattle.tsn_net.specs.declared.conditions.Amiss.{Amiss}
use Rattle.tsn_net.specs.declared.schema.Key.TheVariants as key
use Rattle.tsn_net.specs.Schema.{has_routes, elements_at}
use Rattle.tsn_net.specs.Document.{Document, value_at, text_of}
use Rattle.tsn_net.specs.DocumentView.{texts_view, step_view}
use Rattle.tsn_net.specs.Conditions.{holds, fault_of, steps_of, different, other_talker, second_entry}
use Rattle.tsn_model.specs.Fault.{code_number}
use Rattle.tsn_net.specs.Matter.{FindsFault}
use Rattle.tsn_net.specs.File.{States}
use Rattle.tsn_model.specs.Schedule.{IsValid}
use Rattle.tsn_model.specs.Held.{HasOffsets}
use Rattle.tsn_net.specs.Problem.{node_names_of, links_of, links_of_cable, route_links, free_network_of, offsets_of, network_of}
use Rattle.tsn_timing.specs.Problem.{NamedNetwork}

-- the place is one of the document: the top table, or a node, a cable or a stream that is there
abbrev pub IsIn : Document → Place → Type 0
IsIn d Text = ⊥
IsIn d Top = Unit {0}
IsIn d (Node n) = n < length d.nodes
IsIn d (Cable k) = k < length d.cables
IsIn d (Stream i) = i < length d.streams

-- the kinds of places in order
abbrev pub kind_order : Place → ℕ
kind_order Text = 0
kind_order Top = 1
kind_order (Node n) = 2
kind_order (Cable k) = 3
kind_order (Stream i) = 4

-- the number of a place among those of its kind
abbrev pub place_number : Place → ℕ
place_number Text = 0
place_number Top = 0
place_number (Node n) = n
place_number (Cable k) = k
place_number (Stream i) = i

-- the top table stands before the nodes, these before the cables, these before the streams, each in file order
abbrev pub IsBefore : Place → Place → Type 0
IsBefore p q = (kind_order p < kind_order q) ⊎ ((kind_order p ≡ kind_order q) × (place_number p < place_number q))

-- the condition of the fault's code holds at its place and at no place before it, and that of no lesser code holds anywhere
pub record IsFirstFault (d : Document) (fault : NetFault) : Type 0 where
  pub there : IsIn d fault.place
  pub holding : holds fault.code d fault.place ≡ true
  pub not_before : (place : Place) → IsIn d place → IsBefore place fault.place → holds fault.code d place ≡ false
  pub none_less : (code : Code) → code_number code < code_number fault.code → (place : Place) → IsIn d place → holds code d place ≡ false

-- a document has a fault exactly where it is the first
abbrev pub FaultsAreFirst : Type 0
FaultsAreFirst = (d : Document) (fault : NetFault) → (fault_of d ≡ Some fault) ↔ IsFirstFault d fault

-- a document has no fault exactly where no condition holds at any place
abbrev pub FaultlessIsClear : Type 0
FaultlessIsClear = (d : Document) → (fault_of d ≡ None) ↔ ((code : Code) (place : Place) → IsIn d place → holds code d place ≡ false)

-- two matters are of one thing, and tell the same of it: its keys, its numbers and its texts
abbrev pub TellSame : Matter → Matter → Type 0
TellSame (matter.MissingKey k beside) (matter.MissingKey l other) = (k ≡ l) × (option_map (λ name. name.now) beside ≡ option_map (λ name. name.now) other)
TellSame matter.NoTable matter.NoTable = Unit {0}
TellSame (matter.WrongKind k) (matter.WrongKind l) = k ≡ l
TellSame (matter.UnknownKey name) (matter.UnknownKey other) = name.now ≡ other.now
TellSame (matter.OutOfRange k number) (matter.OutOfRange l other) = (k ≡ l) × (number ≡ other)
TellSame (matter.TooMany k count) (matter.TooMany l other) = (k ≡ l) × (count ≡ other)
TellSame (matter.TooManyFrames count) (matter.TooManyFrames other) = count ≡ other
TellSame (matter.NoName k text) (matter.NoName l other) = (k ≡ l) × (text.now ≡ other.now)
TellSame (matter.RouteCount count) (matter.RouteCount other) = count ≡ other
TellSame (matter.LongRoute count) (matter.LongRoute other) = count ≡ other
TellSame (matter.NoRouteName text) (matter.NoRouteName other) = text.now ≡ other.now
TellSame matter.ManyLinks matter.ManyLinks = Unit {0}
TellSame (matter.TakenName number) (matter.TakenName other) = number ≡ other
TellSame (matter.NoNode name) (matter.NoNode other) = name.now ≡ other.now
TellSame (matter.BadRate mbps) (matter.BadRate other) = mbps ≡ other
TellSame matter.Loop matter.Loop = Unit {0}
TellSame (matter.TakenCable number) (matter.TakenCable other) = number ≡ other
TellSame (matter.ShortRoute count) (matter.ShortRoute other) = count ≡ other
TellSame (matter.Twice name before again) (matter.Twice other sooner later) = (name.now ≡ other.now) × (before ≡ sooner) × (again ≡ later)
TellSame (matter.NoStation name end) (matter.NoStation other ending) = (name.now ≡ other.now) × (end ≡ ending)
TellSame (matter.NoBridge name) (matter.NoBridge other) = name.now ≡ other.now
TellSame (matter.OtherTalker name other) (matter.OtherTalker first second) = (name.now ≡ first.now) × (other.now ≡ second.now)
TellSame (matter.SecondEntry name from other) (matter.SecondEntry bridge one second) =
    (name.now ≡ bridge.now) × (from.now ≡ one.now) × (other.now ≡ second.now)
TellSame (matter.GivenTwice names) (matter.GivenTwice others) = texts_view names.now ≡ texts_view others.now
TellSame (matter.NoCable step) (matter.NoCable other) = step_view step ≡ step_view other
TellSame matter.NoStream matter.NoStream = Unit {0}
TellSame (matter.BadPeriod period cycle) (matter.BadPeriod other whole) = (period ≡ other) × (cycle ≡ whole)
TellSame (matter.BadSlack slack step) (matter.BadSlack told other) = (slack ≡ told) × (step_view step ≡ step_view other)
TellSame _ _ = ⊥

-- what is told of the first fault of a document is one thing alone: two such faults have one place, and tell the same of it
abbrev pub FirstReasonsAreOne : Type 0
FirstReasonsAreOne = (d : Document) (one other : Amiss) → FindsFault d (Some one) → FindsFault d (Some other)
    → (one.place ≡ other.place) × TellSame one.matter other.matter

-- a file states one problem alone
abbrev pub FilesStateOne : Type 0
FilesStateOne = (file : List ℕ) (problem other : NamedNetwork) → States file problem → States file other → problem ≡ other

-- the schedules of the network that a document without fault states are those that have the offsets in it, of the network as if it had none
abbrev pub OffsetsAreKept : Type 0
OffsetsAreKept = (d : Document) → fault_of d ≡ None → (offsets : List ℕ)
    → IsValid (network_of d) offsets ↔ (IsValid (free_network_of d) offsets × HasOffsets (free_network_of d) (offsets_of d) offsets)

-- several routes over the nodes and cables of a document, each right by itself, that begin at one node, of which no two enter a bridge from different nodes, and that have 64 different steps in all at most, make one that branches
abbrev pub BranchesAreRoutes : Type 0
BranchesAreRoutes = (network : Network) (names : List (List ℕ)) (cables nodes : List Data) → network.links ≡ flat_map (links_of_cable names) cables
    → (routes : List (List (List ℕ))) → 1 ≤ length routes → All (IsWay names cables nodes) routes → other_talker routes ≡ None → second_entry nodes routes ≡ None
    → length (different (steps_of routes)) ≤ 64 → IsRoute network (union_of (map (route_links names network.links) routes))

-- a stream with `route`, of a document without fault, goes along the links between its neighbours, one after another
abbrev pub RoutesStay : Type 0
RoutesStay = (d : Document) → fault_of d ≡ None → (i : ℕ) → i < length d.streams → has_routes (value_at d (Stream i)) ≡ false
    → route_of (network_of d) i ≡ route_links (node_names_of d) (links_of d) (map text_of (elements_at key.Route (value_at d (Stream i))))
