-- The shares as lines of JSON.
--     stream_members, with_frames     what an object of a stream has
--     listener_value, with_listeners  and its listeners, where they are several
--     stream_value, link_value, slack_value     the value of a line
--     json_text                       all lines
use Rattle.std.specs.Prelude.{ℕ, List, [], ◌∷◌, ◌++◌, map, if◌then◌else◌, codes}
use Rattle.std.specs.List.{flat_map}
use Rattle.serde_json.specs.Data.{Data, number, unsigned, string, array, object, Members, no_members, member, put}
use Rattle.serde_json.specs.View.{items_of}
use Rattle.serde_json.specs.Written.{compact_text}
use Rattle.tsn_model.specs.Network.{Network, link_at}
use Rattle.tsn_timing.specs.Problem.{NamedNetwork}
use Rattle.tsn_chart.specs.declared.stream.StreamShare.{StreamShare}
use Rattle.tsn_chart.specs.declared.listener.ListenerShare.{ListenerShare}
use Rattle.tsn_chart.specs.declared.link.LinkShare.{LinkShare}
use Rattle.tsn_gate.specs.Table.{name_at}
use Rattle.tsn_timing.specs.Ends.{has_several}
use Rattle.tsn_chart.specs.Shares.{sends_several}
use Rattle.tsn_chart.specs.Listeners.{listener_shares}
use Rattle.tsn_chart.specs.Table.{stream_name}

abbrev pub number_value : ℕ → Data
number_value n = number (unsigned n)

-- the stream's name and its numbers
abbrev pub stream_members : NamedNetwork → StreamShare → Members
stream_members problem share =
    member (codes "arrival") (number_value share.arrival) (member (codes "latency") (number_value share.latency)
    (member (codes "offset") (number_value share.offset) (member (codes "span") (number_value share.span)
    (member (codes "stream") (string (stream_name problem share.stream)) (member (codes "to_latest") (number_value share.to_latest)
    (member (codes "to_period_end") (number_value share.to_period_end) no_members))))))

-- members, with the period and the frames in it, where some stream of the network sends several a cycle; each member in the order of the keys
abbrev pub with_frames : Network → StreamShare → Members → Members
with_frames network share members =
    if sends_several network then put (codes "period") (number_value share.period) (put (codes "frames") (number_value share.frames) members) else members

-- an object with a listener's name, that of the node at the end of its link, and its numbers
abbrev pub listener_value : NamedNetwork → ListenerShare → Data
listener_value problem share =
    object (member (codes "arrival") (number_value share.arrival) (member (codes "latency") (number_value share.latency)
    (member (codes "link") (number_value share.link) (member (codes "listener") (string (name_at problem (link_at problem.network share.link).to))
    (member (codes "to_latest") (number_value share.to_latest) no_members)))))

abbrev pub listener_values : NamedNetwork → List ListenerShare → Data
listener_values problem shares = array (items_of (map (listener_value problem) shares))

-- members, with the listeners of the stream where they are several or one hears it by two ways
abbrev pub with_listeners : NamedNetwork → StreamShare → Members → Members
with_listeners problem share members =
    if has_several problem.network share.stream then put (codes "listeners") (listener_values problem (listener_shares problem.network share)) members else members

-- an object with all these
abbrev pub stream_value : NamedNetwork → StreamShare → Data
stream_value problem share = object (with_listeners problem share (with_frames problem.network share (stream_members problem share)))

-- an object with the link, the names of the nodes that it joins, and its numbers
abbrev pub link_value : NamedNetwork → LinkShare → Data
link_value problem share =
    let link = link_at problem.network share.link in
    object (member (codes "from") (string (name_at problem link.from)) (member (codes "guard") (number_value share.guard)
    (member (codes "link") (number_value share.link) (member (codes "longest_open") (number_value share.longest_open)
    (member (codes "open") (number_value share.open) (member (codes "scheduled") (number_value share.scheduled)
    (member (codes "slack") (number_value share.slack) (member (codes "to") (string (name_at problem link.to)) no_members))))))))

-- the same with how many windows it has
abbrev pub windows_value : NamedNetwork → LinkShare → Data
windows_value problem share =
    let link = link_at problem.network share.link in
    object (member (codes "from") (string (name_at problem link.from)) (member (codes "guard") (number_value share.guard)
    (member (codes "link") (number_value share.link) (member (codes "longest_open") (number_value share.longest_open)
    (member (codes "open") (number_value share.open) (member (codes "scheduled") (number_value share.scheduled)
    (member (codes "slack") (number_value share.slack) (member (codes "to") (string (name_at problem link.to))
    (member (codes "windows") (number_value share.windows) no_members)))))))))

-- an object with the least slack
abbrev pub slack_value : ℕ → Data
slack_value slack = object (member (codes "slack") (number_value slack) no_members)

-- a value as JSON with no space, and a line feed
abbrev pub line_text : Data → List ℕ
line_text value = compact_text value ++ 10 ∷ []

-- the line of a stream, and that of a link: with the windows where some stream of the network sends several frames a cycle
abbrev pub stream_json : NamedNetwork → StreamShare → List ℕ
stream_json problem share = line_text (stream_value problem share)

abbrev pub link_json : NamedNetwork → LinkShare → List ℕ
link_json problem share = if sends_several problem.network then line_text (windows_value problem share) else line_text (link_value problem share)

abbrev pub slack_json : ℕ → List ℕ
slack_json slack = line_text (slack_value slack)

-- a line for each stream, then one for each link, then that of the least slack
abbrev pub json_text : NamedNetwork → List StreamShare → List LinkShare → ℕ → List ℕ
json_text problem streams links slack = flat_map (stream_json problem) streams ++ (flat_map (link_json problem) links ++ slack_json slack)
