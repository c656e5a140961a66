-- The shares as a table.
--     stream_line, listener_line, stream_lines     the line of a stream, that of a listener, and all of a stream
--     link_line, slack_line, table_text            the others, and all of them
--     stream_name                                  names
use Rattle.std.specs.Prelude.{ℕ, List, [], ◌∷◌, ◌++◌, if◌then◌else◌, slice_get, unwrap_or, codes}
use Rattle.std.specs.List.{flat_map}
use Rattle.std.specs.Fmt.{decimal}
use Rattle.tsn_model.specs.Network.{Network, link_at}
use Rattle.tsn_timing.specs.Problem.{NamedNetwork}
use Rattle.tsn_gate.specs.Table.{name_at}
use Rattle.tsn_chart.specs.declared.stream.StreamShare.{StreamShare}
use Rattle.tsn_chart.specs.declared.listener.ListenerShare.{ListenerShare}
use Rattle.tsn_chart.specs.declared.link.LinkShare.{LinkShare}
use Rattle.tsn_chart.specs.Shares.{sends_several}
use Rattle.tsn_chart.specs.Listeners.{listener_shares}

-- the name of a stream; past the last one, none
abbrev pub stream_name : NamedNetwork → ℕ → List ℕ
stream_name problem stream = unwrap_or (slice_get problem.stream_names stream) []

-- a stream's numbers, each after its word
unfoldable pub stream_numbers : StreamShare → List ℕ
stream_numbers share =
    codes " offset " ++ (decimal share.offset ++ (codes " latency " ++ (decimal share.latency ++ (codes " arrival " ++ (decimal share.arrival
    ++ (codes " to_latest " ++ (decimal share.to_latest ++ (codes " span " ++ (decimal share.span ++ (codes " to_period_end " ++ decimal share.to_period_end))))))))))

-- the end of its line: its period and its frames in it, where some stream of the network sends several a cycle
unfoldable pub stream_end : Network → StreamShare → List ℕ
stream_end network share =
    if sends_several network then codes " period " ++ (decimal share.period ++ (codes " frames " ++ (decimal share.frames ++ 10 ∷ []))) else 10 ∷ []

-- the stream's name, its numbers, and the end
abbrev pub stream_line : NamedNetwork → StreamShare → List ℕ
stream_line problem share = codes "stream " ++ (stream_name problem share.stream ++ (stream_numbers share ++ stream_end problem.network share))

-- a listener's name, and that of the stream that it hears
unfoldable pub listener_head : List ℕ → List ℕ → List ℕ
listener_head listener stream = codes "listener " ++ (listener ++ (codes " stream " ++ stream))

-- its numbers, each after its word, and the end
unfoldable pub listener_numbers : ListenerShare → List ℕ
listener_numbers share =
    codes " link " ++ (decimal share.link ++ (codes " latency " ++ (decimal share.latency ++ (codes " arrival " ++ (decimal share.arrival
    ++ (codes " to_latest " ++ (decimal share.to_latest ++ 10 ∷ [])))))))

-- the line of a listener of the stream: the node at the end of its link
abbrev pub listener_line : NamedNetwork → ℕ → ListenerShare → List ℕ
listener_line problem stream share = listener_head (name_at problem (link_at problem.network share.link).to) (stream_name problem stream) ++ listener_numbers share

-- the stream's line, and behind it one for each of its listeners where they are several, and for each way to one
abbrev pub stream_lines : NamedNetwork → StreamShare → List ℕ
stream_lines problem share = stream_line problem share ++ flat_map (listener_line problem share.stream) (listener_shares problem.network share)

-- a link's number, and the names of the nodes that it joins
unfoldable pub link_head : ℕ → List ℕ → List ℕ → List ℕ
link_head link from to = codes "link " ++ (decimal link ++ (codes " " ++ (from ++ (codes " " ++ to))))

-- a link's numbers, each after its word
unfoldable pub link_numbers : LinkShare → List ℕ
link_numbers share =
    codes " scheduled " ++ (decimal share.scheduled ++ (codes " guard " ++ (decimal share.guard
    ++ (codes " open " ++ (decimal share.open ++ (codes " longest_open " ++ (decimal share.longest_open ++ (codes " slack " ++ decimal share.slack))))))))

-- the end of its line: how many windows it has, where some stream of the network sends several frames a cycle
unfoldable pub link_end : Network → LinkShare → List ℕ
link_end network share = if sends_several network then codes " windows " ++ (decimal share.windows ++ 10 ∷ []) else 10 ∷ []

abbrev pub link_line : NamedNetwork → LinkShare → List ℕ
link_line problem share =
    let link = link_at problem.network share.link in
    link_head share.link (name_at problem link.from) (name_at problem link.to) ++ (link_numbers share ++ link_end problem.network share)

-- the least slack
unfoldable pub slack_line : ℕ → List ℕ
slack_line slack = codes "slack " ++ (decimal slack ++ 10 ∷ [])

-- the lines of each stream, then a line for each link, then that of the least slack
abbrev pub table_text : NamedNetwork → List StreamShare → List LinkShare → ℕ → List ℕ
table_text problem streams links slack = flat_map (stream_lines problem) streams ++ (flat_map (link_line problem) links ++ slack_line slack)
