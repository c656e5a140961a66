-- The shares as comma-separated values (RFC 4180).
--     stream_record, listener_record   a record of a stream and one of a listener
--     link_record, slack_record        one of a link and one of the least slack, which have the same fields
--     csv_text                         all records
use Rattle.std.specs.Prelude.{ℕ, List, [], ◌∷◌, ◌++◌, if◌then◌else◌, codes}
use Rattle.std.specs.List.{flat_map}
use Rattle.std.specs.Fmt.{decimal}
use Rattle.tsn_model.specs.Network.{Network, link_at}
use Rattle.tsn_timing.specs.Problem.{NamedNetwork}
use Rattle.tsn_text.specs.Field.{quoted_field}
use Rattle.tsn_chart.specs.declared.stream.StreamShare.{StreamShare}
use Rattle.tsn_chart.specs.declared.listener.ListenerShare.{ListenerShare}
use Rattle.tsn_chart.specs.declared.link.LinkShare.{LinkShare}
use Rattle.tsn_gate.specs.Table.{name_at}
use Rattle.tsn_chart.specs.Shares.{sends_several}
use Rattle.tsn_chart.specs.Listeners.{listener_shares}
use Rattle.tsn_chart.specs.Table.{stream_name}

-- a stream's numbers, each after a comma, and the empty fields of a link
unfoldable pub stream_numbers : StreamShare → List ℕ
stream_numbers share =
    codes "," ++ (decimal share.offset ++ (codes "," ++ (decimal share.latency ++ (codes "," ++ (decimal share.arrival ++ (codes "," ++ (decimal share.to_latest
    ++ (codes "," ++ (decimal share.span ++ (codes "," ++ (decimal share.to_period_end ++ codes ",,,,,,,,")))))))))))

-- the end of its line: its period and its frames in it, where some stream of the network sends several a cycle
unfoldable pub stream_end : Network → StreamShare → List ℕ
stream_end network share =
    if sends_several network then codes "," ++ (decimal share.period ++ (codes "," ++ (decimal share.frames ++ codes ",\r\n"))) else 13 ∷ 10 ∷ []

-- the stream's name in quotes, its numbers, and the end
abbrev pub stream_record : NamedNetwork → StreamShare → List ℕ
stream_record problem share = quoted_field (stream_name problem share.stream) ++ (stream_numbers share ++ stream_end problem.network share)

-- the end of a line with none of these: their empty fields, where some stream of the network sends several a cycle
unfoldable pub plain_end : Network → List ℕ
plain_end network = if sends_several network then codes ",,,\r\n" else 13 ∷ 10 ∷ []

-- a listener's numbers of those that a stream has, each after a comma, the empty fields of the others, and its link's number
unfoldable pub listener_numbers : ListenerShare → List ℕ
listener_numbers share =
    codes ",," ++ (decimal share.latency ++ (codes "," ++ (decimal share.arrival ++ (codes "," ++ (decimal share.to_latest ++ (codes ",,," ++ (decimal share.link ++ codes ",")))))))

-- the name in quotes of the stream that it hears, its numbers, the names in quotes of the nodes that its link joins, the second one its own, and the empty fields of a link
abbrev pub listener_record : NamedNetwork → ℕ → ListenerShare → List ℕ
listener_record problem stream share =
    let link = link_at problem.network share.link in
    quoted_field (stream_name problem stream) ++ (listener_numbers share ++ (quoted_field (name_at problem link.from) ++ (codes "," ++ (quoted_field (name_at problem link.to)
    ++ (codes ",,,,," ++ plain_end problem.network)))))

-- the stream's record, and behind it one for each of its listeners where they are several, and for each way to one
abbrev pub stream_records : NamedNetwork → StreamShare → List ℕ
stream_records problem share = stream_record problem share ++ flat_map (listener_record problem share.stream) (listener_shares problem.network share)

-- the empty fields of a stream, and the link's number
unfoldable pub link_head : ℕ → List ℕ
link_head link = codes ",,,,,,," ++ (decimal link ++ codes ",")

-- a link's numbers, each after a comma
unfoldable pub link_numbers : LinkShare → List ℕ
link_numbers share =
    codes "," ++ (decimal share.scheduled ++ (codes "," ++ (decimal share.guard ++ (codes "," ++ (decimal share.open ++ (codes "," ++ (decimal share.longest_open
    ++ (codes "," ++ decimal share.slack))))))))

-- the end of its line: the empty fields of a stream and how many windows it has, where some stream of the network sends several frames a cycle
unfoldable pub link_end : Network → LinkShare → List ℕ
link_end network share = if sends_several network then codes ",,," ++ (decimal share.windows ++ 13 ∷ 10 ∷ []) else 13 ∷ 10 ∷ []

-- the link's number, the names in quotes of the nodes that it joins, and its numbers
abbrev pub link_record : NamedNetwork → LinkShare → List ℕ
link_record problem share =
    let link = link_at problem.network share.link in
    link_head share.link ++ (quoted_field (name_at problem link.from) ++ (codes "," ++ (quoted_field (name_at problem link.to) ++ (link_numbers share ++ link_end problem.network share))))

-- the empty fields of a stream and of a link, and the least slack in that of a link's
abbrev pub slack_record : Network → ℕ → List ℕ
slack_record network slack = codes ",,,,,,,,,,,,,," ++ (decimal slack ++ plain_end network)

-- the names of the fields
abbrev pub header_text : Network → List ℕ
header_text network =
    codes "stream,offset,latency,arrival,to_latest,span,to_period_end,link,from,to,scheduled,guard,open,longest_open,slack"
    ++ (if sends_several network then codes ",period,frames,windows\r\n" else codes "\r\n")

-- the header, the records of each stream, then one for each link, then that of the least slack
abbrev pub csv_text : NamedNetwork → List StreamShare → List LinkShare → ℕ → List ℕ
csv_text problem streams links slack =
    header_text problem.network ++ (flat_map (stream_records problem) streams ++ (flat_map (link_record problem) links ++ slack_record problem.network slack))
