use Rattle.std.proofs.Common.{◌≡◌, ◌-◌, map, length}
use Rattle.std.specs.List.{find, range_with_len}
use Rattle.tsn_model.specs.declared.fault.Place.TheVariants.{Stream}
use Rattle.tsn_net.specs.DocumentView.{document_view}
use Rattle.tsn_net.specs.Conditions.{holds}
use Rattle.tsn_net.specs.Document.{stream_places}
use Rattle.tsn_net.proofs.document.Document.in_streams.Given as goal

-- the first place of the rest is the first of all
abbrev pub invariant-loop-i : goal.invariant-loop-i
invariant-loop-i l =
    let d = document_view l.self in
    find (holds l.code d) (map Stream (range_with_len l.i (length d.streams - l.i))) ≡ find (holds l.code d) (stream_places d)
