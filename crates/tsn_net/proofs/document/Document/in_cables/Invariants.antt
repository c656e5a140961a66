use Rattle.std.proofs.Common.{◌≡◌, ◌-◌, map, length}
use Rattle.std.specs.List.{find, range_with_len}
use Rattle.tsn_model.specs.declared.fault.Place.TheVariants.{Cable}
use Rattle.tsn_net.specs.DocumentView.{document_view}
use Rattle.tsn_net.specs.Conditions.{holds}
use Rattle.tsn_net.specs.Document.{cable_places}
use Rattle.tsn_net.proofs.document.Document.in_cables.Given as goal

-- the first place of the rest is the first of all
abbrev pub invariant-loop-k : goal.invariant-loop-k
invariant-loop-k l =
    let d = document_view l.self in
    find (holds l.code d) (map Cable (range_with_len l.k (length d.cables - l.k))) ≡ find (holds l.code d) (cable_places d)
