use Rattle.std.proofs.Common.{◌≡◌, ◌-◌, map, length}
use Rattle.std.specs.List.{find, range_with_len}
use Rattle.tsn_model.specs.declared.fault.Place.TheVariants.{Node}
use Rattle.tsn_net.specs.DocumentView.{document_view}
use Rattle.tsn_net.specs.Conditions.{holds}
use Rattle.tsn_net.specs.Document.{node_places}
use Rattle.tsn_net.proofs.document.Document.in_nodes.Given as goal

-- the first place of the rest is the first of all
abbrev pub invariant-loop-n : goal.invariant-loop-n
invariant-loop-n l =
    let d = document_view l.self in
    find (holds l.code d) (map Node (range_with_len l.n (length d.nodes - l.n))) ≡ find (holds l.code d) (node_places d)
