-- Decisions, their arcs, and a path with one more.
use Rattle.std.proofs.Common.{◌≡◌, ◌+◌, ◌-◌, ◌<◌, List, [], ◌∷◌, ◌++◌, length, take, refl, ap, ◌∙◌, arith}
use Rattle.std.proofs.Math.Seq.{take-append_seam}
use Rattle.std.proofs.lemmas.List.{length-append, length-map}
use Rattle.tsn_model.specs.declared.Triple.{Triple}
use Rattle.tsn_model.specs.declared.Side.{Side}
use Rattle.tsn_model.specs.declared.Side.TheVariants.{Left, Right}
use Rattle.tsn_model.specs.declared.Decision.{Decision}
use Rattle.tsn_model.specs.Network.{Network, stream_count}
use Rattle.tsn_model.specs.Schedule.{IsConflict}
use Rattle.tsn_model.specs.Arcs.{arc_between, arc_on, arc_of, arcs_of}
use Rattle.tsn_model.specs.Certificate.{decided}

-- the arc of a decision on a conflict comes from a stream that is there
pub arc_on-counted : (network : Network) (triple : Triple) (side : Side) → IsConflict network triple → (arc_on network triple side).from < stream_count network
unfolding arc_on arc_between
arc_on-counted network triple Left conflict = omega arith
arc_on-counted network triple Right conflict = conflict.counted

pub length-arcs_of : (network : Network) (path : List Decision) → length (arcs_of network path) ≡ length path
unfolding arcs_of
length-arcs_of network path = length-map path (arc_of network)

-- the arcs of a path with one more decision are its arcs and the decision's
pub arcs_of-decided : (network : Network) (path : List Decision) (triple : Triple) (side : Side) → arcs_of network (decided path triple side) ≡ arcs_of network path ++ arc_on network triple side ∷ []
unfolding arcs_of decided arc_of
arcs_of-decided network [] triple side = refl
arcs_of-decided network (decision ∷ path) triple side = ap (λ arcs. arc_of network decision ∷ arcs) (arcs_of-decided network path triple side)

pub length-decided : (path : List Decision) (triple : Triple) (side : Side) → length (decided path triple side) ≡ length path + 1
unfolding decided
length-decided path triple side = length-append path (record { triple = triple; side = side } ∷ [])

-- the path above the last decision
pub take-decided : (path : List Decision) (triple : Triple) (side : Side) → take (length (decided path triple side) - 1) (decided path triple side) ≡ path
unfolding decided
take-decided path triple side =
    let last : List Decision = record { triple = triple; side = side } ∷ [] in
    let above : length (path ++ last) - 1 ≡ length path = omega (arith, length-append path last) in
    ap (λ n. take n (path ++ last)) above ∙ take-append_seam path last
