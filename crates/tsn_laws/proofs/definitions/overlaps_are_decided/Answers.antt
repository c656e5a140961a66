use Rattle.tsn_model.proofs.Overlaps.{not_both_ways, arc_cases}
use Rattle.tsn_laws.proofs.definitions.overlaps_are_decided.Goals as goal

pub returns : goal.returns
returns c =
    λ network formed offsets triple conflict.
    (arc_cases network offsets triple formed conflict, λ met overlaps. not_both_ways network offsets triple overlaps met)
