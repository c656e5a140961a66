use Rattle.std.proofs.Common.{◌≤◌, [], sym, subst}
use Rattle.std.proofs.lemmas.List.Elements.{All-nil}
use Rattle.tsn_model.specs.declared.GateEntry.{GateEntry}
use Rattle.tsn_gate.specs.Entries.{IsTimeline}
use Rattle.tsn_gate.proofs.Entries.{cycle_of-nil, NeighboursDiffer-nil}
use Rattle.tsn_gate.proofs.timeline.Timeline.new.Goals as goal

pub invariant_of-result : goal.invariant_of-result
invariant_of-result c =
    let empty : IsTimeline [] 0 = record { whole = cycle_of-nil; positive = All-nil (λ (e : GateEntry). 1 ≤ e.interval); differ = NeighboursDiffer-nil } in
    record { timeline = subst (λ xs. IsTimeline xs 0) (sym c.new.ensures.items) empty }
