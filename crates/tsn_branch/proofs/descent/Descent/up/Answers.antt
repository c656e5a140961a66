use Rattle.std.proofs.Common.{◌≡◌, ◌-◌, length, take, sym, ap, ◌∙◌, subst, arith}
use Rattle.tsn_branch.specs.Descent.{Stands}
use Rattle.tsn_branch.proofs.Positions.{stands_up, stands_up_empty}
use Rattle.tsn_branch.proofs.descent.Descent.up.Goals as goal

pub returns-then-arcs-gt0-clause-stands : goal.returns-then-arcs-gt0-clause-stands
returns-then-arcs-gt0-clause-stands c =
    λ network stands.
    let here : Stands network (record { path = c.self.inside.node; stack = c.self.inside.stack; splits = c.self.inside.splits.items; found = c.self.inside.found }) = subst (Stands network) (sym c.self.view_is) stands in
    let long = ap length c.arcs-arcs.ensures.value in
    let some = c.if-arcs-gt0.true in
    let up = stands_up network c.self.inside.node c.self.inside.stack c.pop-then-arcs-gt0.new.self c.self.inside.splits.items c.self.inside.found c.self.inside.found here (omega arith)
    c.pop-then-arcs-gt0.ensures.releases c.pop-then-arcs-gt0.ensures.arcs in
    let counted = c.self.inside.splits.ok.0 in
    let points : c.pop-2.new.self.items ≡ take (length c.self.inside.splits.items - 1) c.self.inside.splits.items = c.pop-2.ensures.rest ∙ ap (λ n. take n c.self.inside.splits.items) (omega arith) in
    subst (λ p. Stands network (record { path = p; stack = c.pop-then-arcs-gt0.new.self; splits = c.pop-2.new.self.items; found = c.self.inside.found })) (sym c.pop.ensures)
    (subst (λ s. Stands network (record { path = take (length c.self.inside.node - 1) c.self.inside.node; stack = c.pop-then-arcs-gt0.new.self; splits = s; found = c.self.inside.found })) (sym points) up)

pub returns-else-arcs-gt0-clause-stands : goal.returns-else-arcs-gt0-clause-stands
returns-else-arcs-gt0-clause-stands c =
    λ network stands.
    let here : Stands network (record { path = c.self.inside.node; stack = c.self.inside.stack; splits = c.self.inside.splits.items; found = c.self.inside.found }) = subst (Stands network) (sym c.self.view_is) stands in
    let long = ap length c.arcs-arcs.ensures.value in
    let none = c.if-arcs-gt0.false in
    let up = stands_up_empty network c.self.inside.node c.self.inside.stack c.self.inside.splits.items c.self.inside.found c.self.inside.found here (omega arith) in
    let counted = c.self.inside.splits.ok.0 in
    let points : c.pop-2.new.self.items ≡ take (length c.self.inside.splits.items - 1) c.self.inside.splits.items = c.pop-2.ensures.rest ∙ ap (λ n. take n c.self.inside.splits.items) (omega arith) in
    subst (λ p. Stands network (record { path = p; stack = c.self.inside.stack; splits = c.pop-2.new.self.items; found = c.self.inside.found })) (sym c.pop.ensures)
    (subst (λ s. Stands network (record { path = take (length c.self.inside.node - 1) c.self.inside.node; stack = c.self.inside.stack; splits = s; found = c.self.inside.found })) (sym points) up)
