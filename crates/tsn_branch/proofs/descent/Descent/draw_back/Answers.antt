use Rattle.std.proofs.Common.{pos, ◌<◌, ◌-◌, List, length, take, get_or, sym, ap, ◌∙◌, subst, arith}
use Rattle.std.proofs.lemmas.Grind.{common_steps}
use Rattle.tsn_model.specs.declared.Side.TheVariants.{Left}
use Rattle.tsn_model.specs.declared.Decision.{Decision}
use Rattle.std.proofs.lemmas.List.{get_or_default}
use Rattle.tsn_branch.specs.Descent.{Leads}
use Rattle.tsn_model.proofs.Decisions.{length-arcs_of}
use Rattle.tsn_conflict.proofs.Paths.{by_last}
use Rattle.tsn_branch.proofs.Positions.{stands_back}
use Rattle.tsn_branch.proofs.descent.Descent.draw_back.Goals as goal

pub pop-requires : goal.pop-requires
pop-requires c =
    let (network, given) = c.requires in
    let leads : Leads network (record { path = c.self.inside.node; stack = c.self.inside.stack; splits = c.self.inside.splits.items; found = c.self.inside.found }) = subst (Leads network) (sym c.self.view_is) given in
    let long = ap length leads.arcs ∙ length-arcs_of network c.self.inside.node in
    let path = ap length c.path-depth.ensures.value in
    let some = c.if-depth-gt0.true in
    omega (arith, long)

pub returns-then-depth-gt0-clause-stands : goal.returns-then-depth-gt0-clause-stands
returns-then-depth-gt0-clause-stands c =
    λ network given.
    let leads : Leads network (record { path = c.self.inside.node; stack = c.self.inside.stack; splits = c.self.inside.splits.items; found = c.self.inside.found }) = subst (Leads network) (sym c.self.view_is) given in
    let path : List Decision = c.self.inside.node in
    let none : Decision = record { triple = record { left = 0; right = 0; link = 0; lag = pos 0 }; side = Left } in
    let last : Decision = get_or path (length path - 1) none in
    let long = ap length c.path-depth.ensures.value in
    let some = c.if-depth-gt0.true in
    let within : 0 < length path = omega arith in
    let whole = by_last path last within (sym (get_or_default path (length path - 1) last none (omega arith))) in
    stands_back network path c.self.inside.stack c.pop.new.self c.self.inside.splits.items c.self.inside.found leads.releases leads.arcs leads.split_above (take (length path - 1) path) last.triple last.side whole
    c.pop.ensures.releases c.pop.ensures.arcs

pub returns-else-depth-gt0-clause-stands : goal.returns-else-depth-gt0-clause-stands
returns-else-depth-gt0-clause-stands c = grind (arith, common_steps) steps 2000000
