use Rattle.std.proofs.Common.{◌≡◌, ◌++◌, ◌∷◌, [], sym, ap, ◌∙◌, subst}
use Rattle.tsn_model.specs.declared.Side.TheVariants.{Left}
use Rattle.tsn_model.specs.Certificate.{decided}
use Rattle.tsn_conflict.specs.Path.{Fits}
use Rattle.tsn_branch.specs.Descent.{Position, Stands, Splits}
use Rattle.tsn_branch.proofs.Descents.{fits_more}
use Rattle.tsn_branch.proofs.Positions.{stands_down}
use Rattle.tsn_branch.proofs.descent.Descent.down.Goals as goal

pub returns-clause-stands : goal.returns-clause-stands
returns-clause-stands c =
    λ network splits.
    let position : Position = record { path = c.self.inside.node; stack = c.self.inside.stack; splits = c.self.inside.splits.items; found = c.self.inside.found } in
    let splits_here : Splits network c.args.triple position = subst (Splits network c.args.triple) (sym c.self.view_is) splits in
    let down = stands_down network c.args.triple position c.in-Some.point c.self.inside.found splits_here c.in-Some.is in
    let path : c.push.new.self ≡ decided c.self.inside.node c.args.triple Left = c.in_ok-push.ensures.ok in
    let points : c.push_reserved.new.self.items ≡ c.self.inside.splits.items ++ c.in-Some.point ∷ [] = c.push_reserved.ensures.items ∙ ap (λ xs. xs ++ c.in-Some.point ∷ []) c.reserve.ensures.items in
    subst (λ p. Stands network (record { path = p; stack = c.self.inside.stack; splits = c.push_reserved.new.self.items; found = c.self.inside.found })) (sym path)
    (subst (λ s. Stands network (record { path = decided c.self.inside.node c.args.triple Left; stack = c.self.inside.stack; splits = s; found = c.self.inside.found })) (sym points) down)

pub returns-clause-fits : goal.returns-clause-fits
returns-clause-fits c =
    λ triples among fits.
    let path : c.push.new.self ≡ decided c.self.inside.node c.args.triple Left = c.in_ok-push.ensures.ok in
    let whole : c.args.self.now.path ≡ c.self.inside.node = ap (λ (position : Position). position.path) (sym c.self.view_is) in
    subst (Fits triples) (sym path) (fits_more triples c.self.inside.node c.args.triple Left among (subst (Fits triples) whole fits))
