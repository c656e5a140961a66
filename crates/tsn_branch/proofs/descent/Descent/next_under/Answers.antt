use Rattle.std.proofs.Common.{◌≡◌, ◌<◌, ◌-◌, ◌∷◌, [], length, take, sym, ap, ◌∙◌, subst, arith}
use Rattle.std.specs.Prelude.{Contains}
use Rattle.std.proofs.lemmas.List.Elements.{All-take}
use Rattle.std.proofs.lemmas.Grind.{common_steps}
use Rattle.tsn_model.specs.declared.Side.TheVariants.{Left, Right}
use Rattle.tsn_model.specs.declared.Decision.{Decision}
use Rattle.tsn_model.specs.Certificate.{decided}
use Rattle.tsn_model.specs.Places.{pending}
use Rattle.tsn_model.proofs.Places.{pending-left, pending-right}
use Rattle.tsn_conflict.specs.Path.{Fits}
use Rattle.tsn_branch.specs.Descent.{Position, Stands}
use Rattle.tsn_model.proofs.Decisions.{length-decided, take-decided}
use Rattle.tsn_branch.proofs.Descents.{fits_turned, take-inner, kept_turned}
use Rattle.tsn_branch.proofs.Positions.{stands_turned}
use Rattle.tsn_branch.proofs.descent.Descent.next_under.Goals as goal

pub returns-in-Left-clause-stands : goal.returns-in-Left-clause-stands
returns-in-Left-clause-stands c =
    λ network stands.
    let here : Stands network (record { path = c.self.inside.node; stack = c.self.inside.stack; splits = c.self.inside.splits.items; found = c.self.inside.found }) =
    subst (Stands network) (sym c.self.view_is) (c.loop-side.invariant.stands network stands) in
    let (front, triple, is) = c.in-Some.ensures in
    let left : c.self.inside.node ≡ decided front triple Left = is ∙ ap (decided front triple) c.in-Left.is in
    stands_turned network front triple c.self.inside.node c.turn.new.self c.self.inside.stack c.self.inside.splits.items c.self.inside.found c.self.inside.found left (c.turn.ensures front triple left) here

pub returns-in-Left-clause-fits : goal.returns-in-Left-clause-fits
returns-in-Left-clause-fits c =
    λ triples fits.
    let (front, triple, is) = c.in-Some.ensures in
    let left : c.self.inside.node ≡ decided front triple Left = is ∙ ap (decided front triple) c.in-Left.is in
    let path : c.loop-side.self.path ≡ decided front triple Left = ap (λ (position : Position). position.path) (sym c.self.view_is) ∙ left in
    subst (Fits triples) (sym (c.turn.ensures front triple left)) (fits_turned triples front triple Left Right (subst (Fits triples) path (c.loop-side.invariant.fits triples fits)))

pub returns-in-Left-clause-kept : goal.returns-in-Left-clause-kept
returns-in-Left-clause-kept c =
    let (front, triple, is) = c.in-Some.ensures in
    let left : c.self.inside.node ≡ decided front triple Left = is ∙ ap (decided front triple) c.in-Left.is in
    let now = c.turn.ensures front triple left in
    let path : c.loop-side.self.path ≡ decided front triple Left = ap (λ (position : Position). position.path) (sym c.self.view_is) ∙ left in
    let long = ap length (c.path.ensures.value ∙ left) ∙ length-decided front triple Left in
    let more = c.if-path-floor.false in
    ap (take c.args.floor) now ∙ kept_turned front triple Left Right c.args.floor (omega arith) ∙ sym (ap (take c.args.floor) path) ∙ c.loop-side.invariant.kept

pub returns-in-Left-clause-next : goal.returns-in-Left-clause-next
returns-in-Left-clause-next c =
    let (front, triple, is) = c.in-Some.ensures in
    let left : c.self.inside.node ≡ decided front triple Left = is ∙ ap (decided front triple) c.in-Left.is in
    let now = c.turn.ensures front triple left in
    let path : c.loop-side.self.path ≡ decided front triple Left = ap (λ (position : Position). position.path) (sym c.self.view_is) ∙ left in
    sym c.loop-side.invariant.same ∙ ap pending path ∙ pending-left front triple
    ∙ (λ i. sym now i ∷ sym (ap pending now ∙ pending-right front triple) i)

pub loop-side-smaller : goal.loop-side-smaller
loop-side-smaller c =
    let (front, triple, is) = c.in-Some.ensures in
    let path : c.loop-side.self.path ≡ decided front triple c.in-Some.side = ap (λ (position : Position). position.path) (sym c.self.view_is) ∙ is in
    let long = ap length path ∙ length-decided front triple c.in-Some.side in
    let shorter : length c.up.new.self.path ≡ length front = ap length (c.up.ensures.path ∙ ap (λ p. take (length p - 1) p) path ∙ take-decided front triple c.in-Some.side) in
    let falls : length c.up.new.self.path < length c.loop-side.self.path = omega arith in
    falls

pub loop-side-preserved : goal.loop-side-preserved
loop-side-preserved c =
    let (front, triple, is) = c.in-Some.ensures in
    let path : c.loop-side.self.path ≡ decided front triple Right = ap (λ (position : Position). position.path) (sym c.self.view_is) ∙ is ∙ ap (decided front triple) c.in-Right.is in
    let long = ap length (c.path.ensures.value ∙ ap (λ (position : Position). position.path) c.self.view_is) in
    let more = c.if-path-floor.false in
    record {
      stands = λ network stands. c.up.ensures.stands network (c.loop-side.invariant.stands network stands);
      fits = λ triples fits. subst (Fits triples) (sym c.up.ensures.path) (All-take (λ (d : Decision). Contains triples d.triple) (length c.loop-side.self.path - 1) c.loop-side.self.path (c.loop-side.invariant.fits triples fits));
      kept = ap (take c.args.floor) c.up.ensures.path ∙ take-inner c.args.floor (length c.loop-side.self.path - 1) c.loop-side.self.path (omega arith) ∙ c.loop-side.invariant.kept;
      same = ap pending (c.up.ensures.path ∙ ap (λ p. take (length p - 1) p) path ∙ take-decided front triple Right) ∙ sym (ap pending path ∙ pending-right front triple) ∙ c.loop-side.invariant.same;
    }

pub returns-clause-none : goal.returns-clause-none
returns-clause-none c =
    let empty : c.loop-side.self.path ≡ [] = ap (λ (position : Position). position.path) (sym c.self.view_is) ∙ c.in_default.ensures in
    let none = ap length empty in
    (sym c.loop-side.invariant.same, omega arith)

pub same-self : goal.same-self
same-self c = grind (arith, common_steps) steps 2000000

pub returns-then-path-floor-clause-stands : goal.returns-then-path-floor-clause-stands
returns-then-path-floor-clause-stands c = grind (arith, common_steps) steps 2000000

pub returns-then-path-floor-clause-fits : goal.returns-then-path-floor-clause-fits
returns-then-path-floor-clause-fits c = grind (arith, common_steps) steps 2000000

pub returns-then-path-floor-clause-kept : goal.returns-then-path-floor-clause-kept
returns-then-path-floor-clause-kept c = grind (arith, common_steps) steps 2000000

pub returns-then-path-floor-clause-next : goal.returns-then-path-floor-clause-next
returns-then-path-floor-clause-next c = grind (arith, common_steps) steps 2000000

pub returns-in-Left-clause-none : goal.returns-in-Left-clause-none
returns-in-Left-clause-none c = grind (arith, common_steps) steps 2000000

pub same-self-in-Right : goal.same-self-in-Right
same-self-in-Right c = grind (arith, common_steps) steps 2000000

pub same-self-in_default : goal.same-self-in_default
same-self-in_default c = grind (arith, common_steps) steps 2000000

pub returns-clause-stands : goal.returns-clause-stands
returns-clause-stands c = grind (arith, common_steps) steps 2000000

pub returns-clause-fits : goal.returns-clause-fits
returns-clause-fits c = grind (arith, common_steps) steps 2000000

pub returns-clause-kept : goal.returns-clause-kept
returns-clause-kept c = grind (arith, common_steps) steps 2000000

pub returns-clause-next : goal.returns-clause-next
returns-clause-next c = grind (arith, common_steps) steps 2000000
