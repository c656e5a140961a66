use Rattle.std.proofs.Common.{◌≡◌, ◌+◌, List, sym, ap, ◌∙◌, subst}
use Rattle.tsn_model.specs.declared.Decision.{Decision}
use Rattle.tsn_model.specs.declared.Side.TheVariants.{Left, Right}
use Rattle.tsn_model.specs.Certificate.{decided}
use Rattle.tsn_model.specs.Places.{pending}
use Rattle.tsn_model.specs.Walk.{path_made, IsPlaceOf}
use Rattle.tsn_book.specs.Arena.{settled_in}
use Rattle.tsn_book.specs.Below.{IsAbove}
use Rattle.tsn_book.proofs.Below.{after_turn, after_root, right_taken}
use Rattle.tsn_book.proofs.Ledgers.{within_places}
use Rattle.tsn_book.proofs.ledger.Ledger.go_on.Goals as goal

pub above-requires-clause-place : goal.above-requires-clause-place
above-requires-clause-place c = within_places c.args.self.now c.requires.agrees c.loop-parent.place c.loop-parent.invariant.at.within

pub turn-requires : goal.turn-requires
turn-requires c =
    let history = settled_in c.args.self.now.tree in
    let up : IsAbove history c.loop-parent.place c.in-Some.parent c.in-Some.side = c.in-Some.ensures.above in
    let front = path_made history c.in-Some.parent in
    (front, up.triple, sym c.loop-parent.invariant.at.is ∙ up.is ∙ ap (decided front up.triple) c.in-Left.is)

pub returns-in-Left : goal.returns-in-Left
returns-in-Left c =
    let history = settled_in c.args.self.now.tree in
    let up : IsAbove history c.loop-parent.place c.in-Some.parent c.in-Some.side = c.in-Some.ensures.above in
    let front = path_made history c.in-Some.parent in
    let is : c.loop-parent.walk ≡ decided front up.triple Left = sym c.loop-parent.invariant.at.is ∙ up.is ∙ ap (decided front up.triple) c.in-Left.is in
    let turned = c.turn.ensures front up.triple is in
    record {
      walk = turned ∙ after_turn c.args.walk.now c.loop-parent.walk front up.triple c.loop-parent.invariant.same is;
      at = subst (λ (path : List Decision). IsPlaceOf history path (c.loop-parent.place + 1)) (sym turned) (up.sibling c.in-Left.is);
    }

pub loop-parent-preserved : goal.loop-parent-preserved
loop-parent-preserved c =
    let history = settled_in c.args.self.now.tree in
    let up : IsAbove history c.loop-parent.place c.in-Some.parent c.in-Some.side = c.in-Some.ensures.above in
    let front = path_made history c.in-Some.parent in
    let is : c.loop-parent.walk ≡ decided front up.triple Right = sym c.loop-parent.invariant.at.is ∙ up.is ∙ ap (decided front up.triple) c.in-Right.is in
    let taken = right_taken c.loop-parent.walk front up.triple is in
    let now = c.pop.ensures ∙ taken.0 in
    record {
      at = subst (λ (path : List Decision). IsPlaceOf history path c.in-Some.parent) (sym now) up.at_parent;
      same = ap pending now ∙ taken.1 ∙ c.loop-parent.invariant.same;
    }

pub returns : goal.returns
returns c =
    let root = sym c.loop-parent.invariant.at.is ∙ c.in_default.ensures.above in
    record {
      walk = after_root c.args.walk.now c.loop-parent.walk c.loop-parent.invariant.same root;
      at = c.loop-parent.invariant.at;
    }
