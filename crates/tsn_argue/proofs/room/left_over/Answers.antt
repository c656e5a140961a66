use Rattle.std.proofs.Common.{◌≡◌, ◌-◌, sym, ap, ◌∙◌, subst, arith}
use Rattle.std.proofs.lemmas.Grind.{common_steps}
use Rattle.tsn_model.specs.Argument.{wasted, left_over}
use Rattle.tsn_sums.specs.Sums.{IsUnit, TellsFilled, Covers}
use Rattle.tsn_argue.proofs.room.left_over.Goals as goal

pub wasted-requires-clause-told : goal.wasted-requires-clause-told
wasted-requires-clause-told c =
    let told = c.tell-units.ensures in
    let list = c.list.ensures in
    let small = c.requires.group.hall.unit_small in record {
      unit = subst (IsUnit c.args.group.now.hall.unit) (sym list) told.divides;
      short = omega (arith, small);
      few = told.few;
      tells = subst (λ works. TellsFilled works c.args.group.now.hall.unit c.tell-units.result c.tell-units.new.shelf.table) (sym list) told.tells;
      covers = subst (Covers c.args.group.now.hall.unit c.tell-units.result) (sym c.saturating_sub-most.ensures) told.covers;
    }

pub returns-clause-value : goal.returns-clause-value
unfolding left_over
returns-clause-value c =
    c.wasted.ensures.value
    ∙ (λ i. wasted (c.requires.group.hall.unit i) ((c.list.ensures ∙ c.tell-units.ensures.rows) i) (c.saturating_sub-most.ensures i))

pub wasted-requires-clause-within : goal.wasted-requires-clause-within
wasted-requires-clause-within c = grind (arith, common_steps) steps 2000000
