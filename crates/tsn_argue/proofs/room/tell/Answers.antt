use Rattle.std.proofs.Common.{◌≡◌, ◌-◌, ◌∷◌, sym, ap, ◌∙◌, subst, arith}
use Rattle.tsn_model.specs.Argument.{staged, unit_on}
use Rattle.tsn_sums.specs.Sums.{key_of, work_of, IsUnit, Covers}
use Rattle.tsn_argue.specs.State.{view_of}
use Rattle.tsn_argue.specs.Rooms.{frames_of, network_of, rows_on}
use Rattle.tsn_argue.proofs.RoomLemmas.{rows_unit, works_are}
use Rattle.tsn_argue.proofs.room.tell.Goals as goal

pub tell-requires-clause-unit : goal.tell-requires-clause-unit
tell-requires-clause-unit c =
    let group = c.args.group.now in
    let network = network_of group in
    let view = view_of group.view.now in
    let is = rows_unit network group.link view c.args.gap.low c.args.gap.high c.args.is_left group.first group.others.now in
    subst (IsUnit group.hall.unit) (sym c.collect.ensures.rows)
    (subst (λ unit. IsUnit unit (rows_on network view group.link c.args.gap.low c.args.gap.high c.args.is_left (frames_of group)))
    (sym c.requires.group.hall.unit) is)

pub returns : goal.returns
returns c =
    let group = c.args.group.now in
    let network = network_of group in
    let view = view_of group.view.now in
    let frames = group.first ∷ group.others.now in
    let told = c.tell.ensures in
    let most = c.saturating_sub.ensures in record {
      rows = told.rows
          ∙ ap (staged key_of work_of group.hall.idle c.saturating_sub.result) c.collect.ensures.rows
          ∙ (λ i. staged key_of work_of (c.requires.group.hall.idle i) (most i)
          (rows_on network view group.link c.args.gap.low c.args.gap.high c.args.is_left frames))
          ∙ works_are network group.link view frames c.args.gap.low c.args.gap.high c.args.is_left;
      divides = told.unit;
      few = told.few;
      tells = told.tells;
      covers = subst (Covers group.hall.unit c.tell.result) most told.covers;
    }
