use Rattle.std.proofs.Common.{◌∷◌, ◌∙◌, subst, arith}
use Rattle.std.specs.Prelude.{MatchOption}
use Rattle.std.proofs.lemmas.List.Elements.{All-head}
use Rattle.std.proofs.lemmas.Grind.{common_steps}
use Rattle.tsn_model.specs.Certificate.{IsFrameOn}
use Rattle.tsn_argue.specs.Faults.{AreShut, IsFirstOpen}
use Rattle.tsn_argue.specs.Rooms.{network_of}
use Rattle.tsn_argue.specs.State.{view_of}
use Rattle.tsn_argue.proofs.OpenPlaces.{found}
use Rattle.tsn_argue.proofs.filling.open_in.Goals as goal

pub span_of-work-requires-clause-on : goal.span_of-work-requires-clause-on
span_of-work-requires-clause-on c =
    let group = c.args.group.now in
    All-head (IsFrameOn group.view.now.timing.now group.link) group.first group.others.now c.requires.group.on

pub returns : goal.returns
returns c =
    let group = c.args.group.now in
    let network = network_of group in
    let view = view_of group.view.now in
    let frames = group.first ∷ group.others.now in
    subst (λ work. MatchOption c.first_open.result (AreShut network view group.link frames c.args.gap.low c.args.gap.high work c.args.from c.args.until)
    (IsFirstOpen network view group.link frames c.args.gap.low c.args.gap.high work c.args.from c.args.until)) c.span_of-work.ensures.work
    (found network view group.link frames c.args.gap.low c.args.gap.high c.span_of-work.result.work group.hall.unit group.hall.idle c.list.result.now
    c.list-2.result.now
    c.requires.group.hall.unit c.requires.group.hall.idle (c.list.ensures ∙ c.tell-before.ensures.rows) (c.list-2.ensures ∙ c.tell-after.ensures.rows)
    c.args.from c.args.until c.first_open.result c.first_open.ensures)

pub first_open-requires-clause-same : goal.first_open-requires-clause-same
first_open-requires-clause-same c = grind (arith, common_steps) steps 2000000
