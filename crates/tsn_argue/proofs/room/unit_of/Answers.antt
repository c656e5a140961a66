use Rattle.std.proofs.Common.{◌≡◌, ◌∷◌, ap, ◌∙◌, arith}
use Rattle.std.proofs.lemmas.List.{take_all}
use Rattle.std.proofs.lemmas.List.Elements.{All-head, All-tail}
use Rattle.tsn_model.specs.Certificate.{IsFrameOn}
use Rattle.tsn_model.specs.Argument.{common_divisor, unit_on}
use Rattle.tsn_argue.proofs.LinkLemmas.{no_frame}
use Rattle.tsn_argue.proofs.RoomLemmas.{unit_more, unit_low}
use Rattle.tsn_argue.proofs.room.unit_of.Goals as goal

pub visit_of-visit-requires : goal.visit_of-visit-requires
visit_of-visit-requires c = All-head (IsFrameOn c.args.timing.now c.args.link) c.args.first c.args.others.now c.requires

pub visit_of-next-requires : goal.visit_of-next-requires
visit_of-next-requires c =
    All-tail (IsFrameOn c.args.timing.now c.args.link) c.args.first c.args.others.now c.requires c.loop-frame.frame-index no_frame c.loop-frame-test.true

pub loop-frame-init : goal.loop-frame-init
unfolding unit_on
loop-frame-init c = c.common_divisor-unit.ensures ∙ ap (common_divisor 0) c.visit_of-visit.ensures.work

pub loop-frame-preserved : goal.loop-frame-preserved
loop-frame-preserved c =
    unit_more c.args.timing.now c.args.link c.args.first c.args.others.now c.loop-frame.frame-index no_frame c.loop-frame-test.true c.loop-frame.unit _
    c.loop-frame.invariant (c.common_divisor-unit-in-loop-frame.ensures ∙ ap (common_divisor c.loop-frame.unit) c.visit_of-next.ensures.work)

unit_is : (c : goal.After-loop-frame) → c.loop-frame.unit ≡ unit_on c.args.timing.now c.args.link (c.args.first ∷ c.args.others.now)
unit_is c =
    c.loop-frame.invariant
    ∙ ap (λ list. unit_on c.args.timing.now c.args.link (c.args.first ∷ list)) (take_all c.loop-frame.frame-index c.args.others.now c.loop-frame-test.false)

pub returns-clause-value : goal.returns-clause-value
returns-clause-value c = unit_is c

pub returns-clause-small : goal.returns-clause-small
returns-clause-small c =
    let low = unit_low c.args.timing.now c.args.link c.args.first c.args.others.now in
    let work = c.visit_of-visit.ensures.work in
    let short = c.visit_of-visit.ensures.short in
    let is = unit_is c in
    omega (arith, low, work, short, is)
