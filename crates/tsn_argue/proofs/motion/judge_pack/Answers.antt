use Rattle.std.proofs.Common.{false, inr, refl, arith}
use Rattle.std.proofs.lemmas.Int.{ints}
use Rattle.tsn_model.specs.Argument.{pack, refuting, shown}
use Rattle.tsn_argue.specs.Motion.{clauses_of}
use Rattle.tsn_argue.specs.State.{view_of}
use Rattle.tsn_argue.proofs.LinkLemmas.{packed_on}
use Rattle.tsn_argue.proofs.PlacingLemmas.{judged_by}
use Rattle.tsn_argue.proofs.motion.judge_pack.Goals as goal

pub load_all-all-requires-clause-on : goal.load_all-all-requires-clause-on
load_all-all-requires-clause-on c =
    (packed_on c.args.basis.now.view.now.timing.now c.args.link c.args.frames.now c.requires.some c.in_ok-judge_frames.ensures.0).on_link

pub returns : goal.returns
unfolding shown refuting
returns c =
    let network = c.args.basis.now.view.now.timing.now in
    let view = view_of c.args.basis.now.view.now in
    let on = packed_on network c.args.link c.args.frames.now c.requires.some c.in_ok-judge_frames.ensures.0 in
    let all = c.load_all-all.ensures in
    judged_by network (clauses_of c.args.basis.now.clauses.now) view (pack c.args.link c.args.frames.now) c.args.link _ _ _ _ false _ _
    c.shown_without.result c.shown_without.ensures (omega (arith, ints, all.head, all.work, all.head_low, all.head_high, all.short))
    (omega (arith, ints, all.end, all.end_low, all.end_high)) c.refuting.ensures.value (λ past. (on, past)) refl tt (λ wrong room. inr (on, room))
