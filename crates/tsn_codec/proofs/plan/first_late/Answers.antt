use Rattle.std.proofs.Common.{not, ap}
use Rattle.std.proofs.lemmas.List.{drop_more}
use Rattle.std.specs.Prelude.{nat_le}
use Rattle.std.proofs.lemmas.Bool.{lt-leb, le-leb}
use Rattle.tsn_model.proofs.Rest.{place_begun, place_here, place_later, place_past}
use Rattle.tsn_cert.specs.Plan.{max_time}
use Rattle.tsn_codec.proofs.plan.first_late.Goals as goal

pub loop-number-init : goal.loop-number-init
loop-number-init c = place_begun (λ offset. not (nat_le offset max_time)) c.args.offsets.now

pub returns-then-offset-gt-MAX_TIME : goal.returns-then-offset-gt-MAX_TIME
returns-then-offset-gt-MAX_TIME c =
    place_here (λ offset. not (nat_le offset max_time)) _ _ _
    (drop_more c.args.offsets.now c.loop-number.number _ c.loop-number-test.true) c.loop-number.number _
    (ap not (lt-leb _ _ c.if-offset-gt-MAX_TIME.true)) c.loop-number.invariant

pub loop-number-preserved : goal.loop-number-preserved
loop-number-preserved c =
    place_later (λ offset. not (nat_le offset max_time)) _ _ _
    (drop_more c.args.offsets.now c.loop-number.number _ c.loop-number-test.true) c.loop-number.number _
    (ap not (le-leb _ _ c.if-offset-gt-MAX_TIME.false)) c.loop-number.invariant

pub returns : goal.returns
returns c = place_past (λ offset. not (nat_le offset max_time)) c.args.offsets.now c.loop-number.number c.loop-number-test.false _ c.loop-number.invariant
