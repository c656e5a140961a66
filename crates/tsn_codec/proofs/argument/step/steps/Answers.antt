use Rattle.std.proofs.Common.{sym, subst}
use Rattle.tsn_cert.specs.Argument.{steps_form}
use Rattle.tsn_codec.specs.Takes.{FaultOf}
use Rattle.tsn_codec.proofs.Steps.{array_unread}
use Rattle.tsn_codec.proofs.argument.step.steps.Goals as goal

pub returns-in-Err : goal.returns-in-Err
returns-in-Err c =
    subst (λ u. FaultOf u (steps_form.taken c.args.tokens.now)) (sym c.unread.ensures) (array_unread _ _ c.in-Err.why c.in-Err.ensures)
