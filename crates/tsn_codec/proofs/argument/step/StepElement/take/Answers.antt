use Rattle.std.proofs.Common.{sym, subst}
use Rattle.tsn_cert.specs.Argument.{step_form}
use Rattle.tsn_codec.specs.Takes.{FaultOf}
use Rattle.tsn_codec.proofs.Steps.{step_unread}
use Rattle.tsn_codec.proofs.argument.step.StepElement.take.Goals as goal

pub returns-in-Err : goal.returns-in-Err
returns-in-Err c =
    subst (λ u. FaultOf u (step_form.taken c.args.tokens.now)) (sym c.unread.ensures) (step_unread 0 _ _ c.in-Err.why c.in-Err.ensures)
