use Rattle.std.proofs.Common.{◌≡◌, ◌<◌, length, sym, ap, ◌∙◌, subst}
use Rattle.std.proofs.lemmas.Result.{IfOk-weaker}
use Rattle.tsn_model.specs.Tolerance.{AreStartsOn}
use Rattle.tsn_model.proofs.Routes.{UsesLink-exists}
use Rattle.tsn_gate.specs.Windows.{starts_of}
use Rattle.tsn_gate.proofs.PlannedStarts.{AreStartsOn-windows, some_start}
use Rattle.tsn_gate.proofs.slack.starts_on.Goals as goal

pub windows_on-requires-clause-link : goal.windows_on-requires-clause-link
windows_on-requires-clause-link c = UsesLink-exists c.args.timing.now c.requires.used.0 c.args.link c.requires.formed c.requires.used.1

pub returns-clause-starts : goal.returns-clause-starts
returns-clause-starts c =
    IfOk-weaker c.starts_of.result (λ starts. starts.items ≡ starts_of c.deref.result.now) _
    (λ starts is. subst (AreStartsOn c.args.timing.now c.args.offsets.now c.args.link) (sym (is ∙ ap starts_of c.deref.ensures.value))
    (AreStartsOn-windows c.args.timing.now c.args.offsets.now c.args.link c.in_ok-windows.windows.items
    c.in_ok-windows.ensures.of_streams c.in_ok-windows.ensures.in_order))
    c.starts_of.ensures

pub returns-clause-some : goal.returns-clause-some
returns-clause-some c =
    IfOk-weaker c.starts_of.result (λ starts. starts.items ≡ starts_of c.deref.result.now) _
    (λ starts is. subst (λ xs. 0 < length xs) (sym (is ∙ ap starts_of c.deref.ensures.value))
    (some_start c.args.timing.now c.args.offsets.now c.args.link c.in_ok-windows.windows.items
    c.in_ok-windows.ensures.of_streams c.in_ok-windows.ensures.in_order c.requires.formed c.requires.used))
    c.starts_of.ensures
