-- proofs/widened/opening/Answers.antt
use Rattle.std.proofs.Common.{sym, ◌∙◌}
use Rattle.std.proofs.lemmas.Bool.{true≢false}
use Rattle.tsn_gate.proofs.Widening.{opens_late, opens_at_once}
use Rattle.tsn_gate.proofs.widened.opening.Goals as goal

pub returns-then-stays : goal.returns-then-stays
returns-then-stays c =
    let both = c.stays.ensures.0 c.if-stays.true in
    let long = c.is_long.ensures.0 both.1 in
    opens_late c.args.entries.now c.args.from c.args.until c.args.least c.first_window-first.result c.last_closed-last.result c.requires.order
    c.first_window-first.ensures.low c.first_window-first.ensures.high c.first_window-first.ensures.none c.first_window-first.ensures.found
    c.last_closed-last.ensures.none c.last_closed-last.ensures.some c.args.closes both.0 long.0 long.1

pub returns-else-stays : goal.returns-else-stays
returns-else-stays c =
    opens_at_once c.args.entries.now c.args.from c.args.until c.args.least c.first_window-first.result c.last_closed-last.result c.requires.order
    c.first_window-first.ensures.low c.first_window-first.ensures.high c.first_window-first.ensures.none c.first_window-first.ensures.found
    c.last_closed-last.ensures.none c.last_closed-last.ensures.some c.args.closes
    (λ may begun lasts. true≢false (sym (c.stays.ensures.1 (may, c.is_long.ensures.1 (begun, lasts))) ∙ c.if-stays.false))
