-- proofs/kept/keep/Answers.antt
use Rattle.std.proofs.Common.{◌+◌, ◌*◌, refl, sym, ◌∙◌, subst, arith}
use Rattle.std.proofs.lemmas.Bool.{leb-true, leb-false}
use Rattle.tsn_gate.specs.Widened.{Keeps}
use Rattle.tsn_gate.proofs.Rooms.{keeps_other, keeps_short, keeps_time}
use Rattle.tsn_gate.proofs.kept.keep.Goals as goal

pub returns-then-entry-ne-BACKGROUND : goal.returns-then-entry-ne-BACKGROUND
returns-then-entry-ne-BACKGROUND c =
    keeps_other c.args.least c.args.cycle c.args.entry c.args.start c.args.from c.args.kept.now.items c.if-entry-ne-BACKGROUND.true

pub returns-then-not-holds : goal.returns-then-not-holds
returns-then-not-holds c =
    let short = leb-false (c.room-time.result.start + c.args.least) c.room-time.result.end (sym c.holds.ensures ∙ c.if-not-holds.true) in
    keeps_short c.args.least c.args.cycle c.args.entry c.args.start c.args.from c.args.kept.now.items c.if-entry-ne-BACKGROUND.false (omega arith)

pub returns : goal.returns
returns c =
    let fits = leb-true (c.room-time.result.start + c.args.least) c.room-time.result.end (sym c.holds.ensures ∙ c.if-not-holds.false) in
    let next = c.room-time.result.start + 2 * c.args.least in
    subst (λ new. Keeps c.args.least c.args.cycle c.args.entry c.args.start c.args.from c.args.kept.now.items new next) (sym c.in_ok-push.ensures.items)
    (keeps_time c.args.least c.args.cycle c.args.entry c.args.start c.args.from c.args.kept.now.items c.room-time.result next c.if-entry-ne-BACKGROUND.false
    c.room-time.ensures.start c.room-time.ensures.end fits refl)
