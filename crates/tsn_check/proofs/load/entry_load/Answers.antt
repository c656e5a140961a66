use Rattle.std.proofs.Common.{◌≡◌, ◌+◌, ◌∙◌, sym, ap, inl, arith}
use Rattle.std.proofs.lemmas.Int.{ints}
use Rattle.std.proofs.lemmas.Result.{err_from_is_err_and}
use Rattle.tsn_model.specs.Timing.{separation}
use Rattle.tsn_model.specs.Certificate.{begin_on}
use Rattle.tsn_model.proofs.Routes.{hop_on_found, hop_on_link}
use Rattle.tsn_check.specs.Turns.{decisions}
use Rattle.tsn_check.proofs.Loads.{repeated, not_repeated, one_load}
use Rattle.tsn_check.proofs.load.entry_load.Goals as goal

pub returns-then-stream-streams : goal.returns-then-stream-streams
returns-then-stream-streams c =
    rw (← c.entry.view_is) (inl (omega arith))

pub returns-then-not-is_shift : goal.returns-then-not-is_shift
returns-then-not-is_shift c =
    rw (← c.entry.view_is) (omega arith, c.if-not-is_shift.ensures)

pub returns-then-has_frame : goal.returns-then-has_frame
returns-then-has_frame c = grind (arith, hop_on_found, repeated)

pub returns-in_err-sum : goal.returns-in_err-sum
returns-in_err-sum c =
    let p = err_from_is_err_and c.from_residual.result c.from_residual.ensures.1 in
    let sent = c.if-not-is_shift.ensures in
    let found = hop_on_found c.args.timing.now c.entry.inside.frame.stream c.args.link c.in-Some.hop (sym c.in-Some.ensures) in
    let broken = c.in_err-sum.ensures in
    let others = not_repeated c.args.before.now c.entry.inside.frame (sym c.has_frame.ensures ∙ c.if-has_frame.false) in
    rw (p.1, p.2, broken.0, ← c.entry.view_is) (record { sent = sent; uses = found.0 }, others, broken.1)

pub begin_of-begin-requires-clause-hop : goal.begin_of-begin-requires-clause-hop
begin_of-begin-requires-clause-hop c = (hop_on_found _ _ _ c.in-Some.hop (sym c.in-Some.ensures)).1

pub separation-work-requires-clause-hop : goal.separation-work-requires-clause-hop
separation-work-requires-clause-hop c = (hop_on_found _ _ _ c.in-Some.hop (sym c.in-Some.ensures)).1

pub returns : goal.returns
unfolding begin_on
returns c =
    let network = c.args.timing.now in
    let frame = c.entry.inside.frame in
    let sum = c.in_ok-sum.ensures in
    let stream = frame.stream in
    let sent = c.if-not-is_shift.ensures in
    let found = hop_on_found network stream c.args.link c.in-Some.hop (sym c.in-Some.ensures) in
    let same_link = hop_on_link network stream c.args.link c.in-Some.hop (sym c.in-Some.ensures) in
    let others = not_repeated c.args.before.now frame (sym c.has_frame.ensures ∙ c.if-has_frame.false) in
    let begins : c.begin_of-begin.result ≡ begin_on network c.args.link frame = c.begin_of-begin.ensures.value ∙ ap (λ n. frame.shift + n) found.2 in
    let works : c.separation-work.result ≡ separation network stream c.args.link = c.separation-work.ensures.value ∙ ap (separation network stream) same_link in
    let short_begin = c.begin_of-begin.ensures.bound in
    let short_work = c.separation-work.ensures.bound in
    let short_end = c.arrival.ensures.bound in
    rw (← c.entry.view_is) (
      record { on_link = record { sent = sent; uses = found.0 }; other_frame = others; leads = sum.leads },
      one_load network (decisions c.args.path.now) c.args.link _ _ c.in_ok-sum.sum c.begin_of-begin.result
          c.separation-work.result c.arrival.result
          sum.adds begins works c.arrival.ensures.value sum.low sum.high short_begin short_work short_end
          (omega (arith, ints)) (omega (arith, ints)) (omega (arith, ints)),
    )
