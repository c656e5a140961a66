-- proofs/widened/goes_round/Answers.antt
use Rattle.std.proofs.Common.{◌==◌, ◌≤◌, ◌↔◌, ◌-◌, IsTrue, inl, inr, length, sym, subst, arith}
use Rattle.std.proofs.lemmas.Bool.{cases_eq}
use Rattle.tsn_model.specs.Gates.{cycle_of}
use Rattle.tsn_gate.specs.declared.windows.Window.{Window}
use Rattle.tsn_gate.specs.Merged.{FollowsBackground}
use Rattle.tsn_gate.proofs.Widening.{LastsUntil, rooms_kept, end_within, round_is}
use Rattle.tsn_gate.proofs.widened.goes_round.Goals as goal

pub first_window-requires-clause-order : goal.first_window-requires-clause-order
first_window-requires-clause-order c =
    let kept = c.args.kept.now in
    let none : Window = record { start = 0; end = 0 } in
    let rooms = rooms_kept c.args.least c.args.entries.now kept c.requires.some c.requires.kept in
    elim (cases_eq (length kept) 0) [
      | inl empty ↦ let zero = c.last_end-last.ensures.none empty in omega arith
      | inr some_kept ↦
          let is = c.last_end-last.ensures.last none (omega arith) in
          let within = end_within c.args.least c.args.entries.now kept c.requires.some rooms (length kept - 1) none (omega arith) in
          omega arith
    ]

pub returns : goal.returns
returns c =
    let wanted = c.args.entries.now in
    let kept = c.args.kept.now in
    let rooms = rooms_kept c.args.least wanted kept c.requires.some c.requires.kept in
    let lasts : LastsUntil kept c.last_end-last.result = record { none = c.last_end-last.ensures.none; some_time = c.last_end-last.ensures.last } in
    let within : c.first_window.result ≤ cycle_of wanted = (let high = c.first_window.ensures.high in omega arith) in
    subst (λ n. IsTrue (c.first_window.result == n) ↔ FollowsBackground c.args.least wanted kept 0) (sym c.requires.whole)
    (round_is c.args.least wanted kept c.requires.some rooms c.last_end-last.result c.first_window.result lasts c.first_window.ensures.low within c.first_window.ensures.none
    (λ below. c.first_window.ensures.found (omega arith)))
