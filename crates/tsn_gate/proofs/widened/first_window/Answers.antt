-- proofs/widened/first_window/Answers.antt
use Rattle.std.proofs.Common.{◌≡◌, ◌<◌, ◌+◌, ◌↔◌, ℕ, inl, inr, Bool, IsTrue, false, nat_lt, get_or, sym, ◌∙◌, ap, arith}
use Rattle.std.proofs.lemmas.Bool.{cases_lt, true≢false, lt-ltb, ltb-true}
use Rattle.std.proofs.lemmas.List.{take_all}
use Rattle.tsn_model.specs.declared.GateEntry.{GateEntry}
use Rattle.tsn_model.specs.Gates.{cycle_of}
use Rattle.tsn_gate.proofs.Entries.{cycle_of-nil}
use Rattle.tsn_gate.proofs.Playing.{cycle_of_more, cycle_of_part, octet_at-entry}
use Rattle.tsn_gate.proofs.widened.first_window.Goals as goal

pub overflow_add-end : goal.overflow_add-end
overflow_add-end c =
    let part = cycle_of_part c.args.entries.now c.loop-entry.entry-index (record { interval = 0; octet = 0 }) c.loop-entry-test.true in
    omega arith

pub loop-entry-init : goal.loop-entry-init
loop-entry-init c = record { start = sym cycle_of-nil; none = λ t low high begun. absurd (omega arith) }

-- a window that is looked at
looked_at : (first end start until octet : ℕ) (window : Bool) → IsTrue window ↔ ((octet ≡ 128) × IsTrue (nat_lt first end) × IsTrue (nat_lt start until))
    → window ≡ false → first < end → start < until → octet ≡ 128 → ⊥
looked_at first end start until octet window window_if off low high is =
    true≢false (sym (window_if.1 (is, lt-ltb first end low, lt-ltb start until high)) ∙ off)

pub loop-entry-preserved : goal.loop-entry-preserved
loop-entry-preserved c =
    let entries = c.args.entries.now in
    let at = c.loop-entry.entry-index in
    let first : GateEntry = record { interval = 0; octet = 0 } in
    let more = cycle_of_more entries at first c.loop-entry-test.true in
    let so_far = c.loop-entry.invariant.start in record {
      start = omega arith;
      none = λ t low high begun is. elim (cases_lt t c.loop-entry.start) [
        | inl early ↦ c.loop-entry.invariant.none t low high early is
        | inr late ↦
            let here = octet_at-entry entries at first t c.loop-entry-test.true (omega arith) (omega arith) in
            looked_at c.max-first.result _ c.loop-entry.start c.args.until _ c.is_window.result c.is_window.ensures c.if-is_window.false (omega arith)
            (omega arith) (sym here ∙ is)
      ];
    }

pub returns-then-is_window : goal.returns-then-is_window
returns-then-is_window c =
    let entries = c.args.entries.now in
    let at = c.loop-entry.entry-index in
    let first : GateEntry = record { interval = 0; octet = 0 } in
    let window = c.is_window.ensures.0 c.if-is_window.true in
    let before = ltb-true c.max-first.result (c.loop-entry.start + (get_or entries at first).interval) window.1 in
    let begins = ltb-true c.loop-entry.start c.args.until window.2 in record {
      low = omega arith;
      high = omega arith;
      none = λ t after below. c.loop-entry.invariant.none t after (omega arith) (omega arith);
      found = λ _. octet_at-entry entries at first c.max-first.result c.loop-entry-test.true (omega arith) (omega arith) ∙ window.0;
    }

pub returns-clause-none : goal.returns-clause-none
returns-clause-none c t low high is = c.loop-entry.invariant.none t low high
    (omega (arith, ap cycle_of (take_all c.loop-entry.entry-index c.args.entries.now c.loop-entry-test.false), c.loop-entry.invariant.start)) is
