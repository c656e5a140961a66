-- proofs/kept/times_kept/Answers.antt
use Rattle.std.proofs.Common.{◌≡◌, ◌+◌, ◌++◌, ◌∷◌, drop, get_or, sym, ap, ◌∙◌, arith, add-one, drop-cons, append-nil}
use Rattle.std.proofs.lemmas.List.{drop_all}
use Rattle.tsn_model.specs.declared.GateEntry.{GateEntry}
use Rattle.tsn_gate.specs.Merged.{background_times, kept_times}
use Rattle.tsn_gate.proofs.Entries.{cycle_of-nil}
use Rattle.tsn_gate.proofs.Rooms.{background_times-nil, kept_times-nil}
use Rattle.tsn_gate.proofs.Playing.{cycle_of_more, cycle_of_part}
use Rattle.tsn_gate.proofs.kept.times_kept.Goals as goal

pub keep-requires-clause-within : goal.keep-requires-clause-within
keep-requires-clause-within c =
    let part = cycle_of_part c.args.entries.now c.loop-entry.entry-index (record { interval = 0; octet = 0 }) c.loop-entry-test.true in
    omega arith

pub overflow_add-start : goal.overflow_add-start
overflow_add-start c =
    let part = cycle_of_part c.args.entries.now c.loop-entry.entry-index (record { interval = 0; octet = 0 }) c.loop-entry-test.true in
    omega arith

pub loop-entry-init : goal.loop-entry-init
loop-entry-init c = record {
  start = sym cycle_of-nil;
  kept = ap (λ xs. xs ++ kept_times c.args.least c.args.cycle 0 (background_times 0 c.args.entries.now)) (sym c.new-kept.ensures.items);
}

pub loop-entry-preserved : goal.loop-entry-preserved
loop-entry-preserved c =
    let entries = c.args.entries.now in
    let at = c.loop-entry.entry-index in
    let first : GateEntry = record { interval = 0; octet = 0 } in
    let inside = c.loop-entry-test.true in
    let more = cycle_of_more entries at first inside in
    let rest : drop at entries ≡ get_or entries at first ∷ drop (at + 1) entries = rw add-one (drop-cons entries at first inside) in record {
      start = omega arith;
      kept = c.loop-entry.invariant.kept
          ∙ (ap (λ xs. c.loop-entry.kept.items ++ kept_times c.args.least c.args.cycle c.loop-entry.from (background_times c.loop-entry.start xs)) rest ∙ c.in_ok-from.ensures (drop (at + 1) entries));
    }

pub returns : goal.returns
returns c =
    let entries = c.args.entries.now in
    let none = drop_all c.loop-entry.entry-index entries c.loop-entry-test.false in
    let left = ap (λ xs. kept_times c.args.least c.args.cycle c.loop-entry.from (background_times c.loop-entry.start xs)) none
    ∙ (ap (kept_times c.args.least c.args.cycle c.loop-entry.from) (background_times-nil c.loop-entry.start) ∙ kept_times-nil c.args.least c.args.cycle c.loop-entry.from) in
    let all = c.loop-entry.invariant.kept ∙ (ap (λ xs. c.loop-entry.kept.items ++ xs) left ∙ append-nil c.loop-entry.kept.items) in
    sym all ∙ ap (λ n. kept_times c.args.least n 0 (background_times 0 entries)) c.requires.whole
