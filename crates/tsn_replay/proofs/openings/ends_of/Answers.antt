use Rattle.std.proofs.Common.{◌≡◌, ◌+◌, [], ◌∷◌, ◌++◌, length, get_or, take, refl, sym, ap, ◌∙◌, subst, arith, inl, inr}
use Rattle.std.proofs.Math.Seq.{get_or-append_seam}
use Rattle.std.proofs.Math.ListN.{get_or-append}
use Rattle.std.proofs.lemmas.Bool.{cases_lt}
use Rattle.std.proofs.lemmas.List.{length-append}
use Rattle.tsn_model.specs.Gates.{cycle_of}
use Rattle.tsn_replay.proofs.Spans.{cycle_none}
use Rattle.tsn_replay.proofs.openings.ends_of.Goals as goal
use Rattle.tsn_gate.proofs.Playing.{cycle_of_more, cycle_of_part}

pub loop-entry-init : goal.loop-entry-init
loop-entry-init c = record { count = ap length c.new-ends.ensures.items; each = λ k below. absurd (omega arith); end = sym (cycle_none c.args.entries.now); last = refl }

pub overflow_add-end : goal.overflow_add-end
overflow_add-end c =
    let less = cycle_of_part c.args.entries.now c.loop-entry.entry-index (record { interval = 0; octet = 0 }) (omega arith) in
    omega arith

pub loop-entry-preserved : goal.loop-entry-preserved
loop-entry-preserved c =
    let last = c.loop-entry.invariant.last in
    let more = cycle_of_more c.args.entries.now c.loop-entry.entry-index (record { interval = 0; octet = 0 }) (omega arith) in
    let end = c.loop-entry.invariant.end in
    let sum = c.loop-entry.end + (get_or c.args.entries.now c.loop-entry.entry-index (record { interval = 0; octet = 0 })).interval in
    let items = c.in_ok-push.ensures.items in
    record {
      count = ap length items ∙ (length-append c.loop-entry.ends.items (sum ∷ []) ∙ omega arith);
      each = λ k earlier. elim (cases_lt k c.loop-entry.entry-index) [
        | inl old ↦ ap (λ xs. get_or xs k 0) items ∙ (get_or-append c.loop-entry.ends.items (sum ∷ []) 0 k (omega arith) ∙ c.loop-entry.invariant.each k old)
        | inr new ↦
            let same : length c.loop-entry.ends.items ≡ k = omega arith in
            let here : c.loop-entry.entry-index ≡ k = omega arith in
            ap (λ xs. get_or xs k 0) items
            ∙ (subst (λ n. get_or (c.loop-entry.ends.items ++ sum ∷ []) n 0 ≡ sum) same (get_or-append_seam c.loop-entry.ends.items sum [] 0)
            ∙ (omega arith ∙ ap (λ n. cycle_of (take (n + 1) c.args.entries.now)) here))
      ];
      end = omega arith;
      last = last;
    }

pub returns : goal.returns
returns c = record { count = omega arith; each = λ k below. c.loop-entry.invariant.each k (omega arith) }
