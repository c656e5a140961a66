-- proofs/widened/fill/Answers.antt
use Rattle.std.proofs.Common.{◌≡◌, ℕ, ◌+◌, ◌-◌, ◌≤◌, ◌⊎◌, sym, subst, arith, inl, inr}
use Rattle.tsn_gate.specs.Entries.{LastsOrNone}
use Rattle.tsn_gate.proofs.widened.fill.Goals as goal

-- both parts are long enough, or nothing
first_lasts : (from opens least bound : ℕ) (closes : Type 0) → (opens ≡ from) ⊎ (closes × (from + least ≤ opens))
    → bound ≤ least → LastsOrNone bound (opens - from)
first_lasts from opens least bound closes (inl none) small = inr (omega arith)
first_lasts from opens least bound closes (inr (may, long)) small = inl (omega arith)

second_lasts : (from opens until least bound : ℕ) → (opens ≡ from) ⊎ (opens ≡ until) ⊎ (opens + least ≤ until)
    → bound ≤ least → LastsOrNone bound (until - from) → LastsOrNone bound (until - opens)
second_lasts from opens until least bound (inl none) small lasts = subst (λ n. LastsOrNone bound (until - n)) (sym none) lasts
second_lasts from opens until least bound (inr (inl all)) small lasts = inr (omega arith)
second_lasts from opens until least bound (inr (inr room)) small lasts = inl (omega arith)

pub returns-clause-long : goal.returns-clause-long
returns-clause-long c bound small lasts all =
    let from = c.args.timeline.now.end in
    let opens = c.opening-opens.result in
    let first = first_lasts from opens c.args.least bound _ c.opening-opens.ensures.long small in
    let second = second_lasts from opens c.args.until c.args.least bound c.opening-opens.ensures.enough small lasts in
    c.in_ok-extend-2.ensures.long bound (subst (λ n. LastsOrNone bound (c.args.until - n)) (sym c.in_ok-extend.ensures.end) second)
    (c.in_ok-extend.ensures.long bound first all)
