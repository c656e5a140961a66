use Rattle.std.proofs.Common.{◌≡◌, ◌<◌, ◌≤◌, get_or, length, sym, ◌∙◌, subst, arith, inl, inr}
use Rattle.std.proofs.lemmas.Bool.{cases_lt}
use Rattle.std.proofs.lemmas.Int.{ints}
use Rattle.std.proofs.lemmas.Grind.{get_or_default_zero}
use Rattle.std.proofs.lemmas.List.Elements.{Contains-get_or}
use Rattle.tsn_model.specs.Timing.{shifts, Sends}
use Rattle.tsn_timing.proofs.timing.Timing.comes_after.Goals as goal
use Rattle.tsn_timing.proofs.timing.Timing.comes_after.Goals.{else-second-ge0-via-then-second-ge0+else-is_shift, else-second-ge0-via-else-second-ge0}

pub returns-then-is_shift : goal.returns-then-is_shift
returns-then-is_shift c =
    let network = c.args.self.now in
    let n = c.loop-first.first-index in
    let items = c.shifts-first-items.ensures.value in
    let inside : n < length (shifts network c.args.stream) = subst (λ xs. n < length xs) items c.loop-first-test.true in
    let same : get_or c.shifts-first-items.result.now n 0 ≡ get_or (shifts network c.args.stream) n 0 = (λ k. get_or (items k) n 0) in
    let small = c.shifts-first-items.ensures.bound n 0 c.loop-first-test.true in
    let low = c.requires.low in
    let high = c.requires.high in
    let some = c.if-second-ge0.true in
    record {
      first = get_or (shifts network c.args.stream) n 0;
      second = _;
      first_sent = Contains-get_or (shifts network c.args.stream) n 0 inside;
      second_sent = c.if-is_shift.ensures;
      is = omega (arith, ints, low, high, some, small, same);
    }

pub loop-first-preserved : goal.loop-first-preserved
loop-first-preserved c =
    λ k second counted is sent.
    let network = c.args.self.now in
    let n = c.loop-first.first-index in
    elim (cases_lt k n) [
      | inl earlier ↦ c.loop-first.invariant k second earlier is sent
      | inr at ↦
          let items = c.shifts-first-items.ensures.value in
          let place : n ≡ k = omega arith in
          let same : get_or c.shifts-first-items.result.now n 0 ≡ get_or (shifts network c.args.stream) k 0 = (λ x. get_or (items x) (place x) 0) in
          let small = c.shifts-first-items.ensures.bound n 0 c.loop-first-test.true in
          let low = c.requires.low in
          let high = c.requires.high in
          elim c.else-second-ge0.branch [
            | else-second-ge0-via-then-second-ge0+else-is_shift w ↦
                let some = w.if-second-ge0.true in
                w.if-is_shift.ensures
                (subst (Sends network c.args.other) (omega (arith, ints, is, low, high, some, small, same)) sent)
            | else-second-ge0-via-else-second-ge0 w ↦
                let none = w.if-second-ge0.false in
                absurd (omega (arith, ints, is, low, high, none, small, same))
          ]
    ]

pub returns : goal.returns
returns c =
    λ lag.
    let network = c.args.self.now in
    let items = c.shifts-first-items.ensures.value in
    let ended = c.loop-first-test.false in
    let all : length (shifts network c.args.stream) ≤ c.loop-first.first-index = subst (λ xs. length xs ≤ c.loop-first.first-index) items ended in
    let place = lag.first_sent.1 in
    let first : get_or (shifts network c.args.stream) lag.first_sent.0 0 ≡ lag.first = sym
    (get_or_default_zero (shifts network c.args.stream) lag.first_sent.0 lag.first place) ∙ lag.first_sent.2 in
    let is = lag.is in
    c.loop-first.invariant lag.first_sent.0 lag.second (omega arith) (omega (arith, ints, is, first)) lag.second_sent
