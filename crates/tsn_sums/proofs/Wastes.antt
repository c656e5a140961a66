-- What works waste of rooms, from one place in a room to the next.
use Rattle.std.proofs.Common.{◌≡◌, ℕ, zero, suc, ◌+◌, ◌-◌, ◌*◌, ◌/◌, ◌≤◌, ◌<◌, List, leb, max, sym, ap, ◌∙◌, subst, arith, inl, inr}
use Rattle.std.proofs.lemmas.Bool.{cases_Bool, cases_lt, cond-true, cond-false, le-leb}
use Rattle.std.specs.Prelude.{nat_lt, MatchBool}
use Rattle.std.proofs.lemmas.Bool.Decides.{nat_tests}
use Rattle.std.proofs.lemmas.Nat.{div-add-mod', div-mul-add, mul-le}
use Rattle.std.proofs.Math.Nat.{add-mul}
use Rattle.tsn_model.specs.Argument.{reaches, filled, wasted}
use Rattle.tsn_model.proofs.Rooms.{filled-le}
use Rattle.tsn_sums.specs.Sums.{IsUnit}
use Rattle.tsn_sums.specs.Places.{IsFull}
use Rattle.tsn_sums.proofs.Sums.{filled_units}

pub match_lt : {P Q : Type 0} (a b : ℕ) → (a < b → P) → ((a < b → ⊥) → Q) → MatchBool (nat_lt a b) P Q
match_lt {P} {Q} a b less not_less = elim (cases_Bool (nat_lt a b)) [
  | inl is ↦ subst (λ t. MatchBool t P Q) (sym is) (less (grind (arith, nat_tests, is)))
  | inr isnt ↦ subst (λ t. MatchBool t P Q) (sym isnt) (not_less (λ below. grind (arith, nat_tests, isnt, below)))
]

pub wasted_few : (unit : ℕ) (works : List (ℕ × ℕ)) (room : ℕ) → room ≤ 4096 * unit → wasted unit works room ≡ room - filled works room
unfolding wasted
wasted_few unit works room few = cond-true (leb room (4096 * unit)) (room - filled works room) 0 (le-leb room (4096 * unit) few)

pub wasted_many : (unit : ℕ) (works : List (ℕ × ℕ)) (room : ℕ) → 4096 * unit < room → wasted unit works room ≡ 0
unfolding wasted
wasted_many unit works room many = cond-false (leb room (4096 * unit)) (room - filled works room) 0 (grind arith)

pub wasted_low : (unit : ℕ) (works : List (ℕ × ℕ)) (room : ℕ) → wasted unit works room ≤ room
wasted_low unit works room = elim (cases_lt (4096 * unit) room) [
  | inl many ↦ let none = wasted_many unit works room many in omega arith
  | inr few ↦ let is = wasted_few unit works room few in omega arith
]

filled_grows : (works : List (ℕ × ℕ)) (a b : ℕ) → a ≤ b → filled works a ≤ filled works b
unfolding filled
filled_grows works a zero within = let none : a ≡ 0 = omega arith in let same = ap (filled works) none in omega arith
filled_grows works a (suc b) within = elim (cases_lt b a) [
  | inl last ↦ let is : a ≡ suc b = omega arith in let same = ap (filled works) is in omega arith
  | inr before ↦
      let rest = filled_grows works a b before in
      let low = filled-le works b in
      elim (cases_Bool (reaches works (suc b))) [
        | inl there ↦ let is : filled works (suc b) ≡ suc b = cond-true (reaches works (suc b)) (suc b) (filled works b) there in omega arith
        | inr not_there ↦ let is : filled works (suc b) ≡ filled works b = cond-false (reaches works (suc b)) (suc b) (filled works b) not_there in omega arith
      ]
]

-- of a room that is smaller by so much no more than that is wasted less
wasted_less : (unit : ℕ) (works : List (ℕ × ℕ)) (room less : ℕ) → less ≤ room → wasted unit works room ≤ wasted unit works (room - less) + less
wasted_less unit works room less within = elim (cases_lt (4096 * unit) room) [
  | inl many ↦ let none = wasted_many unit works room many in omega arith
  | inr few ↦
      let is = wasted_few unit works room few in
      let smaller = wasted_few unit works (room - less) (omega arith) in
      let grows = filled_grows works (room - less) room (omega arith) in
      omega arith
]

-- of a room that is greater by so much, and has no more whole units, that is wasted too
wasted_more : (unit : ℕ) (works : List (ℕ × ℕ)) → IsUnit unit works → (room more : ℕ) → (room + more) / unit ≡ room / unit → room + more ≤ 4096 * unit
    → wasted unit works (room + more) ≡ wasted unit works room + more
wasted_more unit works is room more same few =
    let greater = wasted_few unit works (room + more) few in
    let here = wasted_few unit works room (omega arith) in
    let low = filled-le works room in
    let first = filled_units unit works is room in
    let second = filled_units unit works is (room + more) in
    let units : filled works ((room + more) / unit * unit) ≡ filled works (room / unit * unit) = ap (λ n. filled works (n * unit)) same in
    omega arith

module _ (unit : ℕ) (left right : List (ℕ × ℕ)) (is : IsUnit unit left) (idle low high work x : ℕ) (full : IsFull unit left right idle low high work x) where
  -- it stays so while the part before has no more whole units
  still_full : (z : ℕ) → x ≤ z → z + work ≤ high → (z - low) / unit ≡ (x - low) / unit → z - low ≤ 4096 * unit → IsFull unit left right idle low high work z
  still_full z after within same few =
      let begin = full.begin in
      let end = full.end in
      let was = full.full in
      let part : x - low + (z - x) ≡ z - low = omega arith in
      let units : (x - low + (z - x)) / unit ≡ (x - low) / unit = ap (λ n. n / unit) part ∙ same in
      let before = wasted_more unit left is (x - low) (z - x) units (omega arith) in
      let moved = ap (wasted unit left) part in
      let rest : high - (x + work) - (z - x) ≡ high - (z + work) = omega arith in
      let after_work = wasted_less unit right (high - (x + work)) (z - x) (omega arith) in
      let moved_right = ap (wasted unit right) rest in
      record { begin = omega arith; end = within; full = omega arith }

  pub full_on : x - low < 4096 * unit → (z : ℕ) → x ≤ z → z < ((x - low) / unit + 1) * unit + low → z < high - work + 1
      → IsFull unit left right idle low high work z
  full_on few z after below within =
      let begin = full.begin in
      let some = is.some in
      let q = (x - low) / unit in
      let split = div-add-mod' (x - low) unit in
      let next = add-mul q 1 unit in
      let b = z - low - q * unit in
      let parts : z - low ≡ q * unit + b = omega arith in
      let same : (z - low) / unit ≡ q = ap (λ n. n / unit) parts ∙ div-mul-add q unit b (omega arith) in
      let units : q + 1 ≤ 4096 = elim (cases_lt q 4096) [
        | inl low_enough ↦ omega arith
        | inr many ↦ let product = mul-le 4096 unit q unit many (omega arith) in absurd (omega arith)
      ] in
      let limit = mul-le (q + 1) unit 4096 unit units (omega arith) in
      still_full z after (omega arith) same (omega arith)

-- what the part behind wastes alone beyond the idle time is so many places on which it stays so
pub full_behind : (unit : ℕ) (left right : List (ℕ × ℕ)) (idle low high work x after more : ℕ) → IsFull unit left right idle low high work x
    → after ≡ wasted unit right (high - (x + work)) → more ≡ after - idle → (z : ℕ) → x ≤ z → z < x + max more 1 → IsFull unit left right idle low high work z
full_behind unit left right idle low high work x after more full is_after is_more z further below = elim (cases_lt x z) [
  | inl beyond ↦
      let begin = full.begin in
      let room = high - (x + work) in
      let within = wasted_low unit right room in
      let less = wasted_less unit right room (z - x) (omega arith) in
      let rest : room - (z - x) ≡ high - (z + work) = omega arith in
      let moved = ap (wasted unit right) rest in
      record { begin = omega arith; end = omega arith; full = omega arith }
  | inr here ↦
      let same : x ≡ z = omega arith in
      subst (λ place. IsFull unit left right idle low high work place) same full
]
