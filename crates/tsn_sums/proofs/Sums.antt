-- Which multiples of a unit works reach.
use Rattle.std.proofs.Common.{◌≡◌, ℕ, zero, suc, ◌+◌, ◌-◌, ◌*◌, ◌/◌, ◌%◌, ◌≤◌, ◌<◌, List, [], ◌∷◌, ◌++◌, length, take, drop, append-nil, get_or, set, leb, cond, Bool, true, false, All, refl, sym, ap, ◌∙◌, subst, arith, inl, inr}
use Rattle.std.proofs.lemmas.Bool.{cases_Bool, cases_lt, cond-true, cond-false, true≢false, le-leb, lt-leb, leb-true}
use Rattle.std.proofs.lemmas.List.{drop_more, drop_all, take_all}
use Rattle.std.proofs.lemmas.List.Elements.{All-head, All-tail}
use Rattle.std.proofs.lemmas.Nat.{div-add-mod', mod-mul-add, mul-le}
use Rattle.std.proofs.lemmas.Nat.Gcd.{dvd_of_mod-eq-zero, mod-eq-zero_of_dvd}
use Rattle.std.proofs.Math.Nat.{dvd-add, add-mul, mod-lt, zero-mod}
use Rattle.tsn_model.specs.Argument.{reaches, filled}
use Rattle.tsn_sums.specs.Sums.{IsUnit, TellsReached, marked, most_marked, TellsFilled}

abbrev AreMultiples : ℕ → List (ℕ × ℕ) → Type 0
AreMultiples unit works = All (λ work. (unit ≤ work.1) × (work.1 % unit ≡ 0)) works

whole : (a unit : ℕ) → a % unit ≡ 0 → a / unit * unit ≡ a
whole a unit none = let split = div-add-mod' a unit in omega arith

mod_sum : (a b unit : ℕ) → a % unit ≡ 0 → b % unit ≡ 0 → (a + b) % unit ≡ 0
mod_sum a b unit first second = mod-eq-zero_of_dvd unit (dvd-add unit (dvd_of_mod-eq-zero unit first) (dvd_of_mod-eq-zero unit second))

pub le_from_mul : (a b unit : ℕ) → 0 < unit → a * unit ≤ b * unit → a ≤ b
le_from_mul a b unit some le = elim (cases_lt b a) [
  | inr fine ↦ fine
  | inl past ↦
      let more = mul-le (b + 1) unit a unit (omega arith) (omega arith) in
      let split = add-mul b 1 unit in
      absurd (omega arith)
]

-- what is reached is a multiple of the unit
reaches_multiple : (unit : ℕ) (works : List (ℕ × ℕ)) → AreMultiples unit works → (amount : ℕ) → reaches works amount ≡ true → amount % unit ≡ 0
unfolding reaches
reaches_multiple unit [] multiples amount reached =
    let none : amount ≡ 0 = let low = leb-true amount 0 reached in omega arith in
    ap (λ n. n % unit) none ∙ zero-mod unit
reaches_multiple unit (work ∷ works) multiples amount reached =
    let rest = All-tail (λ work. (unit ≤ work.1) × (work.1 % unit ≡ 0)) work works multiples in
    let here = All-head (λ work. (unit ≤ work.1) × (work.1 % unit ≡ 0)) work works multiples in
    let more = cond (leb (work.0 + work.1) amount) (reaches works (amount - work.1)) false in
    elim (cases_Bool (reaches works amount)) [
      | inl before ↦ reaches_multiple unit works rest amount before
      | inr not_before ↦
          let second : more ≡ true = sym (cond-false (reaches works amount) true more not_before) ∙ reached in
          elim (cases_Bool (leb (work.0 + work.1) amount)) [
            | inl enough ↦
                let sum = leb-true (work.0 + work.1) amount enough in
                let left : reaches works (amount - work.1) ≡ true =
                sym (cond-true (leb (work.0 + work.1) amount) (reaches works (amount - work.1)) false enough) ∙ second in
                let same : amount - work.1 + work.1 ≡ amount = omega arith in
                subst (λ n. n % unit ≡ 0) same (mod_sum (amount - work.1) work.1 unit (reaches_multiple unit works rest (amount - work.1) left) here.1)
            | inr few ↦ absurd (true≢false (sym second ∙ cond-false (leb (work.0 + work.1) amount) (reaches works (amount - work.1)) false few))
          ]
    ]

-- between two multiples of the unit nothing more is filled
filled_between : (unit : ℕ) (works : List (ℕ × ℕ)) → AreMultiples unit works → (k j : ℕ) → j < unit → filled works (k * unit + j) ≡ filled works (k * unit)
unfolding filled
filled_between unit works multiples k zero below = let same : k * unit + 0 ≡ k * unit = omega arith in ap (filled works) same
filled_between unit works multiples k (suc j) below =
    let amount = suc (k * unit + j) in
    let same : k * unit + suc j ≡ amount = omega arith in
    let part : amount % unit ≡ suc j = ap (λ n. n % unit) (sym same) ∙ mod-mul-add k unit (suc j) below in
    let rest = filled_between unit works multiples k j (omega arith) in
    elim (cases_Bool (reaches works amount)) [
      | inl there ↦
          let none = reaches_multiple unit works multiples amount there in
          absurd (omega arith)
      | inr not_there ↦
          ap (filled works) same ∙ cond-false (reaches works amount) amount (filled works (k * unit + j)) not_there ∙ rest
    ]

-- what is filled of a room is what is filled of its whole units
pub filled_units : (unit : ℕ) (works : List (ℕ × ℕ)) → IsUnit unit works → (room : ℕ) → filled works room ≡ filled works (room / unit * unit)
filled_units unit works is room =
    let some = is.some in
    let less = mod-lt room {m = unit} some in
    let split = div-add-mod' room unit in
    ap (filled works) (sym split) ∙ filled_between unit works is.each (room / unit) (room % unit) less

-- and of one unit more what is reached with it, or what was filled without
filled_next : (unit : ℕ) (works : List (ℕ × ℕ)) → IsUnit unit works → (k : ℕ)
    → filled works (suc k * unit) ≡ cond (reaches works (suc k * unit)) (suc k * unit) (filled works (k * unit))
unfolding filled
filled_next unit works is k =
    let some = is.some in
    let more = k * unit + (unit - 1) in
    let split = add-mul k 1 unit in
    let one : suc k ≡ k + 1 = omega arith in
    let next : suc k * unit ≡ (k + 1) * unit = ap (λ n. n * unit) one in
    let same : suc k * unit ≡ suc more = omega arith in
    let rest = filled_between unit works is.each k (unit - 1) (omega arith) in
    ap (filled works) same
    ∙ ap (λ n. cond (reaches works n) n (filled works more)) (sym same)
    ∙ ap (λ n. cond (reaches works (suc k * unit)) (suc k * unit) n) rest

pub most_filled : (unit units : ℕ) (works : List (ℕ × ℕ)) → IsUnit unit works → (table : List Bool) → TellsReached works unit units table
    → (k : ℕ) → k ≤ units → most_marked table unit k ≡ filled works (k * unit)
unfolding most_marked filled
most_filled unit units works is table tells zero within = let none : 0 * unit ≡ 0 = omega arith in sym (ap (filled works) none)
most_filled unit units works is table tells (suc k) within =
    let rest = most_filled unit units works is table tells k (omega arith) in
    ap (λ b. cond b (suc k * unit) (most_marked table unit k)) (tells (suc k) within)
    ∙ ap (λ n. cond (reaches works (suc k * unit)) (suc k * unit) n) rest
    ∙ sym (filled_next unit works is k)

-- with one more work
pub marked_is : (unit units : ℕ) (works : List (ℕ × ℕ)) (table : List Bool) → TellsReached works unit units table → 0 < unit
    → (work : ℕ × ℕ) → work.1 % unit ≡ 0 → (k : ℕ) → k ≤ units
    → marked table (work.0 + work.1) (work.1 / unit) unit k ≡ reaches (work ∷ works) (k * unit)
unfolding marked reaches
marked_is unit units works table tells some work multiple k within =
    let back = work.1 / unit in
    let need = leb (work.0 + work.1) (k * unit) in
    let rest : cond need (get_or table (k - back) false) false ≡ cond need (reaches works (k * unit - work.1)) false =
    elim (cases_Bool need) [
      | inl enough ↦
          let sum = leb-true (work.0 + work.1) (k * unit) enough in
          let units_of = whole work.1 unit multiple in
          let fits = le_from_mul back k unit some (omega arith) in
          let split = add-mul (k - back) back unit in
          let parts : k - back + back ≡ k = omega arith in
          let product : (k - back + back) * unit ≡ k * unit = ap (λ n. n * unit) parts in
          let less : (k - back) * unit ≡ k * unit - work.1 = omega arith in
          ap (λ b. cond need b false) (tells (k - back) (omega arith) ∙ ap (reaches works) less)
      | inr few ↦ cond-false need (get_or table (k - back) false) false few ∙ sym (cond-false need (reaches works (k * unit - work.1)) false few)
    ] in
    ap (λ b. cond b true (cond need (get_or table (k - back) false) false)) (tells k within)
    ∙ ap (λ b. cond (reaches works (k * unit)) true b) rest

-- the works from one place on are that work and those behind it
pub one_more : (works : List (ℕ × ℕ)) (place : ℕ) (d : ℕ × ℕ) → place < length works
    → drop (length works - (place + 1)) works ≡ get_or works (length works - (place + 1)) d ∷ drop (length works - place) works
one_more works place d below =
    let one : length works - (place + 1) + 1 ≡ length works - place = omega arith in
    drop_more works (length works - (place + 1)) d (omega arith)
    ∙ ap (λ n. get_or works (length works - (place + 1)) d ∷ drop n works) one

-- nothing is reached without works but 0
pub none_reached : (unit units : ℕ) (table : List Bool) → 0 < unit → get_or table 0 false ≡ true → ((k : ℕ) → 0 < k → get_or table k false ≡ false)
    → TellsReached [] unit units table
unfolding reaches
none_reached unit units table some first others zero within = first ∙ sym (le-leb (0 * unit) 0 (omega arith))
none_reached unit units table some first others (suc k) within =
    let more = mul-le 1 1 (suc k) unit (omega arith) some in
    others (suc k) (omega arith) ∙ sym (lt-leb (suc k * unit) 0 (omega arith))

cond_self : (b : Bool) → cond b true false ≡ b
cond_self true = refl
cond_self false = refl

cond_same : (b : Bool) → cond b false false ≡ false
cond_same true = refl
cond_same false = refl

-- what asks for more than there is marks nothing, and what is marked stays
pub marked_below : (table : List Bool) (need back unit k : ℕ) → k * unit < need → marked table need back unit k ≡ get_or table k false
unfolding marked
marked_below table need back unit k below =
    ap (λ b. cond (get_or table k false) true b) (cond-false (leb need (k * unit)) (get_or table (k - back) false) false (lt-leb need (k * unit) below))
    ∙ cond_self (get_or table k false)

pub marked_already : (table : List Bool) (need back unit k : ℕ) → get_or table k false ≡ true → marked table need back unit k ≡ true
unfolding marked
marked_already table need back unit k there = cond-true (get_or table k false) true (cond (leb need (k * unit)) (get_or table (k - back) false) false) there

pub marked_more : (table : List Bool) (need back unit k : ℕ) → get_or table k false ≡ false → need ≤ k * unit
    → marked table need back unit k ≡ get_or table (k - back) false
unfolding marked
marked_more table need back unit k not_there enough =
    cond-false (get_or table k false) true (cond (leb need (k * unit)) (get_or table (k - back) false) false) not_there
    ∙ cond-true (leb need (k * unit)) (get_or table (k - back) false) false (le-leb need (k * unit) enough)

pub marked_none : (table : List Bool) (need back unit k : ℕ) → get_or table k false ≡ false → get_or table (k - back) false ≡ false
    → marked table need back unit k ≡ false
unfolding marked
marked_none table need back unit k not_there not_before =
    cond-false (get_or table k false) true (cond (leb need (k * unit)) (get_or table (k - back) false) false) not_there
    ∙ ap (λ b. cond (leb need (k * unit)) b false) not_before
    ∙ cond_same (leb need (k * unit))

pub set_as : (old now : List Bool) (place : ℕ) (one other : Bool) → now ≡ set old place one → one ≡ other → now ≡ set old place other
set_as old now place one other is same = is ∙ ap (set old place) same

pub most_next : (table : List Bool) (unit place most : ℕ) → (place ≡ 0 → most ≡ 0) → ((k : ℕ) → k + 1 ≡ place → most ≡ most_marked table unit k)
    → cond (get_or table place false) (place * unit) most ≡ most_marked table unit place
unfolding most_marked
most_next table unit zero most none last = elim (cases_Bool (get_or table 0 false)) [
  | inl there ↦ cond-true (get_or table 0 false) (0 * unit) most there ∙ omega arith
  | inr not_there ↦ cond-false (get_or table 0 false) (0 * unit) most not_there ∙ none refl
]
most_next table unit (suc k) most none last = ap (λ n. cond (get_or table (suc k) false) (suc k * unit) n) (last k (omega arith))

-- a work that is a multiple of the unit has so many units
pub units_fit : (unit need work k : ℕ) → 0 < unit → work % unit ≡ 0 → work ≤ need → need ≤ k * unit → work / unit ≤ k
units_fit unit need work k some multiple less within =
    let units_of = whole work unit multiple in
    le_from_mul (work / unit) k unit some (omega arith)

pub some_units : (unit work : ℕ) → 0 < unit → work % unit ≡ 0 → unit ≤ work → 0 < work / unit
some_units unit work some multiple enough =
    let units_of = whole work unit multiple in
    elim (cases_lt 0 (work / unit)) [
      | inl fine ↦ fine
      | inr none ↦ let is : work / unit ≡ 0 = omega arith in let product : work / unit * unit ≡ 0 * unit = ap (λ n. n * unit) is in absurd (omega arith)
    ]

pub filled_at : (unit units : ℕ) (works : List (ℕ × ℕ)) → IsUnit unit works → (table : List ℕ) → TellsFilled works unit units table → (room : ℕ)
    → room / unit ≤ units
    → get_or table (room / unit) 0 ≡ filled works room
filled_at unit units works is table tells room within = tells (room / unit) within ∙ sym (filled_units unit works is room)

-- a slice of all of a list, where its length stays
pub same_slice : {X : Type 0} (len : ℕ) (now old : List X) → length now ≡ length old → length old ≡ len → take len (now ++ drop (length now) old) ≡ now
same_slice len now old even whole_len =
    ap (λ rest. take len (now ++ rest)) (drop_all (length now) old (omega arith)) ∙ ap (take len) (append-nil now) ∙ take_all len now (omega arith)
