-- Seats that are cut off one after another.
use Rattle.std.proofs.Common.{◌≡◌, ℕ, zero, suc, ◌+◌, ◌-◌, ◌<◌, ◌≤◌, cond, eqb, eq-eqb, ne_eqb, false, true, List, [], ◌∷◌, ◌++◌, length, refl, sym, ap, ◌∙◌, subst, arith, add-zero}
use Rattle.std.specs.Prelude.{slice_index_or}
use Rattle.std.proofs.lemmas.List.Sums.{sum_by-cons}
use Rattle.tsn_model.specs.declared.Tally.{Tally}
use Rattle.tsn_model.specs.Network.{Network}
use Rattle.tsn_model.specs.Certificate.{beyond}
use Rattle.tsn_model.specs.Search.{tally_of, settled_by, pruned_bounds, solved_bounds, least_or_none}
use Rattle.tsn_incumbent.specs.Flowspans.{no_flowspan}
use Rattle.tsn_incumbent.specs.Standings.{Seated, fresh, fresh_from, times, alone, without}
use Rattle.tsn_incumbent.specs.declared.standing.Standing.{Standing}
use Rattle.atomic_table.specs.Seated.{TableId}
use Rattle.tsn_incumbent.specs.Halves.{Half, half, halves_from}
use Rattle.tsn_model.specs.declared.Tally.{Tally}
use Rattle.tsn_incumbent.specs.Teller.{no_event}
use Rattle.tsn_incumbent.specs.Names.{Names}
use Rattle.tsn_incumbent.specs.Desk.{Halved, others_from}
use Rattle.tsn_incumbent.specs.Teller.{Keeps, rest_of, fresh_teller, tellers_from}

-- a number before the first does not stand there
module _ (c number : ℕ) where
  absent_times : (first count : ℕ) → number < first → times number (fresh_from c first count) ≡ 0
  absent_times first zero low = refl
  absent_times first (suc count) low = let other : eqb first number ≡ false = ne_eqb first number (λ e. omega arith) in sum_by-cons (λ (p : Standing). cond (eqb p.number number) 1 0) (fresh c first) (fresh_from c (suc first) count) ∙ rw other (omega (arith, absent_times (suc first) count (omega arith)))

  absent_without : (first count : ℕ) → number < first → without number (fresh_from c first count) ≡ fresh_from c first count
  absent_without first zero low = refl
  absent_without first (suc count) low = let other : eqb first number ≡ false = ne_eqb first number (λ e. omega arith) in rw other (ap (λ ps. fresh c first ∷ ps) (absent_without (suc first) count (omega arith)))

  absent_alone : (first count : ℕ) → number < first → alone number (fresh_from c first count) ≡ []
  absent_alone first zero low = refl
  absent_alone first (suc count) low = let other : eqb first number ≡ false = ne_eqb first number (λ e. omega arith) in rw other (absent_alone (suc first) count (omega arith))

  -- the first of them
  first_times : (count : ℕ) → times number (fresh_from c number (suc count)) ≡ 1
  first_times count = let it : eqb number number ≡ true = eq-eqb number number refl in sum_by-cons (λ (p : Standing). cond (eqb p.number number) 1 0) (fresh c number) (fresh_from c (suc number) count) ∙ rw it (omega (arith, absent_times (suc number) count (omega arith)))

  first_without : (count : ℕ) → without number (fresh_from c number (suc count)) ≡ fresh_from c (suc number) count
  first_without count = let it : eqb number number ≡ true = eq-eqb number number refl in rw it (absent_without (suc number) count (omega arith))

  first_alone : (count : ℕ) → alone number (fresh_from c number (suc count)) ≡ fresh c number ∷ []
  first_alone count = let it : eqb number number ≡ true = eq-eqb number number refl in rw it (ap (λ ps. fresh c number ∷ ps) (absent_alone (suc number) count (omega arith)))

-- what is said of the rest of the seats, where more than one number is left
pub record Cut (names : Names) (number tellers : ℕ) (seat : Seated) : Type 0 where
  pub once : times number seat.standings ≡ 1
  pub another : 0 < length (without number seat.standings)
  pub one : alone number seat.standings ≡ (rest_of names number 1).standings
  pub more : without number seat.standings ≡ (rest_of names (number + 1) (tellers - (number + 1))).standings

pub cuts : (names : Names) (number tellers : ℕ) (seat : Seated) → seat ≡ rest_of names number (tellers - number) → number + 1 < tellers → Cut names number tellers seat
cuts names number tellers seat is low =
    let c = no_flowspan names.race.network in
    let left : tellers - number ≡ suc (suc (tellers - (number + 2))) = omega arith in
    let after : tellers - (number + 1) ≡ suc (tellers - (number + 2)) = omega arith in
    let next : number + 1 ≡ suc number = omega arith in
    let stands : seat.standings ≡ fresh_from c number (suc (suc (tellers - (number + 2)))) = ap (λ (p : Seated). p.standings) is ∙ ap (fresh_from c number) left in
    let rest = first_without c number (suc (tellers - (number + 2))) in
    record {
      once = rw stands (first_times c number (suc (tellers - (number + 2))));
      another = rw stands (rw rest (omega arith));
      one = rw stands (first_alone c number (suc (tellers - (number + 2))));
      more = rw (stands, after, next) rest;
    }

-- the next number's halves, and those after it
pub record Next (table : TableId) (opening : Tally) (number tellers : ℕ) (first second : Half) (after : List (Half × Half)) : Type 0 where
  pub low : number < tellers
  pub one : first ≡ half table number false opening
  pub other : second ≡ half table number true opening
  pub left : after ≡ halves_from table opening (number + 1) (tellers - (number + 1))

module _ (table : TableId) (opening : Tally) (number tellers : ℕ) (first second : Half) (after : List (Half × Half)) where
  next_of : (m : ℕ) → tellers - number ≡ m → halves_from table opening number m ≡ (first, second) ∷ after → Next table opening number tellers first second after
  next_of zero left is = absurd (cc)
  next_of (suc m) left is =
      let pair : ◌≡◌ {A = Half × Half} (half table number false opening, half table number true opening) (first, second) = (cc) in
      let tail : halves_from table opening (suc number) m ≡ after = (cc) in
      let next : number + 1 ≡ suc number = omega arith in
      let count : tellers - suc number ≡ m = omega arith in
      record {
        low = omega arith;
        one = sym (ap (λ (p : Half × Half). p.0) pair);
        other = sym (ap (λ (p : Half × Half). p.1) pair);
        left = rw (next, count) (sym tail);
      }

  pub next_halves : (items : List (Half × Half)) → items ≡ (first, second) ∷ after → items ≡ halves_from table opening number (tellers - number) → Next table opening number tellers first second after
  next_halves items is from = next_of (tellers - number) refl (sym from ∙ is)

no_more : (table : TableId) (opening : Tally) (number m : ℕ) → halves_from table opening number m ≡ [] → m ≡ 0
no_more table opening number zero is = refl
no_more table opening number (suc m) is = absurd (cc)

pub all_dealt : (table : TableId) (opening : Tally) (number tellers : ℕ) (items : List (Half × Half)) → items ≡ halves_from table opening number (tellers - number) → number ≤ tellers → length items ≡ 0 → number ≡ tellers
all_dealt table opening number tellers items from few none = let m = no_more table opening number (tellers - number) (sym from ∙ nil-of_length items none) in omega (arith, m)
  where
    nil-of_length : (xs : List (Half × Half)) → length xs ≡ 0 → xs ≡ []
    nil-of_length [] e = refl
    nil-of_length (x ∷ xs) e = absurd (omega arith)

-- one more teller
one_more_from : (names : Names) (first count : ℕ) → tellers_from names first count ++ fresh_teller names.race.network (first + count) ∷ [] ≡ tellers_from names first (count + 1)
one_more_from names first zero = rw add-zero refl
one_more_from names first (suc count) =
    let step = one_more_from names (suc first) count in
    let here : suc first + count ≡ first + suc count = omega arith in
    let longer : suc count + 1 ≡ suc (count + 1) = omega arith in
    rw longer (ap (λ ts. fresh_teller names.race.network first ∷ ts) (rw here at step))

pub one_more_teller : (names : Names) (count : ℕ) → tellers_from names 0 count ++ fresh_teller names.race.network count ∷ [] ≡ tellers_from names 0 (count + 1)
one_more_teller names count = let step = one_more_from names 0 count in let zero_more : 0 + count ≡ count = omega arith in rw zero_more at step

one_other_from : (names : Names) (first count : ℕ) → others_from names first count ++ half names.halves (first + count) true (no_event names.race.network) ∷ [] ≡ others_from names first (count + 1)
one_other_from names first zero = rw add-zero refl
one_other_from names first (suc count) =
    let step = one_other_from names (suc first) count in
    let here : suc first + count ≡ first + suc count = omega arith in
    let longer : suc count + 1 ≡ suc (count + 1) = omega arith in
    rw longer (ap (λ ts. half names.halves first true (no_event names.race.network) ∷ ts) (rw here at step))

pub one_more_other : (names : Names) (count : ℕ) → others_from names 0 count ++ half names.halves count true (no_event names.race.network) ∷ [] ≡ others_from names 0 (count + 1)
one_more_other names count = let step = one_other_from names 0 count in let zero_more : 0 + count ≡ count = omega arith in rw zero_more at step

-- nothing is worse than one more than the cycle
past_all : (network : Network) → beyond network (no_flowspan network) ≤ no_flowspan network
unfolding beyond
past_all network = omega arith

-- a teller with no event keeps what a teller has to keep
pub fresh_keeps : (names : Names) (number : ℕ) (seat : Seated) (share : Half) → number < names.race.tellers → seat ≡ rest_of names number 1 → share ≡ half names.halves number false (no_event names.race.network) → Keeps names number seat share
fresh_keeps names number seat share within sits is =
    let P : Seated × Half → Type 0 = λ x. Keeps names number x.0 x.1 in
    subst P (λ i. (sym sits i, sym is i))
    record { sits = refl; shares = refl; numbered = refl; within = within; pruned = past_all names.race.network; solved = omega arith }

-- the halves that lie behind the lock at first
other_at : (names : Names) (first count number : ℕ) (d : Half) → number < count → slice_index_or (others_from names first count) number d ≡ half names.halves (first + number) true (no_event names.race.network)
other_at names first zero number d low = absurd (omega arith)
other_at names first (suc count) zero d low = rw add-zero refl
other_at names first (suc count) (suc number) d low = let here : suc first + number ≡ first + suc number = omega arith in rw (← here) (other_at names (suc first) count number d (omega arith))

others_length : (names : Names) (first count : ℕ) → length (others_from names first count) ≡ count
others_length names first zero = refl
others_length names first (suc count) = ap suc (others_length names (suc first) count)

no_tallies : (network : Network) (number : ℕ) → tally_of network number [] ≡ no_event network
unfolding tally_of settled_by pruned_bounds solved_bounds least_or_none
no_tallies network number = refl

pub opens : (names : Names) (halves : List Half) → halves ≡ others_from names 0 names.race.tellers → Halved names halves []
opens names halves is =
    subst (λ hs. Halved names hs []) (sym is)
    (record {
      count = others_length names 0 names.race.tellers;
      each = λ number d low.
          let at = other_at names 0 names.race.tellers number d (omega (arith, low, others_length names 0 names.race.tellers)) in
          let zero_more : 0 + number ≡ number = omega arith in
          rw zero_more at at ∙ ap (half names.halves number true) (sym (no_tallies names.race.network number));
    })
