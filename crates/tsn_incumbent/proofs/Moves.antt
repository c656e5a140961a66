-- Each step keeps what is true of the shared word.
use Rattle.std.proofs.Common.{◌≡◌, ℕ, zero, suc, ◌+◌, ◌<◌, ◌≤◌, min, not, cond, ltb, leb, ◌&&◌, eqb, List, [], ◌∷◌, length, get_or, set, refl, sym, ◌∙◌, subst, inl, inr, arith}
use Rattle.std.specs.Prelude.{sum_by, All, slice_index}
use Rattle.std.proofs.lemmas.List.Sums.{sum_by-cons, sum_by_push}
use Rattle.std.proofs.lemmas.List.Filters.{sum_by-filter_both}
use Rattle.std.proofs.lemmas.List.Elements.{All-nil, All-cons, All-head, All-tail, All-weaker, All-set, All-push, All-filter}
use mathlib.Core.Option.{some}
use Rattle.std.proofs.lemmas.Bool.Decides.{nat_tests}
use mathlib.Core.Logic.{dite}
use native.Mathlib.Decide.{dec_le}
use lib.ListN.{get_elem?}
use Rattle.atomic_table.specs.Table.{Me, Allows, Splits, Joins, keeps}
use Rattle.atomic_table.proofs.Lists.{set_else, set_here}
use Rattle.tsn_model.specs.Network.{Network}
use Rattle.tsn_incumbent.specs.Flowspans.{IsIncumbent, no_flowspan}
use Rattle.tsn_timing.specs.Solution.{Solution, IsSolved}
use Rattle.tsn_incumbent.specs.declared.standing.Standing.{Standing}
use Rattle.tsn_incumbent.specs.declared.standing.SeatState.{SeatState}
use Rattle.tsn_incumbent.specs.Standings.{least, fresh, fresh_from, observed, posted, times, IsAtMostKnown, least_posted}
use Rattle.tsn_incumbent.specs.Running.{opening, spent, knowing, others_of, alone_of, joined, Stands, Fair, Running, Observed, Posted, Closed}
use Rattle.tsn_incumbent.proofs.Lists.{there, all_at, sum_apart, least_apart, least_le, least_push, least_at_most, least-filter_both, sum_by-merged, least-merged, All-merged}

-- what a view has posted, at least, and how often it has a number
abbrev lows : Network → SeatState → ℕ
lows network v = least_posted network v.standings

abbrev counts : ℕ → SeatState → ℕ
counts number v = times number v.standings

-- the word may only fall, for all views
lower_all : (network : Network) (word word' : ℕ) (views : List SeatState) → word' ≤ word → All (λ v. All (Stands network word) v.standings) views → All (λ v. All (Stands network word') v.standings) views
lower_all network word word' views low all =
    All-weaker (λ v. All (Stands network word) v.standings) (λ v. All (Stands network word') v.standings)
    (λ v stand. All-weaker (Stands network word) (Stands network word') (λ p s. (omega (arith, s.0), s.1)) v.standings stand)
    views all

-- A seat's view becomes another, which has the same numbers and whose least posted falls as the word does
pub changes : (network : Network) (tellers word x : ℕ) (views : List SeatState) (id : ℕ) (v w : SeatState)
    → Fair network tellers word views → get_elem? views id ≡ some v → IsIncumbent network (min word x)
    → ((number : ℕ) → counts number w ≡ counts number v) → lows network w ≡ min (lows network v) x → All (Stands network (min word x)) w.standings
    → Fair network tellers (min word x) (set views id w)
changes network tellers word x views id v w fair at good same falls stand =
    let apart = least_apart (lows network) (no_flowspan network) views id v at in record {
      lowest = omega (arith, fair.lowest, apart.1, apart.2 w, falls);
      incumbent = good;
      stand = All-set (λ u. All (Stands network (min word x)) u.standings) views id w stand (lower_all network word (min word x) views (omega arith) fair.stand);
      dealt = λ number. let sums = sum_apart (counts number) views id v at in omega (arith, fair.dealt number, sums.1, sums.2 w, same number);
    }

-- what a seat has seen and posted is at least the word
pub finds : (network : Network) (tellers word : ℕ) (views : List SeatState) (id : ℕ) (v : SeatState) → Fair network tellers word views → get_elem? views id ≡ some v → IsAtMostKnown word v.standings
finds network tellers word views id v fair at k d low =
    let stand = all_at (λ u. All (Stands network word) u.standings) views id v fair.stand at k d low in
    let apart = least_apart (lows network) (no_flowspan network) views id v at in
    let posts = least_at_most (λ (p : Standing). p.posted) (no_flowspan network) v.standings k d low in
    (stand.0, omega (arith, fair.lowest, apart.1, posts))

word_le : (network : Network) (tellers word : ℕ) (views : List SeatState) → Fair network tellers word views → word ≤ no_flowspan network
word_le network tellers word views fair = omega (arith, fair.lowest, least_le (lows network) (no_flowspan network) views)

-- the standings after a load
saw_counts : (number word : ℕ) (ps : List Standing) → times number (observed word ps) ≡ times number ps
saw_counts number word [] = refl
saw_counts number word (p ∷ ps) = refl

saw_lows : (network : Network) (word : ℕ) (ps : List Standing) → least_posted network (observed word ps) ≡ least_posted network ps
saw_lows network word [] = refl
saw_lows network word (p ∷ ps) = refl

saw_stand : (network : Network) (word : ℕ) (ps : List Standing) → All (Stands network word) ps → All (Stands network word) (observed word ps)
saw_stand network word [] all = all
saw_stand network word (p ∷ ps) all =
    let head = All-head (Stands network word) p ps all in
    All-cons (Stands network word) _ ps (omega (arith, head.0), head.1) (All-tail (Stands network word) p ps all)

-- the standings after a fetch-min
post_counts : (number flowspan : ℕ) (ps : List Standing) → times number (posted flowspan ps) ≡ times number ps
post_counts number flowspan [] = refl
post_counts number flowspan (p ∷ ps) = refl

post_lows : (network : Network) (flowspan : ℕ) (ps : List Standing) → 0 < length ps → least_posted network (posted flowspan ps) ≡ min (least_posted network ps) flowspan
post_lows network flowspan [] none = absurd (omega arith)
post_lows network flowspan (p ∷ ps) some_there = omega arith

lesser : (network : Network) (a b : ℕ) → IsIncumbent network a → IsIncumbent network b → IsIncumbent network (min a b)
lesser network a b left right = dite (dec_le a b) (λ le. let e : min a b ≡ a = omega arith in rw e left) (λ more. let e : min a b ≡ b = omega arith in rw e right)

post_stand : (network : Network) (word flowspan : ℕ) (ps : List Standing) → IsIncumbent network flowspan → All (Stands network word) ps → All (Stands network (min word flowspan)) (posted flowspan ps)
post_stand network word flowspan [] good all = All-nil (Stands network (min word flowspan))
post_stand network word flowspan (p ∷ ps) good all =
    let head = All-head (Stands network word) p ps all in
    All-cons (Stands network (min word flowspan)) _ ps (omega (arith, head.0), lesser network p.posted flowspan head.1 good)
    (All-weaker (Stands network word) (Stands network (min word flowspan)) (λ q s. (omega (arith, s.0), s.1)) ps (All-tail (Stands network word) p ps all))

-- one word, written
written : (words : List ℕ) (n : ℕ) → length words ≡ 1 → (length (set words 0 n) ≡ 1) × (get_or (set words 0 n) 0 0 ≡ n)
written [] n one = absurd (omega arith)
written (x ∷ xs) n one = (omega arith, refl)

pub observes : (network : Network) (tellers slots id : ℕ) (me : Me (Unit {0}) SeatState) → me.0.timing ≡ network → Allows (Running network tellers) slots id me 0 (λ n. n) (Observed me)
observes network tellers slots id me same s running homes at fits =
    let word = slice_index s.words 0 in
    let fair = running.1 in
    let w = knowing me.0 (observed word me.0.standings) in
    let wrote = written s.words word running.0 in
    let stays : min word (no_flowspan network) ≡ word = omega (arith, word_le network tellers word s.views fair) in
    let stand = saw_stand network word me.0.standings (all_at (λ u. All (Stands network word) u.standings) s.views id me.0 fair.stand at) in
    let low : lows network w ≡ min (lows network me.0) (no_flowspan network) = omega (arith, saw_lows network word me.0.standings, least_le (λ (p : Standing). p.posted) (no_flowspan network) me.0.standings) in
    let next = changes network tellers word (no_flowspan network) s.views id me.0 w fair at (rw stays fair.incumbent) (λ number. saw_counts number word me.0.standings) low (rw stays stand) in
    (w, keeps, tt, (wrote.0, subst (λ n. Fair network tellers n (set s.views id w)) (stays ∙ sym wrote.1) next), (refl, (subst (λ n. IsIncumbent n word) (sym same) fair.incumbent, finds network tellers word s.views id me.0 fair at)))

-- a schedule's flowspan may be posted
pub may_post : (network : Network) (solution : Solution) (n : ℕ) → IsSolved network solution → n ≡ solution.flowspan → IsIncumbent network n
may_post network solution n solved is = inr (record { offsets = solution.offsets; valid = solved.0; spans = solved.1 ∙ sym is })

pub posts : (network : Network) (tellers slots id flowspan : ℕ) (me : Me (Unit {0}) SeatState) → me.0.timing ≡ network → 0 < length me.0.standings → IsIncumbent network flowspan → Allows (Running network tellers) slots id me 0 (λ n. min n flowspan) (Posted flowspan me)
posts network tellers slots id flowspan me same some_there good s running homes at fits =
    let word = slice_index s.words 0 in
    let fair = running.1 in
    let w = knowing me.0 (posted flowspan me.0.standings) in
    let wrote = written s.words (min word flowspan) running.0 in
    let stand = post_stand network word flowspan me.0.standings good (all_at (λ u. All (Stands network word) u.standings) s.views id me.0 fair.stand at) in
    let next = changes network tellers word flowspan s.views id me.0 w fair at (lesser network word flowspan fair.incumbent good) (λ number. post_counts number flowspan me.0.standings) (post_lows network flowspan me.0.standings some_there) stand in
    (w, keeps, tt, (wrote.0, subst (λ n. Fair network tellers n (set s.views id w)) (sym wrote.1) next), (refl, (subst (λ n. IsIncumbent n word) (sym same) fair.incumbent, finds network tellers word s.views id me.0 fair at)))

-- a seat is cut in two, which share its standings
pub cuts : (network : Network) (tellers number id : ℕ) (v : SeatState) → Splits {S = Unit {0}} (Running network tellers) id v (others_of number v) (alone_of number v)
cuts network tellers number id v s running at =
    let word = slice_index s.words 0 in
    let fair = running.1 in
    let P : SeatState → Type 0 = λ u. All (Stands network word) u.standings in
    let left = others_of number v in
    let right = alone_of number v in
    let stand = all_at P s.views id v fair.stand at in
    let apart = least_apart (lows network) (no_flowspan network) s.views id v at in
    let both = least-filter_both (λ (p : Standing). p.posted) (no_flowspan network) (λ p. eqb p.number number) (λ p. not (eqb p.number number)) (λ p. refl) v.standings in (
      running.0,
      record {
        lowest = omega (arith, fair.lowest, apart.1, apart.2 left, both, least_push (lows network) (no_flowspan network) (set s.views id left) right);
        incumbent = fair.incumbent;
        stand = All-push P (set s.views id left) right (All-set P s.views id left (All-filter (λ p. not (eqb p.number number)) (Stands network word) v.standings stand) fair.stand) (All-filter (λ p. eqb p.number number) (Stands network word) v.standings stand);
        dealt = λ k.
            let sums = sum_apart (counts k) s.views id v at in
            let parts = sum_by-filter_both (λ (p : Standing). eqb p.number number) (λ p. not (eqb p.number number)) (λ p. refl) (λ p. cond (eqb p.number k) 1 0) v.standings in
            omega (arith, fair.dealt k, sums.1, sums.2 left, parts, sum_by_push (counts k) (set s.views id left) right);
      },
    )

pub merges : (network : Network) (tellers id : ℕ) (v : SeatState) (other : ℕ) (u : SeatState)
    → Joins {S = Unit {0}} (Running network tellers) id v other u (joined v u) spent
merges network tellers id v other u s running at different there_too =
    let word = slice_index s.words 0 in
    let fair = running.1 in
    let P : SeatState → Type 0 = λ x. All (Stands network word) x.standings in
    let w = joined v u in
    let c = no_flowspan network in
    let at_u : get_elem? s.views other ≡ some u = sym (set_else s.views id other w different) ∙ there_too in
    let views' = set s.views id w in
    let one = least_apart (lows network) c s.views id v at in
    let two = least_apart (lows network) c views' other u there_too in
    let stand = All-merged (Stands network word) v.standings u.standings (all_at P s.views id v fair.stand at) (all_at P s.views other u fair.stand at_u) in
    let both = least-merged (λ (p : Standing). p.posted) c v.standings u.standings in
    let within = there s.views id v v at in
    let a_le : lows network v ≤ c = least_le (λ (p : Standing). p.posted) c v.standings in
    let b_le : lows network u ≤ c = least_le (λ (p : Standing). p.posted) c u.standings in
    let before = least_of_one (set s.views id spent) other u (set_else s.views id other spent different ∙ at_u) in
    let after = least_of_one (set views' other spent) id w (set_else views' other id spent (λ e. different (sym e)) ∙ set_here s.views id w within.0) in (
      running.0,
      record {
        lowest = omega (arith, fair.lowest, one.1, one.2 w, one.2 spent, two.1, two.2 spent, both, a_le, b_le, before, after);
        incumbent = fair.incumbent;
        stand = All-set P views' other spent (All-nil (Stands network word)) (All-set P s.views id w stand fair.stand);
        dealt = λ k.
            let first = sum_apart (counts k) s.views id v at in
            let second = sum_apart (counts k) views' other u there_too in
            omega (arith, fair.dealt k, first.1, first.2 w, second.1, second.2 spent, sum_by-merged (λ p. cond (eqb p.number k) 1 0) v.standings u.standings);
      },
    )
  where
    least_of_one : (views : List SeatState) (i : ℕ) (x : SeatState) → get_elem? views i ≡ some x → least (lows network) (no_flowspan network) views ≤ lows network x
    least_of_one views i x e = let h = least_apart (lows network) (no_flowspan network) views i x e in omega (arith, h.1)

-- the table at the start
from_counts : (network : Network) (first count k : ℕ) → times k (fresh_from (no_flowspan network) first count) ≡ cond (leb first k && ltb k (first + count)) 1 0
from_counts network first zero k = grind (arith, nat_tests)
from_counts network first (suc count) k = one_more (times k (fresh_from (no_flowspan network) (suc first) count)) (from_counts network (suc first) count k) (sum_by-cons (λ (p : Standing). cond (eqb p.number k) 1 0) (fresh (no_flowspan network) first) (fresh_from (no_flowspan network) (suc first) count))
  where
    one_more : (rest : ℕ) → rest ≡ cond (leb (suc first) k && ltb k (suc first + count)) 1 0 → {t : ℕ} → t ≡ cond (eqb first k) 1 0 + rest → t ≡ cond (leb first k && ltb k (first + suc count)) 1 0
    one_more rest e {t} h = grind (arith, nat_tests)

from_lows : (network : Network) (first count : ℕ) → least_posted network (fresh_from (no_flowspan network) first count) ≡ no_flowspan network
from_lows network first zero = refl
from_lows network first (suc count) = omega (arith, from_lows network (suc first) count)

from_stand : (network : Network) (first count : ℕ) → All (Stands network (no_flowspan network)) (fresh_from (no_flowspan network) first count)
from_stand network first zero = All-nil (Stands network (no_flowspan network))
from_stand network first (suc count) = All-cons (Stands network (no_flowspan network)) _ _ (omega arith, inl refl) (from_stand network (suc first) count)

all_from : (k tellers t : ℕ) → t ≡ cond (leb 0 k && ltb k (0 + tellers)) 1 0 → t ≡ cond (ltb k tellers) 1 0
all_from k tellers t e = grind (arith, nat_tests)

pub opens : (network : Network) (tellers : ℕ) → Fair network tellers (no_flowspan network) (opening network tellers ∷ [])
opens network tellers = record {
  lowest = omega (arith, from_lows network 0 tellers);
  incumbent = inl refl;
  stand = All-cons (λ (v : SeatState). All (Stands network (no_flowspan network)) v.standings) (opening network tellers) [] (from_stand network 0 tellers) (All-nil (λ (v : SeatState). All (Stands network (no_flowspan network)) v.standings));
  dealt = λ k. omega (arith, sum_by-cons (counts k) (opening network tellers) []) ∙ let from : times k (opening network tellers).standings ≡ cond (leb 0 k && ltb k (0 + tellers)) 1 0 = from_counts network 0 tellers k in all_from k tellers _ from;
}

itself : (number rest : ℕ) → cond (eqb number number) 1 0 + rest ≡ 0 → ⊥
itself number rest e = grind (arith, nat_tests)

-- where each number stands nowhere, nothing was posted
none_posted : (network : Network) (views : List SeatState) → ((k : ℕ) → sum_by (counts k) views ≡ 0) → least (lows network) (no_flowspan network) views ≡ no_flowspan network
none_posted network [] none = refl
none_posted network (v ∷ vs) none =
    let empty = nobody v.standings (λ k. omega (arith, none k, sum_by-cons (counts k) v vs)) in
    let rest = none_posted network vs (λ k. omega (arith, none k, sum_by-cons (counts k) v vs)) in
    rw empty (omega (arith, rest))
  where
    nobody : (ps : List Standing) → ((k : ℕ) → times k ps ≡ 0) → least_posted network ps ≡ no_flowspan network
    nobody [] e = refl
    nobody (p ∷ ps) e = absurd (let h = e p.number in let t = sum_by-cons (λ (q : Standing). cond (eqb q.number p.number) 1 0) p ps in itself p.number (times p.number ps) (sym t ∙ h))

-- the others have no number that this seat has
rest_none : (k mine others tellers : ℕ) → mine + others ≡ cond (ltb k tellers) 1 0 → (k < tellers → mine ≡ 1) → others ≡ 0
rest_none k mine others tellers all here = grind (arith, nat_tests)

pub closes : (network : Network) (tellers slots id : ℕ) (me : Me (Unit {0}) SeatState) → me.0.timing ≡ network → me.0.tellers ≡ tellers → Allows (Running network tellers) slots id me 0 (λ n. n) (Closed me)
closes network tellers slots id me same count s running homes at fits =
    let word = slice_index s.words 0 in
    let fair = running.1 in
    let wrote = written s.words word running.0 in
    let stays : min word (no_flowspan network) ≡ word = omega (arith, word_le network tellers word s.views fair) in
    let stand = all_at (λ u. All (Stands network word) u.standings) s.views id me.0 fair.stand at in
    let low : lows network me.0 ≡ min (lows network me.0) (no_flowspan network) =
    omega (arith, least_le (λ (p : Standing). p.posted) (no_flowspan network) me.0.standings) in
    let next =
    changes network tellers word (no_flowspan network) s.views id me.0 me.0 fair at (rw stays fair.incumbent) (λ number. refl) low (rw stays stand) in (
      me.0,
      keeps,
      tt,
      (wrote.0, subst (λ n. Fair network tellers n (set s.views id me.0)) (stays ∙ sym wrote.1) next),
      (refl, λ all. (whole all, (subst (λ n. IsIncumbent n word) (sym same) fair.incumbent, finds network tellers word s.views id me.0 fair at))),
    )
  where
    whole : ((k : ℕ) → k < me.0.tellers → times k me.0.standings ≡ 1) → slice_index s.words 0 ≡ least_posted me.0.timing me.0.standings
    whole all =
        let word = slice_index s.words 0 in
        let fair = running.1 in
        let apart = least_apart (lows network) (no_flowspan network) s.views id me.0 at in
        let others = none_posted network (set s.views id spent) (λ k.
        let sums = sum_apart (counts k) s.views id me.0 at in
        omega (arith, sums.2 spent, rest_none k (times k me.0.standings) sums.0 tellers (sym sums.1 ∙ fair.dealt k) (λ low. all k (subst (λ n. k < n) (sym count) low)))) in
        rw same (omega (arith, fair.lowest, apart.1, apart.2 spent, others, least_le (λ (p : Standing). p.posted) (no_flowspan network) me.0.standings))
