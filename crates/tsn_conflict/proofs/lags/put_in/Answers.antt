use Rattle.std.proofs.Common.{◌≡◌, ℕ, ◌≤◌, ◌<◌, ◌++◌, ◌∷◌, ℤ, pos, List, take, drop, length, get_or, to_z, of_z, w64, sym, ap, subst, ◌∙◌, arith}
use Rattle.std.proofs.lemmas.Int.{ints}
use Rattle.std.proofs.lemmas.List.{get_or_default}
use Rattle.tsn_conflict.proofs.Lagging.{AreLess, put_in-new, put_in-old}
use Rattle.tsn_conflict.proofs.lags.put_in.Goals as goal
use Rattle.tsn_conflict.proofs.lags.put_in.Goals.{then-place-len-via-then-place-len, then-place-len-via-else-place-len+then-lag-index}

-- what is known of the place, of the list itself
less_of : (xs ys : List ℤ) (given lag : ℤ) (place : ℕ) → xs ≡ ys → given ≡ lag → AreLess xs given place → AreLess ys lag place
less_of xs ys given lag place same is less = subst (λ l. AreLess ys l place) is (subst (λ zs. AreLess zs given place) same less)

pub returns-in_ok-insert : goal.returns-in_ok-insert
returns-in_ok-insert c =
    let xs = c.args.lags.now.items in
    let lag = c.args.lag in
    let place = c.place_of-place.result in
    let same = c.deref.ensures.value in
    let item : to_z w64 (of_z w64 lag) ≡ lag = omega (arith, ints) in
    let inside : place ≤ length xs = subst (λ ys. place ≤ length ys) same c.place_of-place.ensures.inside in
    let less = less_of _ xs _ lag place same item c.place_of-place.ensures.less in
    c.in_ok-insert.ensures.items ∙ ap (λ x. take place xs ++ x ∷ drop place xs) item
    ∙ sym (put_in-new xs lag place inside less
    (λ within. elim c.then-place-len.branch [
      | then-place-len-via-then-place-len w ↦ let at = w.if-place-len.true in absurd (omega arith)
      | then-place-len-via-else-place-len+then-lag-index w ↦ grind (arith, get_or_default, ints)
    ]))

pub returns-else-lag-index : goal.returns-else-lag-index
returns-else-lag-index c =
    let xs = c.args.lags.now.items in
    let lag = c.args.lag in
    let place = c.place_of-place.result in
    let same = c.deref.ensures.value in
    let item : to_z w64 (of_z w64 lag) ≡ lag = omega (arith, ints) in
    let inside : place ≤ length xs = subst (λ ys. place ≤ length ys) same c.place_of-place.ensures.inside in
    let less = less_of _ xs _ lag place same item c.place_of-place.ensures.less in
    let long = c.args.lags.now.ok in
    let len = c.len.ensures in
    let not_end = c.if-place-len.false in
    let within : place < length xs = omega (arith, inside, long, len, not_end) in
    let read : c.index.result.now ≡ get_or xs place (pos 0) = c.index.ensures ∙ get_or_default xs place c.index.result.now (pos 0) within in
    let not_before = c.if-lag-index.false in
    let there : get_or c.deref.result.now place (pos 0) ≡ get_or xs place (pos 0) = (λ k. get_or (same k) place (pos 0)) in
    let not_less = c.place_of-place.ensures.not_less (subst (λ ys. place < length ys) (sym same) within) in
    sym (put_in-old xs lag place within less (omega (arith, ints, not_before, read, not_less, there, item)))
