-- The least number by which frames of one stream come after those of another, and what it says of overlaps.
use Rattle.std.proofs.Common.{◌≡◌, ℕ, ◌+◌, ◌<◌, ◌≤◌, ◌⊎◌, ℤ, pos, neg_ℤ, Bool, true, false, List, ◌++◌, length, get_or, Contains, refl, sym, ap, ◌∙◌, subst, arith, inl, inr}
use Rattle.std.specs.Prelude.{◌+ℤ◌, ◌-ℤ◌, ◌≤ℤ◌, ◌<ℤ◌, MatchBool}
use Rattle.std.proofs.lemmas.Bool.{cases_lt}
use Rattle.std.proofs.lemmas.Int.{ints, by_lt_z}
use Rattle.std.proofs.lemmas.Grind.{get_or_default_zero}
use Rattle.std.proofs.lemmas.List.Elements.{All-contains, Contains-get_or, Contains-append_left, Contains-append_right, Contains-append_cases}
use Rattle.tsn_model.specs.Network.{Network, period_of}
use Rattle.tsn_model.specs.Schedule.{IsLag}
use Rattle.tsn_model.specs.Timing.{shifts, Sends}
use Rattle.tsn_timing.specs.Between.{IsPartBetween}
use Rattle.tsn_timing.specs.Judgement.{ComesAfter, IsAfter, IsBetween, IsLeastBetween}

module _ (network : Network) (j first : ℕ) (above below : ℤ) (part : List ℕ) where
  -- the least of the numbers of the first n frames of a part that lie between
  pub record IsLeastAfter (n : ℕ) (least : ℤ) : Type 0 where
    pub within : least ≤ℤ below
    pub reached : (least ≡ below) ⊎ IsAfter network j first above below least
    pub least_of : (m : ℕ) → m < n → above <ℤ (pos (get_or part m 0) -ℤ pos first) → least ≤ℤ (pos (get_or part m 0) -ℤ pos first)

  pub after_none : IsLeastAfter 0 below
  after_none = record { within = omega (arith, ints); reached = inl refl; least_of = λ m counted. absurd (omega arith) }

  -- one frame more
  pub after_taken : (low high : ℤ) → IsPartBetween network j low high part → (n : ℕ) (least lag : ℤ) → n < length part
      → lag ≡ pos (get_or part n 0) -ℤ pos first → above <ℤ lag → lag <ℤ least → IsLeastAfter n least → IsLeastAfter (n + 1) lag
  after_taken low high of n least lag inside is more less before =
      let within = before.within in
      let lesser : lag <ℤ below = omega (arith, ints, less, within) in
      record {
        within = omega (arith, ints, lesser);
        reached = inr (record {
          second = get_or part n 0;
          sent = sent_of_part low high of (get_or part n 0) (Contains-get_or part n 0 inside);
          is = is;
          above = more;
          below = lesser;
        });
        least_of = λ m counted over. elim (cases_lt m n) [
          | inl earlier ↦ let old = before.least_of m earlier over in omega (arith, ints, old, less)
          | inr at ↦
              let same : n ≡ m = omega arith in
              subst (λ k. lag ≤ℤ (pos (get_or part k 0) -ℤ pos first)) same (omega (arith, ints, is))
        ];
      }
    where
      sent_of_part : (low high : ℤ) → IsPartBetween network j low high part → (shift : ℕ) → Contains part shift → Sends network j shift
      sent_of_part low high of shift has =
          let later = Contains-append_left part of.after shift has in
          subst (λ xs. Contains xs shift) (sym of.whole) (Contains-append_right of.before (part ++ of.after) shift later)

  pub after_left : (n : ℕ) (least lag : ℤ) → lag ≡ pos (get_or part n 0) -ℤ pos first → ((above <ℤ lag → least ≤ℤ lag))
      → IsLeastAfter n least → IsLeastAfter (n + 1) least
  after_left n least lag is no_less before = grind arith

  -- what lies between is of a frame of the part
  pub after_all : (low high : ℤ) → IsPartBetween network j low high part → low ≡ pos first +ℤ above → high ≡ pos first +ℤ below
      → (n : ℕ) (least : ℤ) → length part ≤ n → IsLeastAfter n least → (lag : ℤ) → IsAfter network j first above below lag → least ≤ℤ lag
  after_all low high of low_is high_is n least all done lag after =
      elim (Contains-append_cases of.before (part ++ of.after) after.second (subst (λ xs. Contains xs after.second) of.whole after.sent)) [
        | inl early ↦
            let no_more = All-contains (λ shift. pos shift ≤ℤ low) of.before after.second of.early early in
            let is = after.is in
            let more = after.above in
            absurd (omega (arith, ints, no_more, is, more, low_is))
        | inr later ↦ elim (Contains-append_cases part of.after after.second later) [
          | inr late ↦
              let no_less = All-contains (λ shift. high ≤ℤ pos shift) of.after after.second of.late late in
              let is = after.is in
              let less = after.below in
              absurd (omega (arith, ints, no_less, is, less, high_is))
          | inl here ↦
              let second : get_or part here.0 0 ≡ after.second = read here.0 here.1 ∙ here.2 in
              let is : lag ≡ pos (get_or part here.0 0) -ℤ pos first = after.is ∙ ap (λ s. pos s -ℤ pos first) (sym second) in
              let more = after.above in
              subst (λ l. least ≤ℤ l) (sym is) (done.least_of here.0 (let inside = here.1 in omega arith) (subst (λ l. above <ℤ l) is more))
        ]
      ]
    where
      read : (k : ℕ) → k < length part → get_or part k 0 ≡ get_or part k after.second
      read k inside = sym (get_or_default_zero part k after.second inside)

module _ (network : Network) (i j : ℕ) (above below : ℤ) where
  -- the least of the numbers of the first n frames that lie between
  pub record IsLeastSoFar (n : ℕ) (least : ℤ) : Type 0 where
    pub within : least ≤ℤ below
    pub reached : (least ≡ below) ⊎ IsBetween network i j above below least
    pub least_of : (k : ℕ) → k < n → (lag : ℤ) → IsAfter network j (get_or (shifts network i) k 0) above below lag → least ≤ℤ lag

  wider : (first : ℕ) (high lag : ℤ) → high ≤ℤ below → IsAfter network j first above high lag → IsAfter network j first above below lag
  wider first high lag within after =
      let less = after.below in
      record { second = after.second; sent = after.sent; is = after.is; above = after.above; below = omega (arith, ints, less, within) }

  pub between_more : (n first : ℕ) (least lesser : ℤ) → n < length (shifts network i) → first ≡ get_or (shifts network i) n 0
      → lesser ≤ℤ least
      → (lesser ≡ least) ⊎ IsAfter network j first above least lesser
      → ((lag : ℤ) → IsAfter network j first above least lag → lesser ≤ℤ lag)
      → IsLeastSoFar n least → IsLeastSoFar (n + 1) lesser
  between_more n first least lesser inside is no_more reached least_of before =
      let within = before.within in
      record {
        within = omega (arith, ints, within, no_more);
        reached = elim reached [
          | inl same ↦ subst (λ l. (l ≡ below) ⊎ IsBetween network i j above below l) (sym same) before.reached
          | inr after ↦ inr (record {
            first = first;
            sent = subst (Sends network i) (sym is) (Contains-get_or (shifts network i) n 0 inside);
            after = wider first least lesser within after;
          })
        ];
        least_of = λ k counted lag after. elim (cases_lt k n) [
          | inl earlier ↦ let old = before.least_of k earlier lag after in omega (arith, ints, old, no_more)
          | inr at ↦
              let same : get_or (shifts network i) k 0 ≡ first = ap (λ m. get_or (shifts network i) m 0) (omega arith) ∙ sym is in
              let here : IsAfter network j first above below lag = subst (λ f. IsAfter network j f above below lag) same after in
              by_lt_z lag least
              (λ less. least_of lag (record { second = here.second; sent = here.sent; is = here.is; above = here.above; below = less }))
              (λ more. omega (arith, ints, more, no_more))
        ];
      }

  pub between_all : (n : ℕ) (least : ℤ) → length (shifts network i) ≤ n → IsLeastSoFar n least → (lag : ℤ)
      → IsBetween network i j above below lag
      → least ≤ℤ lag
  between_all n least all done lag between =
      let at = between.sent in
      let place = at.1 in
      let first : get_or (shifts network i) at.0 0 ≡ between.first =
      sym (get_or_default_zero (shifts network i) at.0 between.first place) ∙ at.2 in
      done.least_of at.0 (omega arith) lag (subst (λ f. IsAfter network j f above below lag) (sym first) between.after)

  pub between_found : (n : ℕ) (least : ℤ) → length (shifts network i) ≤ n → IsLeastSoFar n least → least <ℤ below
      → IsLeastBetween network i j above below least
  between_found n least all done less = record {
    between = elim done.reached [ inl same ↦ absurd (omega (arith, ints, same, less)) | inr between ↦ between ];
    least = between_all n least all done;
  }

  pub between_missing : (n : ℕ) (least : ℤ) → length (shifts network i) ≤ n → IsLeastSoFar n least → below ≤ℤ least → (lag : ℤ)
      → IsBetween network i j above below lag → ⊥
  between_missing n least all done none lag between =
      let fine = between_all n least all done lag between in
      let less = between.after.below in
      omega (arith, ints, fine, less, none)

-- ---- some lag

module _ (network : Network) (i j : ℕ) (lag given : ℤ) (not_after : lag <ℤ pos (period_of network i))
    (not_before : pos 0 <ℤ (lag +ℤ pos (period_of network j))) where
  -- by a search of the later one's frames
  pub lag_judged_back : (found : Bool) → given ≡ neg_ℤ lag
      → MatchBool found (ComesAfter network j i given) (ComesAfter network j i given → ⊥)
      → MatchBool found (IsLag network i j lag) (IsLag network i j lag → ⊥)
  lag_judged_back true is after =
      let back = after.is in
      record {
        first = after.second;
        second = after.first;
        first_sent = after.second_sent;
        second_sent = after.first_sent;
        is = omega (arith, ints, is, back);
        not_after = not_after;
        not_before = not_before;
      }
  lag_judged_back false is none = λ of_lag. none (
      let forth = of_lag.is in
      record {
        first = of_lag.second;
        second = of_lag.first;
        first_sent = of_lag.second_sent;
        second_sent = of_lag.first_sent;
        is = omega (arith, ints, is, forth);
      })
