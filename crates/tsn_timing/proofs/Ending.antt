-- Which hops of a stream end at a listener.
use Rattle.std.proofs.Common.{◌≡◌, ℕ, zero, suc, ◌+◌, ◌-◌, ◌≤◌, ◌<◌, ◌==◌, ◌↔◌, Bool, true, false, not, cond, nat_lt, List, [], ◌∷◌, ◌++◌, length, get_or, filter, take, Contains, All, refl, sym, ap, ◌∙◌, subst, arith, eq-eqb}
use Rattle.std.specs.List.{list_any, range_with_len}
use Rattle.std.proofs.lemmas.Bool.{cases_lt, le-ltb, ne_eqb, false≢true, cond-true, cond-false, cond_both}
use Rattle.std.proofs.lemmas.List.{get_or_default, append-nil, length-append}
use Rattle.std.proofs.lemmas.List.Elements.{filter-append, All-filter}
use Rattle.std.proofs.lemmas.List.Folds.{list_any_at, list_any_none}
use Rattle.std.proofs.Math.Seq.{take-length}
use Rattle.tsn_model.specs.Network.{Network, link_at, route_of, hop_count, from_at, to_at, Continues, IsHeard}
use Rattle.tsn_model.specs.Lines.{IsLine}
use Rattle.tsn_model.proofs.Lists.{range_more, Contains-range, Contains-filter, from_filter, All-range}
use Rattle.tsn_model.proofs.Lines.{line_continues}
use Rattle.tsn_timing.specs.Ends.{goes_on, is_heard, ends_of, has_several, several_ends}

module _ (network : Network) (route : List ℕ) where
  -- whether a link begins at a node
  abbrev pub begins_at : ℕ → ℕ → Bool
  begins_at node link = (link_at network link).from == node

  pub found_on : (node k : ℕ) → k < length route → from_at network route k ≡ node → goes_on network route node ≡ true
  unfolding goes_on
  found_on node k below from = list_any_at (begins_at node) route k 0 below (eq-eqb (from_at network route k) node from)

  pub none_on : (node n : ℕ) → n ≡ length route → list_any (begins_at node) (take n route) ≡ false → goes_on network route node ≡ false
  unfolding goes_on
  none_on node n whole none = ap (list_any (begins_at node)) (sym (ap (λ m. take m route) whole ∙ take-length route)) ∙ none

  module _ (k : ℕ) where
    pub from_heard : is_heard network route k ≡ true → IsHeard network route k
    unfolding is_heard goes_on
    from_heard heard next below continues =
        let found : list_any (begins_at (to_at network route k)) route ≡ true =
        list_any_at (begins_at (to_at network route k)) route next 0 below (eq-eqb (from_at network route next) (to_at network route k) (sym continues)) in
        absurd (false≢true (sym (ap not found) ∙ heard))

    pub to_heard : IsHeard network route k → is_heard network route k ≡ true
    unfolding is_heard goes_on
    to_heard heard =
        let node = to_at network route k in
        ap not (list_any_none (begins_at node) route (λ j d below.
        subst (λ link. begins_at node link ≡ false) (get_or_default route j 0 d below)
        (ne_eqb (from_at network route j) node (λ same. heard j below (sym same)))))

    pub not_heard : (next : ℕ) → next < length route → Continues network route k next → is_heard network route k ≡ false
    unfolding is_heard goes_on
    not_heard next below continues =
        ap not (list_any_at (begins_at (to_at network route k)) route next 0 below
        (eq-eqb (from_at network route next) (to_at network route k) (sym continues)))

-- ---- the ends one after another

range_next : (n : ℕ) → range_with_len 0 (n + 1) ≡ range_with_len 0 n ++ n ∷ []
range_next n = range_more 0 n ∙ ap (λ m. range_with_len 0 n ++ m ∷ []) (omega arith)

pub kept_more : (p : ℕ → Bool) (n : ℕ) → p n ≡ true → filter p (range_with_len 0 (n + 1)) ≡ filter p (range_with_len 0 n) ++ n ∷ []
kept_more p n passes =
    ap (filter p) (range_next n) ∙ filter-append p (range_with_len 0 n) (n ∷ [])
    ∙ ap (λ ys. filter p (range_with_len 0 n) ++ ys) (cond-true (p n) (n ∷ []) [] passes)

pub kept_same : (p : ℕ → Bool) (n : ℕ) → p n ≡ false → filter p (range_with_len 0 (n + 1)) ≡ filter p (range_with_len 0 n)
kept_same p n fails =
    ap (filter p) (range_next n) ∙ filter-append p (range_with_len 0 n) (n ∷ [])
    ∙ ap (λ ys. filter p (range_with_len 0 n) ++ ys) (cond-false (p n) (n ∷ []) [] fails)
    ∙ append-nil (filter p (range_with_len 0 n))

-- the ends among the first hops
abbrev pub ends_upto : Network → ℕ → ℕ → List ℕ
ends_upto network i n = filter (is_heard network (route_of network i)) (range_with_len 0 n)

pub longer : (network : Network) (i n : ℕ) → is_heard network (route_of network i) n ≡ true
    → length (ends_upto network i (n + 1)) ≡ length (ends_upto network i n) + 1
longer network i n heard = ap length (kept_more (is_heard network (route_of network i)) n heard) ∙ length-append (ends_upto network i n) (n ∷ [])

pub as_long : (network : Network) (i n : ℕ) → is_heard network (route_of network i) n ≡ false
    → length (ends_upto network i (n + 1)) ≡ length (ends_upto network i n)
as_long network i n silent = ap length (kept_same (is_heard network (route_of network i)) n silent)

pub ends_whole : (network : Network) (i n : ℕ) → n ≡ hop_count network i → ends_upto network i n ≡ ends_of network i
unfolding ends_of
ends_whole network i n whole = ap (ends_upto network i) whole

pub ends_exist : (network : Network) (i : ℕ) → All (λ hop. hop < hop_count network i) (ends_of network i)
unfolding ends_of
ends_exist network i =
    All-filter (is_heard network (route_of network i)) (λ hop. hop < hop_count network i) (range_with_len 0 (hop_count network i))
    (All-range (λ hop. hop < hop_count network i) (hop_count network i) 0 (λ hop low high. omega arith))

-- ---- the laws

pub ends_heard : (network : Network) (i k : ℕ) → Contains (ends_of network i) k ↔ ((k < hop_count network i) × IsHeard network (route_of network i) k)
unfolding ends_of
ends_heard network i k =
    let p = is_heard network (route_of network i) in
    let hops = range_with_len 0 (hop_count network i) in (
      (λ has.
          let found = from_filter p hops k has in (
            below_range (hop_count network i) k found.0,
            from_heard network (route_of network i) k found.1,
          )),
      (λ heard. Contains-filter p hops k (Contains-range (hop_count network i) 0 k (omega arith) (let low = heard.0 in omega arith))
          (to_heard network (route_of network i) k heard.1)),
    )
  where
    below_range : (n k : ℕ) → Contains (range_with_len 0 n) k → k < n
    below_range n k has = subst (λ x. x < n) has.2 (All-range (λ x. x < n) n 0 (λ x low high. omega arith) has.0 k has.1)

module _ (network : Network) (i : ℕ) (line : IsLine network (route_of network i)) where
  -- each hop but the last is continued
  none_before : (n : ℕ) → n < hop_count network i → ends_upto network i n ≡ []
  none_before zero below = refl
  none_before (suc n) below =
      let route = route_of network i in
      let next : suc n ≡ n + 1 = omega arith in
      let continues = (line_continues network route line n (n + 1) (omega arith) (omega arith)).1 refl in
      ap (ends_upto network i) next ∙ kept_same (is_heard network route) n (not_heard network route n (n + 1) (omega arith) continues)
      ∙ none_before n (omega arith)

  few : length (ends_of network i) ≤ 1
  unfolding ends_of
  few =
      let hops = hop_count network i in
      let some = line.some_link in
      let last : hops - 1 + 1 ≡ hops = omega arith in
      let before = none_before (hops - 1) (omega arith) in
      let whole : ends_upto network i hops ≡ ends_upto network i (hops - 1) ++ filter (is_heard network (route_of network i)) ((hops - 1) ∷ []) =
      ap (ends_upto network i) (sym last) ∙ ap (filter (is_heard network (route_of network i))) (range_next (hops - 1))
      ∙ filter-append (is_heard network (route_of network i)) (range_with_len 0 (hops - 1)) ((hops - 1) ∷ []) in
      let long = ap length (whole ∙ ap (λ ys. ys ++ filter (is_heard network (route_of network i)) ((hops - 1) ∷ [])) before) in
      let one : length (filter (is_heard network (route_of network i)) ((hops - 1) ∷ [])) ≤ 1 =
      cond_both (is_heard network (route_of network i) (hops - 1)) ((hops - 1) ∷ []) [] (λ ys. length ys ≤ 1) (λ _. omega arith) (λ _. omega arith) in
      omega arith

  pub one_end : (has_several network i ≡ false) × (several_ends network i ≡ [])
  unfolding has_several several_ends
  one_end =
      let none : nat_lt 1 (length (ends_of network i)) ≡ false = le-ltb 1 (length (ends_of network i)) few in
      (none, cond-false (nat_lt 1 (length (ends_of network i))) (ends_of network i) [] none)
