-- The list of conflicts, triple by triple.
use Rattle.std.proofs.Common.{◌≡◌, ℕ, ℤ, zero, suc, ◌+◌, ◌≤◌, ◌<◌, Bool, true, false, List, [], ◌∷◌, ◌++◌, All, length, map, filter, flat_map, is_some, refl, sym, ap, ◌∙◌, arith, append-nil}
use Rattle.std.specs.Prelude.{◌&&◌}
use Rattle.std.specs.List.{range_with_len}
use Rattle.std.proofs.lemmas.Bool.{lt-ltb, le-ltb, cond-true, cond-false}
use Rattle.std.proofs.lemmas.Grind.{flat_map-append}
use Rattle.std.proofs.lemmas.List.Elements.{All-head, All-tail, filter-append}
use Rattle.tsn_model.specs.declared.Triple.{Triple}
use Rattle.tsn_model.specs.Network.{Network, stream_count}
use Rattle.tsn_model.specs.Timing.{hop_on}
use Rattle.tsn_model.specs.Arcs.{is_conflict, lags_of, triples_of, conflicts_of}
use Rattle.tsn_model.proofs.Lists.{range_more}
use Rattle.tsn_conflict.specs.Rows.{triple_on, triples_on, triples_with, triples_left}

-- what passes of the pieces of the first numbers, with one number more
pub listed_more : (p : Triple → Bool) (f : ℕ → List Triple) (n : ℕ) → filter p (flat_map f (range_with_len 0 (n + 1))) ≡ filter p (flat_map f (range_with_len 0 n)) ++ filter p (f n)
listed_more p f n = grind (arith, range_more, flat_map-append, append-nil, filter-append)

none_pass : (p : Triple → Bool) (f : ℕ → List Triple) (xs : List ℕ) → ((x : ℕ) → filter p (f x) ≡ []) → filter p (flat_map f xs) ≡ []
none_pass p f [] fail = refl
none_pass p f (x ∷ xs) fail = filter-append p (f x) (flat_map f xs) ∙ ap (λ ts. ts ++ filter p (flat_map f xs)) (fail x) ∙ none_pass p f xs fail

none_of_link : (p : Triple → Bool) (f : ℤ → Triple) (lags : List ℤ) → ((lag : ℤ) → p (f lag) ≡ false) → filter p (map f lags) ≡ []
none_of_link p f [] fails = refl
none_of_link p f (lag ∷ lags) fails = cond-false (p (f lag)) (f lag ∷ filter p (map f lags)) (filter p (map f lags)) (fails lag) ∙ none_of_link p f lags fails

all_of_link : (p : Triple → Bool) (f : ℤ → Triple) (lags : List ℤ) → ((lag : ℤ) → p (f lag) ≡ true) → filter p (map f lags) ≡ map f lags
all_of_link p f [] passes = refl
all_of_link p f (lag ∷ lags) passes =
    cond-true (p (f lag)) (f lag ∷ filter p (map f lags)) (filter p (map f lags)) (passes lag) ∙ ap (λ ts. f lag ∷ ts) (all_of_link p f lags passes)

-- what passes of the pieces of all numbers, by the numbers that pass two tests
module _ (p q : ℕ → Bool) (c : Triple → Bool) (f : ℕ → List Triple) where
  abbrev AreBoth : List ℕ → Type 0
  AreBoth xs = flat_map f (filter q (filter p xs)) ≡ filter c (flat_map f xs)

  both_more : (x : ℕ) (xs : List ℕ) (first second : Bool) → p x ≡ first → q x ≡ second
      → (first ≡ true → second ≡ true → filter c (f x) ≡ f x) → (first ≡ true → second ≡ false → filter c (f x) ≡ [])
      → (first ≡ false → filter c (f x) ≡ []) → AreBoth xs → AreBoth (x ∷ xs)
  both_more x xs true true first second both no_second no_first rest =
      rw (first, second) (ap (λ ts. f x ++ ts) rest ∙ ap (λ ts. ts ++ filter c (flat_map f xs)) (sym (both refl refl)) ∙ sym (filter-append c (f x) (flat_map f xs)))
  both_more x xs true false first second both no_second no_first rest =
      rw (first, second) (rest ∙ ap (λ ts. ts ++ filter c (flat_map f xs)) (sym (no_second refl refl)) ∙ sym (filter-append c (f x) (flat_map f xs)))
  both_more x xs false second first is both no_second no_first rest =
      rw first (rest ∙ ap (λ ts. ts ++ filter c (flat_map f xs)) (sym (no_first refl)) ∙ sym (filter-append c (f x) (flat_map f xs)))

  -- where those of a number all pass if it passes both, and else none does
  pub record Decide (x : ℕ) : Type 0 where
    pub both : p x ≡ true → q x ≡ true → filter c (f x) ≡ f x
    pub no_second : p x ≡ true → q x ≡ false → filter c (f x) ≡ []
    pub no_first : p x ≡ false → filter c (f x) ≡ []

  pub both_pass : (xs : List ℕ) → All Decide xs → AreBoth xs
  both_pass [] decide = refl
  both_pass (x ∷ xs) decide =
      let here : Decide x = All-head Decide x xs decide in
      both_more x xs (p x) (q x) refl refl here.both here.no_second here.no_first (both_pass xs (All-tail Decide x xs decide))

module _ (network : Network) where
  disordered : (i j link : ℕ) (lag : ℤ) → j ≤ i → is_conflict network (triple_on i j link lag) ≡ false
  unfolding is_conflict
  disordered i j link lag order = rw (le-ltb i j order) refl

  -- a stream has no conflict with an earlier one as the right one
  pub none_earlier : (i n : ℕ) → n ≤ i + 1 → filter (is_conflict network) (triples_left network i n) ≡ []
  none_earlier i zero order = refl
  none_earlier i (suc n) order =
      let step : suc n ≡ n + 1 = omega arith in
      cc (
        listed_more (is_conflict network) (triples_with network i) n,
        none_earlier i n (omega arith),
        none_pass (is_conflict network)
            (triples_on network i n) (range_with_len 0 (length network.links)) (λ link. none_of_link (is_conflict network) (triple_on i n link)
            (lags_of network i n) (λ lag. disordered i n link lag (omega arith))),
      )

  both_use : (i j link : ℕ) (lag : ℤ) → i < j
      → is_conflict network (triple_on i j link lag) ≡ is_some (hop_on network i link) && is_some (hop_on network j link)
  unfolding is_conflict
  both_use i j link lag order = rw (lt-ltb i j order) refl

  -- of the triples of two streams on a link all are conflicts where both use it, and else none
  pub on_both : (i j link : ℕ) → i < j → is_some (hop_on network i link) ≡ true → is_some (hop_on network j link) ≡ true
      → filter (is_conflict network) (triples_on network i j link) ≡ triples_on network i j link
  on_both i j link order first second =
      all_of_link (is_conflict network) (triple_on i j link) (lags_of network i j) (λ lag. both_use i j link lag order ∙ rw (first, second) refl)

  pub not_on_left : (i j link : ℕ) → i < j → is_some (hop_on network i link) ≡ false → filter (is_conflict network) (triples_on network i j link) ≡ []
  not_on_left i j link order first =
      none_of_link (is_conflict network) (triple_on i j link) (lags_of network i j) (λ lag. both_use i j link lag order ∙ rw first refl)

  pub not_on_right : (i j link : ℕ) → i < j → is_some (hop_on network i link) ≡ true → is_some (hop_on network j link) ≡ false
      → filter (is_conflict network) (triples_on network i j link) ≡ []
  not_on_right i j link order first second =
      none_of_link (is_conflict network) (triple_on i j link) (lags_of network i j) (λ lag. both_use i j link lag order ∙ rw (first, second) refl)

  -- the conflicts of the first streams as the left ones
  abbrev pub conflicts_first : ℕ → List Triple
  conflicts_first n = filter (is_conflict network) (flat_map (λ i. triples_left network i (stream_count network)) (range_with_len 0 n))

  pub conflicts_first-more : (n : ℕ) → conflicts_first (n + 1) ≡ conflicts_first n ++ filter (is_conflict network) (triples_left network n (stream_count network))
  conflicts_first-more n = listed_more (is_conflict network) (λ i. triples_left network i (stream_count network)) n

  pub left_more : (i n : ℕ) → filter (is_conflict network) (triples_left network i (n + 1)) ≡ filter (is_conflict network) (triples_left network i n) ++ filter (is_conflict network) (triples_with network i n)
  left_more i n = listed_more (is_conflict network) (triples_with network i) n

  pub conflicts_of_is : conflicts_of network ≡ conflicts_first (stream_count network)
  unfolding conflicts_of triples_of
  conflicts_of_is = refl
