-- What a schedule asks for is one list of lists alone.
use Rattle.std.proofs.Common.{◌≡◌, ◌≢◌, ℕ, suc, ◌+◌, ◌-◌, ◌≤◌, ◌<◌, List, [], ◌∷◌, get_or, All, AllPairs, Contains, refl, sym, ap, ap₂, ◌∙◌, subst, arith, inl, inr}
use Rattle.std.specs.List.{Any}
use Rattle.std.proofs.lemmas.Bool.{cases_lt}
use Rattle.std.proofs.lemmas.List.Elements.{All-head, All-tail, All-contains}
use Rattle.tsn_model.specs.declared.GateEntry.{GateEntry}
use Rattle.tsn_model.specs.Network.{Network}
use Rattle.tsn_model.specs.Gates.{cycle_of, IsWanted}
use Rattle.tsn_model.specs.Bridge.{LinkGates}
use Rattle.tsn_model.proofs.Lists.{AllPairs-head, AllPairs-tail, Contains-head, Contains-more, Contains-nil, Contains-cons_cases}
use Rattle.tsn_gate.specs.Entries.{octet_at, AllPositive, NeighboursDiffer}
use Rattle.tsn_gate.specs.GateLists.{IsUsed, IsWantedList, AreWantedLists}
use Rattle.tsn_gate.proofs.Entries.{cycle_of-nil, cycle_of-cons, octet_at-first, octet_at-later}
use Rattle.tsn_gate.proofs.Playing.{octet_at-is, octet_exists}

-- ---- entries that last equally long and show the same octets

pub record AreAlike (xs ys : List GateEntry) : Type 0 where
  pub whole : cycle_of xs ≡ cycle_of ys
  pub shown : (t : ℕ) → t < cycle_of xs → octet_at xs t ≡ octet_at ys t

alike_back : (xs ys : List GateEntry) → AreAlike xs ys → AreAlike ys xs
alike_back xs ys alike = omega arith

differ_tail : (x : GateEntry) (xs : List GateEntry) → NeighboursDiffer (x ∷ xs) → NeighboursDiffer xs
differ_tail x xs differ k d below =
    let next : suc (k + 1) ≡ suc k + 1 = omega arith in
    λ same. differ (suc k) d (omega arith) (same ∙ ap (λ n. (get_or (x ∷ xs) n d).octet) next)

differ_head : (x z : GateEntry) (xs : List GateEntry) → NeighboursDiffer (x ∷ z ∷ xs) → x.octet ≢ z.octet
differ_head x z xs differ = differ 0 x (omega arith)

first_lasts : (x : GateEntry) (xs : List GateEntry) → AllPositive (x ∷ xs) → 1 ≤ x.interval
first_lasts x xs positive = All-head (λ (e : GateEntry). 1 ≤ e.interval) x xs positive

others_last : (x : GateEntry) (xs : List GateEntry) → AllPositive (x ∷ xs) → AllPositive xs
others_last x xs positive = All-tail (λ (e : GateEntry). 1 ≤ e.interval) x xs positive

-- the first entries show the same
same_octet : (x : GateEntry) (xs : List GateEntry) (y : GateEntry) (ys : List GateEntry) → 1 ≤ x.interval → 1 ≤ y.interval → AreAlike (x ∷ xs) (y ∷ ys)
    → x.octet ≡ y.octet
same_octet x xs y ys x_lasts y_lasts alike = grind (arith, cycle_of-cons, octet_at-first)

-- the first entry doesn't end before the other
not_shorter : (x : GateEntry) (xs : List GateEntry) (y : GateEntry) (ys : List GateEntry) → AllPositive xs → NeighboursDiffer (x ∷ xs) → x.octet ≡ y.octet
    → AreAlike (x ∷ xs) (y ∷ ys) → x.interval < y.interval → ⊥
not_shorter x [] y ys positive differ same alike shorter =
    let none = cycle_of-nil in
    let left = cycle_of-cons x [] in
    let right = cycle_of-cons y ys in
    omega arith
not_shorter x (z ∷ xs) y ys positive differ same alike shorter =
    let lasts = first_lasts z xs positive in
    let outer = cycle_of-cons x (z ∷ xs) in
    let inner = cycle_of-cons z xs in
    let inside : x.interval < cycle_of (x ∷ z ∷ xs) = omega arith in
    let none : x.interval - x.interval ≡ 0 = omega arith in
    let next : octet_at (x ∷ z ∷ xs) x.interval ≡ z.octet = octet_at-later x (z ∷ xs) x.interval (omega arith) ∙ (ap (octet_at (z ∷ xs)) none ∙ octet_at-first z xs 0 (omega arith)) in
    differ_head x z xs differ (same ∙ (sym (octet_at-first y ys x.interval shorter) ∙ (sym (alike.shown x.interval inside) ∙ next)))

same_interval : (x : GateEntry) (xs : List GateEntry) (y : GateEntry) (ys : List GateEntry) → AllPositive (x ∷ xs) → AllPositive (y ∷ ys)
    → NeighboursDiffer (x ∷ xs) → NeighboursDiffer (y ∷ ys)
    → x.octet ≡ y.octet → AreAlike (x ∷ xs) (y ∷ ys) → x.interval ≡ y.interval
same_interval x xs y ys x_positive y_positive x_differ y_differ same alike = elim (cases_lt x.interval y.interval) [
  | inl shorter ↦ absurd (not_shorter x xs y ys (others_last x xs x_positive) x_differ same alike shorter)
  | inr past ↦ elim (cases_lt y.interval x.interval) [
    | inl longer ↦ absurd (not_shorter y ys x xs (others_last y ys y_positive) y_differ (sym same) (alike_back (x ∷ xs) (y ∷ ys) alike) longer)
    | inr behind ↦ omega arith
  ]
]

-- behind the first entries
shown_behind : (x : GateEntry) (xs : List GateEntry) (t : ℕ) → octet_at (x ∷ xs) (t + x.interval) ≡ octet_at xs t
shown_behind x xs t = grind (arith, octet_at-later)

alike_behind : (x : GateEntry) (xs : List GateEntry) (y : GateEntry) (ys : List GateEntry) → x.interval ≡ y.interval → AreAlike (x ∷ xs) (y ∷ ys)
    → AreAlike xs ys
alike_behind x xs y ys same alike =
    let left = cycle_of-cons x xs in
    let right = cycle_of-cons y ys in
    let whole = alike.whole in record {
      whole = omega arith;
      shown = λ t below. sym (shown_behind x xs t) ∙ (alike.shown (t + x.interval) (omega arith) ∙ (ap (λ n. octet_at (y ∷ ys) (t + n)) same ∙ shown_behind y ys t));
    }

same_entry : (x y : GateEntry) → x.interval ≡ y.interval → x.octet ≡ y.octet → x ≡ y
same_entry x y intervals octets = grind arith

pub same_entries : (xs ys : List GateEntry) → AllPositive xs → AllPositive ys → NeighboursDiffer xs → NeighboursDiffer ys → AreAlike xs ys → xs ≡ ys
same_entries [] [] x_positive y_positive x_differ y_differ alike = refl
same_entries [] (y ∷ ys) x_positive y_positive x_differ y_differ alike =
    let none = cycle_of-nil in
    let some = cycle_of-cons y ys in
    let lasts = first_lasts y ys y_positive in
    absurd (omega arith)
same_entries (x ∷ xs) [] x_positive y_positive x_differ y_differ alike =
    let none = cycle_of-nil in
    let some = cycle_of-cons x xs in
    let lasts = first_lasts x xs x_positive in
    let whole = alike.whole in
    absurd (omega arith)
same_entries (x ∷ xs) (y ∷ ys) x_positive y_positive x_differ y_differ alike =
    let octets = same_octet x xs y ys (first_lasts x xs x_positive) (first_lasts y ys y_positive) alike in
    let intervals = same_interval x xs y ys x_positive y_positive x_differ y_differ octets alike in
    ap₂ (λ z zs. z ∷ zs) (same_entry x y intervals octets)
    (same_entries xs ys (others_last x xs x_positive) (others_last y ys y_positive) (differ_tail x xs x_differ) (differ_tail y ys y_differ) (alike_behind x xs y ys intervals alike))

-- ---- the list of one link

module _ (network : Network) (offsets : List ℕ) where
  wanted_once : (link t a b : ℕ) → IsWanted network offsets link t a → IsWanted network offsets link t b → a ≡ b
  wanted_once link t a b (inl (inside, p)) (inl (_, q)) = p ∙ sym q
  wanted_once link t a b (inl (inside, p)) (inr (inl (outside, _, q))) = absurd (outside inside)
  wanted_once link t a b (inl (inside, p)) (inr (inr (outside, _, q))) = absurd (outside inside)
  wanted_once link t a b (inr (inl (outside, _, p))) (inl (inside, q)) = absurd (outside inside)
  wanted_once link t a b (inr (inl (_, guard, p))) (inr (inl (_, _, q))) = p ∙ sym q
  wanted_once link t a b (inr (inl (_, guard, p))) (inr (inr (_, no_guard, q))) = absurd (no_guard guard)
  wanted_once link t a b (inr (inr (outside, _, p))) (inl (inside, q)) = absurd (outside inside)
  wanted_once link t a b (inr (inr (_, no_guard, p))) (inr (inl (_, guard, q))) = absurd (no_guard guard)
  wanted_once link t a b (inr (inr (_, _, p))) (inr (inr (_, _, q))) = p ∙ sym q

  pub shows_wanted : (list : LinkGates) → IsWantedList network offsets list → (t : ℕ) → t < network.cycle
      → IsWanted network offsets list.link t (octet_at list.entries t)
  shows_wanted list wanted t below =
      let whole = wanted.whole in
      let some : 1 ≤ cycle_of list.entries = omega arith in
      let at = octet_exists list.entries t some in
      subst (IsWanted network offsets list.link t) (sym (octet_at-is list.entries network.cycle t at.0 whole below at.1)) (wanted.wanted t at.0 below at.1)

  pub same_list : (a b : LinkGates) → a.link ≡ b.link → IsWantedList network offsets a → IsWantedList network offsets b → a ≡ b
  same_list a b links a_wanted b_wanted =
      let made : ℕ → List GateEntry → LinkGates = λ link entries. record { link = link; entries = entries } in
      ap₂ made links (same_entries a.entries b.entries a_wanted.positive b_wanted.positive a_wanted.differ b_wanted.differ (record {
        whole = a_wanted.whole ∙ sym b_wanted.whole;
        shown = λ t below.
            let inside : t < network.cycle = subst (λ n. t < n) a_wanted.whole below in
            wanted_once b.link t (octet_at a.entries t) (octet_at b.entries t)
            (subst (λ link. IsWanted network offsets link t (octet_at a.entries t)) links (shows_wanted a a_wanted t inside)) (shows_wanted b b_wanted t inside);
      }))

-- ---- the lists of all links

abbrev IsBefore : LinkGates → LinkGates → Type 0
IsBefore a b = a.link < b.link

same_head : (x : LinkGates) (xs : List LinkGates) (y : LinkGates) (ys : List LinkGates) → All (IsBefore x) xs → All (IsBefore y) ys → Contains (y ∷ ys) x
    → Contains (x ∷ xs) y → x ≡ y
same_head x xs y ys x_first y_first x_there y_there = grind (arith, Contains-cons_cases, All-contains)

there_behind : (x : LinkGates) (xs : List LinkGates) (y : LinkGates) (ys : List LinkGates) → All (IsBefore x) xs → x ≡ y
    → ((l : LinkGates) → Contains (x ∷ xs) l → Contains (y ∷ ys) l)
    → (l : LinkGates) → Contains xs l → Contains ys l
there_behind x xs y ys x_first same to l there = elim (Contains-cons_cases y ys l (to l (Contains-more x xs l there))) [
  | inl first ↦ grind (arith, All-contains)
  | inr behind ↦ behind
]

same_lists : (xs ys : List LinkGates) → AllPairs IsBefore xs → AllPairs IsBefore ys → ((l : LinkGates) → Contains xs l → Contains ys l)
    → ((l : LinkGates) → Contains ys l → Contains xs l) → xs ≡ ys
same_lists [] [] x_order y_order to from = refl
same_lists [] (y ∷ ys) x_order y_order to from = absurd (Contains-nil y (from y (Contains-head y ys)))
same_lists (x ∷ xs) [] x_order y_order to from = absurd (Contains-nil x (to x (Contains-head x xs)))
same_lists (x ∷ xs) (y ∷ ys) x_order y_order to from =
    let x_first = AllPairs-head IsBefore x xs x_order in
    let y_first = AllPairs-head IsBefore y ys y_order in
    let same = same_head x xs y ys x_first y_first (to x (Contains-head x xs)) (from y (Contains-head y ys)) in
    ap₂ (λ z zs. z ∷ zs) same
    (same_lists xs ys (AllPairs-tail IsBefore x xs x_order) (AllPairs-tail IsBefore y ys y_order) (there_behind x xs y ys x_first same to) (there_behind y ys x xs y_first (sym same) from))

-- of lists of which there is one for each link, in order
module _ (network : Network) (IsList : LinkGates → Type 0) (once : (a b : LinkGates) → a.link ≡ b.link → IsList a → IsList b → a ≡ b) where
  pub record AreListed (lists : List LinkGates) : Type 0 where
    pub each : All IsList lists
    pub used : All (λ list. IsUsed network list.link) lists
    pub all_used : (link : ℕ) → IsUsed network link → Any (λ list. list.link ≡ link) lists
    pub in_order : AllPairs (λ a b. a.link < b.link) lists

  there_too : (lists others : List LinkGates) → AreListed lists → AreListed others → (l : LinkGates) → Contains lists l → Contains others l
  there_too lists others are others_are l there =
      let has = others_are.all_used l.link (All-contains (λ (list : LinkGates). IsUsed network list.link) lists l are.used there) in
      let found : Contains others has.1 = (has.0, has.2, has.3) in
      subst (Contains others) (once has.1 l has.4 (All-contains IsList others has.1 others_are.each found) (All-contains IsList lists l are.each there)) found

  pub listed_once : (lists others : List LinkGates) → AreListed lists → AreListed others → lists ≡ others
  listed_once lists others are others_are = same_lists lists others are.in_order others_are.in_order (there_too lists others are others_are) (there_too others lists others_are are)

module _ (network : Network) (offsets : List ℕ) where
  pub one_list_of_lists : (lists others : List LinkGates) → AreWantedLists network offsets lists → AreWantedLists network offsets others → lists ≡ others
  one_list_of_lists lists others are others_are = listed_once network (IsWantedList network offsets) (same_list network offsets) lists others
      (record { each = are.wanted; used = are.used; all_used = are.all_used; in_order = are.in_order })
      (record { each = others_are.wanted; used = others_are.used; all_used = others_are.all_used; in_order = others_are.in_order })
