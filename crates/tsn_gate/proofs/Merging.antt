-- Merged lists keep the wanted gates.
use Rattle.std.proofs.Common.{◌≡◌, ℕ, ◌%◌, ◌≤◌, ◌<◌, ◌⊎◌, min, List, [], ◌∷◌, length, get_or, take, All, AllPairs, IsBitSet, bit_and, refl, sym, ap, ap₂, ◌∙◌, subst, arith, inl, inr, suc-ne-zero}
use Rattle.std.specs.List.{Any}
use Rattle.std.proofs.lemmas.Bool.{cases_lt}
use Rattle.std.proofs.lemmas.List.{get_or_default}
use Rattle.std.proofs.lemmas.List.Elements.{All-nil, All-cons, All-head, All-tail}
use Rattle.std.proofs.Math.Nat.{mod-lt}
use Rattle.tsn_model.specs.declared.GateEntry.{GateEntry}
use Rattle.tsn_model.specs.Network.{Network, IsWellFormed}
use Rattle.tsn_model.specs.Gates.{cycle_of, IsOctetAt, IsWanted}
use Rattle.tsn_model.specs.Bridge.{LinkGates}
use Rattle.tsn_model.specs.Kept.{KeepsOctet, IsKept, KeepsWantedGates}
use Rattle.tsn_model.proofs.Routes.{UsesLink-exists}
use Rattle.tsn_gate.specs.declared.windows.Window.{Window}
use Rattle.tsn_gate.specs.Entries.{octet_at, AllLast, AllPositive, IsTimeline, IsGateList}
use Rattle.tsn_gate.specs.GateLists.{IsUsed, IsWantedList, AreWantedLists}
use Rattle.tsn_gate.specs.Merged.{IsSpared, IsMergedOctet, IsPlainOctet, IsMerged, AreMerged, IsKeptList, AreMergedLists, times_kept}
use Rattle.tsn_gate.proofs.Playing.{cycle_of-pos, cycle_of_part, octet_at-is, octet_at-entry, octet_exists, IsOctetAt-mod}
use Rattle.tsn_gate.proofs.Rooms.{rooms_of}
use Rattle.tsn_gate.proofs.Unique.{shows_wanted}
use Rattle.tsn_gate.proofs.Widening.{spared_background}

-- ---- octets

pub kept_octet : (least : ℕ) (wanted : List GateEntry) (kept : List Window) (t octet : ℕ) → IsPlainOctet (octet_at wanted t)
    → (IsSpared least kept t → octet_at wanted t ≡ 127)
    → IsMergedOctet least wanted kept t octet → KeepsOctet (octet_at wanted t) octet
kept_octet least wanted kept t octet plain background (inl (spared, open_octet)) =
    let same : octet ≡ octet_at wanted t = open_octet ∙ sym (background spared) in
    record { scheduled = subst (λ o. IsBitSet o 7) (sym same); others = subst (λ o. bit_and o 127 ≡ 0 → ⊥) same }
kept_octet least wanted kept t octet plain background (inr (inl (taken, stays, closed))) = record {
  scheduled = grind arith;
  others = λ is. absurd (is (ap (λ o. bit_and o 127) closed));
}
kept_octet least wanted kept t octet plain background (inr (inr (taken, outside, scheduled))) = grind (arith, suc-ne-zero)

merged_plain : (least : ℕ) (wanted : List GateEntry) (kept : List Window) (t octet : ℕ) → IsMergedOctet least wanted kept t octet → IsPlainOctet octet
merged_plain least wanted kept t octet (inl (spared, background)) = inr (inr background)
merged_plain least wanted kept t octet (inr (inl (taken, stays, closed))) = inl closed
merged_plain least wanted kept t octet (inr (inr (taken, outside, scheduled))) = inr (inl scheduled)

-- what each instant shows each entry has
plain_entries : (entries : List GateEntry) → AllPositive entries → ((t : ℕ) → t < cycle_of entries → IsPlainOctet (octet_at entries t))
    → All (λ (e : GateEntry). IsPlainOctet e.octet) entries
plain_entries entries positive plain k d below =
    let part = cycle_of_part entries k d below in
    let at : octet_at entries (cycle_of (take k entries)) ≡ (get_or entries k d).octet = octet_at-entry entries k d (cycle_of (take k entries)) below
    (omega arith) (omega arith) in
    subst IsPlainOctet at (plain (cycle_of (take k entries)) (omega arith))

-- ---- whether a list stays as it is

pub all_or_not : (least : ℕ) (entries : List GateEntry) → AllLast least entries ⊎ (¬ AllLast least entries)
all_or_not least [] = inl (All-nil (λ (e : GateEntry). least ≤ e.interval))
all_or_not least (entry ∷ entries) = elim (cases_lt entry.interval least) [
  | inl short ↦ inr (λ all. let lasts : least ≤ entry.interval = All-head (λ (e : GateEntry). least ≤ e.interval) entry entries all in omega arith)
  | inr lasts ↦ elim (all_or_not least entries) [
    | inl all ↦ inl (All-cons (λ (e : GateEntry). least ≤ e.interval) entry entries lasts all)
    | inr not_all ↦ inr (λ all. not_all (All-tail (λ (e : GateEntry). least ≤ e.interval) entry entries all))
  ]
]

pub some_least : (least : ℕ) (entries : List GateEntry) → ¬ AllLast least entries → 1 ≤ least
some_least least entries not_all = elim (cases_lt least 1) [ inl none ↦ absurd (not_all (λ k d below. omega arith)) | inr some ↦ some ]

-- ---- a list

some_entry : (entries : List GateEntry) → 1 ≤ cycle_of entries → 0 < length entries
unfolding cycle_of
some_entry [] lasts = absurd (omega arith)
some_entry (entry ∷ entries) lasts = omega arith

pub IsGateList-merged : (wanted entries : List GateEntry) → IsGateList wanted → IsTimeline entries (cycle_of wanted) → IsGateList entries
IsGateList-merged wanted entries is timeline = grind (arith, cycle_of-pos, some_entry)

module _ (network : Network) (offsets : List ℕ) (formed : IsWellFormed network) where
  wanted_plain : (link t octet : ℕ) → IsWanted network offsets link t octet → IsPlainOctet octet
  wanted_plain link t octet (inl (inside, window)) = inr (inl window)
  wanted_plain link t octet (inr (inl (outside, guard, closed))) = inl closed
  wanted_plain link t octet (inr (inr (outside, no_guard, background))) = inr (inr background)

  -- wanted lists keep themselves
  wanted_kept : (list : LinkGates) → IsWantedList network offsets list → IsKeptList network offsets list
  wanted_kept list is = record {
    kept = λ t octet below at. (octet, is.wanted t octet below at, record { scheduled = λ has. has; others = λ has. has });
    positive = is.positive;
    differ = is.differ;
    whole = is.whole;
  }

  module _ (least : ℕ) (wanted list : LinkGates) (is : IsWantedList network offsets wanted) (merged : IsMerged least wanted list) where
    -- a list that stays as it is
    stays_wanted : AllLast least wanted.entries → IsWantedList network offsets list
    stays_wanted all =
        let made : ℕ → List GateEntry → LinkGates = λ link entries. record { link = link; entries = entries } in
        let same : wanted ≡ list = ap₂ made (sym merged.same_link) (sym (merged.same all)) in
        subst (IsWantedList network offsets) same is

    widened_kept : ¬ AllLast least wanted.entries → IsKeptList network offsets list
    widened_kept not_all =
        let widened = merged.widened not_all in
        let some = some_least least wanted.entries not_all in
        let whole : cycle_of list.entries ≡ network.cycle = widened.timeline.whole ∙ is.whole in
        let rooms = rooms_of least (cycle_of wanted.entries) wanted.entries 0 0 some (omega arith) (λ _. refl) in
        record {
          kept = λ t octet below at.
              let within : t < cycle_of wanted.entries = subst (λ n. t < n) (sym is.whole) below in
              let gates = shows_wanted network offsets wanted is t below in
              let after : octet_at list.entries t ≡ octet = octet_at-is list.entries network.cycle t octet whole below at in
              let shown = subst (IsMergedOctet least wanted.entries (times_kept least wanted.entries) t) after (widened.shown t within) in (
                octet_at wanted.entries t,
                subst (λ link. IsWanted network offsets link t (octet_at wanted.entries t)) (sym merged.same_link) gates,
                kept_octet least wanted.entries (times_kept least wanted.entries) t octet (wanted_plain wanted.link t (octet_at wanted.entries t) gates)
                    (spared_background least wanted.entries (times_kept least wanted.entries) some rooms t) shown,
              );
          positive = widened.timeline.positive;
          differ = widened.timeline.differ;
          whole = whole;
        }

    pub IsKeptList-merged : IsKeptList network offsets list
    IsKeptList-merged = elim (all_or_not least wanted.entries) [ inl all ↦ wanted_kept list (stays_wanted all) | inr not_all ↦ widened_kept not_all ]

    pub plain_octets : All (λ (e : GateEntry). IsPlainOctet e.octet) list.entries
    plain_octets = elim (all_or_not least wanted.entries) [
      | inl all ↦
          let stays = stays_wanted all in
          plain_entries list.entries stays.positive (λ t below.
          let inside : t < network.cycle = subst (λ n. t < n) stays.whole below in
          wanted_plain list.link t (octet_at list.entries t) (shows_wanted network offsets list stays t inside))
      | inr not_all ↦ grind (arith, plain_entries, merged_plain)
    ]

    pub long_entries : AllLast (min least network.cycle) list.entries
    long_entries = grind (arith, all_or_not)

  -- a kept list keeps the wanted gates in each cycle
  kept_at : (list : LinkGates) → IsKeptList network offsets list → (t octet : ℕ) → IsOctetAt list.entries t octet
      → IsKept network offsets list.link (t % network.cycle) octet
  kept_at list is t octet at =
      let some : 1 ≤ cycle_of list.entries = (let some_cycle = formed.some_cycle in let long = is.whole in omega arith) in
      is.kept (t % network.cycle) octet (mod-lt t formed.some_cycle)
      (subst (λ n. IsOctetAt list.entries (t % n) octet) is.whole (IsOctetAt-mod list.entries t octet some at))

  pub KeepsWantedGates-lists : (lists : List LinkGates) → All (IsKeptList network offsets) lists
      → ((link : ℕ) → IsUsed network link → Any (λ list. list.link ≡ link) lists)
      → KeepsWantedGates network offsets lists
  KeepsWantedGates-lists lists kept all_used = record {
    kept = λ k d inside i t octet used at. kept_at (get_or lists k d) (kept k d inside) t octet at;
    listed = λ i link t uses.
        let has = all_used link (i, uses) in
        let list = has.1 in
        let is : IsKeptList network offsets list = subst (IsKeptList network offsets) has.3 (kept has.0 list has.2) in
        let some : 1 ≤ cycle_of list.entries = (let some_cycle = formed.some_cycle in let long = is.whole in omega arith) in
        let at = octet_exists list.entries t some in
        (has.0, list, has.2, has.3, (has.4, (at.0, at.1, subst (λ l. IsKept network offsets l (t % network.cycle) at.0) has.4 (kept_at list is t at.0 at.1))));
  }

  -- ---- the lists of all links

  module _ (wanted lists : List LinkGates) (are : AreWantedLists network offsets wanted) (least : ℕ) (merged : AreMerged least wanted lists) where
    inside_wanted : (k : ℕ) → k < length lists → k < length wanted
    inside_wanted k below = let count = merged.count in omega arith

    same_link : (k : ℕ) (d : LinkGates) → k < length lists → (get_or lists k d).link ≡ (get_or wanted k d).link
    same_link k d below = (merged.each k d (inside_wanted k below)).same_link

    own : (k : ℕ) (d : LinkGates) → k < length lists → IsWantedList network offsets (get_or wanted k d)
    own k d below = are.wanted k d (inside_wanted k below)

    made : (k : ℕ) (d : LinkGates) → k < length lists → IsMerged least (get_or wanted k d) (get_or lists k d)
    made k d below = merged.each k d (inside_wanted k below)

    linked : (k : ℕ) (d : LinkGates) → k < length lists → IsUsed network (get_or lists k d).link
    linked k d below = subst (IsUsed network) (sym (same_link k d below)) (are.used k d (inside_wanted k below))

    all_listed : (link : ℕ) → IsUsed network link → Any (λ list. list.link ≡ link) lists
    all_listed link used =
        let has = are.all_used link used in
        let below : has.0 < length lists = (let inside = has.2 in omega arith) in
        let d = has.1 in (
          has.0,
          get_or lists has.0 d,
          below,
          get_or_default lists has.0 (get_or lists has.0 d) d below,
          same_link has.0 d below ∙ (ap (λ (list : LinkGates). list.link) has.3 ∙ has.4),
        )

    ordered : AllPairs (λ (a b : LinkGates). a.link < b.link) lists
    ordered j k d order below =
        let first = same_link j d (omega arith) in
        let second = same_link k d below in
        let rise = are.in_order j k d order (inside_wanted k below) in
        omega arith

    pub AreMergedLists-merged : AreMergedLists network offsets least lists
    AreMergedLists-merged = record {
      kept = λ k d below. IsKeptList-merged least (get_or wanted k d) (get_or lists k d) (own k d below) (made k d below);
      used = linked;
      all_used = all_listed;
      in_order = ordered;
      octets = λ k d below. plain_octets least (get_or wanted k d) (get_or lists k d) (own k d below) (made k d below);
      long = λ k d below. long_entries least (get_or wanted k d) (get_or lists k d) (own k d below) (made k d below);
      merged = λ k d below. (get_or wanted k d, own k d below, made k d below);
      exact = λ none. record {
        wanted = λ k d below. stays_wanted least (get_or wanted k d) (get_or lists k d) (own k d below) (made k d below) (λ j e inside. omega arith);
        used = linked;
        all_used = all_listed;
        in_order = ordered;
      };
    }

  pub KeepsWantedGates-merged : (least : ℕ) (lists : List LinkGates) → AreMergedLists network offsets least lists → KeepsWantedGates network offsets lists
  KeepsWantedGates-merged least lists are = KeepsWantedGates-lists lists are.kept are.all_used

  pub merged_exist : (least : ℕ) (lists : List LinkGates) → AreMergedLists network offsets least lists
      → All (λ list. list.link < length network.links) lists
  merged_exist least lists are k d inside = let used = are.used k d inside in UsesLink-exists network used.0 (get_or lists k d).link formed used.1
