-- What a link's windows ask for is what the schedule asks for.
use Rattle.std.proofs.Common.{◌≡◌, ℕ, ◌+◌, ◌%◌, ◌≤◌, ◌<◌, List, [], ◌∷◌, ◌++◌, length, get_or, All, AllPairs, refl, sym, ap, ◌∙◌, subst, arith, inl, inr}
use Rattle.std.specs.List.{Any}
use Rattle.std.proofs.lemmas.Bool.{cases_lt}
use Rattle.std.proofs.lemmas.List.{get_or_append_left, length-append}
use Rattle.std.proofs.lemmas.List.Elements.{All-push}
use Rattle.std.proofs.lemmas.List.Quantifiers.{all_pairs_push, Any-push}
use Rattle.std.proofs.Math.Nat.{mod-lt}
use Rattle.tsn_model.specs.declared.GateEntry.{GateEntry}
use Rattle.tsn_model.specs.declared.Frame.{Frame}
use Rattle.tsn_model.specs.Network.{Network, IsWellFormed}
use Rattle.tsn_model.specs.Gates.{cycle_of, IsOctetAt, InWindow, InGuard, IsWanted, guard_of}
use Rattle.tsn_model.specs.Bridge.{LinkGates, HasWantedGates}
use Rattle.tsn_model.proofs.Routes.{UsesLink-counted, UsesLink-exists}
use Rattle.tsn_model.proofs.Shifts.{first_sent}
use Rattle.tsn_gate.specs.declared.windows.Window.{Window}
use Rattle.tsn_gate.specs.Entries.{IsTimeline, IsGateList}
use Rattle.tsn_gate.specs.Windows.{window_of, AreWindowsOf, InSomeWindow, InSomeGuard, IsWindowOctet, ShowsWindows}
use Rattle.tsn_gate.specs.GateLists.{IsUsed, IsWantedList, IsListOf, AreWantedLists}
use Rattle.tsn_gate.proofs.Entries.{cycle_of-nil}
use Rattle.tsn_gate.proofs.Playing.{octet_at-is, octet_exists, IsOctetAt-mod}

module _ (network : Network) (offsets : List ℕ) (link : ℕ) (windows : List Window) (all : AreWindowsOf network offsets link windows) where
  window_to : (t : ℕ) → InSomeWindow windows t → InWindow network offsets link t
  unfolding window_of
  window_to t (k, x, inside, at, (begun, not_ended)) =
      let used = all.used k x inside in
      let begins = ap (λ (w : Window). w.start) (sym at ∙ used.2) in
      let ends = ap (λ (w : Window). w.end) (sym at ∙ used.2) in
      (used.0.stream, used.1.uses, record { shift = used.0.shift; sent = used.1.sent; frame = record { begun = omega arith; not_ended = omega arith } })

  window_from : (t : ℕ) → InWindow network offsets link t → InSomeWindow windows t
  unfolding window_of
  window_from t (i, uses, occupies) =
      let frame : Frame = record { stream = i; shift = occupies.shift } in
      let has = all.all_uses frame (record { sent = occupies.sent; uses = uses }) in
      (has.0, window_of network offsets link frame, has.1, has.2, (occupies.frame.begun, occupies.frame.not_ended))

  guard_to : (t : ℕ) → InSomeGuard windows network.cycle (guard_of network link) t → InGuard network offsets link t
  unfolding window_of
  guard_to t (k, x, inside, at, (n, not_begun, guarded)) =
      let used = all.used k x inside in
      let begins = ap (λ (w : Window). w.start) (sym at ∙ used.2) in
      let frame = used.0 in
      record { stream = frame.stream; shift = frame.shift; cycles = n; sent = used.1.sent; uses = used.1.uses; not_begun = omega arith; guarded = omega arith }

  guard_from : (t : ℕ) → InGuard network offsets link t → InSomeGuard windows network.cycle (guard_of network link) t
  unfolding window_of
  guard_from t guard =
      let frame : Frame = record { stream = guard.stream; shift = guard.shift } in
      let has = all.all_uses frame (record { sent = guard.sent; uses = guard.uses }) in
      (has.0, window_of network offsets link frame, has.1, has.2, (guard.cycles, guard.not_begun, guard.guarded))

  pub IsWanted-windows : (t octet : ℕ) → IsWindowOctet windows network.cycle (guard_of network link) t octet → IsWanted network offsets link t octet
  IsWanted-windows t octet (inl (inside, is)) = inl (window_to t inside, is)
  IsWanted-windows t octet (inr (inl (outside, guard, is))) = inr (inl (λ inside. outside (window_from t inside), guard_to t guard, is))
  IsWanted-windows t octet (inr (inr (outside, no_guard, is))) = inr (inr (λ inside. outside (window_from t inside), λ guard. no_guard (guard_from t guard), is))

  pub IsListOf-windows : (entries : List GateEntry) → 0 < length windows → IsTimeline entries network.cycle → ShowsWindows windows network.cycle (guard_of network link) entries network.cycle
      → IsListOf network offsets link (record { link = link; entries = entries })
  IsListOf-windows entries some timeline shown = record {
    same_link = refl;
    used = let first = all.used 0 (get_or windows 0 (record { start = 0; end = 0 })) some in (first.0.stream, first.1.uses);
    wanted = record {
      wanted = λ t octet below at. IsWanted-windows t octet
          (subst (IsWindowOctet windows network.cycle (guard_of network link) t) (octet_at-is entries network.cycle t octet timeline.whole below at) (shown t below));
      positive = timeline.positive;
      differ = timeline.differ;
      whole = timeline.whole;
    };
  }

-- a link with no window is used by no stream, for each sends some frame
pub none_used : (network : Network) (offsets : List ℕ) (link : ℕ) (windows : List Window) → IsWellFormed network
    → AreWindowsOf network offsets link windows → length windows ≡ 0 → IsUsed network link → ⊥
none_used network offsets link windows formed all none (i, uses) =
    let sent = first_sent network i formed (UsesLink-counted network i link uses) in
    let has = all.all_uses (record { stream = i; shift = 0 }) (record { sent = sent; uses = uses }) in
    omega arith

some_entries : (entries : List GateEntry) → 1 ≤ cycle_of entries → 0 < length entries
some_entries [] lasts = absurd (omega (arith, cycle_of-nil))
some_entries (entry ∷ entries) lasts = omega arith

pub IsGateList-timeline : (network : Network) (entries : List GateEntry) → IsWellFormed network → IsTimeline entries network.cycle → IsGateList entries
IsGateList-timeline network entries formed timeline = grind (arith, some_entries)

-- ---- the lists of all links

Any-more : {X : Type 0} (P : X → Type 0) (xs : List X) (y : X) → Any P xs → Any P (xs ++ y ∷ [])
Any-more P xs y (k, x, inside, at, holds) = (k, x, omega (arith, length-append xs (y ∷ [])), get_or_append_left xs (y ∷ []) x k inside ∙ at, holds)

module _ (network : Network) (offsets : List ℕ) where
  -- the lists of the links below n
  pub record AreListsBelow (n : ℕ) (lists : List LinkGates) : Type 0 where
    pub each : All (λ list. (list.link < n) × IsListOf network offsets list.link list) lists
    pub all_used : (link : ℕ) → link < n → IsUsed network link → Any (λ list. list.link ≡ link) lists
    pub in_order : AllPairs (λ a b. a.link < b.link) lists

  pub AreListsBelow-skip : (n : ℕ) (lists : List LinkGates) → AreListsBelow n lists → ¬ IsUsed network n → AreListsBelow (n + 1) lists
  AreListsBelow-skip n lists below unused = grind arith

  pub AreListsBelow-more : (n : ℕ) (lists : List LinkGates) (list : LinkGates) → AreListsBelow n lists → IsListOf network offsets n list → AreListsBelow (n + 1) (lists ++ list ∷ [])
  AreListsBelow-more n lists list below is = record {
    each = All-push (λ (l : LinkGates). (l.link < n + 1) × IsListOf network offsets l.link l) lists list
        (λ k d inside. let had = below.each k d inside in let low = had.0 in (omega arith, had.1))
        (let same = is.same_link in (omega arith, subst (λ m. IsListOf network offsets m list) (sym is.same_link) is));
    all_used = λ link lower used. elim (cases_lt link n) [
      | inl before ↦ Any-more (λ (l : LinkGates). l.link ≡ link) lists list (below.all_used link before used)
      | inr past ↦ let same : n ≡ link = omega arith in Any-push (λ (l : LinkGates). l.link ≡ link) lists list (is.same_link ∙ same)
    ];
    in_order = all_pairs_push (λ (a b : LinkGates). a.link < b.link) lists list below.in_order
        (λ k d inside. let had = below.each k d inside in let low = had.0 in let same = is.same_link in omega arith);
  }

  pub AreWantedLists-below : IsWellFormed network → (n : ℕ) (lists : List LinkGates) → n ≡ length network.links → AreListsBelow n lists → AreWantedLists network offsets lists
  AreWantedLists-below formed n lists whole below = record {
    wanted = λ k d inside. (below.each k d inside).1.wanted;
    used = λ k d inside. (below.each k d inside).1.used;
    all_used = λ link used. let exists = UsesLink-exists network used.0 link formed used.1 in below.all_used link (omega arith) used;
    in_order = below.in_order;
  }

  -- wanted lists are those of links
  pub lists_exist : IsWellFormed network → (lists : List LinkGates) → AreWantedLists network offsets lists → All (λ list. list.link < length network.links) lists
  lists_exist formed lists are k d inside = let used = are.used k d inside in UsesLink-exists network used.0 (get_or lists k d).link formed used.1

  -- wanted lists give the wanted gates at each instant of each cycle
  pub HasWantedGates-lists : IsWellFormed network → (lists : List LinkGates) → AreWantedLists network offsets lists → HasWantedGates network offsets lists
  HasWantedGates-lists formed lists are = record {
    wanted = λ k d inside i t octet used at. wanted_at formed (get_or lists k d) (are.wanted k d inside) t octet at;
    listed = λ i link t uses.
        let has = are.all_used link (i, uses) in
        let list = has.1 in
        let wanted : IsWantedList network offsets list = subst (IsWantedList network offsets) has.3 (are.wanted has.0 list has.2) in
        let at = octet_exists list.entries t (lasts formed list wanted) in
        (has.0, list, has.2, has.3, (has.4, (at.0, at.1, subst (λ l. IsWanted network offsets l (t % network.cycle) at.0) has.4 (wanted_at formed list wanted t at.0 at.1))));
  } where
    lasts : IsWellFormed network → (list : LinkGates) → IsWantedList network offsets list → 1 ≤ cycle_of list.entries
    lasts formed list wanted = let some = formed.some_cycle in let whole = wanted.whole in omega arith

    wanted_at : IsWellFormed network → (list : LinkGates) → IsWantedList network offsets list → (t octet : ℕ) → IsOctetAt list.entries t octet → IsWanted network offsets list.link (t % network.cycle) octet
    wanted_at formed list wanted t octet at =
        wanted.wanted (t % network.cycle) octet (mod-lt t formed.some_cycle)
        (subst (λ n. IsOctetAt list.entries (t % n) octet) wanted.whole (IsOctetAt-mod list.entries t octet (lasts formed list wanted) at))
