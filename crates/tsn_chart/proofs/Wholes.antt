-- What a link gets in all is the cycle.
use Rattle.std.proofs.Common.{All, ◌≡◌, ℕ, ◌+◌, ◌%◌, ◌≤◌, ◌<◌, ◌⊎◌, List, [], ◌∷◌, length, get_or, take, refl, ap, arith, inl, inr}
use Rattle.std.proofs.lemmas.Bool.Decides.{nat_tests}
use Rattle.std.proofs.lemmas.List.Elements.{All-head, All-tail}
use Rattle.std.proofs.lemmas.List.Sums.{sum_by-cons, sum_by_more, sum_by_more_le}
use Rattle.std.proofs.lemmas.List.FromFn.{get_or-map-range_with_len, length-map-range_with_len}
use Rattle.std.proofs.Math.Nat.{mod-eq_of_lt}
use Rattle.tsn_model.specs.declared.GateEntry.{GateEntry}
use Rattle.tsn_model.specs.Network.{Network, stream_count}
use Rattle.tsn_model.specs.Gates.{cycle_of, IsWanted, scheduled_octet, closed_octet, background_octet}
use Rattle.tsn_model.specs.Bridge.{LinkGates}
use Rattle.tsn_gate.specs.GateLists.{IsWantedList, AreWantedLists}
use Rattle.tsn_chart.specs.declared.stream.StreamShare.{StreamShare}
use Rattle.tsn_chart.specs.declared.link.LinkShare.{LinkShare}
use Rattle.tsn_chart.specs.Shares.{stream_share, stream_shares, time_in, time_of, AreLinkShares}
use Rattle.tsn_gate.proofs.Entries.{cycle_of-nil, cycle_of-cons}
use Rattle.tsn_gate.proofs.Playing.{cycle_of_part, IsOctetAt-entry}

abbrev IsKnown : GateEntry → Type 0
IsKnown entry = (entry.octet ≡ scheduled_octet) ⊎ (entry.octet ≡ closed_octet) ⊎ (entry.octet ≡ background_octet)

time_in-is : (octet : ℕ) (entry : GateEntry) → entry.octet ≡ octet → time_in octet entry ≡ entry.interval
time_in-is octet entry is = grind (arith, nat_tests)

time_in-not : (octet : ℕ) (entry : GateEntry) (other : ℕ) → entry.octet ≡ other → (other ≡ octet → ⊥) → time_in octet entry ≡ 0
time_in-not octet entry other is differs = grind (arith, nat_tests)

time_in-all : (entry : GateEntry) → IsKnown entry → time_in scheduled_octet entry + time_in closed_octet entry + time_in background_octet entry ≡ entry.interval
time_in-all entry (inl is) =
    let a = time_in-is scheduled_octet entry is in
    let b = time_in-not closed_octet entry scheduled_octet is (λ e. absurd (omega arith)) in
    let c = time_in-not background_octet entry scheduled_octet is (λ e. absurd (omega arith)) in
    omega arith
time_in-all entry (inr (inl is)) =
    let a = time_in-not scheduled_octet entry closed_octet is (λ e. absurd (omega arith)) in
    let b = time_in-is closed_octet entry is in
    let c = time_in-not background_octet entry closed_octet is (λ e. absurd (omega arith)) in
    omega arith
time_in-all entry (inr (inr is)) =
    let a = time_in-not scheduled_octet entry background_octet is (λ e. absurd (omega arith)) in
    let b = time_in-not closed_octet entry background_octet is (λ e. absurd (omega arith)) in
    let c = time_in-is background_octet entry is in
    omega arith

pub time_of-nil : (octet : ℕ) → time_of octet [] ≡ 0
unfolding time_of
time_of-nil octet = refl

time_of-cons : (octet : ℕ) (entry : GateEntry) (entries : List GateEntry) → time_of octet (entry ∷ entries) ≡ time_in octet entry + time_of octet entries
unfolding time_of
time_of-cons octet entry entries = sum_by-cons (time_in octet) entry entries

pub time_of_more : (octet : ℕ) (entries : List GateEntry) (i : ℕ) (d : GateEntry) → i < length entries
    → time_of octet (take (i + 1) entries) ≡ time_of octet (take i entries) + time_in octet (get_or entries i d)
unfolding time_of
time_of_more octet entries i d inside = sum_by_more (time_in octet) entries i d inside

pub time_of_part : (octet : ℕ) (entries : List GateEntry) (i : ℕ) (d : GateEntry) → i < length entries
    → time_of octet (take i entries) + time_in octet (get_or entries i d) ≤ time_of octet entries
unfolding time_of
time_of_part octet entries i d inside = sum_by_more_le (time_in octet) entries i d inside

time_of-all : (entries : List GateEntry) → All IsKnown entries → time_of scheduled_octet entries + time_of closed_octet entries + time_of background_octet entries ≡ cycle_of entries
time_of-all [] all = omega (arith, time_of-nil scheduled_octet, time_of-nil closed_octet, time_of-nil background_octet, cycle_of-nil)
time_of-all (entry ∷ entries) all =
    let first = time_in-all entry (All-head IsKnown entry entries all) in
    let rest = time_of-all entries (All-tail IsKnown entry entries all) in
    let a = time_of-cons scheduled_octet entry entries in
    let b = time_of-cons closed_octet entry entries in
    let c = time_of-cons background_octet entry entries in
    let whole = cycle_of-cons entry entries in
    omega arith

-- the gates that are asked for at the start of an entry are its own
IsKnown-wanted : (network : Network) (offsets : List ℕ) (link t octet : ℕ) → IsWanted network offsets link t octet → (octet ≡ scheduled_octet) ⊎ (octet ≡ closed_octet) ⊎ (octet ≡ background_octet)
IsKnown-wanted network offsets link t octet (inl window) = inl window.1
IsKnown-wanted network offsets link t octet (inr (inl guard)) = inr (inl guard.2)
IsKnown-wanted network offsets link t octet (inr (inr rest)) = inr (inr rest.2)

all_known : (network : Network) (offsets : List ℕ) (list : LinkGates) → IsWantedList network offsets list → All IsKnown list.entries
all_known network offsets list is k d inside =
    let entries = list.entries in
    let t = cycle_of (take k entries) in
    let part = cycle_of_part entries k d inside in
    let lasts : 1 ≤ (get_or entries k d).interval = is.positive k d inside in
    let whole = is.whole in
    let here : t % cycle_of entries ≡ t = mod-eq_of_lt (let below : t < cycle_of entries = omega arith in below) in
    IsKnown-wanted network offsets list.link t (get_or entries k d).octet (is.wanted t (get_or entries k d).octet (omega arith)
    (IsOctetAt-entry entries t k 0 d inside (omega arith) (omega arith)))

pub shares_whole : (network : Network) (offsets : List ℕ) (lists : List LinkGates) (shares : List LinkShare) → AreWantedLists network offsets lists
    → AreLinkShares network offsets lists shares
    → All (λ (share : LinkShare). share.scheduled + share.guard + share.open ≡ network.cycle) shares
shares_whole network offsets lists shares wanted are k share inside =
    let none : LinkGates = record { link = 0; entries = [] } in
    let count = are.count in
    let below : k < length lists = omega arith in
    let list = get_or lists k none in
    let is = wanted.wanted k none below in
    let right = are.right k none share below in
    let all = time_of-all list.entries (all_known network offsets list is) in
    let scheduled = right.scheduled in
    let guard = right.guard in
    let rest = right.open_time in
    let whole = is.whole in
    omega arith

pub shares_exist : (network : Network) (offsets : List ℕ) (links : ℕ) (lists : List LinkGates) (shares : List LinkShare)
    → All (λ (list : LinkGates). list.link < links) lists
    → AreLinkShares network offsets lists shares
    → All (λ (share : LinkShare). share.link < links) shares
shares_exist network offsets links lists shares exist are k share inside =
    let none : LinkGates = record { link = 0; entries = [] } in
    let count = are.count in
    let below : k < length lists = omega arith in
    let list = exist k none below in
    let same = (are.right k none share below).link in
    omega arith

stream_share-stream : (network : Network) (offsets : List ℕ) (i : ℕ) → (stream_share network offsets i).stream ≡ i
unfolding stream_share
stream_share-stream network offsets i = refl

pub shares_named : (network : Network) (offsets : List ℕ) (n : ℕ) → stream_count network ≡ n → All (λ (share : StreamShare). share.stream < n) (stream_shares network offsets)
shares_named network offsets n same k share inside =
    let count = length-map-range_with_len (stream_share network offsets) 0 (stream_count network) in
    let below : k < stream_count network = omega arith in
    let at = get_or-map-range_with_len (stream_share network offsets) 0 (stream_count network) k k share below (omega arith) in
    let number = ap (λ (s : StreamShare). s.stream) at in
    omega (arith, stream_share-stream network offsets k)
