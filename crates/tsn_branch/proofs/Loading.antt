-- The tables of the links that several streams share.
use Rattle.std.proofs.Common.{◌≡◌, ℕ, ◌+◌, ◌-◌, ◌<◌, ◌≤◌, min, Bool, true, false, cond, List, [], ◌∷◌, ◌++◌, map, length, take, get_or, filter, fold, sum_by, All, ℤ, pos, ◌+ℤ◌, ◌-ℤ◌, ◌≤ℤ◌, ◌<ℤ◌, inl, inr, Some, None, is_some, refl, sym, ap, ◌∙◌, subst, arith, append-nil}
use Rattle.std.specs.Prelude.{nat_le, slice_index}
use Rattle.std.specs.Int.{int_min}
use Rattle.std.specs.List.{range_with_len}
use Rattle.std.proofs.lemmas.Bool.{cond-true, cond-false, leb-true}
use Rattle.std.proofs.lemmas.Bool.Decides.{nat_tests}
use Rattle.std.proofs.lemmas.Int.{ints, fold-int_min_reached}
use Rattle.std.proofs.lemmas.List.{map_push, length-map, length-take, take_more, get_or-map}
use Rattle.std.proofs.lemmas.Simd.{map-map}
use Rattle.std.proofs.lemmas.List.Elements.{filter-append, filter_passes, All-head, All-tail, All-contains, All-map, All-more}
use Rattle.std.proofs.lemmas.List.FromFn.{length-range_with_len}
use Rattle.std.proofs.lemmas.List.Sums.{sum_by-append, sum_by-le}
use Rattle.tsn_model.specs.Network.{Network, IsWellFormed, HasFewStreams, stream_count, hop_count, route_link}
use Rattle.tsn_model.specs.Timing.{separation, arrival, hop_on, UsesLink, start_on}
use Rattle.tsn_model.specs.Certificate.{least}
use Rattle.tsn_branch.specs.Links.{users_of, shared_links, work_on, tail_on, head_by, busy_by, load_by, IsUnloaded}
use Rattle.tsn_branch.specs.Loads.{SharedLink, IsEarly, head_in, link_in, user_on, link_with, shared_link, users_upto, shared_upto}
use Rattle.tsn_model.proofs.Lists.{least-map_push, least-one, range_more}
use Rattle.tsn_model.proofs.Limits as limits
use Rattle.tsn_model.proofs.Limits.{start-le, separation-le}
use Rattle.tsn_model.proofs.Routes.{use_of, UsesLink-counted, UsesLink-exists}
use Rattle.tsn_branch.specs.declared.loads.User.{User}
use Rattle.tsn_branch.specs.declared.loads.LinkTable.{LinkTable}

-- ---- the streams of a link, and the shared links, one after another

range_next : (n : ℕ) → range_with_len 0 (n + 1) ≡ range_with_len 0 n ++ n ∷ []
range_next n = range_more 0 n ∙ ap (λ m. range_with_len 0 n ++ m ∷ []) (omega arith)

pub kept_more : (p : ℕ → Bool) (n : ℕ) → p n ≡ true → filter p (range_with_len 0 (n + 1)) ≡ filter p (range_with_len 0 n) ++ n ∷ []
kept_more p n passes =
    ap (filter p) (range_next n) ∙ filter-append p (range_with_len 0 n) (n ∷ []) ∙ ap (λ ys. filter p (range_with_len 0 n) ++ ys) (cond-true (p n) (n ∷ []) [] passes)

pub kept_same : (p : ℕ → Bool) (n : ℕ) → p n ≡ false → filter p (range_with_len 0 (n + 1)) ≡ filter p (range_with_len 0 n)
kept_same p n fails =
    ap (filter p) (range_next n) ∙ filter-append p (range_with_len 0 n) (n ∷ []) ∙ ap (λ ys. filter p (range_with_len 0 n) ++ ys) (cond-false (p n) (n ∷ []) [] fails)
    ∙ append-nil (filter p (range_with_len 0 n))

module _ (network : Network) (link : ℕ) where
  tail_at : ℕ → ℤ
  tail_at i = pos (arrival network i) -ℤ pos (start_on network i link + separation network i link)

  tails_push : (streams : List ℕ) (i : ℕ) (old tail : ℤ) → old ≡ least (map tail_at streams) → (length streams ≡ 0 → tail ≡ tail_at i) → (0 < length streams → tail ≡ int_min old (tail_at i))
      → tail ≡ least (map tail_at (streams ++ i ∷ []))
  tails_push [] i old tail is first more = first refl ∙ sym (least-one (tail_at i))
  tails_push (j ∷ streams) i old tail is first more =
      more (omega arith) ∙ ap (λ z. int_min z (tail_at i)) is ∙ sym (least-map_push tail_at (j ∷ streams) i (omega arith))

  -- one stream more
  pub link_taken : (old new : SharedLink) (streams : List ℕ) (i : ℕ) → old ≡ link_with network link streams → new.link ≡ old.link → new.users ≡ old.users ++ user_on network link i ∷ []
      → new.work ≡ old.work + separation network i link
      → (length old.users ≡ 0 → new.tail ≡ pos (arrival network i) -ℤ pos (start_on network i link + separation network i link))
      → (0 < length old.users → new.tail ≡ int_min old.tail (pos (arrival network i) -ℤ pos (start_on network i link + separation network i link)))
      → new ≡ link_with network link (streams ++ i ∷ [])
  unfolding link_with tail_at
  link_taken old new streams i is same users work first more =
      let long : length old.users ≡ length streams = ap (λ s. length s.users) is ∙ length-map streams (user_on network link) in
      let all_users : new.users ≡ map (user_on network link) (streams ++ i ∷ []) =
      users ∙ ap (λ s. s.users ++ user_on network link i ∷ []) is ∙ sym (map_push (user_on network link) streams i) in
      let all_work : new.work ≡ sum_by (λ j. separation network j link) (streams ++ i ∷ []) =
      work ∙ ap (λ s. s.work + separation network i link) is ∙ omega (arith, sum_by-append (λ j. separation network j link) streams (i ∷ [])) in
      let all_tail : new.tail ≡ least (map tail_at (streams ++ i ∷ [])) =
      tails_push streams i old.tail new.tail (ap (λ s. s.tail) is) (λ none. first (long ∙ none)) (λ some. more (omega (arith, long))) in
      λ k. record { link = (same ∙ ap (λ s. s.link) is) k; users = all_users k; work = all_work k; tail = all_tail k }

  pub used_more : (n hop : ℕ) → hop_on network n link ≡ Some hop → users_upto network link (n + 1) ≡ users_upto network link n ++ n ∷ []
  used_more n hop found = kept_more (λ i. is_some (hop_on network i link)) n (ap is_some found)

  pub unused_same : (n : ℕ) → hop_on network n link ≡ None → users_upto network link (n + 1) ≡ users_upto network link n
  unused_same n none = kept_same (λ i. is_some (hop_on network i link)) n (ap is_some none)

  -- none yet
  pub link_empty : (new : SharedLink) → new.link ≡ link → new.users ≡ [] → new.work ≡ 0 → new.tail ≡ pos 0 → new ≡ link_with network link []
  unfolding link_with least
  link_empty new same users work tail = λ k. record { link = same k; users = users k; work = work k; tail = tail k }

  -- all of them
  pub link_whole : (new : SharedLink) (n : ℕ) → n ≡ stream_count network → new ≡ link_with network link (users_upto network link n) → new ≡ shared_link network link
  unfolding shared_link users_of
  link_whole new n whole is = is ∙ ap (λ m. link_with network link (users_upto network link m)) whole

-- the link of a table
pub link_of : (network : Network) (link : ℕ) (new : SharedLink) (streams : List ℕ) → new ≡ link_with network link streams → new.link ≡ link
unfolding link_with
link_of network link new streams is = ap (λ s. s.link) is

-- ---- the shared links, one after another

module _ (network : Network) (n : ℕ) (found : SharedLink) (is : found ≡ shared_link network n) where
  users_long : length found.users ≡ length (users_of network n)
  unfolding shared_link link_with
  users_long = ap (λ s. length s.users) is ∙ length-map (users_of network n) (user_on network n)

  pub shared_more : 2 ≤ length found.users → shared_upto network (n + 1) ≡ shared_upto network n ++ n ∷ []
  shared_more several = let long = users_long in kept_more (λ link. nat_le 2 (length (users_of network link))) n (grind (arith, nat_tests))

  pub shared_same : length found.users < 2 → shared_upto network (n + 1) ≡ shared_upto network n
  shared_same few = let long = users_long in kept_same (λ link. nat_le 2 (length (users_of network link))) n (grind (arith, nat_tests))

pub shared_whole : (network : Network) (found : List SharedLink) (n : ℕ) → n ≡ length network.links → found ≡ map (shared_link network) (shared_upto network n) → found ≡ map (shared_link network) (shared_links network)
unfolding shared_links
shared_whole network found n whole is = is ∙ ap (λ m. map (shared_link network) (shared_upto network m)) whole

-- ---- the earliest start

pub pos-min : (a b : ℕ) → pos (min a b) ≡ int_min (pos a) (pos b)
pos-min a b = grind (arith, ints)

pub head_first : (offsets : List ℕ) (users : List User) (d : User) → 0 < length users → pos (slice_index offsets (get_or users 0 d).stream + (get_or users 0 d).start) ≡ head_in offsets (take 1 users)
head_first offsets [] d some = absurd (omega arith)
head_first offsets (user ∷ users) d some = sym (least-one (pos (slice_index offsets user.stream + user.start)))

pub head_more : (offsets : List ℕ) (users : List User) (k : ℕ) (d : User) (so_far : ℕ) → 0 < k → k < length users → pos so_far ≡ head_in offsets (take k users)
    → pos (min so_far (slice_index offsets (get_or users k d).stream + (get_or users k d).start)) ≡ head_in offsets (take (k + 1) users)
head_more offsets users k d so_far some below is =
    let start : User → ℤ = λ user. pos (slice_index offsets user.stream + user.start) in
    let long : 0 < length (take k users) = omega (arith, length-take k users) in
    pos-min so_far _ ∙ ap (λ z. int_min z (start (get_or users k d))) is ∙ sym (least-map_push start (take k users) (get_or users k d) long)
    ∙ ap (head_in offsets) (sym (take_more users k d below))

length-filter-le : (p : ℕ → Bool) (xs : List ℕ) → length (filter p xs) ≤ length xs
length-filter-le p [] = omega arith
length-filter-le p (x ∷ xs) = let rest = length-filter-le p xs in elim (p x) as (λ b. length (cond b (x ∷ filter p xs) (filter p xs)) ≤ length (x ∷ xs)) [ true ↦ omega arith | false ↦ omega arith ]

-- ---- a table, as what is kept of its link

pub table_there : (network : Network) (tables : List LinkTable) (place : ℕ) (table : LinkTable) → map link_in tables ≡ map (shared_link network) (shared_links network) → place < length tables
    → table ≡ get_or tables place table → (place < length (shared_links network)) × (link_in table ≡ shared_link network (get_or (shared_links network) place 0))
table_there network tables place table same below is =
    let long : length tables ≡ length (shared_links network) = sym (length-map tables link_in) ∙ ap length same ∙ length-map (shared_links network) (shared_link network) in
    let within : place < length (shared_links network) = omega (arith, long) in (
      within,
      ap link_in is ∙ sym (get_or-map link_in tables place table (link_in table) below) ∙ ap (λ links. get_or links place (link_in table)) same
          ∙ get_or-map (shared_link network) (shared_links network) place 0 (link_in table) within,
    )

-- what holds of some numbers holds of the least of them
least_of_some : (P : ℤ → Type 0) (xs : List ℤ) → 0 < length xs → All P xs → P (least xs)
unfolding least
least_of_some P [] some all = absurd (omega arith)
least_of_some P (x ∷ xs) some all = elim (fold-int_min_reached x xs (fold int_min x xs) refl) [
  | inl first ↦ subst P (sym first) (All-head P x xs all)
  | inr later ↦ All-contains P xs (fold int_min x xs) (All-tail P x xs all) later
]

module _ (network : Network) (formed : IsWellFormed network) (link : ℕ) where
  pub users_use : All (λ i. UsesLink network i link) (users_of network link)
  unfolding users_of
  users_use = filter_passes (λ i. is_some (hop_on network i link)) (range_with_len 0 (stream_count network))

  users_counted : All (λ i. i < stream_count network) (users_of network link)
  users_counted k d below = UsesLink-counted network (get_or (users_of network link) k d) link (users_use k d below)

  pub users_few : length (users_of network link) ≤ 2048
  unfolding users_of
  users_few =
      let few = formed.few_streams in
      omega (arith, few, length-filter-le (λ i. is_some (hop_on network i link)) (range_with_len 0 (stream_count network)), length-range_with_len 0 (stream_count network))

  pub users_below : HasFewStreams network → length (users_of network link) ≤ 128
  unfolding users_of
  users_below few = omega (arith, few, length-filter-le (λ i. is_some (hop_on network i link)) (range_with_len 0 (stream_count network)), length-range_with_len 0 (stream_count network))

  pub start_on-le : (i : ℕ) → UsesLink network i link → start_on network i link ≤ 206336000
  start_on-le i uses =
      let used = use_of network i link uses in
      let same = used.same_start in
      let short = start-le network formed i used.hop (UsesLink-counted network i link uses) in
      omega arith

  pub keeps-le : (i : ℕ) → UsesLink network i link → separation network i link ≤ 1233600
  keeps-le i uses = separation-le network formed i link (UsesLink-counted network i link uses) (UsesLink-exists network i link formed uses)

  pub arrival-le : (i : ℕ) → UsesLink network i link → arrival network i ≤ 230000000
  arrival-le i uses =
      let ends = limits.arrival-le network formed i (UsesLink-counted network i link uses) in
      omega arith

  pub work_on-le : work_on network link ≤ 2526412800
  unfolding work_on
  work_on-le =
      let each : All (λ i. separation network i link ≤ 1233600) (users_of network link) = λ k d below. keeps-le (get_or (users_of network link) k d) (users_use k d below) in
      let whole = sum_by-le (λ i. separation network i link) 1233600 (users_of network link) each in
      let few = users_few in
      omega arith

  -- the bounds of a tail
  pub record IsShortTail (tail : ℤ) : Type 0 where
    pub low : pos 0 ≤ℤ (tail +ℤ pos 230000000)
    pub high : tail ≤ℤ pos 230000000

  -- the least tail of some of the link's streams
  pub tail-bounds : (streams : List ℕ) → All (λ i. UsesLink network i link) streams → 0 < length streams
      → IsShortTail (least (map (λ i. pos (arrival network i) -ℤ pos (start_on network i link + separation network i link)) streams))
  tail-bounds streams used some =
      let tail : ℕ → ℤ = λ i. pos (arrival network i) -ℤ pos (start_on network i link + separation network i link) in
      least_of_some IsShortTail (map tail streams) (omega (arith, length-map streams tail))
      (All-map IsShortTail tail streams (λ k d below.
      let uses = used k d below in
      let begins = start_on-le (get_or streams k d) uses in
      let works = keeps-le (get_or streams k d) uses in
      let ends = arrival-le (get_or streams k d) uses in
      record { low = omega (arith, ints); high = omega (arith, ints) }))

  tail_on-bounds : 0 < length (users_of network link) → IsShortTail (tail_on network link)
  unfolding tail_on
  tail_on-bounds some = tail-bounds (users_of network link) users_use some

  -- some of the link's streams don't occupy it for long
  pub work-le : (streams : List ℕ) → All (λ i. UsesLink network i link) streams → length streams ≤ 2048 → sum_by (λ i. separation network i link) streams ≤ 2526412800
  work-le streams used few =
      let each : All (λ i. separation network i link ≤ 1233600) streams = λ k d below. keeps-le (get_or streams k d) (used k d below) in
      let whole = sum_by-le (λ i. separation network i link) 1233600 streams each in
      omega arith

  pub tail_on-low : 0 < length (users_of network link) → pos 0 ≤ℤ (tail_on network link +ℤ pos 230000000)
  tail_on-low some = (tail_on-bounds some).low

  pub tail_on-high : 0 < length (users_of network link) → tail_on network link ≤ℤ pos 230000000
  tail_on-high some = (tail_on-bounds some).high

-- the k-th shared link has several streams
pub shared_several : (network : Network) (place : ℕ) → place < length (shared_links network) → 2 ≤ length (users_of network (get_or (shared_links network) place 0))
unfolding shared_links
shared_several network place below =
    let passes = filter_passes (λ link. nat_le 2 (length (users_of network link))) (range_with_len 0 (length network.links)) place 0 below in
    leb-true 2 (length (users_of network (get_or (shared_links network) place 0))) passes

module _ (network : Network) (link : ℕ) (found : SharedLink) (is : found ≡ shared_link network link) where
  pub users_are : found.users ≡ map (user_on network link) (users_of network link)
  unfolding shared_link link_with
  users_are = ap (λ s. s.users) is

  pub work_is : found.work ≡ work_on network link
  unfolding shared_link link_with work_on
  work_is = ap (λ s. s.work) is

  pub tail_is : found.tail ≡ tail_on network link
  unfolding shared_link link_with tail_on
  tail_is = ap (λ s. s.tail) is

  pub link_is : found.link ≡ link
  unfolding shared_link link_with
  link_is = ap (λ s. s.link) is

  pub users_count : length found.users ≡ length (users_of network link)
  users_count = ap length users_are ∙ length-map (users_of network link) (user_on network link)

  pub users_early : IsWellFormed network → All (IsEarly (stream_count network)) found.users
  users_early formed =
      subst (All (IsEarly (stream_count network))) (sym users_are)
      (All-map (IsEarly (stream_count network)) (user_on network link) (users_of network link)
      (λ k d below. record {
        counted = users_counted network formed link k d below;
        early = start_on-le network formed link (get_or (users_of network link) k d) (users_use network formed link k d below);
      }))

  pub head_is : (offsets : List ℕ) → head_in offsets found.users ≡ head_by network offsets link
  unfolding head_by
  head_is offsets =
      ap (head_in offsets) users_are ∙ ap least (map-map (λ (user : User). pos (slice_index offsets user.stream + user.start)) (user_on network link) (users_of network link))

  pub busy_is : (offsets : List ℕ) (busy : ℕ) (head : ℕ) → pos head ≡ head_in offsets found.users → busy ≡ head + found.work → pos busy ≡ busy_by network offsets link
  unfolding busy_by
  busy_is offsets busy head heads sums = ap pos sums ∙ (λ k. (heads ∙ head_is offsets) k +ℤ pos (work_is k))

  pub load_is : (offsets : List ℕ) (busy : ℕ) (bound : ℤ) → pos busy ≡ busy_by network offsets link → bound ≡ pos busy +ℤ found.tail → bound ≡ load_by network offsets link
  unfolding load_by
  load_is offsets busy bound busies sums = sums ∙ (λ k. busies k +ℤ tail_is k)

-- the bounds of a table's numbers
pub record IsMeasured (network : Network) (table : LinkTable) : Type 0 where
  pub several : 2 ≤ length table.users.items
  pub few : length table.users.items ≤ 2048
  pub early : All (IsEarly (stream_count network)) table.users.items
  pub short_work : table.work ≤ 2526412800
  pub low_tail : pos 0 ≤ℤ (table.tail +ℤ pos 230000000)
  pub high_tail : table.tail ≤ℤ pos 230000000

pub table_measured : (network : Network) → IsWellFormed network → (place : ℕ) (table : LinkTable) → place < length (shared_links network)
    → link_in table ≡ shared_link network (get_or (shared_links network) place 0) → IsMeasured network table
table_measured network formed place table below is =
    let link = get_or (shared_links network) place 0 in
    let some = shared_several network place below in
    let counted = users_count network link (link_in table) is in
    let work = work_is network link (link_in table) is in
    let work_short = work_on-le network formed link in
    let tail = tail_is network link (link_in table) is in
    let few_users = users_few network formed link in
    record {
      several = omega arith;
      few = omega arith;
      early = users_early network link (link_in table) is formed;
      short_work = omega arith;
      low_tail = rw tail (tail_on-low network formed link (omega arith));
      high_tail = rw tail (tail_on-high network formed link (omega arith));
    }

-- one link more isn't loaded
pub unloaded_more : (network : Network) (offsets : List ℕ) (target place busy : ℕ) (bound : ℤ) → place < length (shared_links network)
    → pos busy ≡ busy_by network offsets (get_or (shared_links network) place 0) → bound ≡ load_by network offsets (get_or (shared_links network) place 0)
    → busy ≤ network.cycle → bound <ℤ pos target
    → All (IsUnloaded network offsets target) (take place (shared_links network)) → All (IsUnloaded network offsets target) (take (place + 1) (shared_links network))
unloaded_more network offsets target place busy bound below busies loads within short before =
    All-more (IsUnloaded network offsets target) (shared_links network) place 0 below before
    (record { within_cycle = rw (sym busies) (omega (arith, ints)); below_target = rw (sym loads) short })

module _ (network : Network) (offsets : List ℕ) (link : ℕ) (table : LinkTable) (is : link_in table ≡ shared_link network link) (users : List User) (same : users ≡ table.users.items)
    (head : ℕ) (heads : pos head ≡ head_in offsets users) where
  pub table_busy : pos (head + table.work) ≡ busy_by network offsets link
  table_busy = busy_is network link (link_in table) is offsets (head + table.work) head (heads ∙ ap (head_in offsets) same) refl

  pub table_load : (bound : ℤ) → bound ≡ pos (head + table.work) +ℤ table.tail → bound ≡ load_by network offsets link
  table_load bound sums = load_is network link (link_in table) is offsets (head + table.work) bound table_busy sums
