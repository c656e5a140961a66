-- What the entries of a link's streams show, with the chains of the least offsets.
use Rattle.std.proofs.Common.{◌≡◌, ◌≢◌, ℕ, ◌+◌, ◌<◌, List, [], ◌∷◌, map, get_or, sum_by, All, AllPairs, ℤ, pos, ◌+ℤ◌, ◌-ℤ◌, is_some, refl, sym, ap, ◌∙◌, subst, arith}
use Rattle.std.specs.List.{range_with_len}
use Rattle.std.proofs.lemmas.Int.{ints}
use Rattle.std.proofs.lemmas.List.{get_or-map, length-map}
use Rattle.std.proofs.lemmas.List.Elements.{All-head, All-tail, All-map, filter_passes}
use Rattle.std.proofs.lemmas.List.Kept.{AllPairs-filter}
use Rattle.std.proofs.lemmas.List.Sums.{sum_by-cons}
use Rattle.tsn_model.specs.declared.Decision.{Decision}
use Rattle.tsn_model.specs.declared.Frame.{Frame}
use Rattle.tsn_model.specs.Network.{Network, IsWellFormed, stream_count}
use Rattle.tsn_model.specs.Timing.{separation, Sends, arrival, hop_on, UsesLink, start_on}
use Rattle.tsn_model.specs.Schedule.{offset_of}
use Rattle.tsn_model.specs.Certificate.{Entry, AreEntries, begin_on, end_on, least, head_of, tail_of, work_of, busy_until, load_bound}
use Rattle.tsn_model.proofs.Lists.{AllPairs-range, All-unmap}
use Rattle.tsn_branch.specs.Links.{users_of, work_on, tail_on, head_by, busy_by, load_by}
use Rattle.tsn_branch.specs.Look.{first_frame, IsShownBy, ShowsLink}
use Rattle.tsn_model.specs.Arcs.{arcs_of}
use Rattle.tsn_model.proofs.Routes.{UsesLink-counted}
use Rattle.tsn_model.proofs.Shifts.{first_sent}
use Rattle.tsn_diff.specs.Offsets.{LeastOffsets, chain_of}
use Rattle.tsn_diff.specs.Answers.{Solves}
use Rattle.tsn_branch.specs.declared.loads.User.{User}
use Rattle.tsn_branch.specs.Loads.{user_on, entry_by}
use Rattle.tsn_branch.specs.Releases.{releases_of}
use Rattle.tsn_branch.proofs.Leasts.{IsShownBy-from}

users_differ : (network : Network) (link : ℕ) → AllPairs (λ i j. i ≢ j) (users_of network link)
unfolding users_of
users_differ network link =
    let rises = AllPairs-filter (λ i j. i < j) (λ i. is_some (hop_on network i link)) (range_with_len 0 (stream_count network)) (AllPairs-range (stream_count network) 0) in
    λ i j d order below same. let rise = rises i j d order below in omega arith

users_use : (network : Network) (link : ℕ) → All (λ i. UsesLink network i link) (users_of network link)
unfolding users_of
users_use network link = filter_passes (λ i. is_some (hop_on network i link)) (range_with_len 0 (stream_count network))

module _ (network : Network) (path : List Decision) (offsets : List ℕ) (link : ℕ) where
  abbrev stream_of : Entry → ℕ
  stream_of entry = entry.frame.stream

  -- what is in the way of each first frame is its stream's start
  abbrev start_of : ℕ → ℤ
  start_of i = pos (offset_of offsets i + start_on network i link)

  abbrev rest_of : ℕ → ℤ
  rest_of i = pos (arrival network i) -ℤ pos (start_on network i link + separation network i link)

  AreFirst : List Entry → Type 0
  AreFirst entries = All (λ (entry : Entry). entry.frame.shift ≡ 0) entries

  streams_are : (entries : List Entry) (streams : List ℕ) → map (λ (entry : Entry). entry.frame) entries ≡ map first_frame streams → map stream_of entries ≡ streams
  streams_are entries streams same = map-map_frames entries ∙ ap (map (λ (f : Frame). f.stream)) same ∙ streams_back streams
    where
      map-map_frames : (es : List Entry) → map stream_of es ≡ map (λ (f : Frame). f.stream) (map (λ (entry : Entry). entry.frame) es)
      map-map_frames [] = refl
      map-map_frames (e ∷ es) = ap (λ xs. stream_of e ∷ xs) (map-map_frames es)

      streams_back : (is : List ℕ) → map (λ (f : Frame). f.stream) (map first_frame is) ≡ is
      streams_back [] = refl
      streams_back (i ∷ is) = ap (λ xs. i ∷ xs) (streams_back is)

  are_first : (entries : List Entry) (streams : List ℕ) → map (λ (entry : Entry). entry.frame) entries ≡ map first_frame streams → AreFirst entries
  unfolding AreFirst
  are_first entries streams same =
      All-unmap (λ (f : Frame). f.shift ≡ 0) (λ (entry : Entry). entry.frame) entries
      (subst (All (λ (f : Frame). f.shift ≡ 0)) (sym same) (All-map (λ (f : Frame). f.shift ≡ 0) first_frame streams (λ k d below. refl)))

  pub entries_shown : (entries : List Entry) → ShowsLink network path offsets link entries → AreEntries network path link entries
  entries_shown entries shows =
      let same = streams_are entries (users_of network link) shows.frames in
      let theirs = map stream_of entries in
      let differ : AllPairs (λ i j. i ≢ j) theirs = subst (AllPairs (λ i j. i ≢ j)) (sym same) (users_differ network link) in
      let used : All (λ i. UsesLink network i link) theirs = subst (All (λ i. UsesLink network i link)) (sym same) (users_use network link) in
      let uses = All-unmap (λ i. UsesLink network i link) stream_of entries used in
      record {
        different = λ i j d order below same.
            differ i j d.frame.stream order (omega (arith, length-map entries stream_of))
            (get_or-map stream_of entries i d d.frame.stream (omega arith) ∙ ap (λ (f : Frame). f.stream) same ∙ sym (get_or-map stream_of entries j d d.frame.stream below));
        on_link = λ k d below. record { sent = shows.sent k d below; uses = uses k d below };
        chains = λ k d below. (shows.chains k d below).leads;
      }

  heads : (entries : List Entry) → AreFirst entries → All (λ entry. IsShownBy network path offsets entry.frame.stream entry.chain) entries
      → map (head_of network path link) entries ≡ map start_of (map stream_of entries)
  unfolding head_of begin_on AreFirst
  heads [] first shown = refl
  heads (entry ∷ entries) first shown =
      let here_first = All-head (λ (e : Entry). e.frame.shift ≡ 0) entry entries first in
      let sum = (All-head (λ (e : Entry). IsShownBy network path offsets e.frame.stream e.chain) entry entries shown).sum in
      let rest = heads entries (All-tail (λ (e : Entry). e.frame.shift ≡ 0) entry entries first) (All-tail (λ (e : Entry). IsShownBy network path offsets e.frame.stream e.chain) entry entries shown) in
      let here : head_of network path link entry ≡ start_of (stream_of entry) = omega (arith, ints, sum, here_first) in
      λ k. here k ∷ rest k

  works : (entries : List Entry) → work_of network link entries ≡ sum_by (λ i. separation network i link) (map stream_of entries)
  unfolding work_of
  works [] = refl
  works (entry ∷ entries) =
      let rest = works entries in
      sum_by-cons (λ (e : Entry). separation network e.frame.stream link) entry entries ∙ ap (λ n. separation network entry.frame.stream link + n) rest
      ∙ sym (sum_by-cons (λ i. separation network i link) entry.frame.stream (map stream_of entries))

  tails : (entries : List Entry) → AreFirst entries → map (tail_of network link) entries ≡ map rest_of (map stream_of entries)
  unfolding tail_of end_on begin_on AreFirst
  tails [] first = refl
  tails (entry ∷ entries) first =
      let here_first = All-head (λ (e : Entry). e.frame.shift ≡ 0) entry entries first in
      let here : tail_of network link entry ≡ rest_of (stream_of entry) = omega (arith, ints, here_first) in
      let rest = tails entries (All-tail (λ (e : Entry). e.frame.shift ≡ 0) entry entries first) in
      λ k. here k ∷ rest k

  pub busy_shown : (entries : List Entry) → ShowsLink network path offsets link entries → busy_until network path link entries ≡ busy_by network offsets link
  unfolding busy_until busy_by head_by work_on
  busy_shown entries shows =
      let same = streams_are entries (users_of network link) shows.frames in
      let head = ap least (heads entries (are_first entries (users_of network link) shows.frames) shows.chains ∙ ap (map start_of) same) in
      let work = works entries ∙ ap (sum_by (λ i. separation network i link)) same in
      λ k. head k +ℤ pos (work k)

  pub load_shown : (entries : List Entry) → ShowsLink network path offsets link entries → load_bound network path link entries ≡ load_by network offsets link
  unfolding load_bound load_by tail_on
  load_shown entries shows =
      let same = streams_are entries (users_of network link) shows.frames in
      let tail = ap least (tails entries (are_first entries (users_of network link) shows.frames) ∙ ap (map rest_of) same) in
      λ k. busy_shown entries shows k +ℤ tail k

-- the streams of a link with the chains of the least offsets show it
module _ (network : Network) (path : List Decision) (lowest : LeastOffsets) (solves : Solves (releases_of network) (arcs_of network path) lowest) (link : ℕ) where
  frames_back : (streams : List ℕ) → map (λ (entry : Entry). entry.frame) (map (entry_by lowest) (map (user_on network link) streams)) ≡ map first_frame streams
  frames_back [] = refl
  frames_back (i ∷ streams) = ap (λ is. first_frame i ∷ is) (frames_back streams)

  -- streams that use the link, each with the chain of its least offset
  chains_back : (streams : List ℕ) → All (λ i. UsesLink network i link) streams
      → All (λ (entry : Entry). IsShownBy network path lowest.offsets entry.frame.stream entry.chain) (map (entry_by lowest) (map (user_on network link) streams))
  chains_back streams used =
      All-map (λ (entry : Entry). IsShownBy network path lowest.offsets entry.frame.stream entry.chain) (entry_by lowest) (map (user_on network link) streams)
      (All-map (λ (user : User). IsShownBy network path lowest.offsets user.stream (chain_of lowest user.stream)) (user_on network link) streams
      (λ k d below. IsShownBy-from network path lowest solves (get_or streams k d) (UsesLink-counted network (get_or streams k d) link (used k d below))))

  sent_back : IsWellFormed network → (streams : List ℕ) → All (λ i. UsesLink network i link) streams
      → All (λ (entry : Entry). Sends network entry.frame.stream entry.frame.shift) (map (entry_by lowest) (map (user_on network link) streams))
  sent_back formed streams used =
      All-map (λ (entry : Entry). Sends network entry.frame.stream entry.frame.shift) (entry_by lowest) (map (user_on network link) streams)
      (All-map (λ (user : User). Sends network user.stream 0) (user_on network link) streams
      (λ k d below. first_sent network (get_or streams k d) formed (UsesLink-counted network (get_or streams k d) link (used k d below))))

  pub shown_by : IsWellFormed network → (found : ℕ) (users : List User) (entries : List Entry) → found ≡ link → users ≡ map (user_on network link) (users_of network link) → entries ≡ map (entry_by lowest) users
      → ShowsLink network path lowest.offsets found entries
  shown_by formed found users entries same all are =
      let whole : entries ≡ map (entry_by lowest) (map (user_on network link) (users_of network link)) = are ∙ ap (map (entry_by lowest)) all in
      let shows : ShowsLink network path lowest.offsets link entries = record {
        frames = ap (map (λ (entry : Entry). entry.frame)) whole ∙ frames_back (users_of network link);
        sent =
            subst (All (λ (entry : Entry). Sends network entry.frame.stream entry.frame.shift)) (sym whole)
            (sent_back formed (users_of network link) (users_use network link));
        chains =
            subst (All (λ (entry : Entry). IsShownBy network path lowest.offsets entry.frame.stream entry.chain)) (sym whole)
            (chains_back (users_of network link) (users_use network link));
      } in
      subst (λ l. ShowsLink network path lowest.offsets l entries) (sym same) shows
