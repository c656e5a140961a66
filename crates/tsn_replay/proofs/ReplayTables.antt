-- The table of starts, and the rows that it gives.
use Rattle.std.proofs.Common.{◌≡◌, ℕ, ◌+◌, ◌*◌, ◌≤◌, ◌<◌, ◌↔◌, List, [], ◌∷◌, ◌++◌, map, take, drop, length, get_or, slice_set, replicate, Option, Some, None, All, Contains, refl, sym, ap, ◌∙◌, subst, arith, inl, inr, append-nil, mul-le-mul, eq-eqb, false, not}
use Rattle.std.specs.List.{flat_map, range_with_len}
use Rattle.std.proofs.lemmas.Grind.{flat_map-append}
use Rattle.std.proofs.Math.ListN.{get_or-eq_default}
use Rattle.std.proofs.lemmas.List.{map-append, take_more, take-append-drop, get_or_default, get_or-set_same, get_or-set_other, get_or-replicate, length-replicate, length-set}
use Rattle.std.proofs.lemmas.List.FromFn.{map-range_with_len_more}
use Rattle.std.proofs.lemmas.List.Elements.{All-map, All-weaker, All-contains_itself, Contains-push, Contains-push_cases, Contains-append_left}
use Rattle.tsn_model.specs.Network.{Network, IsWellFormed, stream_count, hop_count}
use Rattle.tsn_model.specs.Timing.{shifts}
use Rattle.tsn_model.specs.Bridge.{Passage, ScheduledStart, BridgeRun, IsPassage, StartedAt, StartsOnTime, planned}
use Rattle.tsn_model.proofs.Lists.{All-flat_map, All-range, All-unmap, range_more}
use Rattle.tsn_model.proofs.Hops.{passage_cases, same_cycle, cycle_below}
use Rattle.tsn_replay.specs.declared.trace.Row.{Row}
use Rattle.tsn_replay.specs.Frames.{frames_of, index_of}
use Rattle.tsn_replay.proofs.Counting.{index-below, one_index, cells-few}
use Rattle.tsn_replay.specs.Rows.{frame_passages, stream_passages, cycle_passages, passages_of, cell_of, row_of, row_passage, is_late, is_late_by, IsWidth, IsTable, IsRow, AreRows}

abbrev pub passage_at : ℕ → ℕ → ℕ → ℕ → Passage
passage_at cycle stream shift hop = record { stream = stream; shift = shift; cycle = cycle; hop = hop }

-- ---- one more of a range

pub hop_more : (f : Passage → Row) (cycle stream shift n : ℕ)
    → map f (map (passage_at cycle stream shift) (range_with_len 0 (n + 1))) ≡ map f (map (passage_at cycle stream shift) (range_with_len 0 n)) ++ f
    (passage_at cycle stream shift n) ∷ []
hop_more f cycle stream shift n =
    ap (map f) (map-range_with_len_more (passage_at cycle stream shift) 0 n n (omega arith))
    ∙ map-append f (map (passage_at cycle stream shift) (range_with_len 0 n)) (passage_at cycle stream shift n ∷ [])

pub pieces_more : (f : Passage → Row) (g : ℕ → List Passage) (n : ℕ) → map f (flat_map g (range_with_len 0 (n + 1))) ≡ map f (flat_map g (range_with_len 0 n)) ++ map f (g n)
pieces_more f g n =
    let more : range_with_len 0 (n + 1) ≡ range_with_len 0 n ++ n ∷ [] = range_more 0 n ∙ ap (λ m. range_with_len 0 n ++ m ∷ []) (omega arith) in
    let pieces : flat_map g (range_with_len 0 (n + 1)) ≡ flat_map g (range_with_len 0 n) ++ g n =
    ap (flat_map g) more ∙ (flat_map-append g (range_with_len 0 n) (n ∷ []) ∙ ap (λ ys. flat_map g (range_with_len 0 n) ++ ys) (append-nil (g n))) in
    ap (map f) pieces ∙ map-append f (flat_map g (range_with_len 0 n)) (g n)

-- ---- numbers

-- a cell stands in the room of its cycle and those before, which is small
pub record CellRoom (frame hop width frames : ℕ) : Type 0 where
  pub inside : frame * width + hop < frames * width
  pub few : frames * width ≤ 1048576 * 64

pub cell_room : (network : Network) → IsWellFormed network → (width : ℕ) → IsWidth network width → (cycle stream hop frame : ℕ) → cycle < 16
    → stream < stream_count network → hop < hop_count network stream → frame < (cycle + 1) * frames_of network
    → CellRoom frame hop width ((cycle + 1) * frames_of network)
cell_room network formed width wide cycle stream hop frame early counted below inside =
    let covered = wide.covers stream counted in
    let room = cycle_below frame ((cycle + 1) * frames_of network) width inside in
    record {
      inside = omega arith;
      few = mul-le-mul (cells-few network formed (cycle + 1) (omega arith)) wide.few;
    }

none_in : (count k : ℕ) → get_or (replicate {A = Option ℕ} count None) k None ≡ None
none_in count k = grind (arith, get_or-replicate, replicate, length-replicate, get_or-eq_default)

-- before any start it is empty
pub table_none : (network : Network) (width cycles count : ℕ) (table : List (Option ℕ)) → count ≡ cycles * frames_of network * width
    → table ≡ replicate count None → IsTable network width cycles [] table
table_none network width cycles count table size is = record {
  count = ap length is ∙ length-replicate count None ∙ size;
  has = λ passage t within. (
    λ found.
        let cell = cell_of network width passage in
        let nothing = ap (λ cells. get_or cells cell None) is ∙ none_in count cell in
        absurd (cc (found, nothing)),
    λ (k, below, same). absurd (omega arith),
  );
}

module _ (network : Network) (width : ℕ) (wide : IsWidth network width) (cycles : ℕ) where
  hop_covered : (p : Passage) → IsPassage network cycles p → p.hop < width
  hop_covered p is =
      let covered = wide.covers p.stream is.stream in
      let below = is.hop in
      omega arith

  pub cell_inside : (p : Passage) → IsPassage network cycles p → cell_of network width p < cycles * frames_of network * width
  unfolding cell_of
  cell_inside p is =
      let hop = hop_covered p is in
      let index = index-below network p.stream p.shift is.stream is.sent in
      let later = cycle_below p.cycle cycles (frames_of network) is.cycle in
      let frame = p.cycle * frames_of network + index_of network p.stream p.shift in
      let room = cycle_below frame (cycles * frames_of network) width (omega arith) in
      omega arith

  pub cell_once : (p q : Passage) → IsPassage network cycles p → IsPassage network cycles q → cell_of network width p ≡ cell_of network width q → p ≡ q
  unfolding cell_of
  cell_once p q is_p is_q same =
      let index_p = index_of network p.stream p.shift in
      let index_q = index_of network q.stream q.shift in
      let below_p : index_p < frames_of network = index-below network p.stream p.shift is_p.stream is_p.sent in
      let below_q : index_q < frames_of network = index-below network q.stream q.shift is_q.stream is_q.sent in
      let both : p.cycle * frames_of network + index_p ≡ q.cycle * frames_of network + index_q =
      same_cycle (p.cycle * frames_of network + index_p) (q.cycle * frames_of network + index_q) width p.hop q.hop (hop_covered p is_p) (hop_covered q is_q) same in
      let rooms : (p.cycle * frames_of network + index_p) * width ≡ (q.cycle * frames_of network + index_q) * width = ap (λ n. n * width) both in
      let hop : p.hop ≡ q.hop = omega arith in
      let cycle : p.cycle ≡ q.cycle = same_cycle p.cycle q.cycle (frames_of network) index_p index_q below_p below_q both in
      let product : p.cycle * frames_of network ≡ q.cycle * frames_of network = ap (λ n. n * frames_of network) cycle in
      let frame = one_index network p.stream p.shift q.stream q.shift is_p.sent is_q.sent (omega arith) in
      λ i. record { stream = frame.0 i; shift = frame.1 i; cycle = cycle i; hop = hop i }

  -- one more start
  module _ (starts : List ScheduledStart) (index : ℕ) (begun : ScheduledStart) (below : index < length starts) (is : get_or starts index begun ≡ begun)
      (passages : All (λ (b : ScheduledStart). IsPassage network cycles b.passage) starts)
      (once : (i j : ℕ) (d : ScheduledStart) → i < length starts → j < length starts → (get_or starts i d).passage ≡ (get_or starts j d).passage → (get_or starts i d).time ≡ (get_or starts j d).time)
      (table : List (Option ℕ)) (before : IsTable network width cycles (take index starts) table) where
    begun_passage : IsPassage network cycles begun.passage
    begun_passage = subst (λ (b : ScheduledStart). IsPassage network cycles b.passage) is (passages index begun below)

    more : take (index + 1) starts ≡ take index starts ++ begun ∷ []
    more = take_more starts index begun below ∙ ap (λ b. take index starts ++ b ∷ []) is

    of_all : (b : ScheduledStart) → Contains (take (index + 1) starts) b → Contains starts b
    of_all b has = subst (λ xs. Contains xs b) (take-append-drop (index + 1) starts) (Contains-append_left (take (index + 1) starts) (drop (index + 1) starts) b has)

    one_time : (t : ℕ) → Contains (take (index + 1) starts) (record { passage = begun.passage; time = t }) → t ≡ begun.time
    one_time t has =
        let at = of_all (record { passage = begun.passage; time = t }) has in
        let here : get_or starts at.0 begun ≡ record { passage = begun.passage; time = t } = get_or_default starts at.0 begun (record { passage = begun.passage; time = t }) at.1 ∙ at.2 in
        let same = once at.0 index begun at.1 below (ap (λ (b : ScheduledStart). b.passage) here ∙ sym (ap (λ (b : ScheduledStart). b.passage) is)) in
        sym (ap (λ (b : ScheduledStart). b.time) here) ∙ (same ∙ ap (λ (b : ScheduledStart). b.time) is)

    pub table_more : IsTable network width cycles (take (index + 1) starts) (slice_set table (cell_of network width begun.passage) (Some begun.time))
    table_more = record {
      count = length-set table (cell_of network width begun.passage) (Some begun.time) ∙ before.count;
      has = λ p t passage. elim (passage_cases begun.passage p) [
        | inl same ↦
            let inside = cell_inside begun.passage begun_passage in
            let read : get_or (slice_set table (cell_of network width begun.passage) (Some begun.time)) (cell_of network width begun.passage) None ≡ Some begun.time =
            get_or-set_same table (cell_of network width begun.passage) (Some begun.time) None (omega arith) in
            subst (λ q. (get_or (slice_set table (cell_of network width begun.passage) (Some begun.time)) (cell_of network width q) None ≡ Some t) ↔ Contains (take (index + 1) starts) (record { passage = q; time = t })) same (
              λ some.
                  let both : Some begun.time ≡ Some t = sym read ∙ some in
                  let time : begun.time ≡ t = cc both in
                  subst (λ n. Contains (take (index + 1) starts) (record { passage = begun.passage; time = n })) time (subst (λ xs. Contains xs begun) (sym more) (Contains-push (take index starts) begun)),
              λ has. read ∙ ap Some (sym (one_time t has)),
            )
        | inr differ ↦
            let apart : cell_of network width p ≡ cell_of network width begun.passage → ⊥ = λ same. differ (cell_once begun.passage p begun_passage passage (sym same)) in
            let read : get_or (slice_set table (cell_of network width begun.passage) (Some begun.time)) (cell_of network width p) None ≡ get_or table (cell_of network width p) None =
            get_or-set_other table (cell_of network width begun.passage) (cell_of network width p) (Some begun.time) None apart in (
              λ some. subst (λ xs. Contains xs (record { passage = p; time = t })) (sym more)
                  (Contains-append_left (take index starts) (begun ∷ []) (record { passage = p; time = t }) ((before.has p t passage).0 (sym read ∙ some))),
              λ has. read ∙ (before.has p t passage).1
                  (elim (Contains-push_cases (take index starts) begun (record { passage = p; time = t }) (subst (λ xs. Contains xs (record { passage = p; time = t })) more has)) [
                    | inl old ↦ old
                    | inr same ↦ absurd (differ (ap (λ (b : ScheduledStart). b.passage) same))
                  ]),
            )
      ];
    }

-- ---- the rows

pub once_each : (run : BridgeRun) → ((p : Passage) (s t : ℕ) → StartedAt run p s → StartedAt run p t → s ≡ t) → (i j : ℕ) (d : ScheduledStart) → i < length run.scheduled → j < length run.scheduled
    → (get_or run.scheduled i d).passage ≡ (get_or run.scheduled j d).passage → (get_or run.scheduled i d).time ≡ (get_or run.scheduled j d).time
once_each run once i j d i_below j_below same =
    let started : (k : ℕ) → k < length run.scheduled → StartedAt run (get_or run.scheduled k d).passage (get_or run.scheduled k d).time =
    λ k below. (k, below, get_or_default run.scheduled k (get_or run.scheduled k d) d below) in
    once (get_or run.scheduled i d).passage (get_or run.scheduled i d).time (get_or run.scheduled j d).time (started i i_below) (subst (λ p. StartedAt run p (get_or run.scheduled j d).time) (sym same) (started j j_below))

all_passages : (network : Network) (cycles : ℕ) → All (IsPassage network cycles) (passages_of network cycles)
all_passages network cycles =
    All-flat_map (IsPassage network cycles) (cycle_passages network) (range_with_len 0 cycles)
    (All-range (λ cycle. All (IsPassage network cycles) (cycle_passages network cycle)) cycles 0
    (λ cycle since cycle_below. All-flat_map (IsPassage network cycles) (stream_passages network cycle) (range_with_len 0 (stream_count network))
    (All-range (λ stream. All (IsPassage network cycles) (stream_passages network cycle stream)) (stream_count network) 0
    (λ stream stream_since stream_below. All-flat_map (IsPassage network cycles) (frame_passages network cycle stream) (shifts network stream)
    (All-weaker (Contains (shifts network stream)) (λ shift. All (IsPassage network cycles) (frame_passages network cycle stream shift))
    (λ shift sent. All-map (IsPassage network cycles) (passage_at cycle stream shift) (range_with_len 0 (hop_count network stream))
    (All-range (λ hop. IsPassage network cycles (passage_at cycle stream shift hop)) (hop_count network stream) 0
    (λ hop hop_since hop_below. record { stream = omega arith; sent = sent; cycle = omega arith; hop = omega arith })))
    (shifts network stream) (All-contains_itself (shifts network stream)))))))

map_back : (network : Network) (offsets : List ℕ) (width : ℕ) (table : List (Option ℕ)) (passages : List Passage) → map row_passage (map (row_of network offsets width table) passages) ≡ passages
unfolding row_of
map_back network offsets width table [] = refl
map_back network offsets width table (p ∷ passages) = ap (λ ps. p ∷ ps) (map_back network offsets width table passages)

is_row : (network : Network) (offsets : List ℕ) (cycles : ℕ) (run : BridgeRun) (width : ℕ) (table : List (Option ℕ)) → IsTable network width cycles run.scheduled table → (p : Passage) → IsPassage network cycles p → IsRow network offsets run (row_of network offsets width table p)
unfolding row_of
is_row network offsets cycles run width table is p passage = record { planned_at = refl; started = λ t. is.has p t passage }

pub are_rows : (network : Network) (offsets : List ℕ) (cycles : ℕ) (run : BridgeRun) (width : ℕ) (table : List (Option ℕ)) (rows : List Row) → IsTable network width cycles run.scheduled table → rows ≡ map (row_of network offsets width table) (passages_of network cycles)
    → AreRows network offsets cycles run rows
are_rows network offsets cycles run width table rows is same = record {
  passages = ap (map row_passage) same ∙ map_back network offsets width table (passages_of network cycles);
  right = subst (All (IsRow network offsets run)) (sym same)
      (All-map (IsRow network offsets run) (row_of network offsets width table) (passages_of network cycles)
      (All-weaker (IsPassage network cycles) (λ p. IsRow network offsets run (row_of network offsets width table p)) (is_row network offsets cycles run width table is) (passages_of network cycles) (all_passages network cycles)));
}

-- a row is of a stream that there is
pub rows_named : (network : Network) (offsets : List ℕ) (cycles : ℕ) (run : BridgeRun) (rows : List Row) (count : ℕ) → stream_count network ≡ count → AreRows network offsets cycles run rows → All (λ (row : Row). row.stream < count) rows
rows_named network offsets cycles run rows count named are =
    All-unmap (λ (p : Passage). p.stream < count) row_passage rows
    (subst (All (λ (p : Passage). p.stream < count)) (sym are.passages)
    (All-weaker (IsPassage network cycles) (λ (p : Passage). p.stream < count) (λ p is. let below = is.stream in omega arith) (passages_of network cycles) (all_passages network cycles)))

-- where each frame starts when planned no row is late
late_not : (planned time : ℕ) → time ≡ planned → is_late_by planned (Some time) ≡ false
late_not planned time same = ap not (eq-eqb time planned same)

pub rows_on_time : (network : Network) (offsets : List ℕ) (cycles : ℕ) (run : BridgeRun) (rows : List Row) → AreRows network offsets cycles run rows
    → StartsOnTime network offsets cycles run → All (λ (row : Row). is_late row ≡ false) rows
unfolding is_late
rows_on_time network offsets cycles run rows are starts k d below =
    let row = get_or rows k d in
    let passages = All-unmap (IsPassage network cycles) row_passage rows
    (subst (All (IsPassage network cycles)) (sym are.passages) (all_passages network cycles)) in
    let is = are.right k d below in
    let started = (is.started (planned network offsets (row_passage row))).1 (starts (row_passage row) (passages k d below)) in
    ap (is_late_by row.planned) started ∙ late_not row.planned (planned network offsets (row_passage row)) (sym is.planned_at)
