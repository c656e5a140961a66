-- A frame that has started comes to one hop after another.
use Rattle.std.proofs.Common.{◌≡◌, ℕ, ◌+◌, ◌-◌, ◌*◌, ◌≤◌, ◌<◌, List, length, slice_set, refl, sym, ap, ◌∙◌, subst, arith, inl, inr}
use Rattle.std.proofs.lemmas.Bool.{cases_lt, cases_eq}
use Rattle.std.proofs.lemmas.List.{length-set}
use Rattle.tsn_model.specs.Network.{Network, IsWellFormed, stream_count, route_of, hop_count, Continues}
use Rattle.tsn_model.specs.Timing.{shifts}
use Rattle.tsn_model.specs.Bridge.{Passage}
use Rattle.tsn_model.proofs.Hops.{route_formed}
use Rattle.tsn_model.proofs.Branches.{continues-before}
use Rattle.tsn_replay.specs.declared.queue.Frame.{Frame}
use Rattle.tsn_replay.specs.declared.queue.Stage.TheVariants.{Queued}
use Rattle.tsn_replay.specs.Queue.{AreInLine, IsOneVisit, frame_in, passage_of}
use Rattle.tsn_replay.specs.Progress.{IsOnward, AreMoved, HasTurn, arrived, left}
use Rattle.tsn_replay.specs.Frames.{first_visit}
use Rattle.tsn_replay.proofs.Advances.{frame_set_same, frame_set_other}
use Rattle.tsn_replay.proofs.PassageStarts.{onward_cases}
use Rattle.tsn_replay.proofs.Blocks.{block_end, block_within}

-- the items once a frame has started and come to the hops below one
pub record IsHandedUpto (network : Network) (slack : ℕ) (frames : List Frame) (number time hop : ℕ) (now : List Frame) : Type 0 where
  pub count : length now ≡ length frames
  pub here : frame_in now number ≡ left (frame_in frames number)
  pub onward : (other : ℕ) → other < length frames
      → IsOnward network (passage_of (frame_in frames number)) (passage_of (frame_in frames other)) → (frame_in frames other).hop < hop
      → HasTurn network slack frames other (arrived network (frame_in frames number) time (frame_in frames other))
      (time + 1) (frame_in now other)
  pub others : (other : ℕ) → (number ≡ other → ⊥)
      → (IsOnward network (passage_of (frame_in frames number)) (passage_of (frame_in frames other))
      → (frame_in frames other).hop < hop → ⊥)
      → frame_in now other ≡ frame_in frames other

module _ (network : Network) (formed : IsWellFormed network) (slack cycles : ℕ) (frames : List Frame)
    (line : AreInLine network cycles frames)
    (distinct : (a b : ℕ) → a < length frames → b < length frames → passage_of (frame_in frames a) ≡ passage_of (frame_in frames b) → a ≡ b)
    (number time : ℕ) (below : number < length frames) (counted : (frame_in frames number).stream < stream_count network) where
  abbrev frame : Frame
  frame = frame_in frames number

  abbrev p : Passage
  p = passage_of frame

  later : (q : Passage) → IsOnward network p q → frame.hop < q.hop
  unfolding passage_of
  later q is = continues-before network (route_of network frame.stream) (route_formed network formed frame.stream counted) frame.hop q.hop
      (line.hop number below) is.inside is.continues

  pub handed_begin : IsHandedUpto network slack frames number time (frame.hop + 1) (slice_set frames number (left frame))
  unfolding passage_of
  handed_begin = record {
    count = length-set frames number (left frame);
    here = frame_set_same frames number (left frame) below;
    onward = λ other inside is low. let more = later (passage_of (frame_in frames other)) is in absurd (omega arith);
    others = λ other differ never. frame_set_other frames number other (left frame) differ;
  }

  pub handed_all : (hop : ℕ) (now : List Frame) → hop ≡ hop_count network frame.stream
      → IsHandedUpto network slack frames number time hop now → AreMoved network slack frames number time now
  unfolding passage_of
  handed_all hop now all are = record {
    count = are.count;
    here = are.here;
    onward = λ other inside is. are.onward other inside is (let low = is.inside in omega arith);
    others = λ other differ never. are.others other differ (λ is low. never is);
  }

  module _ (hop : ℕ) (now : List Frame) (are : IsHandedUpto network slack frames number time hop now) where
    pub handed_skip : (Continues network (route_of network frame.stream) frame.hop hop → ⊥)
        → IsHandedUpto network slack frames number time (hop + 1) now
    unfolding passage_of
    handed_skip apart = record {
      count = are.count;
      here = are.here;
      onward = λ other inside is low. elim (cases_lt (frame_in frames other).hop hop) [
        | inl earlier ↦ are.onward other inside is earlier
        | inr last ↦
            let same : (frame_in frames other).hop ≡ hop = omega arith in
            absurd (apart (subst (Continues network (route_of network frame.stream) frame.hop) same is.continues))
      ];
      others = λ other differ never. are.others other differ (λ is low. never is (omega arith));
    }

    module _ (inside : hop < hop_count network frame.stream)
        (continues : Continues network (route_of network frame.stream) frame.hop hop) where
      -- the number of the frame's item there
      abbrev pub other : ℕ
      other = number + (hop - frame.hop) * (length (shifts network frame.stream) * cycles)

      pub record IsThere : Type 0 where
        pub within : other < length frames
        pub is : passage_of (frame_in frames other) ≡ record p { hop = hop }
        pub onward : IsOnward network p (passage_of (frame_in frames other))
        pub on : (frame_in frames other).hop ≡ hop
        pub same : frame_in now other ≡ frame_in frames other
        pub more : frame.hop < hop

      pub there : IsThere
      unfolding passage_of
      there =
          let more : frame.hop < hop =
          continues-before network (route_of network frame.stream) (route_formed network formed frame.stream counted) frame.hop hop
          (line.hop number below) inside continues in
          let sum : frame.hop + (hop - frame.hop) ≡ hop = omega arith in
          let up = line.onward number (hop - frame.hop) below (subst (λ k. k < hop_count network frame.stream) (sym sum) inside) in
          let is = up.1 ∙ ap (λ k. record p { hop = k }) sum in
          let on : (frame_in frames other).hop ≡ hop = ap (λ (x : Passage). x.hop) is in
          record {
            within = up.0;
            is = is;
            onward = record {
              same = is ∙ ap (λ k. record p { hop = k }) (sym on);
              inside = subst (λ k. k < hop_count network frame.stream) (sym on) inside;
              continues = subst (Continues network (route_of network frame.stream) frame.hop) (sym on) continues;
            };
            on = on;
            same = are.others other (λ same. let hops = ap (λ n. (frame_in frames n).hop) same in omega arith) (λ onward low. omega arith);
            more = more;
          }

      -- what stands before it on its hop is what it was
      before_kept : (before : ℕ) → other ≡ before + 1 → IsOneVisit (frame_in frames before) (frame_in frames other)
          → frame_in now before ≡ frame_in frames before
      unfolding passage_of
      before_kept before next one =
          let at = there in
          let on = at.on in
          let more = at.more in
          are.others before (λ same. let hops = ap (λ n. (frame_in frames n).hop) same in let hop = one.1 in omega arith)
          (λ onward low. let hop = one.1 in omega arith)

      visit_kept : (before : ℕ) → IsOneVisit (frame_in now before) (frame_in frames other) → other ≡ before + 1
          → IsOneVisit (frame_in frames before) (frame_in frames other)
      unfolding passage_of
      visit_kept before one next = elim (cases_eq number before) [
        | inl same ↦
            let here = are.here in
            let stream = ap (λ (f : Frame). f.stream) here in
            let hop = ap (λ (f : Frame). f.hop) here in
            let at = ap (λ n. (frame_in now n).hop) same in
            let more = there.more in
            let on = there.on in
            let one_hop = one.1 in
            absurd (omega arith)
        | inr differ ↦ elim (cases_lt (frame_in frames before).hop hop) [
          | inl low ↦ elim (onward_cases network p (passage_of (frame_in frames before))) [
            | inl onward ↦
                let has = are.onward before (let within = there.within in omega arith) onward low in
                let its_hop = ap (λ (f : Frame). f.hop) has.is in
                let on = there.on in
                let one_hop = one.1 in
                absurd (omega arith)
            | inr never ↦ subst (λ f. IsOneVisit f (frame_in frames other)) (are.others before differ (λ onward less. never onward)) one
          ]
          | inr high ↦ subst (λ f. IsOneVisit f (frame_in frames other)) (are.others before differ (λ onward less. omega arith)) one
        ]
      ]

      -- the frames that wait there are ready before it will be
      pub handed_sooner : ((before other : ℕ) → other < length frames → other ≡ before + 1
          → IsOnward network p (passage_of (frame_in frames other))
          → IsOneVisit (frame_in frames before) (frame_in frames other) → (frame_in frames before).stage ≡ Queued
          → (frame_in frames before).ready < (arrived network frame time (frame_in frames other)).ready)
          → (before : ℕ) → other ≡ before + 1 → IsOneVisit (frame_in now before) (frame_in now other) → (frame_in now before).stage ≡ Queued
          → (frame_in now before).ready < (arrived network frame time (frame_in now other)).ready
      handed_sooner sooner before next one queued =
          let at = there in
          let old_one = visit_kept before (subst (IsOneVisit (frame_in now before)) at.same one) next in
          let kept = before_kept before next old_one in
          let order = sooner before other at.within next at.onward old_one (sym (ap (λ (f : Frame). f.stage) kept) ∙ queued) in
          let ready = ap (λ (f : Frame). f.ready) kept in
          omega arith

      module _ (come : Frame)
          (has : HasTurn network slack now other (arrived network frame time (frame_in now other)) (time + 1) come) where
        -- said of the items before the start
        has_old : HasTurn network slack frames other (arrived network frame time (frame_in frames other)) (time + 1) come
        has_old =
            let at = there in
            let given = subst (λ f. HasTurn network slack now other (arrived network frame time f) (time + 1) come) at.same has in
            record {
              is = given.is;
              turn = given.turn;
              least = given.least;
              behind = λ before next one queued.
                  let kept = before_kept before next one in
                  let order = given.behind before next
                  (subst (λ f. IsOneVisit f (arrived network frame time (frame_in frames other))) (sym kept) one)
                  (ap (λ (f : Frame). f.stage) kept ∙ queued) in
                  subst (λ (f : Frame). f.ready < come.ready) kept order;
            }

        pub handed_more : IsHandedUpto network slack frames number time (hop + 1) (slice_set now other come)
        unfolding passage_of
        handed_more =
            let at = there in
            let size = are.count in
            let within : other < length now = (let inside_old = at.within in omega arith) in
            record {
              count = length-set now other come ∙ are.count;
              here = frame_set_other now other number come
                  (λ same. let hops = ap (λ n. (frame_in frames n).hop) same in let on = at.on in let more = at.more in omega arith)
                  ∙ are.here;
              onward = λ item item_below is low. elim (cases_eq other item) [
                | inl same ↦ subst (λ n.
                    HasTurn network slack frames n (arrived network frame time (frame_in frames n)) (time + 1)
                    (frame_in (slice_set now other come) n)) same
                    (subst (HasTurn network slack frames other (arrived network frame time (frame_in frames other)) (time + 1))
                    (sym (frame_set_same now other come within)) has_old)
                | inr differ ↦ subst (HasTurn network slack frames item (arrived network frame time (frame_in frames item)) (time + 1))
                    (sym (frame_set_other now other item come differ))
                    (are.onward item item_below is (elim (cases_lt (frame_in frames item).hop hop) [
                      | inl earlier ↦ earlier
                      | inr last ↦
                          let same : (frame_in frames item).hop ≡ hop = omega arith in
                          absurd (differ (distinct other item at.within item_below
                          (at.is ∙ (ap (λ k. record p { hop = k }) (sym same) ∙ sym is.same))))
                    ]))
              ];
              others = λ item differ never. elim (cases_eq other item) [
                | inl same ↦ absurd (never (subst (λ n. IsOnward network p (passage_of (frame_in frames n))) same at.onward)
                    (let on = at.on in let there_too = ap (λ n. (frame_in frames n).hop) same in omega arith))
                | inr apart ↦ frame_set_other now other item come apart ∙ are.others item differ (λ is low. never is (omega arith))
              ];
            }

  -- ---- said of what the code reads and computes

  module _ (read : Frame) (read_is : read ≡ frame_in frames number) (count : ℕ)
      (count_is : count ≡ length (shifts network read.stream)) where
    pub read_stream : read.stream < stream_count network
    read_stream = subst (λ (f : Frame). f.stream < stream_count network) (sym read_is) counted

    pub read_hop : read.hop < hop_count network read.stream
    read_hop = subst (λ (f : Frame). f.hop < hop_count network f.stream) (sym read_is) (line.hop number below)

    pub read_hops : hop_count network read.stream ≡ hop_count network frame.stream
    read_hops = ap (λ (f : Frame). hop_count network f.stream) read_is

    count_here : count ≡ length (shifts network frame.stream)
    count_here = count_is ∙ ap (λ (f : Frame). length (shifts network f.stream)) read_is

    pub block_few : count * cycles ≤ length frames
    block_few =
        let within = block_within network formed cycles frames line frame.stream frame.hop counted (line.hop number below)
        (first_visit network frame.stream frame.hop * cycles) (first_visit network frame.stream (frame.hop + 1) * cycles) refl refl in
        let end = block_end network cycles frame.stream frame.hop in
        let same : count * cycles ≡ length (shifts network frame.stream) * cycles = ap (λ n. n * cycles) count_here in
        omega arith

    pub read_begin : IsHandedUpto network slack frames number time (read.hop + 1) (slice_set frames number (left read))
    read_begin = subst (λ (f : Frame). IsHandedUpto network slack frames number time (f.hop + 1) (slice_set frames number (left f)))
        (sym read_is) handed_begin

    module _ (hop : ℕ) (now : List Frame) (are : IsHandedUpto network slack frames number time hop now) where
      pub read_skip : (Continues network (route_of network read.stream) read.hop hop → ⊥)
          → IsHandedUpto network slack frames number time (hop + 1) now
      read_skip apart = handed_skip hop now are
          (subst (λ (f : Frame). Continues network (route_of network f.stream) f.hop hop → ⊥) read_is apart)

      module _ (inside : hop < hop_count network frame.stream)
          (continues : Continues network (route_of network read.stream) read.hop hop) where
        continues_here : Continues network (route_of network frame.stream) frame.hop hop
        continues_here = subst (λ (f : Frame). Continues network (route_of network f.stream) f.hop hop) read_is continues

        at_other : IsThere hop now are inside continues_here
        at_other = there hop now are inside continues_here

        abbrev item : ℕ
        item = number + (hop - read.hop) * (count * cycles)

        item_is : item ≡ other hop now are inside continues_here
        item_is = λ i. number + (hop - (read_is i).hop) * (count_here i * cycles)

        pub item_within : item < length now
        item_within = subst (λ n. n < length now) (sym item_is) (let within = at_other.within in let size = are.count in omega arith)

        pub item_stream : (next : Frame) → next ≡ frame_in now item → next.stream < stream_count network
        unfolding passage_of
        item_stream next next_is =
            subst (λ (f : Frame). f.stream < stream_count network) (sym (next_is ∙ (ap (frame_in now) item_is ∙ at_other.same)))
            (subst (λ (x : Passage). x.stream < stream_count network) (sym at_other.is) counted)

        pub item_sooner : ((before other : ℕ) → other < length frames → other ≡ before + 1
            → IsOnward network p (passage_of (frame_in frames other))
            → IsOneVisit (frame_in frames before) (frame_in frames other) → (frame_in frames before).stage ≡ Queued
            → (frame_in frames before).ready < (arrived network frame time (frame_in frames other)).ready)
            → (given : List Frame) → given ≡ now
            → (before : ℕ) → item ≡ before + 1 → IsOneVisit (frame_in given before) (frame_in given item)
            → (frame_in given before).stage ≡ Queued
            → (frame_in given before).ready < (arrived network read time (frame_in given item)).ready
        item_sooner sooner given given_is =
            subst (λ fs. (before : ℕ) → item ≡ before + 1 → IsOneVisit (frame_in fs before) (frame_in fs item)
            → (frame_in fs before).stage ≡ Queued
            → (frame_in fs before).ready < (arrived network read time (frame_in fs item)).ready) (sym given_is)
            (subst (λ f. (before : ℕ) → item ≡ before + 1 → IsOneVisit (frame_in now before) (frame_in now item)
            → (frame_in now before).stage ≡ Queued
            → (frame_in now before).ready < (arrived network f time (frame_in now item)).ready) (sym read_is)
            (subst (λ n. (before : ℕ) → n ≡ before + 1 → IsOneVisit (frame_in now before) (frame_in now n)
            → (frame_in now before).stage ≡ Queued
            → (frame_in now before).ready < (arrived network frame time (frame_in now n)).ready) (sym item_is)
            (handed_sooner hop now are inside continues_here sooner)))

        pub item_more : (given : List Frame) → given ≡ now → (limit : ℕ) → limit ≡ slack → (come : Frame)
            → HasTurn network limit given item (arrived network read time (frame_in given item)) (time + 1) come
            → IsHandedUpto network slack frames number time (hop + 1) (slice_set now item come)
        item_more given given_is limit limit_is come has =
            subst (λ n. IsHandedUpto network slack frames number time (hop + 1) (slice_set now n come)) (sym item_is)
            (handed_more hop now are inside continues_here come
            (subst (λ n. HasTurn network slack now n (arrived network frame time (frame_in now n)) (time + 1) come) item_is
            (subst (λ f. HasTurn network slack now item (arrived network f time (frame_in now item)) (time + 1) come) read_is
            (subst (λ n. HasTurn network n now item (arrived network read time (frame_in now item)) (time + 1) come) limit_is
            (subst (λ fs. HasTurn network limit fs item (arrived network read time (frame_in fs item)) (time + 1) come) given_is has)))))
