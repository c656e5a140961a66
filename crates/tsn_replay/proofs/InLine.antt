-- A start keeps the items of each stream's hop in line.
use Rattle.std.proofs.Common.{◌≡◌, ℕ, ◌+◌, ◌*◌, ◌-◌, ◌≤◌, ◌<◌, ◌⊎◌, List, length, map, Some, refl, sym, ap, ◌∙◌, subst, arith, inl, inr}
use Rattle.std.proofs.lemmas.Bool.{cases_eq}
use Rattle.std.proofs.lemmas.List.Elements.{All-contains, Contains-append_left}
use Rattle.tsn_model.specs.Network.{Network, IsWellFormed, route_of, hop_count, route_link, Continues}
use Rattle.tsn_model.specs.Timing.{hop_delay, shifts}
use Rattle.tsn_model.specs.Bridge.{LinkGates, Passage, BridgeRun, link_of, length_of, scheduled_use, background_use, wire_uses, IsPassage, StartedAt, IsReady}
use Rattle.tsn_model.proofs.Limits.{occupancy-ge}
use Rattle.tsn_model.proofs.Lists.{Contains-map}
use Rattle.tsn_model.proofs.Hops.{link_exists, route_formed}
use Rattle.tsn_model.proofs.Branches.{continued_once, sent_alone}
use Rattle.tsn_replay.specs.declared.queue.Frame.{Frame}
use Rattle.tsn_replay.specs.declared.queue.Stage.TheVariants.{Coming, Queued, Gone}
use Rattle.tsn_replay.specs.Queue.{IsHead, AreInLine, IsOneVisit, frame_in, passage_of}
use Rattle.tsn_replay.specs.Progress.{Turn, Plan, IsRunSoFar, IsTracked, IsOnward, AreMoved, arrived}
use Rattle.tsn_replay.specs.Frames.{first_visit}
use Rattle.tsn_replay.proofs.PassageStarts.{not_onward, never_onward, onward_later}
use Rattle.tsn_replay.proofs.Blocks.{between}
use Rattle.tsn_replay.proofs.Stages.{stage_cases}
use Rattle.tsn_replay.proofs.Moved.{moved_cases, gone_stage, come_stage, same_passage, kept_visit}

-- ---- a start

module _ (network : Network) (formed : IsWellFormed network) (plan : Plan) (gates : List LinkGates) (cycles : ℕ) (free : ℕ → ℕ) (now : ℕ)
    (run : BridgeRun) (so_far : IsRunSoFar network plan gates cycles free now run) where
  -- a passage is ready once it has started on the hop that its own continues
  ready_after : (q : Passage) (before s : ℕ) → Continues network (route_of network q.stream) before q.hop
      → StartedAt run (record q { hop = before }) s
      → (due : ℕ) × IsReady network plan.offsets run q due
  ready_after q before s next at = (s + hop_delay network q.stream (route_link network q.stream before), inr (before, s, next, at, refl))

  -- a passage that started did so before its wire is free
  begun_before : (p : Passage) (s : ℕ) → IsPassage network cycles p → StartedAt run p s → s < free (link_of network p)
  unfolding wire_uses scheduled_use length_of link_of
  begun_before p s passage at =
      let held = Contains-append_left (map (scheduled_use network) run.scheduled) (map (background_use network) run.background)
      (scheduled_use network (record { passage = p; time = s }))
      (Contains-map (scheduled_use network) run.scheduled (record { passage = p; time = s }) at) in
      let until : s + length_of network p ≤ free (link_of network p) = grind (arith, All-contains) in
      let some = occupancy-ge network formed p.stream (route_link network p.stream p.hop)
      (link_exists network formed p.stream passage.stream p.hop passage.hop) in
      omega arith

  module _ (frames : List Frame) (tracked : IsTracked network plan cycles run frames) (line : AreInLine network cycles frames)
      (link number time : ℕ)
      (head : IsHead network frames link (Some number)) (wire : free link ≤ time) where
    abbrev p : Passage
    p = passage_of (frame_in frames number)

    p_passage : IsPassage network cycles p
    p_passage = (tracked.each number head.0).passage

    unstarted : (s : ℕ) → StartedAt run p s → ⊥
    unstarted s at = let waits = head.1.waits in (tracked.each number head.0).unstarted (λ gone. cc) s at

    abbrev IsCome : ℕ → Type 0
    IsCome other = IsOnward network p (passage_of (frame_in frames other))

    -- what the frame comes to was still to come
    pub come_coming : (other : ℕ) → other < length frames → IsCome other → (frame_in frames other).stage ≡ Coming
    come_coming other below is =
        let frame = tracked.each other below in
        elim (stage_cases (frame_in frames other).stage) [
          | inl coming ↦ coming
          | inr not_coming ↦ elim not_coming [
            | inl queued ↦
                let due = frame.ready queued in
                absurd (not_onward network formed plan gates cycles free now run so_far p p_passage unstarted
                (passage_of (frame_in frames other)) due.0 is due.1)
            | inr gone ↦
                let begun = frame.gone gone in
                absurd (never_onward network formed plan gates cycles free now run so_far p p_passage unstarted
                (passage_of (frame_in frames other)) begun.0 is begun.1)
          ]
        ]

    -- what is before the head on its hop is gone
    earlier_gone : (a : ℕ) → a < number → IsOneVisit (frame_in frames a) (frame_in frames number) → (frame_in frames a).stage ≡ Gone
    earlier_gone a less one =
        let whole = head.0 in
        let waits = head.1.waits in
        elim (stage_cases (frame_in frames a).stage) [
          | inl coming ↦ let late = line.coming a number less whole one coming in absurd cc
          | inr not_coming ↦ elim not_coming [
            | inl queued ↦
                let sooner = line.readies a number less whole one queued waits in
                elim (head.2 a (omega arith) (record { waits = queued; on = (λ i. route_link network (one.0 i) (one.1 i)) ∙ head.1.on })) [
                  | inl order ↦ absurd (omega arith)
                  | inr order ↦ let same = order.0 in absurd (omega arith)
                ]
            | inr gone ↦ gone
          ]
        ]

    -- the item of the same frame on the head's hop
    record IsAbove (a lower : ℕ) : Type 0 where
      below : lower < length frames
      is : passage_of (frame_in frames lower) ≡ record (passage_of (frame_in frames a)) { hop = p.hop }
      apart : lower + ((frame_in frames a).hop - p.hop) * (length (shifts network p.stream) * cycles) ≡ a

    above : (a : ℕ) → a < length frames → (frame_in frames a).stream ≡ p.stream → p.hop < (frame_in frames a).hop
        → (lower : ℕ) × IsAbove a lower
    unfolding passage_of
    above a below stream later =
        let frame = frame_in frames a in
        let passage = (tracked.each a below).passage in
        let hop_is = passage.hop in
        let at = tracked.complete (record (passage_of frame) { hop = p.hop })
        (record { stream = passage.stream; sent = passage.sent; cycle = passage.cycle; hop = omega arith }) in
        let more = frame.hop - p.hop in
        let its_hop : (frame_in frames at.0).hop ≡ p.hop = ap (λ (x : Passage). x.hop) at.2 in
        let its_stream : (frame_in frames at.0).stream ≡ frame.stream = ap (λ (x : Passage). x.stream) at.2 in
        let sum : (frame_in frames at.0).hop + more ≡ frame.hop = omega arith in
        let up = line.onward at.0 more at.1
        (subst (λ i. (frame_in frames at.0).hop + more < hop_count network i) (sym its_stream) (omega arith)) in
        let same : passage_of
        (frame_in frames (at.0 + more * (length (shifts network (frame_in frames at.0).stream) * cycles))) ≡ passage_of frame =
        up.1 ∙ (λ i. record { stream = (at.2 i).stream; shift = (at.2 i).shift; cycle = (at.2 i).cycle; hop = sum i }) in
        let number_is = tracked.distinct
        (at.0 + more * (length (shifts network (frame_in frames at.0).stream) * cycles)) a up.0 below same in (
          at.0,
          record {
            below = at.1;
            is = at.2;
            apart = ap (λ n. at.0 + more * (length (shifts network n) * cycles)) (sym (its_stream ∙ stream)) ∙ number_is;
          },
        )

    -- so what is before that on its hop isn't still to come
    not_coming : (a other : ℕ) → a < other → other < length frames → IsCome other → IsOneVisit (frame_in frames a) (frame_in frames other)
        → (frame_in frames a).stage ≡ Coming → ⊥
    unfolding passage_of
    not_coming a other less below is one coming =
        let later : p.hop < (frame_in frames other).hop =
        onward_later network formed plan gates cycles free now run so_far p p_passage unstarted (passage_of (frame_in frames other)) is in
        let other_stream : (frame_in frames other).stream ≡ p.stream = ap (λ (x : Passage). x.stream) is.same in
        let stream : (frame_in frames a).stream ≡ p.stream = one.0 ∙ other_stream in
        let hop : (frame_in frames a).hop ≡ (frame_in frames other).hop = one.1 in
        let low = above a (omega arith) stream (omega arith) in
        let low_other = above other below other_stream later in
        let number_is : low_other.0 ≡ number = tracked.distinct low_other.0 number low_other.1.below head.0
        (low_other.1.is ∙ (λ i.
        record { stream = (is.same i).stream; shift = (is.same i).shift; cycle = (is.same i).cycle; hop = p.hop })) in
        let gap : ((frame_in frames a).hop - p.hop) * (length (shifts network p.stream) * cycles)
        ≡ ((frame_in frames other).hop - p.hop) * (length (shifts network p.stream) * cycles) =
        ap (λ k. (k - p.hop) * (length (shifts network p.stream) * cycles)) hop in
        let at = low.1.apart in
        let other_at = low_other.1.apart in
        let gone = earlier_gone low.0 (omega arith)
        (ap (λ (x : Passage). x.stream) low.1.is ∙ stream, ap (λ (x : Passage). x.hop) low.1.is) in
        let begun = (tracked.each low.0 low.1.below).gone gone in
        let continues : Continues network (route_of network (frame_in frames a).stream) p.hop (frame_in frames a).hop =
        subst (Continues network (route_of network (frame_in frames a).stream) p.hop) (sym hop)
        (subst (λ i. Continues network (route_of network i) p.hop (frame_in frames other).hop) (sym stream) is.continues) in
        let ready = ready_after (passage_of (frame_in frames a)) p.hop begun.0 continues
        (subst (λ x. StartedAt run x begun.0) low.1.is begun.1) in
        (tracked.each a (omega arith)).coming coming ready.0 ready.1

    -- a frame that waits before that on its hop has been ready since before this one will be
    sooner : (q : Passage) (due : ℕ) → IsPassage network cycles q → q.stream ≡ p.stream
        → Continues network (route_of network q.stream) p.hop q.hop
        → IsReady network plan.offsets run q due → due < time + hop_delay network p.stream (route_link network p.stream p.hop)
    unfolding passage_of link_of
    sooner q due passage stream continues (inl (first, at)) =
        absurd (sent_alone network (route_of network q.stream) (route_formed network formed q.stream passage.stream) p.hop q.hop
        (subst (λ i. p.hop < hop_count network i) (sym stream) p_passage.hop) continues first)
    sooner q due passage stream continues (inr (before, s, next, at, after)) =
        let begun = All-contains (λ begun. IsPassage network cycles begun.passage) run.scheduled
        (record { passage = record q { hop = before }; time = s }) so_far.passages at in
        let same : before ≡ p.hop =
        continued_once network (route_of network q.stream)
        (route_formed network formed q.stream passage.stream) before p.hop q.hop begun.hop
        (subst (λ i. p.hop < hop_count network i) (sym stream) p_passage.hop) passage.hop next continues in
        let early = begun_before (record q { hop = before }) s begun at in
        let here : route_link network q.stream before ≡ route_link network p.stream p.hop = λ i. route_link network (stream i) (same i) in
        let upto : free (route_link network q.stream before) ≤ time = subst (λ l. free l ≤ time) (sym (here ∙ head.1.on)) wire in
        let delay : hop_delay network q.stream (route_link network q.stream before) ≡ hop_delay network p.stream
        (route_link network p.stream p.hop) =
        λ i. hop_delay network (stream i) (here i) in
        omega arith

    pub sooner_ready : (a other : ℕ) → a < length frames → other < length frames → IsCome other
        → IsOneVisit (frame_in frames a) (frame_in frames other)
        → (frame_in frames a).stage ≡ Queued
        → (frame_in frames a).ready < (arrived network (frame_in frames number) time (frame_in frames other)).ready
    unfolding passage_of
    sooner_ready a other below other_below is one queued =
        let frame = tracked.each a below in
        let due = frame.ready queued in
        let turn = frame.turn queued in
        let upto = (so_far.turns (passage_of (frame_in frames a)) due.0 frame.passage due.1).upto in
        let ready : (frame_in frames a).ready ≤ due.0 = subst (λ (x : Turn). x.ready ≤ due.0) turn upto in
        let stream : (frame_in frames a).stream ≡ p.stream = one.0 ∙ ap (λ (x : Passage). x.stream) is.same in
        let continues : Continues network (route_of network (frame_in frames a).stream) p.hop (frame_in frames a).hop =
        subst (Continues network (route_of network (frame_in frames a).stream) p.hop) (sym one.1)
        (subst (λ i. Continues network (route_of network i) p.hop (frame_in frames other).hop) (sym stream) is.continues) in
        let late = sooner (passage_of (frame_in frames a)) due.0 frame.passage stream continues due.1 in
        omega arith

    -- the items after the start
    module _ (moved : List Frame) (are : AreMoved network plan.slack frames number time moved) where
      cases : (other : ℕ) → (number ≡ other) ⊎ IsCome other ⊎ (frame_in moved other ≡ frame_in frames other)
      cases = moved_cases network plan.slack frames number time moved are

      same_stage : (other : ℕ) → frame_in moved other ≡ frame_in frames other → (frame_in moved other).stage ≡ (frame_in frames other).stage
      same_stage other same = ap (λ (f : Frame). f.stage) same

      -- what comes before is gone, where this one is
      gone_kept : (a b : ℕ) → a < b → b < length frames → IsOneVisit (frame_in frames a) (frame_in frames b)
          → (frame_in moved b).stage ≡ Gone → (frame_in moved a).stage ≡ Gone
      gone_kept a b less below one gone =
          let before : (frame_in frames a).stage ≡ Gone = elim (cases b) [
            | inl same ↦ earlier_gone a (omega arith) (subst (λ n. IsOneVisit (frame_in frames a) (frame_in frames n)) (sym same) one)
            | inr not_here ↦ elim not_here [
              | inl is ↦ let queued = come_stage network plan.slack frames number time moved are b below is in absurd cc
              | inr kept ↦ line.gone a b less below one (sym (same_stage b kept) ∙ gone)
            ]
          ] in
          elim (cases a) [
            | inl same ↦ gone_stage network plan.slack frames number time moved are a same
            | inr not_here ↦ elim not_here [
              | inl is ↦ let coming = come_coming a (omega arith) is in absurd cc
              | inr kept ↦ same_stage a kept ∙ before
            ]
          ]

      coming_kept : (a b : ℕ) → a < b → b < length frames → IsOneVisit (frame_in frames a) (frame_in frames b)
          → (frame_in moved a).stage ≡ Coming → (frame_in moved b).stage ≡ Coming
      coming_kept a b less below one coming =
          let before : (frame_in frames a).stage ≡ Coming = elim (cases a) [
            | inl same ↦ let gone = gone_stage network plan.slack frames number time moved are a same in absurd cc
            | inr not_here ↦ elim not_here [
              | inl is ↦ let queued = come_stage network plan.slack frames number time moved are a (omega arith) is in absurd cc
              | inr kept ↦ sym (same_stage a kept) ∙ coming
            ]
          ] in
          let after = line.coming a b less below one before in
          elim (cases b) [
            | inl same ↦
                let waits = head.1.waits in
                let at = ap (λ n. (frame_in frames n).stage) same in
                absurd cc
            | inr not_here ↦ elim not_here [
              | inl is ↦ absurd (not_coming a b less below is one before)
              | inr kept ↦ same_stage b kept ∙ after
            ]
          ]

      -- the frames that wait where the frame comes to are ready before it
      behind_all : (a b : ℕ) → a < b → b < length frames → IsCome b → IsOneVisit (frame_in frames a) (frame_in frames b)
          → (frame_in frames a).stage ≡ Queued → (frame_in frames a).ready < (frame_in moved b).ready
      behind_all a b less below is one queued =
          let last = b - 1 in
          let next : b ≡ last + 1 = omega arith in
          let has = are.onward b below is in
          elim (cases_eq a last) [
            | inl same ↦ has.behind a (omega arith) one queued
            | inr differ ↦
                let before : a < last = omega arith in
                let last_one : IsOneVisit (frame_in frames last) (frame_in frames b) =
                between network cycles frames line a last b before (omega arith) below one in
                let a_last : IsOneVisit (frame_in frames a) (frame_in frames last) = (one.0 ∙ sym last_one.0, one.1 ∙ sym last_one.1) in
                let last_queued : (frame_in frames last).stage ≡ Queued = elim (stage_cases (frame_in frames last).stage) [
                  | inl coming ↦ absurd (not_coming last b (omega arith) below is last_one coming)
                  | inr not_coming ↦ elim not_coming [
                    | inl waits ↦ waits
                    | inr gone ↦ let first_gone = line.gone a last before (omega arith) a_last gone in absurd cc
                  ]
                ] in
                let one_less = line.readies a last before (omega arith) a_last queued last_queued in
                let two_less = has.behind last next last_one last_queued in
                omega arith
          ]

      readies_kept : (a b : ℕ) → a < b → b < length frames → IsOneVisit (frame_in frames a) (frame_in frames b)
          → (frame_in moved a).stage ≡ Queued → (frame_in moved b).stage ≡ Queued
          → (frame_in moved a).ready < (frame_in moved b).ready
      readies_kept a b less below one a_queued b_queued = elim (cases a) [
        | inl same ↦ let gone = gone_stage network plan.slack frames number time moved are a same in absurd cc
        | inr not_here ↦ elim not_here [
          | inl is ↦
              let coming = line.coming a b less below one (come_coming a (omega arith) is) in
              elim (cases b) [
                | inl same ↦ let gone = gone_stage network plan.slack frames number time moved are b same in absurd cc
                | inr b_not_here ↦ elim b_not_here [
                  | inl b_is ↦ absurd (not_coming a b less below b_is one (come_coming a (omega arith) is))
                  | inr kept ↦ let stage = same_stage b kept in absurd cc
                ]
              ]
          | inr kept ↦
              let stage = same_stage a kept in
              let queued : (frame_in frames a).stage ≡ Queued = sym stage ∙ a_queued in
              let a_ready = ap (λ (f : Frame). f.ready) kept in
              elim (cases b) [
                | inl same ↦ let gone = gone_stage network plan.slack frames number time moved are b same in absurd cc
                | inr b_not_here ↦ elim b_not_here [
                  | inl b_is ↦ let order = behind_all a b less below b_is one queued in omega arith
                  | inr b_kept ↦
                      let b_stage : (frame_in frames b).stage ≡ Queued = sym (same_stage b b_kept) ∙ b_queued in
                      let order = line.readies a b less below one queued b_stage in
                      let b_ready = ap (λ (f : Frame). f.ready) b_kept in
                      omega arith
                ]
              ]
        ]
      ]

      abbrev visits_kept : (a b : ℕ) → a < length frames → b < length frames → IsOneVisit (frame_in moved a) (frame_in moved b)
          → IsOneVisit (frame_in frames a) (frame_in frames b)
      visits_kept = kept_visit network plan.slack frames number time moved are

      same_passage_at : (n : ℕ) → n < length frames → passage_of (frame_in frames n) ≡ passage_of (frame_in moved n)
      same_passage_at n below = sym (same_passage network plan.slack frames number time moved are n below)

      pub line_kept : AreInLine network cycles moved
      unfolding passage_of
      line_kept =
          let size = are.count in
          record {
            count = are.count ∙ line.count;
            hop = λ n below. subst (λ (x : Passage). x.hop < hop_count network x.stream) (same_passage_at n (omega arith))
                (line.hop n (omega arith));
            place = λ n below. subst (λ (x : Passage). (first_visit network x.stream x.hop * cycles ≤ n)
                × (n < first_visit network x.stream (x.hop + 1) * cycles))
                (same_passage_at n (omega arith)) (line.place n (omega arith));
            onward = λ n more below inside.
                let old_below : n < length frames = omega arith in
                let is = same_passage_at n old_below in
                let old_inside = subst (λ (x : Passage). x.hop + more < hop_count network x.stream) (sym is) inside in
                let up = line.onward n more old_below old_inside in
                let far = up.0 in
                let there : n + more * (length (shifts network (frame_in moved n).stream) * cycles)
                ≡ n + more * (length (shifts network (frame_in frames n).stream) * cycles) =
                ap (λ (x : Passage). n + more * (length (shifts network x.stream) * cycles)) (sym is) in (
                  omega arith,
                  ap (λ m. passage_of (frame_in moved m)) there
                      ∙ (sym (same_passage_at (n + more * (length (shifts network (frame_in frames n).stream) * cycles)) far)
                      ∙ (up.1 ∙ ap (λ (x : Passage). record x { hop = x.hop + more }) is)),
                );
            gone = λ a b less below one. gone_kept a b less (omega arith) (visits_kept a b (omega arith) (omega arith) one);
            coming = λ a b less below one. coming_kept a b less (omega arith) (visits_kept a b (omega arith) (omega arith) one);
            readies = λ a b less below one. readies_kept a b less (omega arith) (visits_kept a b (omega arith) (omega arith) one);
          }
