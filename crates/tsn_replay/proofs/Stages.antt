-- The stages of items, and the search for the first item of a hop that is queued.
use Rattle.std.proofs.Common.{rules, ◌≡◌, ℕ, ◌+◌, ◌-◌, ◌≤◌, ◌<◌, ◌⊎◌, Bool, true, false, List, length, get_or, Some, None, refl, sym, ap, ◌∙◌, subst, arith, inl, inr}
use Rattle.std.specs.List as lists
use Rattle.std.specs.List.Sorted.{IsPartitionedBy, IsPartitionPoint}
use Rattle.std.proofs.lemmas.Bool.{cases_eq, cases_order}
use Rattle.std.proofs.lemmas.List.{get_or_default}
use Rattle.std.proofs.lemmas.List.Edits.{length-between, get_or-between}
use denote.Enum.Bare.{sameb, same_true, same_false, true_same}
use Rattle.tsn_replay.specs.contracts.queue.Stage.{the_type}
use Rattle.tsn_replay.specs.declared.queue.Frame.{Frame}
use Rattle.tsn_replay.specs.declared.queue.Stage.{Stage}
use Rattle.tsn_replay.specs.declared.queue.Stage.TheVariants.{Coming, Queued, Gone}
use Rattle.tsn_replay.specs.Queue.{IsFirstWaiting, frame_in}

pub stage_cases : (stage : Stage) → (stage ≡ Coming) ⊎ (stage ≡ Queued) ⊎ (stage ≡ Gone)
stage_cases Coming = inl refl
stage_cases Queued = inr (inl refl)
stage_cases Gone = inr (inr refl)

-- what the test of two stages tells
pub stages_same : (a b : Stage) → sameb the_type a b ≡ true → a ≡ b
stages_same a b same = same_true the_type (search rules) a b same

pub stages_differ : (a b : Stage) → sameb the_type a b ≡ false → a ≡ b → ⊥
stages_differ a b differ = same_false the_type a b differ

abbrev pub is_gone : Frame → Bool
is_gone frame = sameb the_type frame.stage Gone

module _ (frames : List Frame) (from to : ℕ) (within : to ≤ length frames)
    (gone : (a b : ℕ) → from ≤ a → a < b → b < to → (frame_in frames b).stage ≡ Gone → (frame_in frames a).stage ≡ Gone)
    (coming : (a b : ℕ) → from ≤ a → a < b → b < to → (frame_in frames a).stage ≡ Coming → (frame_in frames b).stage ≡ Coming) where
  read_between : (k : ℕ) (d : Frame) → from + k < to → get_or (lists.between from to frames) k d ≡ frame_in frames (from + k)
  unfolding frame_in
  read_between k d below = get_or-between frames from to k d below ∙ get_or_default frames (from + k) d
      (record { stream = 0; hop = 0; shift = 0; cycle = 0; stage = Coming; ready = 0; rank = 0 }) (omega arith)

  -- those that are gone come first
  pub gone_parted : IsPartitionedBy is_gone (lists.between from to frames)
  gone_parted i j d order below later =
      let size = length-between frames from to within in
      let at_i = read_between i d (omega arith) in
      let at_j = read_between j d (omega arith) in
      let j_gone : (frame_in frames (from + j)).stage ≡ Gone =
      sym (ap (λ (f : Frame). f.stage) at_j) ∙ stages_same (get_or (lists.between from to frames) j d).stage Gone later in
      elim (cases_eq i j) [
        | inl same ↦ subst (λ k. is_gone (get_or (lists.between from to frames) k d) ≡ true) (sym same) later
        | inr differ ↦
            true_same the_type (get_or (lists.between from to frames) i d).stage Gone
            (ap (λ (f : Frame). f.stage) at_i ∙ gone (from + i) (from + j) (omega arith) (omega arith) (omega arith) j_gone)
      ]

  -- what the search says of the items by number
  pub record IsEnd (point : ℕ) : Type 0 where
    pub passed : (number : ℕ) → from ≤ number → number < from + point → (frame_in frames number).stage ≡ Gone
    pub stops : from + point < to → (frame_in frames (from + point)).stage ≡ Gone → ⊥

  pub end_found : (point : ℕ) → point ≤ length (lists.between from to frames)
      → IsPartitionPoint (λ (f : Frame). is_gone f ≡ true) (λ (f : Frame). is_gone f ≡ false) (lists.between from to frames) point
      → IsEnd point
  end_found point bound parts =
      let size = length-between frames from to within in
      let none : Frame = record { stream = 0; hop = 0; shift = 0; cycle = 0; stage = Coming; ready = 0; rank = 0 } in
      record {
        passed = λ number since upto.
            let place : from + (number - from) ≡ number = omega arith in
            let at = read_between (number - from) none (omega arith) in
            let is = parts.0 (number - from) none (omega arith) (omega arith) in
            ap (λ n. (frame_in frames n).stage) (sym place)
            ∙ (sym (ap (λ (f : Frame). f.stage) at)
            ∙ stages_same (get_or (lists.between from to frames) (number - from) none).stage Gone is);
        stops = λ below is_last.
            let at = read_between point none below in
            let is = parts.1 point none (omega arith) (omega arith) in
            stages_differ (get_or (lists.between from to frames) point none).stage Gone is (ap (λ (f : Frame). f.stage) at ∙ is_last);
      }

  pub found_queued : (point : ℕ) → IsEnd point → from + point < to → (frame_in frames (from + point)).stage ≡ Queued
      → IsFirstWaiting frames from to (Some (from + point))
  found_queued point end below at =
      (omega arith, below, at, λ number since upto queued. let passed = end.passed number since upto in absurd cc)

  pub none_queued : (point : ℕ) → IsEnd point → (to ≤ from + point) ⊎ ((frame_in frames (from + point)).stage ≡ Queued → ⊥)
      → IsFirstWaiting frames from to None
  none_queued point end (inl past) number since upto queued = let passed = end.passed number since (omega arith) in absurd cc
  none_queued point end (inr not_queued) number since upto queued = elim (cases_order number (from + point)) [
    | inl same ↦ not_queued (ap (λ n. (frame_in frames n).stage) (sym same) ∙ queued)
    | inr differ ↦ elim differ [
      | inl less ↦ let passed = end.passed number since less in absurd cc
      | inr more ↦ elim (stage_cases (frame_in frames (from + point)).stage) [
        | inl comes ↦ let late = coming (from + point) number (omega arith) more upto comes in absurd cc
        | inr here ↦ elim here [
          | inl waits ↦ absurd (not_queued waits)
          | inr is_gone_there ↦
              absurd (end.stops (omega arith) is_gone_there)
        ]
      ]
    ]
  ]
