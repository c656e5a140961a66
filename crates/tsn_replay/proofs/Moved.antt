-- What a start makes of the items: each is gone, come to, or what it was.
use Rattle.std.proofs.Common.{◌≡◌, ℕ, ◌<◌, ◌⊎◌, List, length, sym, ap, ◌∙◌, subst, inl, inr}
use Rattle.std.proofs.lemmas.Bool.{cases_eq}
use Rattle.tsn_model.specs.Network.{Network}
use Rattle.tsn_model.specs.Bridge.{Passage}
use Rattle.tsn_replay.specs.declared.queue.Frame.{Frame}
use Rattle.tsn_replay.specs.declared.queue.Stage.TheVariants.{Queued, Gone}
use Rattle.tsn_replay.specs.Queue.{frame_in, passage_of, IsOneVisit}
use Rattle.tsn_replay.specs.Progress.{AreMoved, IsOnward, arrived, left, with_turn, turn_of}
use Rattle.tsn_replay.proofs.PassageStarts.{onward_cases}

-- items of one passage are of one stream and hop
pub same_visit : (a b : Frame) → passage_of a ≡ passage_of b → IsOneVisit a b
unfolding passage_of
same_visit a b same = (ap (λ (x : Passage). x.stream) same, ap (λ (x : Passage). x.hop) same)

module _ (network : Network) (slack : ℕ) (frames : List Frame) (number time : ℕ) (moved : List Frame)
    (are : AreMoved network slack frames number time moved) where
  abbrev started : Passage
  started = passage_of (frame_in frames number)

  abbrev IsCome : ℕ → Type 0
  IsCome other = IsOnward network started (passage_of (frame_in frames other))

  pub moved_cases : (other : ℕ) → (number ≡ other) ⊎ IsCome other ⊎ (frame_in moved other ≡ frame_in frames other)
  moved_cases other = elim (cases_eq number other) [
    | inl same ↦ inl same
    | inr differ ↦ elim (onward_cases network started (passage_of (frame_in frames other))) [
      | inl is ↦ inr (inl is)
      | inr never ↦ inr (inr (are.others other differ never))
    ]
  ]

  pub gone_at : (other : ℕ) → number ≡ other → frame_in moved other ≡ left (frame_in frames other)
  gone_at other same = subst (λ n. frame_in moved n ≡ left (frame_in frames n)) same are.here

  pub come_at : (other : ℕ) → other < length frames → IsCome other
      → frame_in moved other ≡ with_turn (arrived network (frame_in frames number) time (frame_in frames other))
      (turn_of (frame_in moved other))
  come_at other below is = (are.onward other below is).is

  pub gone_stage : (other : ℕ) → number ≡ other → (frame_in moved other).stage ≡ Gone
  gone_stage other same = ap (λ (f : Frame). f.stage) (gone_at other same)

  pub come_stage : (other : ℕ) → other < length frames → IsCome other → (frame_in moved other).stage ≡ Queued
  come_stage other below is = ap (λ (f : Frame). f.stage) (come_at other below is)

  -- each item keeps its passage
  pub same_passage : (other : ℕ) → other < length frames → passage_of (frame_in moved other) ≡ passage_of (frame_in frames other)
  unfolding passage_of
  same_passage other below = elim (moved_cases other) [
    | inl same ↦ ap passage_of (gone_at other same)
    | inr not_here ↦ elim not_here [ inl is ↦ ap passage_of (come_at other below is) | inr kept ↦ ap passage_of kept ]
  ]

  pub kept_visit : (a b : ℕ) → a < length frames → b < length frames → IsOneVisit (frame_in moved a) (frame_in moved b)
      → IsOneVisit (frame_in frames a) (frame_in frames b)
  kept_visit a b a_below b_below one =
      let of_a = same_visit (frame_in moved a) (frame_in frames a) (same_passage a a_below) in
      let of_b = same_visit (frame_in moved b) (frame_in frames b) (same_passage b b_below) in
      (sym of_a.0 ∙ (one.0 ∙ of_b.0), sym of_a.1 ∙ (one.1 ∙ of_b.1))
