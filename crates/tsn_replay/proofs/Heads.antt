-- The first frame of a queue, as the frames are gone through.
use Rattle.std.proofs.Common.{◌≡◌, ℕ, ◌+◌, ◌<◌, ◌⊎◌, List, length, get_or, All, Option, Some, None, sym, subst, arith, inl, inr}
use Rattle.std.proofs.lemmas.List.{get_or_default}
use Rattle.tsn_model.specs.Network.{Network, stream_count, hop_count}
use Rattle.tsn_replay.specs.declared.queue.Frame.{Frame}
use Rattle.tsn_replay.specs.declared.queue.Stage.TheVariants.{Coming}
use Rattle.tsn_replay.specs.declared.visits.Visit.{Visit}
use Rattle.tsn_replay.specs.Queue.{Waits, Precedes, IsHead, IsFirstAmong, AreVisits, frame_in}

pub from_frame : (P : Frame → Type 0) (frames : List Frame) (number : ℕ) (d : Frame) → number < length frames → P (frame_in frames number)
    → P (get_or frames number d)
unfolding frame_in
from_frame P frames number d below has = subst P (sym
    (get_or_default frames number d (record { stream = 0; hop = 0; shift = 0; cycle = 0; stage = Coming; ready = 0; rank = 0 }) below)) has

pub precedes_further : (a b c : Frame) → Precedes a b → Precedes b c → Precedes a c
precedes_further a b c (inl less) (inl more) = inl (omega arith)
precedes_further a b c (inl less) (inr (same, order)) = inl (omega arith)
precedes_further a b c (inr (same, order)) (inl more) = inl (omega arith)
precedes_further a b c (inr (same, order)) (inr (same_too, order_too)) = inr (omega arith, omega arith)

-- more frames have been looked at: those of P before, and those of Q now
module _ (network : Network) (frames : List Frame) (link : ℕ) (P Q R : Frame → Type 0) (split : (frame : Frame) → R frame → P frame ⊎ Q frame) where
  -- what holds of both holds of all
  both : (S : ℕ → Type 0) → ((number : ℕ) → number < length frames → P (frame_in frames number) → S number)
      → ((number : ℕ) → number < length frames → Q (frame_in frames number) → S number)
      → (number : ℕ) → number < length frames → R (frame_in frames number) → S number
  both S before here number below is = elim (split (frame_in frames number) is) [ inl old ↦ before number below old | inr new ↦ here number below new ]

  pub head_skip : (first : Option ℕ) → IsFirstAmong network frames link P first → IsFirstAmong network frames link Q None
      → IsFirstAmong network frames link R first
  head_skip None none not_here = both (λ number. Waits network link (frame_in frames number) → ⊥) none not_here
  head_skip (Some best) (below, waits, first) not_here = grind (arith, both)

  pub head_only : (first : Option ℕ) (next : ℕ) → first ≡ None → IsFirstAmong network frames link P first → IsFirstAmong network frames link Q (Some next)
      → IsFirstAmong network frames link R (Some next)
  head_only first next is before (below, waits, here) = grind (arith, both)

  pub head_kept : (first : Option ℕ) (best next : ℕ) → first ≡ Some best → IsFirstAmong network frames link P first
      → IsFirstAmong network frames link Q (Some next) → Precedes (frame_in frames best) (frame_in frames next)
      → IsFirstAmong network frames link R (Some best)
  head_kept first best next is before (below, waits, here) sooner = grind (arith, both, precedes_further)

  pub head_new : (first : Option ℕ) (best next : ℕ) → first ≡ Some best → IsFirstAmong network frames link P first
      → IsFirstAmong network frames link Q (Some next) → Precedes (frame_in frames next) (frame_in frames best)
      → IsFirstAmong network frames link R (Some next)
  head_new first best next is before (below, waits, here) sooner = grind (arith, both, precedes_further)

-- ---- the hops on the link

-- what stands for a visit past the last one
abbrev pub no_visit : Visit
no_visit = record { stream = 0; hop = 0; first = 0; count = 0 }

-- the frame is of a stream among the first so many
abbrev pub IsVisited : List Visit → ℕ → Frame → Type 0
IsVisited visits count frame = (k : ℕ) × (k < count) × ((get_or visits k no_visit).stream ≡ frame.stream)

pub visited_more : (visits : List Visit) (count : ℕ) (frame : Frame) → IsVisited visits (count + 1) frame
    → IsVisited visits count frame ⊎ (frame.stream ≡ (get_or visits count no_visit).stream)
visited_more visits count frame (k, below, same) = grind arith

-- a frame that waits on the link is of a stream that has a hop there
module _ (network : Network) (frames : List Frame) (link : ℕ) (streams : All (λ (frame : Frame). frame.stream < stream_count network) frames)
    (hops : (number : ℕ) → number < length frames → (frame_in frames number).hop < hop_count network (frame_in frames number).stream)
    (visits : List Visit) (are : AreVisits network link visits) where
  visited : (number : ℕ) → number < length frames → Waits network link (frame_in frames number) → IsVisited visits (length visits) (frame_in frames number)
  unfolding frame_in
  visited number below waits = grind (arith, get_or_default, hops)

  pub head_all : (first : Option ℕ) → IsFirstAmong network frames link (IsVisited visits (length visits)) first → IsHead network frames link first
  head_all None none = λ number below waits. none number below (visited number below waits) waits
  head_all (Some best) (below, waits, first) = (below, waits, λ number within here. first number within (visited number within here) here)
