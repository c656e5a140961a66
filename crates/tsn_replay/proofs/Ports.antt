-- A port stays right while time passes, and while frames of other links start.
use Rattle.std.proofs.Common.{◌≡◌, ℕ, ◌≤◌, ◌<◌, List, length, Option, Some, None, sym, subst, arith}
use Rattle.tsn_model.specs.declared.GateEntry.{GateEntry}
use Rattle.tsn_model.specs.Network.{Network}
use Rattle.tsn_model.specs.Bridge.{length_of}
use Rattle.tsn_replay.specs.declared.queue.Frame.{Frame}
use Rattle.tsn_replay.specs.declared.feed.Waiting.{Waiting}
use Rattle.tsn_replay.specs.declared.port.Port.{Port}
use Rattle.tsn_replay.specs.Openings.{IsOpenFor}
use Rattle.tsn_replay.specs.Queue.{Waits, Precedes, IsHead, frame_in, passage_of}
use Rattle.tsn_replay.specs.Ports.{IsScheduledNext, IsBackgroundNext, IsPort}

pub scheduled_later : (network : Network) (entries : List GateEntry) (frames : List Frame) (head : Option ℕ) (from later end time : ℕ) → from ≤ later → later ≤ time
    → IsScheduledNext network entries frames head from end time → IsScheduledNext network entries frames head later end time
scheduled_later network entries frames head from later end time order upto is = record { forward = upto; none = λ number u at since. is.none number u at (omega arith); here = is.here }

pub background_later : (entries : List GateEntry) (waiting : Option Waiting) (from later end time : ℕ) → from ≤ later → later ≤ time → IsBackgroundNext entries waiting from end time → IsBackgroundNext entries waiting later end time
background_later entries waiting from later end time order upto is = record { forward = upto; none = λ frame u at since. is.none frame u at (omega arith); here = is.here }

pub port_later : (network : Network) (entries : List GateEntry) (frames : List Frame) (waiting : Option Waiting) (link from later end : ℕ) (port : Port) → from ≤ later → later ≤ port.scheduled → later ≤ port.background
    → IsPort network entries frames waiting link from end port → IsPort network entries frames waiting link later end port
port_later network entries frames waiting link from later end port order by_scheduled by_background is = record {
  head = is.head;
  scheduled = scheduled_later network entries frames port.head from later end port.scheduled order by_scheduled is.scheduled;
  background = background_later entries waiting from later end port.background order by_background is.background;
}

module _ (network : Network) (frames moved : List Frame) (link : ℕ) (count : length moved ≡ length frames)
    (same : (p : ℕ) → p < length frames → Waits network link (frame_in frames p) → frame_in moved p ≡ frame_in frames p)
    (waited : (p : ℕ) → p < length frames → Waits network link (frame_in moved p) → Waits network link (frame_in frames p)) where
  head_kept : (head : Option ℕ) → IsHead network frames link head → IsHead network moved link head
  head_kept None none = λ p p_below waits. none p (omega arith) (waited p (omega arith) waits)
  head_kept (Some h) (h_below, h_waits, first) =
      let h_same = same h h_below h_waits in (
        (omega arith),
        subst (Waits network link) (sym h_same) h_waits,
        λ p p_below waits.
            let below : p < length frames = omega arith in
            let old = waited p below waits in
            let p_same = same p below old in
            subst (λ (f : Frame). Precedes f (frame_in moved p)) (sym h_same)
            (subst (Precedes (frame_in frames h)) (sym p_same) (first p below old)),
      )

  head_same : (head : Option ℕ) (h : ℕ) → head ≡ Some h → IsHead network frames link head → frame_in moved h ≡ frame_in frames h
  head_same head h is head_is = let at = subst (IsHead network frames link) is head_is in same h at.0 at.1

  -- where no frame comes to this link or leaves it nothing changes here
  pub port_kept : (entries : List GateEntry) (waiting : Option Waiting) (from end : ℕ) (port : Port)
      → IsPort network entries frames waiting link from end port → IsPort network entries moved waiting link from end port
  port_kept entries waiting from end port is = record {
    head = head_kept port.head is.head;
    scheduled = record {
      forward = is.scheduled.forward;
      none = λ p u at since ready before in_time fits.
          let same = head_same port.head p at is.head in
          is.scheduled.none p u at since (subst (λ (f : Frame). f.ready ≤ u) same ready) before in_time (subst (λ (f : Frame). IsOpenFor entries (length_of network (passage_of f)) u) same fits);
      here = λ in_time.
          let here = is.scheduled.here in_time in
          let same = head_same port.head here.0 here.1 is.head in (
            here.0,
            here.1,
            subst (λ (f : Frame). f.ready ≤ port.scheduled) (sym same) here.2,
            subst (λ (f : Frame). IsOpenFor entries (length_of network (passage_of f)) port.scheduled) (sym same) here.3,
          );
    };
    background = is.background;
  }
