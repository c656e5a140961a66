-- What a port keeps: the first frame of its link's queue, and when it and a background frame can start.
use Rattle.std.specs.Prelude.{◌≡◌, ℕ, ◌≤◌, ◌<◌, List, slice_index_or, length, min, Option, Some, None}
use Rattle.tsn_model.specs.declared.GateEntry.{GateEntry}
use Rattle.tsn_model.specs.Network.{Network}
use Rattle.tsn_model.specs.Bridge.{length_of}
use Rattle.tsn_replay.specs.declared.queue.Frame.{Frame}
use Rattle.tsn_replay.specs.declared.feed.Waiting.{Waiting}
use Rattle.tsn_replay.specs.declared.port.Port.{Port}
use Rattle.tsn_replay.specs.Openings.{IsOpenFor, OctetHas, OpensBackground}
use Rattle.tsn_replay.specs.Queue.{IsHead, frame_in, passage_of}

-- the first instant from `from` on at which the head of the queue can start
pub record IsScheduledNext (network : Network) (entries : List GateEntry) (frames : List Frame) (head : Option ℕ) (from end time : ℕ) : Type 0 where
  pub forward : from ≤ time
  pub none : (number u : ℕ) → head ≡ Some number → from ≤ u → (frame_in frames number).ready ≤ u → u < time → u < end → ¬ IsOpenFor entries (length_of network (passage_of (frame_in frames number))) u
  pub here : time < end → (number : ℕ) × (head ≡ Some number) × ((frame_in frames number).ready ≤ time) × IsOpenFor entries (length_of network (passage_of (frame_in frames number))) time

-- the first instant from `from` on at which the background frame that waits can start
pub record IsBackgroundNext (entries : List GateEntry) (waiting : Option Waiting) (from end time : ℕ) : Type 0 where
  pub forward : from ≤ time
  pub none : (frame : Waiting) (u : ℕ) → waiting ≡ Some frame → from ≤ u → frame.wanted ≤ u → u < time → u < end → ¬ OctetHas entries u OpensBackground
  pub here : time < end → (frame : Waiting) × (waiting ≡ Some frame) × (frame.wanted ≤ time) × OctetHas entries time OpensBackground

-- the port of a link with these gates, from an instant on
pub record IsPort (network : Network) (entries : List GateEntry) (frames : List Frame) (waiting : Option Waiting) (link from end : ℕ) (port : Port) : Type 0 where
  pub head : IsHead network frames link port.head
  pub scheduled : IsScheduledNext network entries frames port.head from end port.scheduled
  pub background : IsBackgroundNext entries waiting from end port.background

-- the port of that number
unfoldable pub port_in : List Port → ℕ → Port
port_in ports number = slice_index_or ports number (record { head = None; scheduled = 0; background = 0 })

-- when something starts on the port's link
abbrev pub port_time : Port → ℕ
port_time port = min port.scheduled port.background

-- of all ports the one where something starts first, before the end
pub record IsFirstPort (ports : List Port) (end number : ℕ) : Type 0 where
  pub within : number < length ports
  pub in_time : port_time (port_in ports number) < end
  pub least : (other : ℕ) → other < length ports → port_time (port_in ports number) ≤ port_time (port_in ports other)
