-- The frames' slots on links, for as long as they keep others from them, and how they stand side by side.
--     slot_at, later     those of a stream's frames
--     AreSlots           all of them on a link
--     IsBefore           one before the other
--     AreApartAt         that none overlap there
use Rattle.std.specs.Prelude.{◌≡◌, ℕ, ◌+◌, ◌≤◌, ◌<◌, List, All, Contains}
use Rattle.tsn_model.specs.declared.Triple.{Triple}
use Rattle.tsn_model.specs.Network.{Network, stream_count, hop_count, route_link}
use Rattle.tsn_model.specs.Timing.{separation, start, Sends}
use Rattle.tsn_model.specs.Schedule.{offset_of, IsConflict, Overlaps}
use Rattle.tsn_timing.specs.declared.neighbours.Slot.{Slot}

-- the slot so much later
abbrev pub later : Slot → ℕ → Slot
later first shift = record { stream = first.stream; begin = first.begin + shift; end = first.end + shift }

-- the slot of hop k by stream i's frame of that shift, at that offset
unfoldable pub slot_at : Network → ℕ → ℕ → ℕ → ℕ → Slot
slot_at network offset i k shift = record {
  stream = i;
  begin = offset + start network i k + shift;
  end = offset + start network i k + separation network i (route_link network i k) + shift;
}

-- the slots of all frames on a link, none of which ends before it begins
pub record AreSlots (network : Network) (offsets : List ℕ) (link : ℕ) (slots : List Slot) : Type 0 where
  pub in_order : All (λ slot. slot.begin ≤ slot.end) slots
  pub each : (i k shift : ℕ) → i < stream_count network → k < hop_count network i → route_link network i k ≡ link → Sends network i shift
      → Contains slots (slot_at network (offset_of offsets i) i k shift)

-- done before the other one begins
abbrev pub IsBefore : Slot → Slot → Type 0
IsBefore a b = a.end ≤ b.begin

-- no frames overlap on the link
abbrev pub AreApartAt : Network → List ℕ → ℕ → Type 0
AreApartAt network offsets link = (triple : Triple) → triple.link ≡ link → IsConflict network triple → Overlaps network offsets triple → ⊥
