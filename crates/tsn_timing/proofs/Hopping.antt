-- What the hops of a table say of the next one, and of a stream's end.
use Rattle.std.proofs.Common.{◌≡◌, ℕ, ◌+◌, ◌≤◌, ◌<◌, length, sym, ap, ap₂, ◌∙◌, subst, arith, inl, inr}
use Rattle.tsn_model.specs.declared.Link.{Link}
use Rattle.tsn_model.specs.Network.{Network, IsWellFormed, stream_count, link_at, route_of, hop_count, from_at, to_at}
use Rattle.tsn_model.specs.Timing.{transfer, hop_delay, spread, start, hop_arrival, hop_end}
use Rattle.tsn_model.proofs.Limits.{route_exists, start-le, spread-le}
use Rattle.tsn_model.proofs.Branches.{follow_cases}
use Rattle.tsn_model.proofs.Starts.{start-sent, start-continues}
use Rattle.tsn_model.proofs.Hops.{route_formed}
use Rattle.tsn_timing.specs.declared.tables.Hop.{Hop}
use Rattle.tsn_timing.specs.Tables.{IsHop}

pub no_hop : Hop
no_hop = record { link = 0; start = 0; occupancy = 0; separation = 0 }

module _ (network : Network) (formed : IsWellFormed network) (i : ℕ) (counted : i < stream_count network) where
  pub link_there : (hop : Hop) (k : ℕ) → IsHop network i k hop → k < hop_count network i → hop.link < length network.links
  link_there hop k is below = subst (λ link. link < length network.links) (sym is.same_link) (route_exists network formed i counted k 0 below)

  -- a node that is read at a hop's link
  pub ends_at : (hop : Hop) (k : ℕ) (wire : Link) → IsHop network i k hop → wire ≡ link_at network hop.link → wire.to ≡ to_at network (route_of network i) k
  ends_at hop k wire is read = ap (λ (l : Link). l.to) (read ∙ ap (link_at network) is.same_link)

  -- the next hop starts by a delay after the one that it continues
  pub starts_after : (hop : Hop) (k next delay : ℕ) → IsHop network i k hop → k < next → next < hop_count network i
      → to_at network (route_of network i) k ≡ from_at network (route_of network i) next → delay ≡ hop_delay network i hop.link
      → hop.start + delay ≡ start network i next
  starts_after hop k next delay is before below continues delayed =
      ap₂ (λ a b. a + b) is.starts (delayed ∙ ap (hop_delay network i) is.same_link)
      ∙ sym (start-continues network i (route_formed network formed i counted) k next (omega arith) below continues)

  -- and at once where it continues none
  pub starts_at_once : (next : ℕ) → next < hop_count network i
      → ((j : ℕ) → j < next → to_at network (route_of network i) j ≡ from_at network (route_of network i) next → ⊥) → 0 ≡ start network i next
  starts_at_once next below none = elim (follow_cases network (route_of network i) (route_formed network formed i counted) next below) [
    | inl sent ↦ sym (start-sent network i (route_formed network formed i counted) next sent)
    | inr (j, less, continues) ↦ absurd (none j less continues)
  ]

  pub early : (next : ℕ) → start network i next ≤ 206336000
  early next = start-le network formed i next counted

  pub narrow : spread network i ≤ 18504000
  narrow = spread-le network formed i counted

  -- the ends of a hop
  pub arrives_at : (hop : Hop) (k last_after time : ℕ) → IsHop network i k hop → last_after ≡ spread network i → time ≡ transfer network i hop.link
      → hop.start + last_after + time ≡ hop_arrival network i k
  unfolding hop_arrival
  arrives_at hop k last_after time is is_spread is_time =
      ap₂ (λ a b. a + b) (ap₂ (λ a b. a + b) is.starts is_spread) (is_time ∙ ap (transfer network i) is.same_link)

  pub ends_by : (hop : Hop) (k last_after : ℕ) → IsHop network i k hop → last_after ≡ spread network i
      → hop.start + last_after + hop.separation ≡ hop_end network i k
  unfolding hop_end
  ends_by hop k last_after is is_spread = ap₂ (λ a b. a + b) (ap₂ (λ a b. a + b) is.starts is_spread) is.keeps
