-- What listeners get, and that their values of JSON have no float.
use Rattle.std.proofs.Common.{◌≡◌, ℕ, ◌+◌, ◌-◌, ◌≤◌, ◌<◌, false, List, [], ◌∷◌, map, refl, ap, arith}
use Rattle.std.proofs.lemmas.Bool.{cond_both}
use Rattle.serde_json.specs.Data.{Members, put}
use Rattle.serde_json.specs.View.{items_of}
use Rattle.serde_json.specs.Written.{has_float, items_have_float, members_have_float}
use Rattle.std.specs.Prelude.{codes}
use Rattle.tsn_model.specs.Network.{Network, IsWellFormed, stream_count, latest_of}
use Rattle.tsn_model.specs.Timing.{spread, hop_arrival, arrival}
use Rattle.tsn_model.specs.Schedule.{offset_of}
use Rattle.tsn_model.proofs.Limits.{hops-pos}
use Rattle.tsn_model.proofs.Listeners.{hop_arrival-le-arrival}
use Rattle.tsn_timing.specs.Problem.{NamedNetwork}
use Rattle.tsn_timing.specs.Ends.{has_several}
use Rattle.tsn_chart.specs.declared.stream.StreamShare.{StreamShare}
use Rattle.tsn_chart.specs.declared.listener.ListenerShare.{ListenerShare}
use Rattle.tsn_chart.specs.Shares.{stream_share, sends_several}
use Rattle.tsn_chart.specs.Listeners.{heard_at, listener_share, listener_shares, ListenersArrive}
use Rattle.tsn_chart.specs.Json.{number_value, stream_members, with_frames, listener_value, listener_values, stream_value}

heard_then : (network : Network) (offsets : List ℕ) (i k : ℕ) → hop_arrival network i k ≤ arrival network i
    → heard_at network (stream_share network offsets i) k ≡ offset_of offsets i + hop_arrival network i k
unfolding stream_share
heard_then network offsets i k sooner = omega arith

pub arrive : ListenersArrive
unfolding listener_share stream_share
arrive network offsets i k formed counted below =
    let heard = heard_then network offsets i k (hop_arrival-le-arrival network formed i counted k below) in
    (heard, ap (λ time. latest_of network i - time) heard)

-- the last frame of a period is sent before it has arrived
pub spread-le : (network : Network) → IsWellFormed network → (i : ℕ) → i < stream_count network → spread network i ≤ arrival network i
unfolding hop_arrival
spread-le network formed i counted =
    let some = hops-pos network formed i counted in
    let first = hop_arrival-le-arrival network formed i counted 0 (omega arith) in
    omega arith

-- ---- JSON

no_float-listeners : (problem : NamedNetwork) (shares : List ListenerShare) → items_have_float (items_of (map (listener_value problem) shares)) ≡ false
no_float-listeners problem [] = refl
no_float-listeners problem (share ∷ shares) = no_float-listeners problem shares

module _ (problem : NamedNetwork) (share : StreamShare) where
  framed : Members
  framed = put (codes "period") (number_value share.period) (put (codes "frames") (number_value share.frames) (stream_members problem share))

  pub no_float : has_float (stream_value problem share) ≡ false
  unfolding framed
  no_float =
      let network = problem.network in
      let shares = listener_shares network share in
      let none = no_float-listeners problem shares in
      let members = with_frames network share (stream_members problem share) in
      let listed = listener_values problem shares in
      cond_both (has_several network share.stream) (put (codes "listeners") listed members) members (λ ms. members_have_float ms ≡ false)
      (λ _. cond_both (sends_several network) framed (stream_members problem share)
      (λ ms. members_have_float (put (codes "listeners") listed ms) ≡ false)
      (λ _. rw none refl) (λ _. rw none refl))
      (λ _. cond_both (sends_several network) framed (stream_members problem share) (λ ms. members_have_float ms ≡ false) (λ _. refl) (λ _. refl))
