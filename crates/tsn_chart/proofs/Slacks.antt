-- What all links tolerate is what those do that some stream uses.
use Rattle.std.proofs.Common.{ℕ, ◌≤◌, ◌<◌, ◌↔◌, List, [], length, get_or, All, ap, ◌∙◌, subst, arith}
use Rattle.tsn_model.specs.Network.{Network, IsWellFormed, stream_count, no_stream, stream_at, route_of, hop_count, route_link}
use Rattle.tsn_model.specs.Bridge.{LinkGates, Passage, IsPassage, link_of}
use Rattle.tsn_model.specs.Early.{ToleratesOn, Tolerates}
use Rattle.tsn_model.proofs.Hops.{hop_uses}
use Rattle.tsn_gate.specs.GateLists.{IsUsed}
use Rattle.tsn_chart.specs.declared.link.LinkShare.{LinkShare}
use Rattle.tsn_chart.specs.Shares.{AreSharesOfLinks}

none : LinkShare
none = record { link = 0; scheduled = 0; guard = 0; «open» = 0; longest_open = 0; slack = 0; windows = 0 }

module _ (network : Network) (formed : IsWellFormed network) where
  hop_used : (i k : ℕ) → i < stream_count network → k < hop_count network i → IsUsed network (route_link network i k)
  hop_used i k counted inside = (i, hop_uses network formed i counted k inside)

  passage_used : (cycles : ℕ) (passage : Passage) → IsPassage network cycles passage → IsUsed network (link_of network passage)
  unfolding link_of
  passage_used cycles passage is = hop_used passage.stream passage.hop is.stream is.hop

  some_hop : 0 < hop_count network 0
  unfolding route_of stream_at
  some_hop = let some = formed.some_stream in let links = (formed.streams 0 no_stream (omega arith)).route.some_link in omega arith

  -- some link is used
  link_used : IsUsed network (route_link network 0 0)
  link_used = let some = formed.some_stream in hop_used 0 0 (omega arith) some_hop

  module _ (offsets : List ℕ) where
    -- a link that no stream uses tolerates everything
    tolerates_used : (link n : ℕ) → (IsUsed network link → ToleratesOn network offsets link n) → ToleratesOn network offsets link n
    tolerates_used link n tolerates = record {
      spaced = λ cycles first second first_is second_is first_on second_on less.
          let used = subst (IsUsed network) first_on (passage_used cycles first first_is) in
          (tolerates used).spaced cycles first second first_is second_is first_on second_on less;
      after_start = λ i before k counted before_inside inside continues on.
          (tolerates (subst (IsUsed network) on (hop_used i k counted inside))).after_start i before k counted before_inside inside continues on;
    }

    module _ (shares : List LinkShare) (are : AreSharesOfLinks network offsets shares) where
      pub some_share : 0 < length shares
      some_share = let first = are.wanted.all_used (route_link network 0 0) link_used in omega (arith, first.2, are.shared.count)

      pub all_tolerate : (least : ℕ) → ((n : ℕ) → All (λ (share : LinkShare). n ≤ share.slack) shares ↔ (n ≤ least))
          → (n : ℕ) → Tolerates network offsets (λ link. n) ↔ (n ≤ least)
      all_tolerate least leasts n = (
        (λ tolerates. (leasts n).0 (λ k share below.
            let list : LinkGates = record { link = 0; entries = [] } in
            let right = are.shared.right k list share (omega (arith, are.shared.count)) in
            (right.slack n).0 (tolerates (get_or are.lists k list).link))),
        (λ few link. tolerates_used link n (λ used.
            let at = are.wanted.all_used link used in
            let right = are.shared.right at.0 at.1 none at.2 in
            let below : at.0 < length shares = omega (arith, at.2, are.shared.count) in
            subst (λ l. ToleratesOn network offsets l n) (ap (λ (l : LinkGates). l.link) at.3 ∙ at.4)
            ((right.slack n).1 ((leasts n).1 few at.0 none below)))),
      )
