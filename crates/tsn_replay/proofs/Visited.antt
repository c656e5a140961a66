-- The hops of the streams on each link.
use Rattle.std.proofs.Common.{◌≡◌, ℕ, ◌+◌, ◌<◌, List, [], ◌∷◌, ◌++◌, get_or, All, Contains, Some, None, is_some, false, Vec, Global, refl, sym, ap, ◌∙◌, subst, arith, inl, inr}
use Rattle.std.proofs.lemmas.Bool.{cases_lt}
use Rattle.std.proofs.lemmas.List.{length-append}
use Rattle.std.proofs.Math.ListN.{get_or-append}
use Rattle.std.proofs.Math.Seq.{get_or-append_seam}
use Rattle.std.proofs.lemmas.List.Elements.{All-nil, All-cons, All-append, Contains-append_left, Contains-push}
use Rattle.tsn_model.specs.Network.{Network, IsWellFormed, stream_count, hop_count, route_link}
use Rattle.tsn_model.specs.Timing.{hop_on, UsesLink}
use Rattle.tsn_model.proofs.Hops.{hop_uses, hop_once}
use Rattle.tsn_model.proofs.Routes.{hop_on_found, hop_on_link}
use Rattle.tsn_replay.specs.declared.visits.Visit.{Visit}
use Rattle.tsn_replay.specs.Queue.{IsVisit, AreVisits, AreAllVisits, visit_of}

-- these are the hops on the link of the first so many streams
pub record AreVisitsBelow (network : Network) (link count : ℕ) (visits : List Visit) : Type 0 where
  pub right : All (IsVisit network link) visits
  pub complete : (stream hop : ℕ) → stream < count → hop < hop_count network stream → route_link network stream hop ≡ link
      → Contains visits (visit_of network stream hop)

module _ (network : Network) (link : ℕ) where
  pub visits_none : AreVisitsBelow network link 0 []
  visits_none = grind (arith, All-nil)

  pub visits_whole : (count : ℕ) (visits : List Visit) → count ≡ stream_count network → AreVisitsBelow network link count visits → AreVisits network link visits
  visits_whole count visits same are = record { right = are.right; complete = λ stream hop below. are.complete stream hop (omega arith) }

  -- one more stream
  module _ (formed : IsWellFormed network) (stream : ℕ) (counted : stream < stream_count network) (visits : List Visit)
      (are : AreVisitsBelow network link stream visits) where
    pub visits_skip : hop_on network stream link ≡ None → AreVisitsBelow network link (stream + 1) visits
    visits_skip none = record {
      right = are.right;
      complete = λ other hop below hop_below on. elim (cases_lt other stream) [
        | inl earlier ↦ are.complete other hop earlier hop_below on
        | inr last ↦
            let same : other ≡ stream = omega arith in
            let here : route_link network stream hop ≡ link = subst (λ i. route_link network i hop ≡ link) same on in
            let uses : UsesLink network stream link = subst (UsesLink network stream) here
            (hop_uses network formed stream counted hop (subst (λ i. hop < hop_count network i) same hop_below)) in
            let unused : is_some (hop_on network stream link) ≡ false = ap is_some none in
            cc (uses, unused)
      ];
    }

    pub visits_push : (hop : ℕ) → hop_on network stream link ≡ Some hop
        → AreVisitsBelow network link (stream + 1) (visits ++ visit_of network stream hop ∷ [])
    visits_push hop found =
        let at = hop_on_found network stream link hop found in
        let on = hop_on_link network stream link hop found in
        record {
          right = All-append (IsVisit network link) visits (visit_of network stream hop ∷ []) are.right
              (All-cons (IsVisit network link) (visit_of network stream hop) []
              (record { stream = counted; hop = at.1; on = on; first = refl; count = refl }) (All-nil (IsVisit network link)));
          complete = λ other hop' below hop_below other_on. elim (cases_lt other stream) [
            | inl earlier ↦ Contains-append_left visits (visit_of network stream hop ∷ []) (visit_of network other hop')
                (are.complete other hop' earlier hop_below other_on)
            | inr last ↦
                let same : other ≡ stream = omega arith in
                let hop_same : hop' ≡ hop = hop_once network formed stream counted hop' hop (subst (λ i. hop' < hop_count network i) same hop_below) at.1
                (subst (λ i. route_link network i hop' ≡ link) same other_on ∙ sym on) in
                subst (λ (v : Visit). Contains (visits ++ visit_of network stream hop ∷ []) v)
                (λ i. visit_of network (sym same i) (sym hop_same i)) (Contains-push visits (visit_of network stream hop))
          ];
        }

pub all_visits_more : (network : Network) (link : ℕ) (visits : List (Vec Visit Global)) (here : Vec Visit Global) → AreAllVisits network link visits
    → AreVisits network link here.items → AreAllVisits network (link + 1) (visits ++ here ∷ [])
all_visits_more network link visits here are is = record {
  count = let count = are.count in length-append visits (here ∷ []) ∙ omega arith;
  each = λ other d below. elim (cases_lt other link) [
    | inl earlier ↦
        subst (λ (v : Vec Visit Global). AreVisits network other v.items) (sym (get_or-append visits (here ∷ []) d other (omega arith)))
        (are.each other d earlier)
    | inr last ↦
        let count = are.count in
        let at : link ≡ other = omega arith in
        subst (λ n. AreVisits network n (get_or (visits ++ here ∷ []) n d).items) at
        (subst (λ n. AreVisits network link (get_or (visits ++ here ∷ []) n d).items) count
        (subst (λ (v : Vec Visit Global). AreVisits network link v.items) (sym (get_or-append_seam visits here [] d)) is))
  ];
}
