-- The arc of a decision, put together from the hops of its two streams.
use Rattle.std.proofs.Common.{◌≡◌, ℕ, ◌+◌, ℤ, Some, pos, neg_ℤ, refl, sym, ap, ◌∙◌, arith}
use Rattle.std.specs.Prelude.{◌+ℤ◌, ◌-ℤ◌, ◌<ℤ◌}
use Rattle.std.proofs.lemmas.Int.{ints}
use Rattle.tsn_model.specs.declared.Arc.{Arc}
use Rattle.tsn_model.specs.declared.Side.TheVariants.{Left, Right}
use Rattle.tsn_model.specs.declared.Decision.{Decision}
use Rattle.tsn_model.specs.declared.Triple.{Triple}
use Rattle.tsn_model.specs.Network.{Network, IsWellFormed, route_link}
use Rattle.tsn_model.specs.Schedule.{IsConflict}
use Rattle.tsn_model.specs.Timing.{separation, start, hop_on, start_on}
use Rattle.tsn_model.specs.Arcs.{arc_between, arc_on, arc_of}
use Rattle.tsn_model.proofs.Limits.{period-le}
use Rattle.tsn_model.proofs.Routes.{hop_on_found, hop_on_link}

pub arc_left : (network : Network) (decision : Decision) (first second : ℕ) (lag : ℤ) → decision.side ≡ Left
    → first ≡ decision.triple.left → second ≡ decision.triple.right → lag ≡ decision.triple.lag
    → arc_of network decision ≡ arc_between network first second decision.triple.link lag
unfolding arc_of arc_on
arc_left network decision first second lag is_left first_is second_is lag_is =
    ap (arc_on network decision.triple) is_left ∙ (λ k. arc_between network (sym first_is k) (sym second_is k) decision.triple.link (sym lag_is k))

pub arc_right : (network : Network) (decision : Decision) (first second : ℕ) (lag : ℤ) → decision.side ≡ Right
    → first ≡ decision.triple.right → second ≡ decision.triple.left → lag ≡ neg_ℤ decision.triple.lag
    → arc_of network decision ≡ arc_between network first second decision.triple.link lag
unfolding arc_of arc_on
arc_right network decision first second lag is_right first_is second_is lag_is =
    ap (arc_on network decision.triple) is_right ∙ (λ k. arc_between network (sym first_is k) (sym second_is k) decision.triple.link (sym lag_is k))

-- a conflict's lag is within its streams' periods
pub lag_bounds : (network : Network) (triple : Triple) → IsWellFormed network → IsConflict network triple
    → (pos 0 <ℤ (triple.lag +ℤ pos 1000000000)) × (triple.lag <ℤ pos 1000000000)
lag_bounds network triple formed conflict = grind (arith, period-le, ints)

pub arc_ends : (network : Network) (i j link : ℕ) (lag : ℤ) → ((arc_between network i j link lag).from ≡ i) × ((arc_between network i j link lag).to ≡ j)
unfolding arc_between
arc_ends network i j link lag = (refl, refl)

pub arc_same : (arc other : Arc) → arc.from ≡ other.from → arc.to ≡ other.to → arc.weight ≡ other.weight → arc ≡ other
arc_same arc other from to weight = λ k. record { from = from k; to = to k; weight = weight k }

-- by the hops on which its two streams use the link
pub arc_weighs : (network : Network) (i j link first second : ℕ) (lag : ℤ) → Some first ≡ hop_on network i link → Some second ≡ hop_on network j link
    → (pos (start network i first + separation network i (route_link network i first)) -ℤ pos (start network j second)) -ℤ lag ≡
    (arc_between network i j link lag).weight
unfolding arc_between
arc_weighs network i j link first second lag on_first on_second =
    let starts : start network i first ≡ start_on network i link = (hop_on_found network i link first (sym on_first)).2 in
    let same_link : route_link network i first ≡ link = hop_on_link network i link first (sym on_first) in
    let other_starts : start network j second ≡ start_on network j link = (hop_on_found network j link second (sym on_second)).2 in
    λ k. (pos (starts k + separation network i (same_link k)) -ℤ pos (other_starts k)) -ℤ lag
