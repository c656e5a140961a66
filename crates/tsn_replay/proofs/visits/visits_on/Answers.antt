use Rattle.std.proofs.Common.{◌≡◌, ◌+◌, ◌*◌, ◌<◌, length, ◌∷◌, [], ◌++◌, ℕ, Option, Some, None, Vec, Global, refl, sym, ap, ◌∙◌, subst, arith}
use Rattle.tsn_model.specs.Network.{stream_count, hop_count}
use Rattle.tsn_replay.specs.declared.visits.Visit.{Visit}
use Rattle.tsn_model.specs.Timing.{shifts}
use Rattle.tsn_model.proofs.Routes.{hop_on_found}
use Rattle.tsn_replay.specs.Frames.{visits_below}
use Rattle.tsn_replay.proofs.Counting.{visits-zero, visits-more, visits-fit, visits-fit-hop}
use Rattle.tsn_replay.proofs.Visited.{AreVisitsBelow, visits_none, visits_whole, visits_skip, visits_push}
use Rattle.tsn_replay.proofs.visits.visits_on.Goals as goal
use Rattle.tsn_replay.proofs.visits.visits_on.Goals.{in-Some+in_ok-push, in_default}

is_none : (found : Option ℕ) → ((hop : ℕ) → found ≡ Some hop → ⊥) → found ≡ None
is_none None never = refl
is_none (Some hop) never = absurd (never hop refl)

pub loop-stream-init : goal.loop-stream-init
loop-stream-init c = record {
  visits = subst (AreVisitsBelow c.args.network.now c.args.link 0) (sym c.new-visits.ensures.items)
      (visits_none c.args.network.now c.args.link);
  first = sym (visits-zero c.args.network.now);
  last = c.streams-stream-end.ensures.value;
}

pub loop-stream-preserved : goal.loop-stream-preserved
loop-stream-preserved c =
    let network = c.args.network.now in
    let link = c.args.link in
    let formed = c.cycle-limits.ensures.well_formed in
    let last = c.loop-stream.invariant.last in
    let counted : c.loop-stream.stream < stream_count c.args.network.now = let below = c.loop-stream-test.true in omega arith in
    let before = c.loop-stream.invariant.visits in
    let first_is = c.loop-stream.invariant.first in
    let count_is = c.frame_count-count.ensures in
    let more = visits-more network c.loop-stream.stream in
    let hops = c.hops.ensures.value in
    let added : c.hops.result * c.frame_count-count.result ≡ hop_count network c.loop-stream.stream * length
    (shifts network c.loop-stream.stream) = λ i. hops i * count_is i in
    let next : c.loop-stream.first + c.hops.result * c.frame_count-count.result ≡ visits_below network (c.loop-stream.stream + 1) =
    omega arith in
    elim c.match-hop_on.branch [
      | in-Some+in_ok-push w ↦ record {
        visits = subst (AreVisitsBelow network link (c.loop-stream.stream + 1))
            (sym (ap (λ (v : Vec Visit Global). v.items) w.visits-is ∙ (w.in_ok-push.ensures.items
            ∙ (λ i. c.loop-stream.visits.items ++
            record {
              stream = c.loop-stream.stream;
              hop = w.in-Some.hop;
              first = first_is i + w.in-Some.hop * count_is i;
              count = count_is i;
            } ∷ []))))
            (visits_push network link formed c.loop-stream.stream counted c.loop-stream.visits.items before w.in-Some.hop
            (sym c.hop_on.ensures ∙ w.in-Some.is));
        first = next;
        last = last;
      }
      | in_default w ↦ record {
        visits = subst (AreVisitsBelow network link (c.loop-stream.stream + 1)) (sym (ap (λ (v : Vec Visit Global). v.items) w.visits-is))
            (visits_skip network link formed c.loop-stream.stream counted c.loop-stream.visits.items before
            (sym c.hop_on.ensures ∙ is_none c.hop_on.result w.in_default.not-Some));
        first = next;
        last = last;
      }
    ]

pub returns : goal.returns
returns c = visits_whole c.args.network.now c.args.link c.loop-stream.stream c.loop-stream.visits.items
    (omega arith) c.loop-stream.invariant.visits

pub overflow_mul-hop : goal.overflow_mul-hop
overflow_mul-hop c =
    let network = c.args.network.now in
    let stream = c.loop-stream.stream in
    let last = c.loop-stream.invariant.last in
    let counted : stream < stream_count network = let below = c.loop-stream-test.true in omega arith in
    let at = hop_on_found network stream c.args.link c.in-Some.hop (sym c.hop_on.ensures ∙ c.in-Some.is) in
    let fit = visits-fit-hop network c.cycle-limits.ensures.well_formed stream c.in-Some.hop counted (let below = at.1 in omega arith) in
    let first_is = c.loop-stream.invariant.first in
    let same : c.in-Some.hop * c.frame_count-count.result ≡ c.in-Some.hop * length (shifts network stream) =
    ap (λ n. c.in-Some.hop * n) c.frame_count-count.ensures in
    omega arith

pub overflow_add-first : goal.overflow_add-first
overflow_add-first c =
    let network = c.args.network.now in
    let stream = c.loop-stream.stream in
    let last = c.loop-stream.invariant.last in
    let counted : stream < stream_count network = let below = c.loop-stream-test.true in omega arith in
    let at = hop_on_found network stream c.args.link c.in-Some.hop (sym c.hop_on.ensures ∙ c.in-Some.is) in
    let fit = visits-fit-hop network c.cycle-limits.ensures.well_formed stream c.in-Some.hop counted (let below = at.1 in omega arith) in
    let first_is = c.loop-stream.invariant.first in
    let same : c.in-Some.hop * c.frame_count-count.result ≡ c.in-Some.hop * length (shifts network stream) =
    ap (λ n. c.in-Some.hop * n) c.frame_count-count.ensures in
    omega arith

pub overflow_mul-first : goal.overflow_mul-first
overflow_mul-first c =
    let network = c.args.network.now in
    let stream = c.loop-stream.stream in
    let last = c.loop-stream.invariant.last in
    let counted : stream < stream_count network = let below = c.loop-stream-test.true in omega arith in
    let fit = visits-fit network c.cycle-limits.ensures.well_formed stream counted in
    let first_is = c.loop-stream.invariant.first in
    let same : c.hops.result * c.frame_count-count.result ≡ hop_count network stream * length (shifts network stream) =
    λ i. c.hops.ensures.value i * c.frame_count-count.ensures i in
    omega arith

pub overflow_add-first-in-loop-stream : goal.overflow_add-first-in-loop-stream
overflow_add-first-in-loop-stream c =
    let network = c.args.network.now in
    let stream = c.loop-stream.stream in
    let last = c.loop-stream.invariant.last in
    let counted : stream < stream_count network = let below = c.loop-stream-test.true in omega arith in
    let fit = visits-fit network c.cycle-limits.ensures.well_formed stream counted in
    let first_is = c.loop-stream.invariant.first in
    let same : c.hops.result * c.frame_count-count.result ≡ hop_count network stream * length (shifts network stream) =
    λ i. c.hops.ensures.value i * c.frame_count-count.ensures i in
    omega arith
