-- What the least offsets of a path's arcs say of the path.
use Rattle.std.proofs.Common.{◌≡◌, ℕ, ◌≤◌, ◌<◌, pos, List, length, get_or, All, sym, ◌∙◌, subst, arith}
use Rattle.std.proofs.lemmas.Int.{ints}
use Rattle.std.proofs.lemmas.List.{get_or_default, length-map, ext_get_or}
use Rattle.std.proofs.Math.ListN.{get_or-map}
use Rattle.tsn_model.specs.declared.Decision.{Decision}
use Rattle.tsn_model.specs.Network.{Network, Stream, IsWellFormed, HasFewStreams, stream_count, no_stream, stream_at, release_of}
use Rattle.tsn_model.specs.declared.Violation.{Violation}
use Rattle.tsn_model.specs.Schedule.{offset_of, IsValid, AreApart, IsFirstViolation}
use Rattle.tsn_model.proofs.Limits.{period-le}
use Rattle.tsn_model.proofs.Validity.{valid_from_parts, violation_refutes}
use Rattle.tsn_model.specs.Arcs.{arcs_of, HoldsAll, start_of}
use Rattle.tsn_model.specs.Certificate.{sum_on, positive_cycle}
use Rattle.tsn_diff.specs.Offsets.{Meets, LeastOffsets, chain_of}
use Rattle.tsn_diff.specs.Answers as diff
use Rattle.tsn_diff.specs.Answers.{Solves}
use Rattle.tsn_branch.specs.Releases.{releases_of}
use Rattle.tsn_branch.specs.Look.{AreReleased, AreLeast, IsShownBy, AllFit, IsRefutation}

-- the release at a place is the stream's
pub released_at : (network : Network) (i : ℕ) → get_or (releases_of network) i 0 ≡ release_of network i
unfolding release_of stream_at
released_at network i = get_or-map (λ (stream : Stream). stream.release) network.streams i no_stream

pub length-releases : (network : Network) → length (releases_of network) ≡ stream_count network
length-releases network = length-map network.streams (λ (stream : Stream). stream.release)

module _ (network : Network) (path : List Decision) (lowest : LeastOffsets) (solves : Solves (releases_of network) (arcs_of network path) lowest) where
  pub count : length lowest.offsets ≡ stream_count network
  count = solves.least.meets.count ∙ length-releases network

  meets_from : (other : List ℕ) → length other ≡ stream_count network → AreReleased network other → HoldsAll other (arcs_of network path) → Meets (releases_of network) (arcs_of network path) other
  meets_from other long released held = record {
    count = long ∙ sym (length-releases network);
    released = λ i below. let same = released_at network i in let late = released i (rw (sym (length-releases network)) below) in omega arith;
    met = held;
  }

  pub AreLeast-from : AreLeast network path lowest.offsets
  AreLeast-from = record {
    count = count;
    released = λ i below. let same = released_at network i in let late = solves.least.meets.released i (rw (length-releases network) below) in omega arith;
    held = solves.least.meets.met;
    least = λ other long released held i below. solves.least.least other (meets_from other long released held) i (rw (length-releases network) below);
  }

  pub IsShownBy-from : (i : ℕ) → i < stream_count network → IsShownBy network path lowest.offsets i (chain_of lowest i)
  unfolding sum_on
  IsShownBy-from i below =
      let shows = solves.chains i (rw (length-releases network) below) in
      let sum = shows.sum in
      let release = released_at network (start_of (arcs_of network path) (chain_of lowest i) i) in
      record {
        leads = record { stream = below; chain_to = shows.leads };
        sum = omega (arith, ints, sum, release);
      }

  pub short : HasFewStreams network → (i : ℕ) → i < stream_count network → length (chain_of lowest i) ≤ 128
  short few i below =
      let shows = solves.chains i (rw (length-releases network) below) in
      let shorter = shows.short in
      let long = length-releases network in
      omega arith

-- streams that are done within their periods have small offsets
pub small_offsets : (network : Network) (offsets : List ℕ) → IsWellFormed network → length offsets ≡ stream_count network → AllFit network offsets → All (λ offset. offset ≤ 1000000000) offsets
small_offsets network offsets formed count fit k d below =
    let same = get_or_default offsets k d 0 below in
    let fits = (fit k (omega arith)).0 in
    let short = period-le network formed k in
    omega arith

-- a closed chain of positive sum refutes the path
pub IsRefutation-from : (network : Network) (path : List Decision) (chain : List ℕ) → diff.Refutes (length (releases_of network)) (arcs_of network path) chain
    → (target : ℕ) → IsRefutation network path target (positive_cycle chain)
IsRefutation-from network path chain refutes target = (
  λ offsets held. refutes.none (λ i. pos (offset_of offsets i)) held,
  λ target. (refutes.cycle.closed, refutes.cycle.positive),
)

-- a path has one list of least offsets
pub least_same : (network : Network) (path : List Decision) (first second : List ℕ) → AreLeast network path first → AreLeast network path second → first ≡ second
least_same network path first second a b =
    ext_get_or 0 first second (a.count ∙ sym b.count) (λ i below.
    let within : i < stream_count network = subst (λ n. i < n) a.count below in
    let low = a.least second b.count b.released b.held i within in
    let high = b.least first a.count a.released a.held i within in
    omega arith)

-- the least offsets are a valid schedule where all streams are done in time and none overlap, so they have no violation
pub no_violation : (network : Network) (path : List Decision) (lowest : LeastOffsets) → Solves (releases_of network) (arcs_of network path) lowest → AllFit network lowest.offsets → AreApart network lowest.offsets
    → (offsets : List ℕ) → offsets ≡ lowest.offsets → (violation : Violation) → IsFirstViolation network offsets violation → ⊥
no_violation network path lowest solves fit apart offsets same violation first =
    let least = AreLeast-from network path lowest solves in
    let valid = valid_from_parts network lowest.offsets least.count (λ i below. (fit i below).0) apart least.released (λ i below. (fit i below).1) in
    violation_refutes network offsets violation first (subst (IsValid network) (sym same) valid)
