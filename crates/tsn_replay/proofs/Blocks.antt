-- The items of each stream's hop in line: where the first one on a link is found.
use Rattle.std.proofs.Common.{◌≡◌, ℕ, ◌+◌, ◌*◌, ◌≤◌, ◌<◌, List, length, Option, Some, None, sym, ap, ◌∙◌, subst, arith, inl, inr, add-mul}
use Rattle.std.proofs.lemmas.Bool.{cases_order}
use Rattle.tsn_model.specs.Network.{Network, IsWellFormed, stream_count, hop_count, route_link}
use Rattle.tsn_model.specs.Timing.{shifts}
use Rattle.tsn_model.proofs.Hops.{hop_once}
use Rattle.tsn_replay.specs.declared.queue.Frame.{Frame}
use Rattle.tsn_replay.specs.declared.queue.Stage.TheVariants.{Coming, Gone}
use Rattle.tsn_replay.specs.declared.visits.Visit.{Visit}
use Rattle.tsn_replay.specs.Queue.{Waits, AreInLine, IsFirstAmong, IsFirstWaiting, IsOneVisit, IsVisit, frame_in}
use Rattle.tsn_replay.specs.Frames.{first_visit, visits_of}
use Rattle.tsn_replay.proofs.Counting.{visits-le, hops-le-next, times-le, one_visit}

-- the items between two of a stream's hop are of it
pub between : (network : Network) (cycles : ℕ) (frames : List Frame) → AreInLine network cycles frames
    → (a middle number : ℕ) → a < middle → middle < number → number < length frames
    → IsOneVisit (frame_in frames a) (frame_in frames number) → IsOneVisit (frame_in frames middle) (frame_in frames number)
between network cycles frames line a middle number less below whole same =
    let first = line.place a (omega arith) in
    let last = line.place number whole in
    let place = line.place middle (omega arith) in
    let from : first_visit network (frame_in frames number).stream (frame_in frames number).hop * cycles ≤ a =
    subst (λ k. first_visit network (frame_in frames number).stream k * cycles ≤ a) same.1
    (subst (λ i. first_visit network i (frame_in frames a).hop * cycles ≤ a) same.0 first.0) in
    one_visit network cycles (frame_in frames middle).stream (frame_in frames number).stream (frame_in frames middle).hop
    (frame_in frames number).hop middle
    (line.hop middle (omega arith)) (line.hop number whole) place.0 place.1 (omega arith) (let end = last.1 in omega arith)

-- ---- the first item of a stream's hop

-- where the items of a hop end
pub block_end : (network : Network) (cycles stream hop : ℕ)
    → first_visit network stream hop * cycles + length (shifts network stream) * cycles ≡ first_visit network stream (hop + 1) * cycles
block_end network cycles stream hop =
    let one : (hop + 1) * length (shifts network stream) ≡ hop * length (shifts network stream) + 1 * length (shifts network stream) =
    add-mul hop 1 (length (shifts network stream)) in
    let more : first_visit network stream (hop + 1) ≡ first_visit network stream hop + length (shifts network stream) = omega arith in
    sym (ap (λ n. n * cycles) more ∙ add-mul (first_visit network stream hop) (length (shifts network stream)) cycles)

module _ (network : Network) (formed : IsWellFormed network) (cycles : ℕ) (frames : List Frame)
    (line : AreInLine network cycles frames) (stream hop : ℕ)
    (counted : stream < stream_count network) (inside : hop < hop_count network stream) (from to : ℕ)
    (from_is : from ≡ first_visit network stream hop * cycles)
    (to_is : to ≡ first_visit network stream (hop + 1) * cycles) where
  pub block_within : to ≤ length frames
  block_within =
      let next = hops-le-next network stream (hop + 1) (omega arith) in
      let all = visits-le network (stream + 1) (stream_count network) (omega arith) in
      let whole : first_visit network stream (hop + 1) ≤ visits_of network = omega arith in
      let product = times-le network cycles (first_visit network stream (hop + 1)) (visits_of network) whole in
      let count = line.count in
      omega arith

  of_block : (number : ℕ) → from ≤ number → number < to → ((frame_in frames number).stream ≡ stream) × ((frame_in frames number).hop ≡ hop)
  of_block number since upto =
      let within = block_within in
      let place = line.place number (omega arith) in
      one_visit network cycles (frame_in frames number).stream stream (frame_in frames number).hop hop number
      (line.hop number (omega arith)) inside place.0 place.1 (omega arith) (omega arith)

  one_block_visit : (a b : ℕ) → from ≤ a → a < to → from ≤ b → b < to → IsOneVisit (frame_in frames a) (frame_in frames b)
  one_block_visit a b a_since a_upto b_since b_upto =
      let of_a = of_block a a_since a_upto in
      let of_b = of_block b b_since b_upto in
      (of_a.0 ∙ sym of_b.0, of_a.1 ∙ sym of_b.1)

  block_gone : (a b : ℕ) → from ≤ a → a < b → b < to → (frame_in frames b).stage ≡ Gone → (frame_in frames a).stage ≡ Gone
  block_gone a b since less upto = let within = block_within in
      line.gone a b less (omega arith) (one_block_visit a b since (omega arith) (omega arith) upto)

  block_coming : (a b : ℕ) → from ≤ a → a < b → b < to → (frame_in frames a).stage ≡ Coming → (frame_in frames b).stage ≡ Coming
  block_coming a b since less upto = let within = block_within in
      line.coming a b less (omega arith) (one_block_visit a b since (omega arith) (omega arith) upto)

  in_block : (number : ℕ) → number < length frames → (frame_in frames number).stream ≡ stream
      → (frame_in frames number).hop ≡ hop → (from ≤ number) × (number < to)
  in_block number below same on =
      let place = line.place number below in
      let since : first_visit network stream hop * cycles ≤ number =
      subst (λ k. first_visit network stream k * cycles ≤ number) on
      (subst (λ i. first_visit network i (frame_in frames number).hop * cycles ≤ number) same place.0) in
      let upto : number < first_visit network stream (hop + 1) * cycles =
      subst (λ k. number < first_visit network stream (k + 1) * cycles) on
      (subst (λ i. number < first_visit network i ((frame_in frames number).hop + 1) * cycles) same place.1) in
      (omega arith, omega arith)

  module _ (link : ℕ) (on : route_link network stream hop ≡ link) where
    -- the stream's items that wait on the link are on that hop
    on_hop : (number : ℕ) → number < length frames → (frame_in frames number).stream ≡ stream → Waits network link (frame_in frames number)
        → (frame_in frames number).hop ≡ hop
    on_hop number within same waits =
        hop_once network formed stream counted (frame_in frames number).hop hop
        (subst (λ i. (frame_in frames number).hop < hop_count network i) same (line.hop number within)) inside
        (subst (λ i. route_link network i (frame_in frames number).hop ≡ link) same waits.on ∙ sym on)

    first_waits : (first : Option ℕ) → IsFirstWaiting frames from to first
        → IsFirstAmong network frames link (λ (frame : Frame). frame.stream ≡ stream) first
    first_waits None none = λ number within same waits. let block = in_block number within same (on_hop number within same waits) in
        none number block.0 block.1 waits.waits
    first_waits (Some first) (since, upto, at, earlier) =
        let whole = block_within in
        let below : first < length frames = omega arith in
        let of_first = of_block first since upto in (
          below,
          record { waits = at; on = (λ i. route_link network (of_first.0 i) (of_first.1 i)) ∙ on },
          λ number within same waits.
              let block = in_block number within same (on_hop number within same waits) in
              elim (cases_order first number) [
                | inl is ↦ inr (ap (λ n. (frame_in frames n).ready) is, (let rank = ap (λ n. (frame_in frames n).rank) is in omega arith))
                | inr differ ↦ elim differ [
                  | inl before ↦ inl (line.readies first number before within
                      (one_block_visit first number since upto block.0 block.1) at waits.waits)
                  | inr after ↦ absurd (earlier number block.0 after waits.waits)
                ]
              ],
        )

-- the same of a visit
module _ (network : Network) (formed : IsWellFormed network) (cycles : ℕ) (frames : List Frame)
    (line : AreInLine network cycles frames) (link : ℕ)
    (visit : Visit)
    (is : IsVisit network link visit) where
  abbrev from : ℕ
  from = visit.first * cycles

  abbrev to : ℕ
  to = visit.first * cycles + visit.count * cycles

  from_is : from ≡ first_visit network visit.stream visit.hop * cycles
  from_is = ap (λ n. n * cycles) is.first

  to_is : to ≡ first_visit network visit.stream (visit.hop + 1) * cycles
  to_is =
      let count : visit.count * cycles ≡ length (shifts network visit.stream) * cycles = ap (λ n. n * cycles) is.count in
      let end = block_end network cycles visit.stream visit.hop in
      let first = from_is in
      omega arith

  pub visit_within : to ≤ length frames
  visit_within = block_within network formed cycles frames line visit.stream visit.hop is.stream is.hop from to from_is to_is

  pub visit_gone : (a b : ℕ) → from ≤ a → a < b → b < to → (frame_in frames b).stage ≡ Gone → (frame_in frames a).stage ≡ Gone
  visit_gone = block_gone network formed cycles frames line visit.stream visit.hop is.stream is.hop from to from_is to_is

  pub visit_coming : (a b : ℕ) → from ≤ a → a < b → b < to → (frame_in frames a).stage ≡ Coming → (frame_in frames b).stage ≡ Coming
  visit_coming = block_coming network formed cycles frames line visit.stream visit.hop is.stream is.hop from to from_is to_is

  pub visit_waits : (first : Option ℕ) → IsFirstWaiting frames from to first
      → IsFirstAmong network frames link (λ (frame : Frame). frame.stream ≡ visit.stream) first
  visit_waits = first_waits network formed cycles frames line visit.stream visit.hop is.stream is.hop from to from_is to_is link is.on
