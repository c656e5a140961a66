use Rattle.std.proofs.Common.{◌≡◌, ◌<◌, ◌+◌, ◌∙◌, Some, sym, ap, arith}
use Rattle.std.proofs.lemmas.Int.{ints, clamps}
use Rattle.tsn_model.specs.Network.{stream_count, route_link}
use Rattle.tsn_model.specs.Timing.{separation, hop_on}
use Rattle.tsn_model.specs.Schedule.{offset_of}
use Rattle.tsn_model.proofs.Routes.{hop_on_found, hop_on_link}
use Rattle.tsn_model.proofs.Hops.{hop_uses, hop_start}
use Rattle.tsn_timing.proofs.Overlapping.{judged}
use Rattle.tsn_timing.proofs.timing.Timing.least_overlap.Goals as goal

pub start-requires-2-clause-hop : goal.start-requires-2-clause-hop
start-requires-2-clause-hop c =
    let on : hop_on c.args.self.now c.args.right c.route_link.result ≡ Some c.in-Some.other = sym c.hop_on.ensures ∙ c.in-Some.is in
    (hop_on_found c.args.self.now c.args.right c.route_link.result c.in-Some.other on).1

pub separation-requires-clause-hop : goal.separation-requires-clause-hop
separation-requires-clause-hop c =
    let on : hop_on c.args.self.now c.args.right c.route_link.result ≡ Some c.in-Some.other = sym c.hop_on.ensures ∙ c.in-Some.is in
    (hop_on_found c.args.self.now c.args.right c.route_link.result c.in-Some.other on).1

pub returns : goal.returns
returns c =
    let network = c.args.self.now in
    let offsets = c.args.offsets.now in
    let left = c.args.left in
    let right = c.args.right in
    let link = route_link network left c.args.hop in
    let formed = c.cycle-limits.ensures.well_formed in
    let left_below : left < stream_count network = let counted = c.requires.right in omega arith in
    let on : hop_on network right link ≡ Some c.in-Some.other = cc in
    let found = hop_on_found network right link c.in-Some.other on in
    let left_start = c.start.ensures.value ∙ sym (hop_start network formed left left_below c.args.hop c.requires.hop) in
    let right_start = c.start-2.ensures.value ∙ found.2 in
    let right_separation = c.separation.ensures.value ∙ ap (separation network right) (hop_on_link network right link c.in-Some.other on) in
    let left_small = c.requires.small left 0 (omega arith) in
    let right_small = c.requires.small right 0 (let counted = c.requires.right in omega arith) in
    judged network offsets left right link (offset_of offsets left + c.start.result) (offset_of offsets right + c.start-2.result) _ _
    (record {
      formed = formed;
      ordered = c.requires.order;
      counted = c.requires.right;
      left_uses = hop_uses network formed left left_below c.args.hop c.requires.hop;
      right_uses = found.0;
      first_is = omega arith;
      second_is = omega arith;
      low_is = omega (arith, ints, clamps);
      high_is = omega (arith, ints, clamps);
    })
    c.least_lag.result c.least_lag.ensures

pub least_lag-requires-clause-above : goal.least_lag-requires-clause-above
least_lag-requires-clause-above c =
    let left_small = c.requires.small c.args.left 0 (omega arith) in
    let right_small = c.requires.small c.args.right 0 (let counted = c.requires.right in omega arith) in
    record { low = omega (arith, ints, clamps); high = omega (arith, ints, clamps) }

pub least_lag-requires-clause-below : goal.least_lag-requires-clause-below
least_lag-requires-clause-below c =
    let left_small = c.requires.small c.args.left 0 (omega arith) in
    let right_small = c.requires.small c.args.right 0 (let counted = c.requires.right in omega arith) in
    record { low = omega (arith, ints, clamps); high = omega (arith, ints, clamps) }
