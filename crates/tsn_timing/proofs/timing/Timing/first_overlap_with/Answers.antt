use Rattle.std.proofs.Common.{◌≡◌, ◌+◌, sym, subst, arith}
use Rattle.std.proofs.lemmas.Int.{ints}
use Rattle.tsn_model.specs.Network.{hop_count}
use Rattle.tsn_timing.proofs.Judging.{AreSoFar, first_same, first_given, first_done}
use Rattle.tsn_timing.proofs.timing.Timing.first_overlap_with.Goals as goal
use Rattle.tsn_timing.proofs.timing.Timing.first_overlap_with.Goals.{in-Some, in_default}

pub returns : goal.returns
returns c =
    let all : c.loop-hop.hop ≡ hop_count c.args.self.now c.args.left = omega arith in
    first_done c.args.self.now c.args.offsets.now c.args.left c.args.right c.loop-hop.hop c.loop-hop.first all c.loop-hop.invariant.so_far

pub loop-hop-preserved : goal.loop-hop-preserved
loop-hop-preserved c =
    let network = c.args.self.now in
    let offsets = c.args.offsets.now in
    let n = c.loop-hop.hop in
    record {
      so_far = elim c.match-least_overlap.branch [
        | in-Some w ↦ rw w.first-is (first_given network offsets c.args.left c.args.right n c.loop-hop.first w.in-Some.lag w.route_link-link.result _
            w.sooner.result w.route_link-link.ensures.value (omega (arith, ints)) c.loop-hop.invariant.so_far w.in-Some.ensures w.sooner.ensures)
        | in_default w ↦ subst (AreSoFar network offsets c.args.left c.args.right (n + 1)) (sym w.first-is)
            (first_same network offsets c.args.left c.args.right n c.loop-hop.first c.loop-hop.invariant.so_far w.in_default.ensures)
      ];
      end = c.loop-hop.invariant.end;
    }
