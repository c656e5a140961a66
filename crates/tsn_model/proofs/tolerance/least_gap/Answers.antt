use Rattle.std.proofs.Common.{◌≡◌, ◌-◌, ◌+◌, length, get_or, subst, arith}
use Rattle.tsn_model.proofs.Tolerating.{AreNeighboursFar, neighbours_more, far_from_neighbours}
use Rattle.tsn_model.proofs.tolerance.least_gap.Goals as goal

pub loop-k-preserved : goal.loop-k-preserved
loop-k-preserved c =
    let apart = c.requires.in_order (c.loop-k.k - 1) c.loop-k.k 0 (omega arith) (omega arith) in
    record {
      so_far = neighbours_more c.args.starts.now (get_or c.args.starts.now 0 0 + c.args.cycle - get_or c.args.starts.now
          (length c.args.starts.now - 1) 0) c.loop-k.least c.min-least.result c.loop-k.k
          (omega arith) c.loop-k.invariant.so_far
          (λ slack. (
            (λ less. (omega (arith, c.min-least.ensures), omega (arith, c.min-least.ensures))),
            (λ both. omega (arith, both.0, both.1, c.min-least.ensures)),
          ));
      end = c.loop-k.invariant.end;
    }

pub returns : goal.returns
returns c slack =
    let all : c.loop-k.k ≡ length c.args.starts.now = omega arith in
    let far = far_from_neighbours c.args.cycle c.args.starts.now c.requires.some c.requires.in_order c.requires.within slack in
    let near = c.loop-k.invariant.so_far slack in (
      (λ less. let has = near.0 less in far.0 (has.0, subst (λ n. AreNeighboursFar c.args.starts.now n slack) all has.1)),
      (λ are. let has = far.1 are in near.1 (has.0, λ m below. has.1 m (omega arith))),
    )
