use Rattle.std.proofs.Common.{◌≡◌, ◌<◌, length, arith}
use Rattle.std.proofs.lemmas.List.{take-map}
use Rattle.std.proofs.lemmas.List.Elements.{All-take}
use Rattle.std.proofs.lemmas.Grind.{common_steps}
use Rattle.tsn_diff.specs.declared.trail.Former.{Former}
use Rattle.tsn_diff.proofs.trail.Trail.put_back.Goals as goal

pub returns-clause-labels : goal.returns-clause-labels
returns-clause-labels c = let e : c.loop-index.index ≡ c.args.mark = omega (arith, c.loop-index.invariant.mark_in) in (rw e at c.loop-index.invariant.back)

pub returns-clause-trail : goal.returns-clause-trail
returns-clause-trail c =
    record {
      streams = rw (c.truncate.ensures.items, c.truncate-2.ensures.items, c.requires.trail.streams) (take-map (λ (former : Former). former.stream) c.args.mark c.args.self.now.formers.items);
      below = rw c.truncate.ensures.items (All-take (λ (former : Former). former.stream < length c.args.labels.now.offsets.items) c.args.mark c.args.self.now.formers.items c.requires.trail.below);
    }

pub loop-index-init : goal.loop-index-init
loop-index-init c = grind (arith, common_steps) steps 2000000

pub loop-index-preserved : goal.loop-index-preserved
loop-index-preserved c = grind (arith, common_steps) steps 2000000
