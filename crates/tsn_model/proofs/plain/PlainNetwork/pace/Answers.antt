use Rattle.std.proofs.Common.{◌≡◌, max, map, ◌∙◌, sym, ap, ap₂, subst, arith}
use Rattle.std.proofs.lemmas.List.{take_all}
use Rattle.tsn_model.specs.Network.{IsWellFormed, route_of, hop_count}
use Rattle.tsn_model.specs.Timing.{separation, pace, greatest}
use Rattle.tsn_model.proofs.Lists.{greatest-nil, greatest_take}
use Rattle.tsn_model.proofs.Limits.{pace-le}
use Rattle.tsn_model.proofs.plain.PlainNetwork.pace.Goals as goal

pub loop-k-init : goal.loop-k-init
loop-k-init c = record { so_far = sym greatest-nil; last = c.hops-k-end.ensures.value }

pub loop-k-preserved : goal.loop-k-preserved
loop-k-preserved c = record {
  so_far =
      c.max-pace.ensures
      ∙ (ap₂ max c.loop-k.invariant.so_far (c.separation.ensures.value ∙ ap (separation c.args.self.now c.args.i) c.route_link.ensures.value)
      ∙ sym (greatest_take (separation c.args.self.now c.args.i) (route_of c.args.self.now c.args.i) c.loop-k.k 0 (let last = c.loop-k.invariant.last in omega arith)));
  last = c.loop-k.invariant.last;
}

pub returns : goal.returns
unfolding pace
returns c =
    let all : c.loop-k.k ≡ hop_count c.args.self.now c.args.i = omega arith in
    let value : c.loop-k.pace ≡ greatest (map (separation c.args.self.now c.args.i) (route_of c.args.self.now c.args.i)) =
    c.loop-k.invariant.so_far ∙ ap (λ xs. greatest (map (separation c.args.self.now c.args.i) xs))
    (take_all c.loop-k.k (route_of c.args.self.now c.args.i) (omega arith)) in
    let below = pace-le c.args.self.now (subst IsWellFormed c.self.view_is c.self.invariant) c.args.i c.requires in
    record { value = value; bound = omega arith }
