use Rattle.std.proofs.Common.{◌≡◌, ◌+ℤ◌, ◌+◌, ◌<◌, length, slice_index_or, pos, rules, refl, sym, ap, ◌∙◌, subst, arith}
use Rattle.std.proofs.lemmas.Int.{ints}
use Rattle.std.proofs.lemmas.List.{get_or_default}
use Rattle.tsn_model.specs.declared.Arc.{Arc}
use Rattle.tsn_model.specs.declared.Decision.{Decision}
use Rattle.tsn_model.specs.declared.Side.TheVariants.{Left}
use Rattle.tsn_model.specs.Network.{stream_count, release_of}
use Rattle.tsn_model.specs.Certificate.{sum_on}
use Rattle.tsn_model.specs.Arcs.{arc_of}
use Rattle.tsn_book.proofs.Chains.{SummedTo, one_summed, all_summed, arc_counted, on_path, parted, walked_on}
use Rattle.tsn_book.proofs.ties.sum_on.Goals as goal

blank : Decision
blank = record { triple = record { left = 0; right = 0; link = 0; lag = pos 0 }; side = Left }

pub offset_bounds-path-depth : goal.offset_bounds-path-depth
offset_bounds-path-depth c =
    let chain = c.args.chain in
    let parts = parted chain c.loop-depth.left c.back.new.self c.in-Some.depth c.in-Some.ensures
    c.loop-depth.invariant.parted.0 c.loop-depth.invariant.parted.1 in
    let below = subst (λ depth. depth < length c.args.path.now) parts.here
    (on_path c.args.timing.now c.args.path.now chain chain c.args.stream (length c.back.new.self) refl c.requires.leads parts.below) in
    search rules

pub bounds-path-depth : goal.bounds-path-depth
bounds-path-depth c =
    let chain = c.args.chain in
    let parts = parted chain c.loop-depth.left c.back.new.self c.in-Some.depth c.in-Some.ensures
    c.loop-depth.invariant.parted.0 c.loop-depth.invariant.parted.1 in
    subst (λ depth. depth < length c.args.path.now) parts.here
    (on_path c.args.timing.now c.args.path.now chain chain c.args.stream (length c.back.new.self) refl c.requires.leads parts.below)

pub arc_of-requires : goal.arc_of-requires
unfolding blank
arc_of-requires c =
    let chain = c.args.chain in
    let parts = parted chain c.loop-depth.left c.back.new.self c.in-Some.depth c.in-Some.ensures
    c.loop-depth.invariant.parted.0 c.loop-depth.invariant.parted.1 in
    let below = subst (λ depth. depth < length c.args.path.now) parts.here
    (on_path c.args.timing.now c.args.path.now chain chain c.args.stream (length c.back.new.self) refl c.requires.leads parts.below) in
    c.requires.decided c.in-Some.depth blank below

pub loop-depth-preserved : goal.loop-depth-preserved
unfolding blank
loop-depth-preserved c =
    let network = c.args.timing.now in
    let path = c.args.path.now in
    let chain = c.args.chain in
    let left = c.back.new.self in
    let depth = c.in-Some.depth in
    let decision = slice_index_or path depth blank in
    let parts = parted chain c.loop-depth.left left depth c.in-Some.ensures c.loop-depth.invariant.parted.0 c.loop-depth.invariant.parted.1 in
    let more_left = walked_on c.loop-depth.left left depth c.in-Some.ensures in
    let on = on_path network path chain chain c.args.stream (length left) refl c.requires.leads parts.below in
    let below : depth < length path = subst (λ d. d < length path) parts.here on in
    let sum = c.loop-depth.walk.sum in
    let summed : SummedTo network path chain (length left + 1) c.args.stream c.loop-depth.walk.start sum =
    subst (λ k. SummedTo network path chain k c.args.stream c.loop-depth.walk.start sum) more_left c.loop-depth.invariant.summed in
    let arc : c.arc_of.result ≡ arc_of network decision = c.arc_of.ensures.arc in
    let from : c.over-walk.result.start ≡ (arc_of network decision).from = c.over-walk.ensures.start ∙ ap (λ (a : Arc). a.from) arc in
    let weight : c.arc_of.result.weight ≡ (arc_of network decision).weight = ap (λ (a : Arc). a.weight) arc in
    let adds = c.over-walk.ensures.sum in
    let low = c.arc_of.ensures.small.low in
    let high = c.arc_of.ensures.small.high in
    let conflict = c.requires.decided depth blank below in
    let short = c.requires.short in
    let within = parts.below in
    let more = c.over-walk.result.sum in
    record {
      parted = (parts.after, parts.parts);
      summed = subst (λ start. SummedTo network path chain (length left) c.args.stream start more) (sym from)
          (one_summed network path chain (length left) c.args.stream c.loop-depth.walk.start sum more decision within on
          (subst (λ d. decision ≡ slice_index_or path d decision) (sym parts.here) (get_or_default path depth blank decision below))
          (omega (arith, ints, weight, adds)) summed);
      counted = subst (λ start. start < stream_count network) (sym from) (arc_counted network decision conflict);
      low = omega (arith, ints);
      high = omega (arith, ints);
    }

pub over-walk-requires-clause-low : goal.over-walk-requires-clause-low
over-walk-requires-clause-low c =
    let short = c.requires.short in
    omega (arith, ints)

pub over-walk-requires-clause-high : goal.over-walk-requires-clause-high
over-walk-requires-clause-high c =
    let short = c.requires.short in
    omega (arith, ints)

pub returns : goal.returns
returns c =
    let network = c.args.timing.now in
    let path = c.args.path.now in
    let chain = c.args.chain in
    let sum = c.loop-depth.walk.sum in
    let none = ap length c.in_default.ensures in
    let all : pos (release_of network c.loop-depth.walk.start) +ℤ sum ≡ sum_on network path chain c.args.stream =
    all_summed network path chain (length c.loop-depth.left) c.args.stream c.loop-depth.walk.start sum (omega (arith, none)) c.loop-depth.invariant.summed in
    let released = c.release.ensures.value in
    let early = c.release.ensures.bound in
    let short = c.requires.short in
    record { adds = omega (arith, ints, all) }
