use Rattle.std.proofs.Common.{◌<◌, ◌+◌, ◌∷◌, [], List, MatchBool, map, length, refl, sym, ap, ◌∙◌, subst, arith, length-append}
use Rattle.std.proofs.lemmas.Grind.{common_steps}
use Rattle.tsn_conflict.specs.Outcome.{outcome_of}
use Rattle.tsn_conflict.specs.declared.outcome.Look.{Look}
use Rattle.tsn_book.specs.Below.{path_after}
use Rattle.tsn_walk.specs.Below.{StandsAt}
use Rattle.tsn_walk.proofs.Batching.{IsCollecting, collected_none, collected, collected_on, collected_longer}
use Rattle.tsn_walk.proofs.below.Below.collect.Goals as goal

pub returns-then-last-clause-batch : goal.returns-then-last-clause-batch
returns-then-last-clause-batch c =
    let found = c.in_ok-found.found in
    let right = c.in_ok-found.ensures in
    let long = c.loop.invariant.long in
    let low : length c.loop.looks < 64 = omega (arith, long, c.loop-test.true, c.requires.most.1) in
    collected c.args.tables.timing.now c.args.tables.conflicts.now.triples c.args.incumbent.seen c.beyond-target.result c.args.self.now.from c.loop.looks c.loop.self.descent c.look_on.new.descent found.look
    c.loop.invariant.collecting c.beyond-target.ensures right.proof right.prunes (record { looks = c.push.new.self; solved = found.solved; more = found.more }) c.in_ok-push.ensures.pushed low right.solved

pub returns-then-last-clause-goes_on : goal.returns-then-last-clause-goes_on
returns-then-last-clause-goes_on c =
    let found = c.in_ok-found.found in
    let right = c.in_ok-found.ensures in
    let before = c.loop.invariant.collecting in
    let on = collected_on c.args.tables.timing.now c.args.tables.conflicts.now.triples c.args.incumbent.seen c.beyond-target.result c.args.self.now.from c.loop.looks c.loop.self.descent c.look_on.new.descent found.look
    before c.beyond-target.ensures right.proof right.prunes found.more right.next in
    subst (λ (looks : List Look). MatchBool found.more (StandsAt c.args.tables.timing.now c.args.tables.conflicts.now.triples (path_after c.args.self.now.from (map outcome_of looks)) c.look_on.new.descent) (Unit {0})) (sym c.in_ok-push.ensures.pushed) on

pub loop-preserved : goal.loop-preserved
loop-preserved c =
    let found = c.in_ok-found.found in
    let right = c.in_ok-found.ensures in
    let before = c.loop.invariant.collecting in
    let network = c.args.tables.timing.now in
    let triples = c.args.tables.conflicts.now.triples in
    let items = c.in_ok-push.ensures.pushed in
    let more = length-append c.loop.looks (found.look ∷ []) in
    let long = c.loop.invariant.long in
    let last = c.is_last-last.ensures c.if-last.false in
    record {
      from = c.loop.invariant.from;
      collecting = collected_longer network triples c.args.incumbent.seen c.beyond-target.result c.args.self.now.from c.loop.looks c.loop.self.descent c.look_on.new.descent found.look
          before c.beyond-target.ensures right.proof right.prunes found.solved found.more c.push.new.self last.0 last.1 right.solved right.next items;
      long = ap length items ∙ more ∙ ap (λ n. n + 1) long;
    }

pub loop-init : goal.loop-init
loop-init c =
    let network = c.args.tables.timing.now in
    let triples = c.args.tables.conflicts.now.triples in
    let from = c.args.self.now.from in
    let way = c.args.self.now.descent in
    let items = c.in_ok-looks.ensures in
    record {
      from = refl;
      collecting = subst (λ (looks : List Look). IsCollecting network triples c.args.incumbent.seen from looks way) (sym items) (collected_none network triples c.args.incumbent.seen from way c.requires.below);
      long = ap length items;
    }

pub look_on-requires-clause-stands : goal.look_on-requires-clause-stands
look_on-requires-clause-stands c = grind (arith, common_steps) steps 2000000

pub returns-clause-from : goal.returns-clause-from
returns-clause-from c = grind (arith, common_steps) steps 2000000

pub returns-clause-goes_on : goal.returns-clause-goes_on
returns-clause-goes_on c = grind (arith, common_steps) steps 2000000
