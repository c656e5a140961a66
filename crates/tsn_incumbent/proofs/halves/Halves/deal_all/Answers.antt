use Rattle.std.proofs.Common.{ap, ◌∙◌, ◌+◌, ◌++◌, ◌∷◌, [], false, true}
use Rattle.atomic_table.specs.Table.{Me}
use Rattle.tsn_incumbent.specs.declared.share.Share.{Share}
use Rattle.tsn_incumbent.specs.Halves.{half, rest_from}
use Rattle.tsn_incumbent.proofs.Sharing.{one_more_dealt}
use Rattle.tsn_incumbent.proofs.halves.Halves.deal_all.Goals as goal

pub loop-number-preserved : goal.loop-number-preserved
loop-number-preserved c =
    let i = c.loop-number.invariant in
    let table = c.args.self.now in
    let made = c.deal.ensures.halves ∙ ap (λ (me : Me (Unit {0}) Share). (half table me.0.number false me.0.tally, half table me.0.number true me.0.tally)) i.rest in
    record {
      table = c.deal.ensures.rest.0;
      rest = c.deal.ensures.rest.1 ∙ ap (λ (me : Me (Unit {0}) Share). (rest_from (me.0.number + 1) me.0.tally, [])) i.rest;
      dealt = c.in_ok-push.ensures.items ∙ (λ k. i.dealt k ++ made k ∷ []) ∙ one_more_dealt table c.args.rest.me.0.tally c.loop-number._number;
    }
