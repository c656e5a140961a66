use Rattle.std.proofs.Common.{length, get_or, sym, ap, ◌∙◌}
use Rattle.tsn_sums.specs.Sums.{most_marked}
use Rattle.tsn_sums.proofs.Sums.{most_filled, same_slice}
use Rattle.tsn_sums.proofs.table.Table.tell.Goals as goal

pub returns : goal.returns
returns c = λ k within.
    let first = ap length c.as_mut_slice.ensures.value in
    let second = ap length c.as_mut_slice-2.ensures.value in
    let reached = c.as_slice.ensures.value
    ∙ same_slice c.self.inside.reached.len c.reach_all.new.reached c.self.inside.reached.items (c.reach_all.ensures.length ∙ first)
    (sym first ∙ c.as_mut_slice.ensures.len) in
    let filled = same_slice c.self.inside.filled.len c.fill.new.filled c.self.inside.filled.items (c.fill.ensures.length ∙ second)
    (sym second ∙ c.as_mut_slice-2.ensures.len) in
    ap (λ table. get_or table k 0) filled ∙ c.fill.ensures.most k within ∙ ap (λ table. most_marked table c.args.unit k) reached
    ∙ most_filled c.args.unit c.args.units c.args.works.now c.requires.unit c.reach_all.new.reached c.reach_all.ensures.tells k within
