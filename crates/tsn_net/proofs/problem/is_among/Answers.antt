use Rattle.std.proofs.Common.{ℕ, rules, tests}
use Rattle.std.specs.Prelude.{◌==◌}
use Rattle.std.proofs.lemmas.Iterator.{YieldsList-from_slice}
use Rattle.std.proofs.lemmas.Iterator.Search.{any_from_yields_List}
use Rattle.tsn_net.proofs.problem.is_among.Goals as goal

pub returns : goal.returns
returns c =
    any_from_yields_List (λ (other : ℕ). other == c.args.link) _ _ _ c.any.ensures.ran (YieldsList-from_slice c.args.links.now cc)
    (λ x b q k. search (rules, tests))
