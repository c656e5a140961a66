use Rattle.std.proofs.Common.{arith, ◌≡◌, Some, sym, ◌∙◌}
use Rattle.tsn_model.specs.Timing.{hop_on}
use Rattle.tsn_model.proofs.Routes.{hop_on_found, hop_on_link}
use Rattle.tsn_conflict.proofs.Reading.{use_at-hop, use_at-none}
use Rattle.tsn_conflict.proofs.uses.use_of.Goals as goal

pub start-requires-clause-hop : goal.start-requires-clause-hop
start-requires-clause-hop c =
    let on : hop_on c.args.timing.now c.args.stream c.args.link ≡ Some c.in-Some.hop = sym c.hop_on.ensures ∙ c.in-Some.is in
    (hop_on_found c.args.timing.now c.args.stream c.args.link c.in-Some.hop on).1

pub separation-requires-clause-hop : goal.separation-requires-clause-hop
separation-requires-clause-hop c =
    let on : hop_on c.args.timing.now c.args.stream c.args.link ≡ Some c.in-Some.hop = sym c.hop_on.ensures ∙ c.in-Some.is in
    (hop_on_found c.args.timing.now c.args.stream c.args.link c.in-Some.hop on).1

pub returns-in-Some : goal.returns-in-Some
returns-in-Some c = grind (arith, hop_on_link, use_at-hop)

pub returns-in-None : goal.returns-in-None
returns-in-None c =
    sym (use_at-none c.args.timing.now c.args.stream c.args.link (sym c.hop_on.ensures ∙ c.in-None.is))
