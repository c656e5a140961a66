use Rattle.std.proofs.Common.{◌≡◌, ◌||◌, true, false, ap, sym, ◌∙◌}
use Rattle.std.specs.Prelude.{is_some}
use Rattle.toml.specs.View.{view}
use Rattle.tsn_net.specs.declared.schema.Table.TheVariants as tables
use Rattle.tsn_net.specs.Conditions.{routes_of, routes_break_limit}
use Rattle.tsn_net.specs.Matter.{breaks_key_limit}
use Rattle.tsn_net.proofs.MatterLemmas.{stream-breaks, neither}
use Rattle.tsn_net.proofs.tables.stream_limit.Goals as goal

pub returns-in-Some : goal.returns-in-Some
returns-in-Some c =
    let d = view c.args.stream.now in
    let here : breaks_key_limit tables.Stream d ≡ true = sym c.key_limit.ensures.0 ∙ ap is_some c.in-Some.is in
    (sym (sym (stream-breaks d) ∙ ap (λ b. b || routes_break_limit (routes_of d)) here), c.in-Some.ensures.1)

pub route_limit-requires : goal.route_limit-requires
route_limit-requires c = neither _ _ (sym c.key_limit.ensures.0 ∙ ap is_some c.in-None.is)

pub returns-in-None : goal.returns-in-None
returns-in-None c =
    let d = view c.args.stream.now in
    let none : breaks_key_limit tables.Stream d ≡ false = sym c.key_limit.ensures.0 ∙ ap is_some c.in-None.is in
    (c.route_limit.ensures.0 ∙ sym (sym (stream-breaks d) ∙ ap (λ b. b || routes_break_limit (routes_of d)) none), c.route_limit.ensures.1)
