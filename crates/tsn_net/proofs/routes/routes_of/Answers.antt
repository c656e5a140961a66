use Rattle.std.proofs.Common.{◌≡◌, true, cond, [], ◌∷◌, map, sym, ap, ◌∙◌}
use Rattle.std.specs.Option.{option_map_or}
use Rattle.toml.specs.Data.{get}
use Rattle.toml.specs.View.{view}
use Rattle.tsn_net.specs.declared.schema.Key.TheVariants as key
use Rattle.tsn_net.specs.Schema.{name_of, has_routes, elements_at}
use Rattle.tsn_net.specs.Document.{texts_of}
use Rattle.tsn_net.proofs.DocumentLemmas.{map-map}
use Rattle.tsn_net.proofs.routes.routes_of.Goals as goal

pub returns-then-has_routes : goal.returns-then-has_routes
returns-then-has_routes c =
    let d = view c.args.stream.now in
    let has : has_routes d ≡ true = sym c.has_routes.ensures ∙ c.if-has_routes.true in
    sym (map-map texts_of view c.elements_at.result.now) ∙ ap (map texts_of) c.elements_at.ensures
    ∙ sym (ap (λ b. map texts_of (cond b (elements_at key.Routes d) (option_map_or (λ route. route ∷ []) (get (name_of key.Route) d) []))) has)
