-- A stream with one route goes along it.
use Rattle.std.proofs.Common.{◌≡◌, ℕ, ◌≤◌, ◌<◌, false, cond, List, [], ◌∷◌, length, get_or, map, Contains, Option, Some, None, refl, ap, sym, ◌∙◌, subst, arith}
use Rattle.std.specs.Option.{option_map_or}
use Rattle.std.proofs.lemmas.List.{length-map}
use Rattle.toml.specs.Data.{Data, table, no_members, get}
use Rattle.tsn_model.specs.Network.{Network, Stream, stream_at, stream_count, route_of}
use Rattle.tsn_model.specs.Unions.{union_of}
use Rattle.tsn_model.specs.Held.{hold, had, held}
use Rattle.tsn_model.proofs.Held.{stream_held}
use Rattle.tsn_model.proofs.Lists.{Contains-head}
use Rattle.tsn_model.proofs.Unions.{union_one}
use Rattle.tsn_net.specs.declared.schema.Key.TheVariants as key
use Rattle.tsn_net.specs.Schema.{name_of, has_routes, elements, elements_at}
use Rattle.tsn_net.specs.Document.{text_of, texts_of}
use Rattle.tsn_net.specs.Conditions.{routes_of}
use Rattle.tsn_net.specs.Problem.{cycle_of, node_names_of, links_of, route_links, stream_of, free_network_of, offsets_of}
use Rattle.tsn_net.specs.Laws.{RoutesStay}
use Rattle.tsn_net.proofs.WellFormed.{routes_at, routes_some, is_stated, is_short, way, stream_stated}
use Rattle.tsn_net.proofs.WellFormedRoutes.{is_route}

one_found : (found : Option Data) → 1 ≤ length (map texts_of (option_map_or (λ route. route ∷ []) found []))
    → map texts_of (option_map_or (λ route. route ∷ []) found []) ≡ map text_of (option_map_or elements found []) ∷ []
one_found None some = absurd (omega arith)
one_found (Some v) some = refl

-- the routes of a stream that has `route`
alone : (stream : Data) → has_routes stream ≡ false → 1 ≤ length (routes_of stream) → routes_of stream ≡ map text_of (elements_at key.Route stream) ∷ []
alone stream without some =
    let found = get (name_of key.Route) stream in
    let one : routes_of stream ≡ map texts_of (option_map_or (λ route. route ∷ []) found []) =
    ap (λ b. map texts_of (cond b (elements_at key.Routes stream) (option_map_or (λ route. route ∷ []) found []))) without in
    one ∙ one_found found (subst (λ rs. 1 ≤ length rs) one some)

-- a stream that is held to an offset keeps its route
kept : (network : Network) (i : ℕ) (found : Option ℕ) → (option_map_or (hold network i) found (stream_at network i)).route ≡ (stream_at network i).route
kept network i None = refl
kept network i (Some offset) = refl

held_route : (network : Network) (offsets : List (Option ℕ)) (i : ℕ) → i < stream_count network
    → (stream_at (held network offsets) i).route ≡ (stream_at network i).route
held_route network offsets i below = ap (λ (s : Stream). s.route) (stream_held network offsets i below) ∙ kept network i (had offsets i)

pub stays : RoutesStay
unfolding route_of
stays d none i w without =
    let stream = get_or d.streams i (table no_members) in
    let network = free_network_of d in
    let names = map text_of (elements_at key.Route stream) in
    let along = route_links (node_names_of d) (links_of d) in
    let is : routes_at d none i ≡ routes_of stream = is_stated d none i in
    let only : routes_at d none i ≡ names ∷ [] = is ∙ alone stream without (subst (λ rs. 1 ≤ length rs) is (routes_some d none i w)) in
    let among = subst (λ rs. Contains rs names) (sym only) (Contains-head names []) in
    let right = way d none i w names among in
    let line = is_route network (node_names_of d) d.cables refl names right.two (is_short d none i w names among) right.joined right.known right.once in
    let stated : (stream_at network i).route ≡ union_of (map along (routes_of stream)) = ap (λ (s : Stream). s.route) (stream_stated d none i w) in
    held_route network (offsets_of d) i (rw (length-map d.streams (stream_of (cycle_of d) (node_names_of d) (links_of d))) w)
    ∙ stated ∙ ap (λ rs. union_of (map along rs)) (sym is ∙ only) ∙ union_one network (along names) line
