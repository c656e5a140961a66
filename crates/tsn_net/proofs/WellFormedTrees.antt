-- Several routes of a stream that fit one another make a tree.
use Rattle.std.proofs.Common.{◌≡◌, ◌≢◌, ℕ, zero, suc, ◌+◌, ◌-◌, ◌≤◌, ◌<◌, Bool, true, false, not, List, [], ◌∷◌, length, get_or, take, drop, map, None, All, AllPairs, ◌++◌, ◌==◌, eq-eqb, Contains, ap, sym, ◌∙◌, subst, inl, inr, arith, length-take, length-drop}
use Rattle.std.specs.List.{list_any, list_all, find}
use Rattle.std.specs.Str.{bytes_eq}
use Rattle.std.proofs.Math.ListN.{get_or-map}
use Rattle.std.proofs.lemmas.Bool.{false≢true, or_parts, and_parts, cases_eq, cases_lt, cond-true, cond-false}
use Rattle.std.proofs.lemmas.List.{get_or-take, get_or-drop, length-map}
use Rattle.std.proofs.lemmas.List.Elements.{All-map, All-contains, All-contains_itself}
use Rattle.std.proofs.lemmas.Slice.Eq.{bytes_eq-Decides}
use Rattle.toml.specs.Data.{Data}
use Rattle.tsn_model.specs.Network.{Network, IsRoute, link_at}
use Rattle.tsn_model.specs.Unions.{RunsFrom, with_links, union_of, AreRoutes}
use Rattle.tsn_model.proofs.Lists.{Contains-map, Contains-head, Contains-more, Contains-cons_cases, Contains-nil, Contains-flat_map, from_map}
use Rattle.tsn_model.proofs.SearchLists.{length-le-of_different}
use Rattle.tsn_model.proofs.Unions.{union_has, union_route}
use Rattle.tsn_net.specs.Conditions.{joins, neighbours, names_bridge, inner, begin_of, talker_of, other_talker, second_entry, steps_of, different}
use Rattle.tsn_net.specs.Problem.{number_of, links_of_cable, link_between, route_links}
use Rattle.tsn_net.specs.Branches.{is_joined, IsWay}
use Rattle.std.specs.Prelude.{fold}
use Rattle.std.specs.List.{flat_map}
use Rattle.std.proofs.lemmas.List.Quantifiers.{all_pairs_push}
use Rattle.tsn_net.proofs.Faultless.{map_none}
use Rattle.tsn_net.proofs.Found.{not_false}
use Rattle.tsn_net.proofs.StepLemmas.{bool_cases, different_has, none_has, entered_once as once}
use Rattle.tsn_net.proofs.WellFormedLinks.{named}
use Rattle.tsn_net.proofs.WellFormedRoutes.{ends, exist, hops, no_node_twice}

-- what a test says of each element
pub all_has : {X : Type 0} (p : X → Bool) (xs : List X) (x : X) → list_all p xs ≡ true → Contains xs x → p x ≡ true
all_has p [] x all has = absurd (Contains-nil x has)
all_has p (y ∷ xs) x all has =
    let parts = and_parts (p y) (list_all p xs) all in
    elim (Contains-cons_cases y xs x has) [
      | inl same ↦ subst (λ z. p z ≡ true) same parts.0
      | inr later ↦ all_has p xs x parts.1 later
    ]

-- no link of a union stands in it twice
with_apart : (links route : List ℕ) → AllPairs ◌≢◌ links → AllPairs ◌≢◌ (with_links links route)
unfolding with_links
with_apart links [] apart = apart
with_apart links (x ∷ route) apart = elim (bool_cases (list_any (λ other. other == x) links)) [
  | inl there ↦ subst (λ xs. AllPairs ◌≢◌ (with_links xs route)) (sym (cond-true _ _ _ there)) (with_apart links route apart)
  | inr new ↦
      subst (λ xs. AllPairs ◌≢◌ (with_links xs route)) (sym (cond-false _ _ _ new))
      (with_apart (links ++ x ∷ []) route
      (all_pairs_push ◌≢◌ links x apart (λ k d below same. not_there links x new (subst (Contains links) same (All-contains_itself links k d below)))))
]
  where
    not_there : (links : List ℕ) (x : ℕ) → list_any (λ other. other == x) links ≡ false → Contains links x → ⊥
    not_there [] x none has = Contains-nil x has
    not_there (y ∷ ys) x none has =
        let both = or_parts (y == x) (list_any (λ other. other == x) ys) none in
        elim (Contains-cons_cases y ys x has) [
          | inl same ↦ false≢true (sym both.0 ∙ eq-eqb y x same)
          | inr later ↦ not_there ys x both.1 later
        ]

fold_apart : (links : List ℕ) (routes : List (List ℕ)) → AllPairs ◌≢◌ links → AllPairs ◌≢◌ (fold with_links links routes)
fold_apart links [] apart = apart
fold_apart links (route ∷ routes) apart = fold_apart (with_links links route) routes (with_apart links route apart)

union_apart : (routes : List (List ℕ)) → AllPairs ◌≢◌ (union_of routes)
unfolding union_of
union_apart routes = fold_apart [] routes (λ i j d order below. absurd (omega arith))

-- two neighbours of a list
pub neighbours_has : (xs : List (List ℕ)) (k : ℕ) → suc k < length xs → Contains (neighbours xs) (get_or xs k [], get_or xs (suc k) [])
neighbours_has [] k below = absurd (omega arith)
neighbours_has (x ∷ []) k below = absurd (omega arith)
neighbours_has (x ∷ y ∷ xs) zero below = Contains-head (x, y) (neighbours (y ∷ xs))
neighbours_has (x ∷ y ∷ xs) (suc k) below =
    Contains-more (x, y) (neighbours (y ∷ xs)) (get_or (y ∷ xs) k [], get_or (y ∷ xs) (suc k) []) (neighbours_has (y ∷ xs) k (omega arith))

-- an inner name
inner_long : (xs : List (List ℕ)) (k : ℕ) → k + 2 < length xs → k < length (inner xs)
inner_long xs k below = let short = length-take (length xs - 2) (drop 1 xs) in let rest = length-drop 1 xs in omega arith

inner_has : (xs : List (List ℕ)) (k : ℕ) → 0 < k → suc k < length xs → Contains (inner xs) (get_or xs k [])
inner_has xs k low high =
    let at : get_or (take (length xs - 2) (drop 1 xs)) (k - 1) [] ≡ get_or xs k [] =
    get_or-take (length xs - 2) (drop 1 xs) (k - 1) [] (omega arith) ∙ get_or-drop 1 xs (k - 1) [] ∙ ap (λ n. get_or xs n []) (omega arith) in
    subst (Contains (inner xs)) at (All-contains_itself (inner xs) (k - 1) [] (inner_long xs (k - 1) (omega arith)))

module _ (network : Network) (names : List (List ℕ)) (cables nodes : List Data) (links_are : network.links ≡ flat_map (links_of_cable names) cables) where
  -- the link from one named node to another
  abbrev link : List ℕ → List ℕ → ℕ
  link x y = link_between network.links (number_of names x, number_of names y)

  abbrev along : List (List ℕ) → List ℕ
  along xs = route_links names network.links xs

  same_name : (x y : List ℕ) → list_any (bytes_eq x) names ≡ true → list_any (bytes_eq y) names ≡ true → number_of names x ≡ number_of names y → x ≡ y
  same_name x y x_known y_known same = (named names x x_known).1 ∙ (ap (λ n. get_or names n []) same ∙ sym ((named names y y_known).1))

  -- where a route's links begin
  runs : (xs : List (List ℕ)) → is_joined cables xs ≡ true → (node : ℕ) → node ≡ number_of names (get_or xs 0 []) → RunsFrom network node (along xs)
  runs [] joined node is = tt
  runs (x ∷ []) joined node is = tt
  runs (x ∷ y ∷ xs) joined node is =
      let parts = and_parts (list_any (joins x y) cables) (is_joined cables (y ∷ xs)) joined in
      let at = ends network names cables links_are x y parts.0 in
      (at.1 ∙ sym is, runs (y ∷ xs) parts.1 (link_at network (link x y)).to at.2)

  -- a link of a route: from which of its nodes, and to which next one
  record Step (xs : List (List ℕ)) (l : ℕ) : Type 0 where
    k : ℕ
    below : suc k < length xs
    is : l ≡ link (get_or xs k []) (get_or xs (suc k) [])
    from : (link_at network l).from ≡ number_of names (get_or xs k [])
    to : (link_at network l).to ≡ number_of names (get_or xs (suc k) [])

  step_of : (xs : List (List ℕ)) → is_joined cables xs ≡ true → (l : ℕ) → Contains (along xs) l → Step xs l
  step_of [] joined l has = absurd (Contains-nil l has)
  step_of (x ∷ []) joined l has = absurd (Contains-nil l has)
  step_of (x ∷ y ∷ xs) joined l has =
      let parts = and_parts (list_any (joins x y) cables) (is_joined cables (y ∷ xs)) joined in
      elim (Contains-cons_cases (link x y) (along (y ∷ xs)) l has) [
        | inl same ↦
            let at = ends network names cables links_are x y parts.0 in
            record {
              k = 0;
              below = omega arith;
              is = sym same;
              from = ap (λ n. (link_at network n).from) (sym same) ∙ at.1;
              to = ap (λ n. (link_at network n).to) (sym same) ∙ at.2;
            }
        | inr later ↦
            let rest = step_of (y ∷ xs) parts.1 l later in
            record { k = suc rest.k; below = let inside = rest.below in omega arith; is = rest.is; from = rest.from; to = rest.to }
      ]

  module _ (routes : List (List (List ℕ))) (some : 1 ≤ length routes) (ways : All (IsWay names cables nodes) routes)
      (alike : other_talker routes ≡ None) (part : second_entry nodes routes ≡ None) (fewer : length (different (steps_of routes)) ≤ 64) where
    abbrev lists : List (List ℕ)
    lists = map along routes

    way : (xs : List (List ℕ)) → Contains routes xs → IsWay names cables nodes xs
    way xs has = All-contains (IsWay names cables nodes) routes xs ways has

    begins : (xs : List (List ℕ)) → Contains routes xs → get_or xs 0 [] ≡ talker_of routes
    begins xs has =
        let none = map_none begin_of (find (λ route. not (bytes_eq (begin_of route) (talker_of routes))) routes) alike in
        (bytes_eq-Decides (get_or xs 0 []) (talker_of routes)).0
        (not_false (bytes_eq (get_or xs 0 []) (talker_of routes))
        (none_has (λ route. not (bytes_eq (begin_of route) (talker_of routes))) routes xs none has))

    known_at : (xs : List (List ℕ)) → Contains routes xs → (k : ℕ) → k < length xs → list_any (bytes_eq (get_or xs k [])) names ≡ true
    known_at xs has k below = all_has (λ y. list_any (bytes_eq y) names) xs (get_or xs k []) (way xs has).known (All-contains_itself xs k [] below)

    -- a link of the union is a step of some route
    record Found (l : ℕ) : Type 0 where
      xs : List (List ℕ)
      among : Contains routes xs
      step : Step xs l

    find_step : (l : ℕ) → Contains (union_of lists) l → Found l
    find_step l has =
        let list = (union_has lists l).0 has in
        let named_by = from_map along routes list.0 list.1 in
        record {
          xs = named_by.0;
          among = named_by.1;
          step = step_of named_by.0 (way named_by.0 named_by.1).joined l (subst (λ ls. Contains ls l) (sym named_by.2) list.2);
        }

    none_returns : (l : ℕ) → Contains (union_of lists) l → (link_at network l).to ≢ number_of names (talker_of routes)
    none_returns l has same =
        let f = find_step l has in
        let inside = f.step.below in
        let apart = no_node_twice network names cables links_are f.xs (way f.xs f.among).known (way f.xs f.among).once 0
        (suc f.step.k) (number_of names []) (omega arith)
        (let long = length-map f.xs (number_of names) in omega arith) in
        apart (get_or-map (number_of names) f.xs 0 [] ∙
        (ap (number_of names) (begins f.xs f.among) ∙ (sym same ∙ (f.step.to ∙ sym (get_or-map (number_of names) f.xs (suc f.step.k) [])))))

    entered_once : (first second next : ℕ) → Contains (union_of lists) first → Contains (union_of lists) second
        → Contains (union_of lists) next → first ≢ second
        → (link_at network first).to ≡ (link_at network next).from → (link_at network second).to ≡ (link_at network next).from → ⊥
    entered_once first second next first_has second_has next_has differ from_first from_second =
        let a = find_step first first_has in
        let b = find_step second second_has in
        let c = find_step next next_has in
        let a_in = a.step.below in
        let b_in = b.step.below in
        let c_in = c.step.below in
        let a_ends = get_or a.xs (suc a.step.k) [] in
        let b_ends = get_or b.xs (suc b.step.k) [] in
        let a_node : get_or a.xs (suc a.step.k) [] ≡ get_or c.xs c.step.k [] =
        same_name _ _ (known_at a.xs a.among (suc a.step.k) a_in) (known_at c.xs c.among c.step.k (omega arith)) (sym a.step.to ∙ (from_first ∙ c.step.from)) in
        let b_node : get_or b.xs (suc b.step.k) [] ≡ get_or c.xs c.step.k [] =
        same_name _ _ (known_at b.xs b.among (suc b.step.k) b_in) (known_at c.xs c.among c.step.k (omega arith))
        (sym b.step.to ∙ (from_second ∙ c.step.from)) in
        elim (cases_eq c.step.k 0) [
          | inl at_talker ↦
              none_returns first first_has
              (from_first ∙ (c.step.from ∙ ap (number_of names) (ap (λ n. get_or c.xs n []) at_talker ∙ begins c.xs c.among)))
          | inr inside ↦
              let bridge : names_bridge nodes (get_or c.xs c.step.k []) ≡ true =
              all_has (names_bridge nodes) (inner c.xs) (get_or c.xs c.step.k []) (way c.xs c.among).bridges (inner_has c.xs c.step.k (omega arith) c_in) in
              let a_step = Contains-flat_map neighbours routes a.xs (get_or a.xs a.step.k [], get_or a.xs (suc a.step.k) []) a.among
              (neighbours_has a.xs a.step.k a_in) in
              let b_step = Contains-flat_map neighbours routes b.xs (get_or b.xs b.step.k [], get_or b.xs (suc b.step.k) []) b.among
              (neighbours_has b.xs b.step.k b_in) in
              once nodes routes (get_or b.xs b.step.k [], get_or b.xs (suc b.step.k) []) (get_or a.xs a.step.k [], get_or a.xs (suc a.step.k) [])
              part fewer b_step a_step (a_node ∙ sym b_node)
              (λ same_from. differ (a.step.is ∙ (λ i. link (same_from i) ((a_node ∙ sym b_node) i)) ∙ sym b.step.is))
              (subst (λ name. names_bridge nodes name ≡ true) (sym b_node) bridge)
        ]

    -- the union has no more links than there are different steps
    union_few : length (union_of (map (route_links names network.links) routes)) ≤ length (different (steps_of routes))
    union_few =
        let long = length-map (different (steps_of routes)) (λ (p : List ℕ × List ℕ). link p.0 p.1) in
        let fewer = length-le-of_different (union_of lists) (map (λ (p : List ℕ × List ℕ). link p.0 p.1) (different (steps_of routes))) (union_apart lists)
        (λ k d below.
        let f = find_step (get_or (union_of lists) k d) (All-contains_itself (union_of lists) k d below) in
        let step = Contains-flat_map neighbours routes f.xs (get_or f.xs f.step.k [], get_or f.xs (suc f.step.k) []) f.among
        (neighbours_has f.xs f.step.k f.step.below) in
        subst (Contains (map (λ (p : List ℕ × List ℕ). link p.0 p.1) (different (steps_of routes)))) (sym f.step.is)
        (Contains-map (λ (p : List ℕ × List ℕ). link p.0 p.1) (different (steps_of routes)) (get_or f.xs f.step.k [], get_or f.xs (suc f.step.k) [])
        (different_has (steps_of routes) (get_or f.xs f.step.k [], get_or f.xs (suc f.step.k) []) step))) in
        omega arith

    are_routes : length (union_of (map (route_links names network.links) routes)) ≤ 64
        → AreRoutes network (number_of names (talker_of routes)) (map (route_links names network.links) routes)
    are_routes few = record {
      some_route = let count = length-map routes along in omega arith;
      some_link = All-map (λ list. 1 ≤ length list) along routes
          (λ k d below. let w = ways k d below in let two = w.two in let count = hops network names cables links_are (get_or routes k d) in omega arith);
      run = All-map (RunsFrom network (number_of names (talker_of routes))) along routes
          (λ k d below. runs (get_or routes k d) (ways k d below).joined (number_of names (talker_of routes))
          (ap (number_of names) (sym (begins (get_or routes k d) (All-contains_itself routes k d below)))));
      links_exist = All-map (All (λ l. l < length network.links)) along routes
          (λ k d below. exist network names cables links_are (get_or routes k d) (ways k d below).joined);
      few_links = few;
      none_returns = none_returns;
      entered_once = entered_once;
    }

    -- a link that another one continues is a step that another one follows, where no route ends at a bridge
    pub record Inside (l : ℕ) : Type 0 where
      pub xs : List (List ℕ)
      pub among : Contains routes xs
      pub k : ℕ
      pub below : suc (suc k) < length xs
      pub is : l ≡ link (get_or xs k []) (get_or xs (suc k) [])

    pub continued : ((xs : List (List ℕ)) → Contains routes xs → names_bridge nodes (get_or xs (length xs - 1) []) ≡ false)
        → (l next : ℕ) → Contains (union_of lists) l → Contains (union_of lists) next → (link_at network l).to ≡ (link_at network next).from → Inside l
    continued ends_elsewhere l next l_has next_has follows =
        let f = find_step l l_has in
        let g = find_step next next_has in
        let f_in = f.step.below in
        let g_in = g.step.below in
        let node : get_or f.xs (suc f.step.k) [] ≡ get_or g.xs g.step.k [] =
        same_name _ _ (known_at f.xs f.among (suc f.step.k) f_in) (known_at g.xs g.among g.step.k (omega arith)) (sym f.step.to ∙ (follows ∙ g.step.from)) in
        elim (cases_lt (suc (suc f.step.k)) (length f.xs)) [
          | inl inside ↦ record { xs = f.xs; among = f.among; k = f.step.k; below = inside; is = f.step.is }
          | inr past ↦ absurd (elim (cases_eq g.step.k 0) [
            | inl at_talker ↦
                none_returns l l_has (follows ∙ (g.step.from ∙ ap (number_of names) (ap (λ n. get_or g.xs n []) at_talker ∙ begins g.xs g.among)))
            | inr inside ↦
                let bridge : names_bridge nodes (get_or g.xs g.step.k []) ≡ true =
                all_has (names_bridge nodes) (inner g.xs) (get_or g.xs g.step.k []) (way g.xs g.among).bridges (inner_has g.xs g.step.k (omega arith) g_in) in
                let last : length f.xs - 1 ≡ suc f.step.k = omega arith in
                false≢true (sym (ends_elsewhere f.xs f.among) ∙ (ap (λ n. names_bridge nodes (get_or f.xs n [])) last
                ∙ (ap (names_bridge nodes) node ∙ bridge)))
          ])
        ]

    -- so the routes make a tree
    pub is_tree : IsRoute network (union_of (map (route_links names network.links) routes))
    is_tree = union_route network (number_of names (talker_of routes)) lists (are_routes (let short = union_few in omega (arith, short, fewer)))
