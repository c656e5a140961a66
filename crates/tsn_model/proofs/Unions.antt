-- Unions of routes.
use Rattle.std.proofs.Common.{◌≡◌, ◌≢◌, ℕ, suc, ◌≤◌, ◌<◌, ◌⊎◌, ◌↔◌, Bool, true, false, ◌||◌, List, [], ◌∷◌, ◌++◌, length, get_or, All, AllPairs, Contains, ◌==◌, refl, sym, ap, ◌∙◌, subst, arith, inl, inr, eq-eqb, ne_eqb, append_assoc, length-append}
use Rattle.std.specs.Prelude.{fold, if◌then◌else◌}
use Rattle.std.specs.List.{list_any}
use Rattle.std.proofs.Math.ListN.{get_or-append}
use Rattle.std.proofs.lemmas.Bool.{false≢true, or_parts, cases_lt, cases_eq, cond-true, cond-false}
use Rattle.std.proofs.lemmas.List.{append-nil, get_or_push, get_or_default}
use Rattle.std.proofs.lemmas.List.Quantifiers.{all_pairs_push}
use Rattle.std.proofs.lemmas.List.Elements.{All-head, All-tail, All-contains, All-contains_itself, Contains-append_left, Contains-append_right, Contains-append_cases}
use Rattle.tsn_model.specs.Network.{Network, IsRoute, link_at, from_at, Continues}
use Rattle.tsn_model.specs.Unions.{RunsFrom, with_links, union_of, AreRoutes}
use Rattle.tsn_model.proofs.Branches.{follows}
use Rattle.tsn_model.proofs.Lists.{AllPairs-tail, Contains-head, Contains-more, Contains-cons_cases, Contains-nil}

-- ---- one link more, unless it is there

bool_cases : (b : Bool) → (b ≡ true) ⊎ (b ≡ false)
bool_cases true = inl refl
bool_cases false = inr refl

any_has : (links : List ℕ) (link : ℕ) → list_any (λ other. other == link) links ≡ true → Contains links link
any_has [] link found = absurd (false≢true found)
any_has (x ∷ xs) link found = elim (cases_eq x link) [
  | inl same ↦ subst (λ y. Contains (x ∷ xs) y) same (Contains-head x xs)
  | inr differ ↦ Contains-more x xs link (any_has xs link (sym (ap (λ b. b || list_any (λ other. other == link) xs) (ne_eqb x link differ)) ∙ found))
]

any_not : (links : List ℕ) (link : ℕ) → list_any (λ other. other == link) links ≡ false → Contains links link → ⊥
any_not [] link none has = Contains-nil link has
any_not (x ∷ xs) link none has =
    let both = or_parts (x == link) (list_any (λ other. other == link) xs) none in
    elim (Contains-cons_cases x xs link has) [
      | inl same ↦ false≢true (sym both.0 ∙ eq-eqb x link same)
      | inr later ↦ any_not xs link both.1 later
    ]

abbrev placed : List ℕ → ℕ → List ℕ
placed links link = if list_any (λ other. other == link) links then links else links ++ link ∷ []

-- what holds of the links where the link is among them, and of them and the link where it isn't
place_by : (P : List ℕ → Type 0) (links : List ℕ) (link : ℕ) → (Contains links link → P links) → ((Contains links link → ⊥) → P (links ++ link ∷ []))
    → P (placed links link)
place_by P links link there new = elim (bool_cases (list_any (λ other. other == link) links)) [
  | inl found ↦ subst P (sym (cond-true _ _ _ found)) (there (any_has links link found))
  | inr none ↦ subst P (sym (cond-false _ _ _ none)) (new (any_not links link none))
]

place_has : (links : List ℕ) (link : ℕ) → Contains (placed links link) link
place_has links link = place_by (λ xs. Contains xs link) links link (λ has. has) (λ none. Contains-append_right links (link ∷ []) link (Contains-head link []))

place_keeps : (links : List ℕ) (link other : ℕ) → Contains links other → Contains (placed links link) other
place_keeps links link other has = place_by (λ xs. Contains xs other) links link (λ there. has) (λ none. Contains-append_left links (link ∷ []) other has)

place_from : (links : List ℕ) (link other : ℕ) → Contains (placed links link) other → Contains links other ⊎ (link ≡ other)
place_from links link other = place_by (λ xs. Contains xs other → Contains links other ⊎ (link ≡ other)) links link (λ there has. inl has)
    (λ none has. elim (Contains-append_cases links (link ∷ []) other has) [
      | inl before ↦ inl before
      | inr last ↦ elim (Contains-cons_cases link [] other last) [ inl same ↦ inr same | inr past ↦ absurd (Contains-nil other past) ]
    ])

-- ---- the links of a route, and of routes

with_keeps : (links route : List ℕ) (other : ℕ) → Contains links other → Contains (with_links links route) other
unfolding with_links
with_keeps links [] other has = has
with_keeps links (x ∷ route) other has = with_keeps (placed links x) route other (place_keeps links x other has)

with_has : (links route : List ℕ) (other : ℕ) → Contains route other → Contains (with_links links route) other
unfolding with_links
with_has links [] other has = absurd (Contains-nil other has)
with_has links (x ∷ route) other has = elim (Contains-cons_cases x route other has) [
  | inl same ↦ with_keeps (placed links x) route other (subst (λ y. Contains (placed links x) y) same (place_has links x))
  | inr later ↦ with_has (placed links x) route other later
]

with_from : (links route : List ℕ) (other : ℕ) → Contains (with_links links route) other → Contains links other ⊎ Contains route other
unfolding with_links
with_from links [] other has = inl has
with_from links (x ∷ route) other has = elim (with_from (placed links x) route other has) [
  | inr later ↦ inr (Contains-more x route other later)
  | inl before ↦ elim (place_from links x other before) [
    | inl there ↦ inl there
    | inr same ↦ inr (subst (λ y. Contains (x ∷ route) y) same (Contains-head x route))
  ]
]

fold_keeps : (links : List ℕ) (routes : List (List ℕ)) (other : ℕ) → Contains links other → Contains (fold with_links links routes) other
fold_keeps links [] other has = has
fold_keeps links (route ∷ routes) other has = fold_keeps (with_links links route) routes other (with_keeps links route other has)

fold_has : (links : List ℕ) (routes : List (List ℕ)) (route : List ℕ) (other : ℕ) → Contains routes route → Contains route other
    → Contains (fold with_links links routes) other
fold_has links [] route other among has = absurd (Contains-nil route among)
fold_has links (first ∷ routes) route other among has = elim (Contains-cons_cases first routes route among) [
  | inl same ↦ fold_keeps (with_links links first) routes other (with_has links first other (subst (λ xs. Contains xs other) (sym same) has))
  | inr later ↦ fold_has (with_links links first) routes route other later has
]

fold_from : (links : List ℕ) (routes : List (List ℕ)) (other : ℕ) → Contains (fold with_links links routes) other
    → Contains links other ⊎ ((route : List ℕ) × Contains routes route × Contains route other)
fold_from links [] other has = inl has
fold_from links (first ∷ routes) other has = elim (fold_from (with_links links first) routes other has) [
  | inr (route, among, in_route) ↦ inr (route, Contains-more first routes route among, in_route)
  | inl before ↦ elim (with_from links first other before) [
    | inl there ↦ inl there
    | inr here ↦ inr (first, Contains-head first routes, here)
  ]
]

pub union_has : (routes : List (List ℕ)) (link : ℕ) → Contains (union_of routes) link ↔ ((route : List ℕ) × Contains routes route × Contains route link)
unfolding union_of
union_has routes link = (
  (λ has. elim (fold_from [] routes link has) [ inl none ↦ absurd (Contains-nil link none) | inr found ↦ found ]),
  (λ found. fold_has [] routes found.0 link found.1 found.2),
)

-- ---- each follows one before it

-- links, each once, each from the talker or from where one before it ends
record Follows (network : Network) (talker : ℕ) (links : List ℕ) : Type 0 where
  apart : AllPairs ◌≢◌ links
  follow : (k : ℕ) → k < length links → (from_at network links k ≡ talker) ⊎ ((j : ℕ) × (j < k) × Continues network links j k)

module _ (network : Network) (talker : ℕ) where
  -- a link may follow where it begins at the talker, or where one of the links ends
  abbrev Reached : List ℕ → ℕ → Type 0
  Reached links node = (node ≡ talker) ⊎ ((before : ℕ) × Contains links before × ((link_at network before).to ≡ node))

  push_apart : (links : List ℕ) (link : ℕ) → AllPairs ◌≢◌ links → (Contains links link → ⊥) → AllPairs ◌≢◌ (links ++ link ∷ [])
  push_apart links link apart none =
      all_pairs_push ◌≢◌ links link apart (λ k d below same. none (subst (Contains links) same (All-contains_itself links k d below)))

  push_follow : (links : List ℕ) (link : ℕ) → Follows network talker links → Reached links (link_at network link).from
      → (k : ℕ) → k < length (links ++ link ∷ [])
      → (from_at network (links ++ link ∷ []) k ≡ talker) ⊎ ((j : ℕ) × (j < k) × Continues network (links ++ link ∷ []) j k)
  push_follow links link follows reached k below =
      let long = length-append links (link ∷ []) in
      elim (cases_lt k (length links)) [
        | inl within ↦
            let same : from_at network (links ++ link ∷ []) k ≡ from_at network links k = ap (λ l. (link_at network l).from)
            (get_or-append links (link ∷ []) 0 k within) in
            elim (follows.follow k within) [
              | inl sent ↦ inl (same ∙ sent)
              | inr (j, less, continues) ↦
                  inr (j, less, ap (λ l. (link_at network l).to) (get_or-append links (link ∷ []) 0 j (omega arith)) ∙ continues ∙ sym same)
            ]
        | inr past ↦
            let last : k ≡ length links = omega arith in
            let is : get_or (links ++ link ∷ []) k 0 ≡ link = get_or_push links link 0 k (sym last) in
            let from : from_at network (links ++ link ∷ []) k ≡ (link_at network link).from = ap (λ l. (link_at network l).from) is in
            elim reached [
              | inl sent ↦ inl (from ∙ sent)
              | inr (before, (j, inside, at), ends) ↦
                  let here : get_or links j 0 ≡ before = get_or_default links j 0 before inside ∙ at in
                  inr (j, omega arith, ap (λ l. (link_at network l).to) (get_or-append links (link ∷ []) 0 j inside ∙ here) ∙ ends ∙ sym from)
            ]
      ]

  place_follows : (links : List ℕ) (link : ℕ) → Follows network talker links → Reached links (link_at network link).from
      → Follows network talker (placed links link)
  place_follows links link follows reached =
      place_by (Follows network talker) links link (λ there. follows)
      (λ none. record { apart = push_apart links link follows.apart none; follow = push_follow links link follows reached })

  with_follows : (links route : List ℕ) (node : ℕ) → Follows network talker links → Reached links node → RunsFrom network node route
      → Follows network talker (with_links links route)
  unfolding with_links
  with_follows links [] node follows reached runs = follows
  with_follows links (x ∷ route) node follows reached runs =
      with_follows (placed links x) route (link_at network x).to
      (place_follows links x follows (subst (Reached links) (sym runs.0) reached)) (inr (x, place_has links x, refl)) runs.1

  fold_follows : (links : List ℕ) (routes : List (List ℕ)) → Follows network talker links → All (RunsFrom network talker) routes
      → Follows network talker (fold with_links links routes)
  fold_follows links [] follows run = follows
  fold_follows links (route ∷ routes) follows run =
      fold_follows (with_links links route) routes
      (with_follows links route talker follows (inl refl) (All-head (RunsFrom network talker) route routes run))
      (All-tail (RunsFrom network talker) route routes run)

  module _ (routes : List (List ℕ)) (are : AreRoutes network talker routes) where
    follows_all : Follows network talker (union_of routes)
    unfolding union_of
    follows_all = fold_follows [] routes (record { apart = λ i j d order below. absurd (omega arith); follow = λ k below. absurd (omega arith) }) are.run

    -- the first route's first link is there
    some : 1 ≤ length (union_of routes)
    some =
        let count = are.some_route in
        let route = get_or routes 0 [] in
        let long : 1 ≤ length (get_or routes 0 []) = are.some_link 0 [] (omega arith) in
        let has = (union_has routes (get_or (get_or routes 0 []) 0 0)).1
        (get_or routes 0 [], All-contains_itself routes 0 [] (omega arith), All-contains_itself (get_or routes 0 []) 0 0 (omega arith)) in
        let place = has.0 in
        let below = has.1 in
        omega arith

    pub union_talker : from_at network (union_of routes) 0 ≡ talker
    union_talker = elim (follows_all.follow 0 (let long = some in omega arith)) [ inl sent ↦ sent | inr (j, less, continues) ↦ absurd (omega arith) ]

    there : (k : ℕ) → k < length (union_of routes) → Contains (union_of routes) (get_or (union_of routes) k 0)
    there k below = All-contains_itself (union_of routes) k 0 below

    exists_in : (link : ℕ) → Contains (union_of routes) link → link < length network.links
    exists_in link has =
        let found = (union_has routes link).0 has in
        All-contains (λ l. l < length network.links) found.0 link
        (All-contains (All (λ l. l < length network.links)) routes found.0 are.links_exist found.1) found.2

    pub union_route : IsRoute network (union_of routes)
    union_route = record {
      some_link = some;
      few_links = are.few_links;
      links_exist = λ k d below. exists_in (get_or (union_of routes) k d) (All-contains_itself (union_of routes) k d below);
      no_link_twice = follows_all.apart;
      links_follow = λ k below. follows network (union_of routes) k
          (elim (follows_all.follow k below) [ inl sent ↦ inl (sent ∙ sym union_talker) | inr earlier ↦ inr earlier ]);
      none_returns = λ k below same. are.none_returns (get_or (union_of routes) k 0) (there k below) (same ∙ union_talker);
      entered_once = λ j k next order below next_below first second.
          are.entered_once (get_or (union_of routes) j 0) (get_or (union_of routes) k 0) (get_or (union_of routes) next 0)
          (there j (omega arith)) (there k below) (there next next_below) (follows_all.apart j k 0 order below) first second;
    }

-- ---- one route

append_all : (links route : List ℕ) → ((other : ℕ) → Contains route other → Contains links other → ⊥) → AllPairs ◌≢◌ route
    → with_links links route ≡ links ++ route
unfolding with_links
append_all links [] new apart = sym (append-nil links)
append_all links (x ∷ route) new apart =
    let fresh : placed links x ≡ links ++ x ∷ [] =
    place_by (λ xs. xs ≡ links ++ x ∷ []) links x (λ has. absurd (new x (Contains-head x route) has)) (λ none. refl) in
    ap (λ xs. with_links xs route) fresh
    ∙ append_all (links ++ x ∷ []) route
    (λ other in_route has. elim (Contains-append_cases links (x ∷ []) other has) [
      | inl before ↦ new other (Contains-more x route other in_route) before
      | inr last ↦ elim (Contains-cons_cases x [] other last) [
        | inl same ↦ apart 0 (suc in_route.0) other (omega arith) (let inside = in_route.1 in omega arith) (same ∙ sym in_route.2)
        | inr past ↦ Contains-nil other past
      ]
    ]) (AllPairs-tail ◌≢◌ x route apart)
    ∙ append_assoc links (x ∷ []) route

pub union_one : (network : Network) (route : List ℕ) → IsRoute network route → union_of (route ∷ []) ≡ route
unfolding union_of
union_one network route is = append_all [] route (λ other in_route has. Contains-nil other has) is.no_link_twice
