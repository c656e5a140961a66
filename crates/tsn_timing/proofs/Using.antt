-- The streams that use each link, as they are listed.
use Rattle.std.proofs.Common.{◌≡◌, ℕ, ◌+◌, ◌≤◌, ◌<◌, Option, Some, None, List, [], ◌∷◌, ◌++◌, All, AllPairs, Contains, IsSome, is_some, true, false, length, map, flat_map, get_or, refl, sym, ap, ◌∙◌, subst, arith, inl, inr, append-nil, length-set}
use Rattle.std.specs.List.{range_with_len}
use Rattle.std.proofs.Math.ListN.{set}
use Rattle.std.proofs.lemmas.Bool.{cases_lt, cases_eq}
use Rattle.std.proofs.lemmas.Grind.{flat_map-append}
use Rattle.std.proofs.lemmas.List.{map-append, map-set, get_or-map, length-map, get_or-set_same, get_or-set_other, ext_get_or}
use Rattle.std.proofs.lemmas.List.Elements.{Contains-get_or}
use Rattle.std.proofs.lemmas.List.FromFn.{length-map-range_with_len, get_or-map-range_with_len, map-range_with_len_more}
use Rattle.tsn_model.specs.Network.{Network, IsWellFormed, stream_count, hop_count, route_link}
use Rattle.tsn_model.specs.Timing.{UsesLink, hop_on}
use Rattle.tsn_model.proofs.Lists.{AllPairs-range, AllPairs-flat_map, Contains-range, Contains-flat_map, Contains-head, Contains-nil, Contains-cons_cases, from_flat_map, in_range, range_more}
use Rattle.tsn_model.proofs.Hops.{hop_uses, hop_once}
use Rattle.tsn_model.proofs.Routes.{hop_on_found, hop_on_link, UsesLink-counted}
use Rattle.tsn_timing.specs.declared.users.User.{User}
use Rattle.tsn_timing.specs.declared.users.Users.{Users}
use Rattle.tsn_timing.specs.Users.{user_on, users_before, users_of, users_in, with_user, AreUsersBefore, AreUsers}

All-from_contains : {X : Type 0} (P : X → Type 0) (xs : List X) → ((x : X) → Contains xs x → P x) → All P xs
All-from_contains P xs each = λ k d below. each (get_or xs k d) (Contains-get_or xs k d below)

abbrev pub no_user : User
no_user = record { stream = 0; hop = 0 }

pub user_counted : (network : Network) (link i hop : ℕ) → hop_on network i link ≡ Some hop → (i < stream_count network) × (hop < hop_count network i)
user_counted network link i hop on =
    let found = hop_on_found network i link hop on in
    (UsesLink-counted network i link found.0, found.1)

-- ---- a list for each link

pub user_pushed : (lists : List Users) (link : ℕ) (user : User) (was now : Users) → link < length lists → was ≡ get_or lists link was
    → now.list.items ≡ was.list.items ++ user ∷ [] → users_in (set lists link now) ≡ with_user (users_in lists) link user
user_pushed lists link user was now below is more =
    map-set (λ (users : Users). users.list.items) lists link now
    ∙ ap (set (users_in lists) link) (more
    ∙ ap (λ xs. xs ++ user ∷ []) (ap (λ (users : Users). users.list.items) is ∙ sym (get_or-map (λ (users : Users). users.list.items) lists link was [] below)))

abbrev pub empty_lists : ℕ → List (List User)
empty_lists n = map (λ _. []) (range_with_len 0 n)

pub empty_more : (lists now : List Users) (new : Users) (n : ℕ) → users_in lists ≡ empty_lists n → now ≡ lists ++ new ∷ []
    → new.list.items ≡ [] → users_in now ≡ empty_lists (n + 1)
empty_more lists now new n made more is =
    ap users_in more ∙ map-append (λ (users : Users). users.list.items) lists (new ∷ [])
    ∙ ap (λ (ls : List (List User)). ls ++ new.list.items ∷ []) made
    ∙ ap (λ (xs : List User). empty_lists n ++ xs ∷ []) is
    ∙ sym (map-range_with_len_more (λ _. []) 0 n n (omega arith))

module _ (network : Network) where
  pub none_before : (lists : List (List User)) (links : ℕ) → links ≡ length network.links → lists ≡ empty_lists links → AreUsersBefore network 0 lists
  none_before lists links count made = record {
    long = ap length made ∙ length-map-range_with_len (λ _. []) 0 links ∙ count;
    each = λ link below. ap (λ ls. get_or ls link []) made ∙ get_or-map-range_with_len (λ _. []) 0 links link link [] (omega arith) (omega arith);
  }

  pub all_before : (lists : List (List User)) (n : ℕ) → n ≡ stream_count network → AreUsersBefore network n lists
      → lists ≡ map (users_of network) (range_with_len 0 (length network.links))
  unfolding users_of
  all_before lists n all before =
      let links = length network.links in
      let long = length-map-range_with_len (users_of network) 0 links in
      ext_get_or [] lists (map (users_of network) (range_with_len 0 links)) (before.long ∙ sym long)
      (λ link inside.
      let below : link < links = let count = before.long in omega arith in
      before.each link below ∙ ap (λ m. users_before network m link) all
      ∙ sym (get_or-map-range_with_len (users_of network) 0 links link link [] below (omega arith)))

  one_before : (n link : ℕ) → users_before network (n + 1) link ≡ users_before network n link ++ user_on network link n
  one_before n link =
      let last : 0 + n ≡ n = omega arith in
      ap (flat_map (user_on network link)) (range_more 0 n ∙ ap (λ m. range_with_len 0 n ++ m ∷ []) last)
      ∙ flat_map-append (user_on network link) (range_with_len 0 n) (n ∷ [])
      ∙ ap (λ us. users_before network n link ++ us) (append-nil (user_on network link n))

  -- ---- a stream's hops

  -- a stream and a hop
  abbrev pub user : ℕ → ℕ → User
  user i hop = record { stream = i; hop = hop }

  user_on-some : (i link hop : ℕ) → hop_on network i link ≡ Some hop → user_on network link i ≡ user i hop ∷ []
  user_on-some i link hop on = rw on refl

  user_on-none : (i link : ℕ) → hop_on network i link ≡ None → user_on network link i ≡ []
  user_on-none i link off = rw off refl

  -- the lists when the first k hops of stream i are put in
  pub record AreHopsDone (i k : ℕ) (lists : List (List User)) : Type 0 where
    pub long : length lists ≡ length network.links
    pub not_yet : (link : ℕ) → link < length network.links → ((hop : ℕ) → hop < k → route_link network i hop ≡ link → ⊥)
        → get_or lists link [] ≡ users_before network i link
    pub put : (link hop : ℕ) → link < length network.links → hop < k → route_link network i hop ≡ link
        → get_or lists link [] ≡ users_before network i link ++ user i hop ∷ []

  module _ (formed : IsWellFormed network) (i : ℕ) (counted : i < stream_count network) where
    -- the hop of a link of the route
    pub hop_on-route : (k link : ℕ) → k < hop_count network i → route_link network i k ≡ link → hop_on network i link ≡ Some k
    hop_on-route k link below is = by_option (hop_on network i link) refl (subst (UsesLink network i) is (hop_uses network formed i counted k below))
      where
        by_option : (found : Option ℕ) → hop_on network i link ≡ found → UsesLink network i link → hop_on network i link ≡ Some k
        by_option None off uses = let none : false ≡ true = ap is_some (sym off) ∙ uses in cc
        by_option (Some hop) on uses =
            let there = (hop_on_found network i link hop on).1 in
            let same : hop ≡ k = hop_once network formed i counted hop k there below (hop_on_link network i link hop on ∙ sym is) in
            on ∙ ap (λ h. Some h) same

    pub no_hop_done : (lists : List (List User)) → AreUsersBefore network i lists → AreHopsDone i 0 lists
    no_hop_done lists before = record {
      long = before.long;
      not_yet = λ link below none. before.each link below;
      put = λ link hop below none. absurd (omega arith);
    }

    with_user-same : (lists : List (List User)) (link : ℕ) (one : User) → link < length lists
        → get_or (with_user lists link one) link [] ≡ get_or lists link [] ++ one ∷ []
    with_user-same lists link one below = get_or-set_same lists link _ [] below

    with_user-other : (lists : List (List User)) (link other : ℕ) (one : User) → (other ≡ link → ⊥)
        → get_or (with_user lists link one) other [] ≡ get_or lists other []
    with_user-other lists link other one differ = get_or-set_other lists link other _ [] differ

    pub one_hop_done : (k : ℕ) (lists : List (List User)) → k < hop_count network i → route_link network i k < length network.links → AreHopsDone i k lists
        → AreHopsDone i (k + 1) (with_user lists (route_link network i k) (user i k))
    one_hop_done k lists inside exists done =
        let here = route_link network i k in
        let long = done.long in
        let in_lists : here < length lists = omega arith in
        record {
          long = length-set lists here _ ∙ long;
          not_yet = λ link below none.
              with_user-other lists here link (user i k) (λ same. none k (omega arith) (sym same))
              ∙ done.not_yet link below (λ hop earlier is. none hop (omega arith) is);
          put = λ link hop below counted_hop is. elim (cases_lt hop k) [
            | inl earlier ↦
                with_user-other lists here link (user i k)
                (λ same. let at = hop_once network formed i counted hop k (omega arith) inside (is ∙ same) in omega arith)
                ∙ done.put link hop below earlier is
            | inr at ↦
                let last : hop ≡ k = omega arith in
                let same : link ≡ here = sym is ∙ ap (route_link network i) last in
                let first : get_or lists here [] ≡ users_before network i here = done.not_yet here exists
                (λ other earlier other_is.
                let at = hop_once network formed i counted other k (omega arith) inside other_is in
                omega arith) in
                subst (λ l. get_or (with_user lists here (user i k)) l [] ≡ users_before network i l ++ user i hop ∷ []) (sym same)
                (with_user-same lists here (user i k) in_lists ∙ ap (λ us. us ++ user i k ∷ []) first
                ∙ ap (λ h. users_before network i here ++ user i h ∷ []) (sym last))
          ];
        }

    pub hops_done : (k : ℕ) (lists : List (List User)) → k ≡ hop_count network i → AreHopsDone i k lists → AreUsersBefore network (i + 1) lists
    hops_done k lists all done = record {
      long = done.long;
      each = λ link below. by_option link below (hop_on network i link) refl ∙ sym (one_before i link);
    }
      where
        by_option : (link : ℕ) → link < length network.links → (found : Option ℕ) → hop_on network i link ≡ found
            → get_or lists link [] ≡ users_before network i link ++ user_on network link i
        by_option link below None off =
            done.not_yet link below (λ hop earlier is.
            let on = hop_on-route hop link (omega arith) is in
            let never : None ≡ Some hop = sym off ∙ on in
            cc)
            ∙ sym (append-nil (users_before network i link)) ∙ ap (λ us. users_before network i link ++ us) (sym (user_on-none i link off))
        by_option link below (Some hop) on =
            let there = (hop_on_found network i link hop on).1 in
            done.put link hop below (omega arith) (hop_on_link network i link hop on)
            ∙ ap (λ us. users_before network i link ++ us) (sym (user_on-some i link hop on))

  -- ---- what is among them

  module _ (link : ℕ) where
    from_user_on : (i : ℕ) (one : User) → Contains (user_on network link i) one → (one.stream ≡ i) × (hop_on network i link ≡ Some one.hop)
    from_user_on i one has = by_option (hop_on network i link) refl
      where
        by_option : (found : Option ℕ) → hop_on network i link ≡ found → (one.stream ≡ i) × (hop_on network i link ≡ Some one.hop)
        by_option None off = absurd (Contains-nil one (subst (λ us. Contains us one) (user_on-none i link off) has))
        by_option (Some hop) on = elim (Contains-cons_cases (user i hop) [] one (subst (λ us. Contains us one) (user_on-some i link hop on) has)) [
          | inl same ↦ (ap (λ (u : User). u.stream) (sym same), on ∙ ap (λ (u : User). Some u.hop) same)
          | inr none ↦ absurd (Contains-nil one none)
        ]

    pub user_uses : (one : User) → Contains (users_of network link) one → hop_on network one.stream link ≡ Some one.hop
    unfolding users_of
    user_uses one has =
        let found = from_flat_map (user_on network link) (range_with_len 0 (stream_count network)) one has in
        let of_stream = from_user_on found.0 one found.2 in
        ap (λ i. hop_on network i link) of_stream.0 ∙ of_stream.1

    pub users_use : All (λ (one : User). hop_on network one.stream link ≡ Some one.hop) (users_of network link)
    users_use = All-from_contains (λ (one : User). hop_on network one.stream link ≡ Some one.hop) (users_of network link) user_uses

    pub users_all : (i hop : ℕ) → hop_on network i link ≡ Some hop → Contains (users_of network link) (user i hop)
    unfolding users_of
    users_all i hop on =
        let counted = UsesLink-counted network i link (hop_on_found network i link hop on).0 in
        Contains-flat_map (user_on network link) (range_with_len 0 (stream_count network)) i (user i hop)
        (Contains-range (stream_count network) 0 i (omega arith) (omega arith))
        (subst (λ us. Contains us (user i hop)) (sym (user_on-some i link hop on)) (Contains-head (user i hop) []))

    few : (i : ℕ) (us : List User) → user_on network link i ≡ us → length us ≤ 1 → AllPairs (λ (a b : User). a.stream < b.stream) (user_on network link i)
    few i us are one = subst (AllPairs (λ (a b : User). a.stream < b.stream)) (sym are) (λ j k d order below. absurd (omega arith))

    alone : (i : ℕ) → AllPairs (λ (a b : User). a.stream < b.stream) (user_on network link i)
    alone i = by_option (hop_on network i link) refl
      where
        by_option : (found : Option ℕ) → hop_on network i link ≡ found → AllPairs (λ (a b : User). a.stream < b.stream) (user_on network link i)
        by_option None off = few i [] (user_on-none i link off) (omega arith)
        by_option (Some hop) on = few i (user i hop ∷ []) (user_on-some i link hop on) (omega arith)

    pub users_ascend : AllPairs (λ (a b : User). a.stream < b.stream) (users_of network link)
    unfolding users_of
    users_ascend =
        AllPairs-flat_map (λ i j. i < j) (λ (a b : User). a.stream < b.stream) (user_on network link) (range_with_len 0 (stream_count network))
        (AllPairs-range (stream_count network) 0) alone
        (λ i j less.
        All-from_contains (λ (a : User). All (λ (b : User). a.stream < b.stream) (user_on network link j)) (user_on network link i)
        (λ a a_in.
        All-from_contains (λ (b : User). a.stream < b.stream) (user_on network link j)
        (λ b b_in.
        let first = (from_user_on i a a_in).0 in
        let second = (from_user_on j b b_in).0 in
        omega arith)))

  -- ---- the list of a link

  pub lists_long : (lists : List Users) → AreUsers network lists → length lists ≡ length network.links
  lists_long lists are =
      sym (length-map lists (λ (users : Users). users.list.items)) ∙ ap length are.made ∙ length-map-range_with_len (users_of network) 0 (length network.links)

  pub list_of : (lists : List Users) (link : ℕ) (none : Users) → AreUsers network lists → link < length network.links
      → (get_or lists link none).list.items ≡ users_of network link
  list_of lists link none are below =
      let long = lists_long lists are in
      sym (get_or-map (λ (users : Users). users.list.items) lists link none [] (omega arith))
      ∙ ap (λ (ls : List (List User)). get_or ls link []) are.made
      ∙ get_or-map-range_with_len (users_of network) 0 (length network.links) link link [] below (omega arith)
