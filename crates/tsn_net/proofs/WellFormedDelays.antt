-- The hops of a document without fault take longer than its slack.
use Rattle.std.proofs.Common.{◌≡◌, ℕ, ◌+◌, ◌*◌, ◌<◌, Bool, true, false, ◌&&◌, List, [], ◌∷◌, length, get_or, map, refl, ap, sym, ◌∙◌, subst, arith, All}
use Rattle.std.specs.Prelude.{nat_le}
use Rattle.std.specs.List.{list_any, flat_map}
use Rattle.std.specs.Str.{bytes_eq}
use Rattle.std.proofs.lemmas.Bool.{false≢true}
use Rattle.std.proofs.lemmas.Bool.Decides.{nat_tests}
use Rattle.std.proofs.lemmas.List.{get_or-map, length-map}
use Rattle.std.proofs.lemmas.List.Folds.{list_any_at}
use Rattle.std.proofs.lemmas.List.Elements.{All-from_get_or, All-cons, All-nil}
use Rattle.std.proofs.lemmas.Slice.Eq.{bytes_eq-Decides}
use Rattle.toml.specs.Data.{Data, table, no_members}
use Rattle.tsn_model.specs.declared.Link.{Link}
use Rattle.tsn_model.specs.Network.{Network, Stream, stream_at, octets_of, link_at, proc_at, transfer, hop_delay}
use Rattle.tsn_model.proofs.Lists.{All-flat_map}
use Rattle.tsn_net.specs.declared.schema.Key.TheVariants as key
use Rattle.tsn_net.specs.Document.{number_at, text_at}
use Rattle.tsn_net.specs.Conditions.{octet_time, delay_over, joins, is_quick}
use Rattle.tsn_net.specs.Problem.{number_of, name_of_table, links_of_cable, link_between}
use Rattle.tsn_net.proofs.WellFormedLinks.{named}
use Rattle.tsn_net.proofs.WellFormedRoutes.{or_left, or_right, ends}

-- what passes no test fails each
pub fails_at : {A : Type 0} (p : A → Bool) (xs : List A) (i : ℕ) (d : A) → i < length xs → list_any p xs ≡ false → p (get_or xs i d) ≡ false
fails_at p xs i d below none = by (p (get_or xs i d)) refl
  where
    by : (b : Bool) → p (get_or xs i d) ≡ b → b ≡ false
    by true passes = absurd (false≢true (sym none ∙ list_any_at p xs i d below passes))
    by false passes = refl

and_fails : (a b : Bool) → (a && b) ≡ false → a ≡ true → b ≡ false
and_fails true b h is = h
and_fails false b h is = absurd (false≢true is)

both : (a b : Bool) → a ≡ true → b ≡ true → (a && b) ≡ true
both true b h is = is
both false b h is = absurd (false≢true h)

above : (a b : ℕ) → nat_le a b ≡ false → b < a
above a b h = grind (arith, nat_tests)

-- the delay over a link by what the stream is
pub delay_is : (network : Network) (i link : ℕ) (stream : Stream) → stream_at network i ≡ stream
    → hop_delay network i link ≡ (stream.octets + 8) * (link_at network link).octet_time + (link_at network link).propagation
    + proc_at network (link_at network link).to
unfolding octets_of transfer hop_delay
delay_is network i link stream is =
    ap (λ (s : Stream). (s.octets + 8) * (link_at network link).octet_time + (link_at network link).propagation + proc_at network (link_at network link).to) is

module _ (nodes cables : List Data) (slack octets : ℕ) (cables_known : (k : ℕ) → k < length cables
    → (list_any (bytes_eq (text_at key.A (get_or cables k (table no_members)))) (map name_of_table nodes) ≡ true)
    × (list_any (bytes_eq (text_at key.B (get_or cables k (table no_members)))) (map name_of_table nodes) ≡ true)) where
  abbrev names : List (List ℕ)
  names = map name_of_table nodes

  -- over a link between two nodes a frame takes longer than the slack
  abbrev IsSlow : List ℕ → List ℕ → Link → Type 0
  IsSlow x y link = link.from ≡ number_of names x → link.to ≡ number_of names y
      → slack < (octets + 8) * link.octet_time + link.propagation + number_at key.Proc (get_or nodes (number_of names y) (table no_members))

  same_named : (x y : List ℕ) → list_any (bytes_eq x) names ≡ true → list_any (bytes_eq y) names ≡ true → number_of names x ≡ number_of names y
      → bytes_eq x y ≡ true
  same_named x y x_known y_known same =
      (bytes_eq-Decides x y).1 ((named names x x_known).1 ∙ ap (λ i. get_or names i []) same ∙ sym ((named names y y_known).1))

  module _ (x y : List ℕ) (x_known : list_any (bytes_eq x) names ≡ true) (y_known : list_any (bytes_eq y) names ≡ true)
      (slow : is_quick slack octets nodes cables (x, y) ≡ false) where
    -- so it is over a cable that joins them
    joined_slow : (k : ℕ) → k < length cables → joins x y (get_or cables k (table no_members)) ≡ true
        → slack < delay_over octets (get_or cables k (table no_members)) (get_or nodes (number_of names y) (table no_members))
    joined_slow k below joined =
        let cable = get_or cables k (table no_members) in
        let at = named names y y_known in
        let within : number_of names y < length nodes = subst (λ n. number_of names y < n) (length-map nodes name_of_table) at.0 in
        let node = get_or nodes (number_of names y) (table no_members) in
        let named_so : name_of_table node ≡ y = sym (get_or-map name_of_table nodes (number_of names y) (table no_members) [] within) ∙ sym at.1 in
        let over : (joins x y cable && list_any (λ n. bytes_eq (text_at key.Name n) y && nat_le (delay_over octets cable n) slack) nodes) ≡ false = fails_at
        (λ c. joins x y c && list_any (λ n. bytes_eq (text_at key.Name n) y && nat_le (delay_over octets c n) slack) nodes) cables k (table no_members)
        below slow in
        let to : (bytes_eq (text_at key.Name node) y && nat_le (delay_over octets cable node) slack) ≡ false = fails_at
        (λ n. bytes_eq (text_at key.Name n) y && nat_le (delay_over octets cable n) slack) nodes (number_of names y) (table no_members) within
        (and_fails (joins x y cable) _ over joined) in
        above (delay_over octets cable node) slack (and_fails (bytes_eq (text_at key.Name node) y) _ to ((bytes_eq-Decides _ y).1 named_so))

    cable_slow : (k : ℕ) → k < length cables → All (IsSlow x y) (links_of_cable names (get_or cables k (table no_members)))
    cable_slow k below =
        let cable = get_or cables k (table no_members) in
        let a = text_at key.A cable in
        let b = text_at key.B cable in
        let known = cables_known k below in
        let time = octet_time (number_at key.Mbps cable) in
        let delay = number_at key.Prop cable in
        let there : Link = record { from = number_of names a; to = number_of names b; octet_time = time; propagation = delay } in
        let back : Link = record { from = number_of names b; to = number_of names a; octet_time = time; propagation = delay } in
        All-cons (IsSlow x y) there (back ∷ [])
        (λ from to. joined_slow k below (or_left (bytes_eq a x && bytes_eq b y) (bytes_eq a y && bytes_eq b x)
        (both (bytes_eq a x) (bytes_eq b y) (same_named a x known.0 x_known from) (same_named b y known.1 y_known to))))
        (All-cons (IsSlow x y) back []
        (λ from to. joined_slow k below (or_right (bytes_eq a x && bytes_eq b y) (bytes_eq a y && bytes_eq b x)
        (both (bytes_eq a y) (bytes_eq b x) (same_named a y known.0 y_known to) (same_named b x known.1 x_known from)))) (All-nil (IsSlow x y)))

    links_slow : All (IsSlow x y) (flat_map (links_of_cable names) cables)
    links_slow = All-flat_map (IsSlow x y) (links_of_cable names) cables
        (All-from_get_or (λ cable. All (IsSlow x y) (links_of_cable names cable)) cables (table no_members) cable_slow)

  module _ (network : Network) (links_are : network.links ≡ flat_map (links_of_cable names) cables)
      (procs_are : network.procs ≡ map (number_at key.Proc) nodes) where
    -- a frame takes longer than the slack over this link
    abbrev TakesLonger : ℕ → Type 0
    TakesLonger link = slack < (octets + 8) * (link_at network link).octet_time + (link_at network link).propagation + proc_at network (link_at network link).to

    pub hop_slow : (x y : List ℕ) → list_any (bytes_eq x) names ≡ true → list_any (bytes_eq y) names ≡ true → list_any (joins x y) cables ≡ true
        → is_quick slack octets nodes cables (x, y) ≡ false → TakesLonger (link_between network.links (number_of names x, number_of names y))
    unfolding link_at
    hop_slow x y x_known y_known joined slow =
        let at = named names y y_known in
        let within : number_of names y < length nodes = subst (λ n. number_of names y < n) (length-map nodes name_of_table) at.0 in
        let link = link_between network.links (number_of names x, number_of names y) in
        let e = ends network names cables links_are x y joined in
        let all : All (IsSlow x y) network.links = subst (All (IsSlow x y)) (sym links_are) (links_slow x y x_known y_known slow) in
        let here = all link (record { from = 0; to = 0; octet_time = 0; propagation = 0 }) e.0 e.1 e.2 in
        let proc : proc_at network (link_at network link).to ≡ number_at key.Proc (get_or nodes (number_of names y) (table no_members)) =
        ap (proc_at network) e.2 ∙ ap (λ ps. get_or ps (number_of names y) 0) procs_are
        ∙ get_or-map (number_at key.Proc) nodes (number_of names y) (table no_members) 0 within in
        subst (λ n. slack < (octets + 8) * (link_at network link).octet_time + (link_at network link).propagation + n) (sym proc) here
