-- What tokens spell has a value where each of their numbers has one.
use Rattle.std.proofs.Common.{◌≡◌, ℕ, zero, suc, List, [], ◌∷◌, length, true, Option, Some, None, refl, ap, ◌∙◌, subst}
use Rattle.std.specs.Prelude.{option_and_then, option_map, is_some}
use Rattle.std.specs.List.{list_all}
use Rattle.std.proofs.lemmas.Bool.{and_parts}
use Rattle.json.specs.Token.{Token}
use Rattle.json.specs.Token as token
use Rattle.json.specs.Json as json
use Rattle.json.specs.Json.{Json, Parse, parse_map, after_end_array, read_key, items_step, members_step, items, members, value_with, value, skip_value}
use Rattle.json.proofs.Grammar.{left_some, closed_array, read_key_is}
use Rattle.serde_json.specs.Data.{Data, Items, Members, item, array, object, number, string, boolean, null, put, no_items, no_members}
use Rattle.serde_json.specs.Read.{of_json, of_items, of_members, converted, number_of}
use Rattle.tsn_cert.specs.Says.{value_read}
use Rattle.tsn_codec.specs.Written.{is_plain, ArePlain}
use Rattle.tsn_codec.proofs.Pairs.{both_same, never_some}

abbrev Good : Json → Type 0
Good j = (d : Data) × (of_json j ≡ Some d)

abbrev GoodItems : json.Items → Type 0
GoodItems js = (ds : Items) × (of_items js ≡ Some ds)

abbrev GoodMembers : json.Members → Type 0
GoodMembers ms = (old : Members) → (found : Members) × (of_members ms old ≡ Some found)

-- what is parsed of plain tokens is good, and what is left is plain
abbrev Keeps : {A : Type 0} → (A → Type 0) → Parse A → Type 0
Keeps {A} good p = (ts r : List Token) (a : A) → p ts ≡ Some (a, r) → ArePlain ts → good a × ArePlain r

mapped : {A B : Type 0} (f : A → B) (o : Option (A × List Token)) (b : B) (r : List Token) → parse_map f o ≡ Some (b, r)
    → (a : A) × (o ≡ Some (a, r)) × (f a ≡ b)
mapped f None b r e = never_some (b, r) e
mapped f (Some p) b r e = let same = both_same (f p.0, p.1) (b, r) e in (p.0, ap (λ x. Some (p.0, x)) same.1, same.0)

pub followed : {A B : Type 0} (f : A → Option B) (o : Option A) (b : B) → option_and_then f o ≡ Some b → (a : A) × (o ≡ Some a) × (f a ≡ Some b)
followed f None b e = absurd (cc)
followed f (Some a) b e = (a, refl, e)

good_item : (j : Json) (js : json.Items) → Good j → GoodItems js → GoodItems (json.item j js)
good_item j js one more =
    (item one.0 more.0, ap (λ o. option_and_then (λ d. option_map (item d) (of_items js)) o) one.1 ∙ ap (option_map (item one.0)) more.1)

good_member : (k : List ℕ) (j : Json) (ms : json.Members) → Good j → GoodMembers ms → GoodMembers (json.member k j ms)
good_member k j ms one more old =
    let found = more (put k one.0 old) in
    (found.0, ap (λ o. option_and_then (λ d. of_members ms (put k d old)) o) one.1 ∙ found.1)

module _ (p : Parse Json) (keeps : Keeps Good p) where
  item_turn : (more : Parse json.Items) (ts r : List Token) (js : json.Items) (o : Option (List Token)) → Keeps GoodItems more → after_end_array ts ≡ o
      → items_step p more ts o ≡ Some (js, r) → ArePlain ts → GoodItems js × ArePlain r
  item_turn more ts r js (Some x) again e f plain =
      let same = both_same (json.no_items, x) (js, r) f in
      let rest : ArePlain x = subst ArePlain (closed_array ts x e) plain in
      (subst GoodItems same.0 (no_items, refl), subst ArePlain same.1 rest)
  item_turn more ts r js None again e f plain =
      let q = followed (λ q. parse_map (json.item q.0) (more q.1)) (p ts) (js, r) f in
      let w = mapped (json.item q.0.0) (more q.0.1) js r q.2 in
      let first = keeps ts q.0.1 q.0.0 q.1 plain in
      let others = again q.0.1 r w.0 w.1 first.1 in
      (subst GoodItems w.2 (good_item q.0.0 w.0 first.0 others.0), others.1)

  items_keep : (n : ℕ) → Keeps GoodItems (items p n)
  unfolding items
  items_keep zero ts r js e plain = never_some (js, r) e
  items_keep (suc n) ts r js e plain = item_turn (items p n) ts r js (after_end_array ts) (items_keep n) refl e plain

  member_turn : (more : Parse json.Members) (ts r : List Token) (ms : json.Members) (o : Option (Option (List ℕ) × List Token)) → Keeps GoodMembers more
      → read_key ts ≡ o → option_and_then (λ q. members_step p more q.0 q.1) o ≡ Some (ms, r) → ArePlain ts → GoodMembers ms × ArePlain r
  member_turn more ts r ms None again e f plain = never_some (ms, r) f
  member_turn more ts r ms (Some (None, s)) again e f plain =
      let same = both_same (json.no_members, s) (ms, r) f in
      let rest : ArePlain s = subst ArePlain (read_key_is ts None s e) plain in
      (subst GoodMembers same.0 (λ old. (old, refl)), subst ArePlain same.1 rest)
  member_turn more ts r ms (Some (Some k, s)) again e f plain =
      let rest : ArePlain s = subst ArePlain (read_key_is ts (Some k) s e) plain in
      let q = followed (λ q. parse_map (json.member k q.0) (more q.1)) (p s) (ms, r) f in
      let w = mapped (json.member k q.0.0) (more q.0.1) ms r q.2 in
      let first = keeps s q.0.1 q.0.0 q.1 rest in
      let others = again q.0.1 r w.0 w.1 first.1 in
      (subst GoodMembers w.2 (good_member k q.0.0 w.0 first.0 others.0), others.1)

  members_keep : (n : ℕ) → Keeps GoodMembers (members p n)
  unfolding members
  members_keep zero ts r ms e plain = never_some (ms, r) e
  members_keep (suc n) ts r ms e plain = member_turn (members p n) ts r ms (read_key ts) (members_keep n) refl e plain

is_there : {A : Type 0} (o : Option A) → is_some o ≡ true → (a : A) × (o ≡ Some a)
is_there None e = absurd (cc)
is_there (Some a) e = (a, refl)

-- a value of one token
alone : (p q : Json × List Token) → Good p.0 → Some p ≡ Some q → ArePlain p.1 → Good q.0 × ArePlain q.1
alone p q good e plain = let same = both_same p q e in (subst Good same.0 good, subst ArePlain same.1 plain)

with_keeps : (a : Parse json.Items) (o : Parse json.Members) → Keeps GoodItems a → Keeps GoodMembers o → Keeps Good (value_with a o)
with_keeps a o p q [] r j e plain = never_some (j, r) e
with_keeps a o p q (token.begin_object ∷ ts) r j e plain =
    let w = mapped json.object (o ts) j r e in
    let inside = q ts r w.0 w.1 plain in
    let found = inside.0 no_members in
    (subst Good w.2 (object found.0, ap (option_map object) found.1), inside.1)
with_keeps a o p q (token.end_object ∷ ts) r j e plain = never_some (j, r) e
with_keeps a o p q (token.begin_array ∷ ts) r j e plain =
    let w = mapped json.array (a ts) j r e in
    let inside = p ts r w.0 w.1 plain in
    (subst Good w.2 (array inside.0.0, ap (option_map array) inside.0.1), inside.1)
with_keeps a o p q (token.end_array ∷ ts) r j e plain = never_some (j, r) e
with_keeps a o p q (token.key s ∷ ts) r j e plain = never_some (j, r) e
with_keeps a o p q (token.string s ∷ ts) r j e plain = alone ((json.string s), ts) (j, r) (string s, refl) e plain
with_keeps a o p q (token.number s ∷ ts) r j e plain =
    let both = and_parts (is_some (number_of s)) (list_all is_plain ts) plain in
    let n = is_there (number_of s) both.0 in
    alone ((json.number s), ts) (j, r) (number n.0, ap (option_map number) n.1) e both.1
with_keeps a o p q (token.boolean b ∷ ts) r j e plain = alone ((json.boolean b), ts) (j, r) (boolean b, refl) e plain
with_keeps a o p q (token.null ∷ ts) r j e plain = alone (json.null, ts) (j, r) (null, refl) e plain
with_keeps a o p q (token.bad ∷ ts) r j e plain = never_some (j, r) e

value_keeps : (depth : ℕ) → Keeps Good (value depth)
unfolding value
value_keeps zero = with_keeps (λ ts. None) (λ ts. None) (λ ts r a e plain. never_some (a, r) e) (λ ts r a e plain. never_some (a, r) e)
value_keeps (suc d) =
    with_keeps (λ ts. items (value d) (length ts) ts) (λ ts. members (value d) (length ts) ts)
    (λ ts. items_keep (value d) (value_keeps d) (length ts) ts) (λ ts. members_keep (value d) (value_keeps d) (length ts) ts)

-- what was passed of plain tokens is a value
pub plain_skipped : (depth : ℕ) (ts rest : List Token) → skip_value depth ts ≡ Some rest → ArePlain ts
    → (d : Data) × (value_read depth ts ≡ Some (d, rest)) × ArePlain rest
plain_skipped depth ts rest e plain =
    let j = left_some (value depth ts) rest e in
    let k = value_keeps depth ts rest j.0 j.1 plain in
    (k.0.0, ap (converted of_json) j.1 ∙ ap (option_map {U = Data × List Token} (λ d. (d, rest))) k.0.1, k.1)
