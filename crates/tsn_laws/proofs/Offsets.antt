-- In a document without fault a stream that has an offset has neither a release nor a latest instant.
use Rattle.std.proofs.Common.{◌≡◌, ℕ, ◌<◌, ◌||◌, Bool, true, false, not, List, length, get_or, Option, Some, None, is_some, refl, sym, ap, ◌∙◌, arith, pos, true≢false}
use Rattle.std.specs.Prelude.{option_and_then, unwrap_or}
use Rattle.std.specs.declared.cmp.Ordering.{Ordering}
use Rattle.std.specs.declared.cmp.Ordering.TheVariants.{Less, Equal, Greater}
use Rattle.std.specs.Ordering.{nat_cmp, match_ordering}
use Rattle.std.specs.List.{list_any}
use Rattle.std.specs.Option.{option_map, option_map_or}
use Rattle.std.specs.Str.{bytes_eq}
use Rattle.std.specs.Cmp.Lexicographic.{slice_cmp}
use Rattle.std.proofs.Math.Nat.{div-le_self}
use Rattle.std.proofs.lemmas.Bool.{or_parts}
use Rattle.std.proofs.lemmas.List.{length-map, get_or-map}
use Rattle.std.proofs.lemmas.Option.{none-some}
use Rattle.std.proofs.lemmas.Map.Lookups.{exact_bytes}
use Rattle.toml.specs.Data.{Data, string, integer, float, boolean, datetime, array, table, Members, no_members, member, get_member, get, as_integer}
use Rattle.tsn_model.specs.Network.{Stream, no_stream, stream_at, turns_of, period_of, release_of, latest_of}
use Rattle.tsn_model.specs.Held.{AreFree, had}
use Rattle.tsn_model.specs.declared.fault.Place.TheVariants as place
use Rattle.tsn_net.specs.declared.schema.Key.TheVariants as key
use Rattle.tsn_net.specs.Schema.{name_of, has_routes, has_window, stream_keys, known, member_keys, keys_in, has_unknown_key}
use Rattle.tsn_net.specs.Document.{Document, table_at, unsigned, number_at, number_or}
use Rattle.tsn_net.specs.Conditions.{holds, fault_of, unknown_key}
use Rattle.tsn_net.specs.Problem.{cycle_of, node_names_of, links_of, stream_of, offset_at, offsets_of, free_network_of}
use Rattle.tsn_net.proofs.Faultless.{clear}

-- what is so of no key of a table isn't so of one at which a value is
member_there : (k : List ℕ) (p : List ℕ → Bool) (ms : Members) (v : Data) → get_member k ms ≡ Some v → list_any p (member_keys ms) ≡ false → p k ≡ false
member_there k p no_members v there none = absurd (none-some v there)
member_there k p (member l d ms) v there none = by_order (λ found. member_there k p ms v found (parts none).1) (slice_cmp nat_cmp k l) refl
  where
    parts : (p l || list_any p (member_keys ms)) ≡ false → (p l ≡ false) × (list_any p (member_keys ms) ≡ false)
    parts = or_parts (p l) (list_any p (member_keys ms))

    found_by : (o : Ordering) → slice_cmp nat_cmp k l ≡ o → match_ordering o (get_member k ms) (Some d) (get_member k ms) ≡ Some v
    found_by o is = sym (ap (λ o. match_ordering o (get_member k ms) (Some d) (get_member k ms)) is) ∙ there

    by_order : (get_member k ms ≡ Some v → p k ≡ false) → (o : Ordering) → slice_cmp nat_cmp k l ≡ o → p k ≡ false
    by_order later Less is = later (found_by Less is)
    by_order later Equal is = ap p (exact_bytes k l is) ∙ (parts none).0
    by_order later Greater is = later (found_by Greater is)

key_there : (k : List ℕ) (p : List ℕ → Bool) (d : Data) (v : Data) → get k d ≡ Some v → list_any p (keys_in d) ≡ false → p k ≡ false
key_there k p (table ms) v there none = member_there k p ms v there none
key_there k p (string s) v there none = absurd (none-some v there)
key_there k p (integer n) v there none = absurd (none-some v there)
key_there k p (float x) v there none = absurd (none-some v there)
key_there k p (boolean b) v there none = absurd (none-some v there)
key_there k p (datetime t) v there none = absurd (none-some v there)
key_there k p (array ds) v there none = absurd (none-some v there)

-- with a release or a latest instant `offset` isn't known
unknown_beside : (routes window : Bool) → not (list_any (λ k. bytes_eq (name_of k) (name_of key.Offset)) (stream_keys routes window)) ≡ false → window ≡ false
unknown_beside true true known_there = absurd (true≢false known_there)
unknown_beside false true known_there = absurd (true≢false known_there)
unknown_beside true false known_there = refl
unknown_beside false false known_there = refl

module _ (d : Document) (none : fault_of d ≡ None) where
  stream_of_file : ℕ → Data
  stream_of_file i = get_or d.streams i (table no_members)

  all_known : (i : ℕ) → i < length d.streams → has_unknown_key (table_at (place.Stream 0)) (stream_of_file i) ≡ false
  unfolding holds unknown_key stream_of_file
  all_known i below = (clear d 2 none (omega arith)).streams i below

  no_window : (stream v : Data) → has_unknown_key (table_at (place.Stream 0)) stream ≡ false → get (name_of key.Offset) stream ≡ Some v → has_window stream ≡ false
  no_window stream v known_all there = unknown_beside (has_routes stream) (has_window stream)
      (key_there (name_of key.Offset) (λ name. not (list_any (λ k. bytes_eq (name_of k) name) (known (table_at (place.Stream 0)) stream))) stream v there known_all)

  absent : (found : Option Data) → is_some found ≡ false → found ≡ None
  absent None isnt = refl
  absent (Some v) isnt = absurd (true≢false isnt)

  no_release : (stream : Data) → get (name_of key.Release) stream ≡ None → number_at key.Release stream ≡ 0
  no_release stream is = ap (λ found. unsigned (unwrap_or (option_and_then as_integer found) (pos 0))) is

  no_latest : (cycle : ℕ) (stream : Data) → get (name_of key.Latest) stream ≡ None → number_or cycle key.Latest stream ≡ cycle
  no_latest cycle stream is = ap (λ found. option_map_or unsigned (option_and_then as_integer found) cycle) is

  there_of : (stream : Data) (offset : ℕ) → (found : Option Data) → get (name_of key.Offset) stream ≡ found → offset_at stream ≡ Some offset
      → has_unknown_key (table_at (place.Stream 0)) stream ≡ false
      → has_window stream ≡ false
  there_of stream offset None is some known_all = absurd
      (none-some offset (sym (ap (λ found. option_map unsigned (option_and_then as_integer found)) is) ∙ some))
  there_of stream offset (Some v) is some known_all = no_window stream v known_all is

  stated : (i : ℕ) → i < length d.streams → stream_at (free_network_of d) i ≡ stream_of (cycle_of d) (node_names_of d) (links_of d) (stream_of_file i)
  unfolding stream_at stream_of_file
  stated i below = get_or-map (stream_of (cycle_of d) (node_names_of d) (links_of d)) d.streams i (table no_members) no_stream below

  had_of : (i : ℕ) → i < length d.streams → had (offsets_of d) i ≡ offset_at (stream_of_file i)
  unfolding stream_of_file
  had_of i below = get_or-map offset_at d.streams i (table no_members) None below

  pub free : AreFree (free_network_of d) (offsets_of d)
  unfolding release_of latest_of period_of
  free i offset below is =
      let read = stream_of (cycle_of d) (node_names_of d) (links_of d) in
      let inside : i < length d.streams = rw (length-map d.streams read) at below in
      let file = stream_of_file i in
      let none_beside = there_of file offset (get (name_of key.Offset) file) refl (sym (had_of i inside) ∙ is) (all_known i inside) in
      let both = or_parts (is_some (get (name_of key.Release) file)) (is_some (get (name_of key.Latest) file)) none_beside in
      let release = ap (λ (s : Stream). s.release) (stated i inside) ∙ no_release file (absent (get (name_of key.Release) file) both.0) in
      let latest = ap (λ (s : Stream). s.latest) (stated i inside) ∙ no_latest (cycle_of d) file (absent (get (name_of key.Latest) file) both.1) in
      let part = div-le_self (cycle_of d) (turns_of (free_network_of d) i) in
      (release, omega (arith, latest, part))
