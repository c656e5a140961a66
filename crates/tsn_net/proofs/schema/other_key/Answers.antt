use Rattle.std.proofs.Common.{◌≡◌, Bool, List, ℕ, not, Some, None, option_map, String, Global, string_bytes, ap, sym, ◌∙◌}
use Rattle.std.specs.List.{list_any, find}
use Rattle.std.specs.Str.{bytes_eq}
use Rattle.std.specs.BTreeMap.{keys as keys_of}
use Rattle.toml.specs.View.{view}
use Rattle.tsn_net.specs.Schema.{name_of, known}
use Rattle.tsn_net.specs.Matter.{other_key}
use Rattle.tsn_net.proofs.MatterLemmas.{find-map, keys_in-view, other-found}
use Rattle.tsn_net.proofs.schema.other_key.Goals as goal

pub returns-in-Some-key_outside-clause-first : goal.returns-in-Some-key_outside-clause-first
returns-in-Some-key_outside-clause-first c =
    let d = view c.args.value.now in
    let m = c.in-Some.members.now in
    let test : List ℕ → Bool = λ name. not (list_any (λ k. bytes_eq (name_of k) name) (known c.args.table d)) in
    let inner : find (λ (s : String Global). test (string_bytes s)) (keys_of m) ≡ Some c.in-Some-key_outside.name.now =
    rw (← c.known.ensures) (sym c.in-Some-key_outside.ensures) in
    let whole : other_key c.args.table d ≡ Some (string_bytes c.in-Some-key_outside.name.now) =
    ap (find test) (keys_in-view d m c.in-Some.ensures) ∙ find-map test string_bytes (keys_of m) ∙ ap (option_map string_bytes) inner in
    sym (whole ∙ ap Some (sym c.as_str.ensures.value))

pub returns-in-Some-key_outside-clause-found : goal.returns-in-Some-key_outside-clause-found
returns-in-Some-key_outside-clause-found c = other-found c.args.table (view c.args.value.now) _ (returns-in-Some-key_outside-clause-first c)

pub returns-in-None-key_outside-clause-first : goal.returns-in-None-key_outside-clause-first
returns-in-None-key_outside-clause-first c =
    let d = view c.args.value.now in
    let m = c.in-Some.members.now in
    let test : List ℕ → Bool = λ name. not (list_any (λ k. bytes_eq (name_of k) name) (known c.args.table d)) in
    let inner : find (λ (s : String Global). test (string_bytes s)) (keys_of m) ≡ None = rw (← c.known.ensures) (sym c.in-None-key_outside.ensures) in
    let whole : other_key c.args.table d ≡ None =
    ap (find test) (keys_in-view d m c.in-Some.ensures) ∙ find-map test string_bytes (keys_of m) ∙ ap (option_map string_bytes) inner in
    sym whole

pub returns-in-None-key_outside-clause-found : goal.returns-in-None-key_outside-clause-found
returns-in-None-key_outside-clause-found c = other-found c.args.table (view c.args.value.now) _ (returns-in-None-key_outside-clause-first c)
