use Rattle.std.proofs.Common.{Bool, List, ℕ, not, option_map, string_bytes, ap, sym, ◌∙◌}
use Rattle.std.specs.BTreeMap.{keys}
use Rattle.std.specs.List.{list_any, find}
use Rattle.std.specs.Str.{bytes_eq}
use Rattle.serde_json.specs.View.{view, members_view}
use Rattle.tsn_cert.specs.Told.{key_name}
use Rattle.tsn_codec.proofs.Misfits.{find_map, mapped_twice, names_in-view, member_names-view}
use Rattle.tsn_codec.proofs.Counted.{some_other}
use Rattle.tsn_codec.proofs.document.other_name.Goals as goal

pub returns-in-Some-clause-found : goal.returns-in-Some-clause-found
returns-in-Some-clause-found c =
    let d = view c.args.value.now in
    let m = c.in-Some.members.now in
    let test : List ℕ → Bool = λ name. not (list_any (λ k. bytes_eq (key_name k) name) c.args.keys.now) in
    sym (ap (find test) (names_in-view d m c.in-Some.ensures) ∙ find_map test string_bytes (keys m)
    ∙ ap (option_map string_bytes) (sym c.key_outside.ensures.found) ∙ mapped_twice string_bytes _ c.key_outside.result)

pub returns-in-Some-clause-counted : goal.returns-in-Some-clause-counted
returns-in-Some-clause-counted c = λ distinct all object short.
    let m = c.in-Some.members.now in
    some_other c.args.keys.now (view c.args.value.now) (keys m) (members_view m.entries) (λ name. string_bytes name.now) c.key_outside.result
    c.in-Some.ensures (member_names-view m.entries) c.key_outside.ensures.sorted (returns-in-Some-clause-found c) distinct all short
