use Rattle.std.proofs.Common.{◌≡◌, ◌++◌, ℕ, List, [], ◌∷◌, refl, sym, ap, ◌∙◌, string_bytes, map}
use Rattle.std.specs.List.{flat_map}
use Rattle.std.proofs.lemmas.Iterator.{YieldsList-from_chars}
use Rattle.std.proofs.lemmas.Iterator.Consumers.{YieldsList-end}
use Rattle.tsn_text.specs.Field.{quoted_character}
use Rattle.tsn_text.proofs.field.write_characters.Goals as goal

map_id : (xs : List ℕ) → map (λ x. x) xs ≡ xs
map_id [] = refl
map_id (x ∷ xs) = ap (λ ys. x ∷ ys) (map_id xs)

pub returns : goal.returns
returns c =
    let ended = YieldsList-end (YieldsList-from_chars c.args.field.now c.utf8.field cc) c.loop-character.yielded _
    c.loop-character.yielded_by _ _ c.in-None.is c.next.ensures.steps in
    c.loop-character.invariant ∙ ap (λ xs. string_bytes c.args.text.now ++ flat_map quoted_character xs) (sym (map_id c.loop-character.yielded) ∙ ended.0)
