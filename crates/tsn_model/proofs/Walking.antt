-- A place keeps its path while a search goes on.
use Rattle.std.proofs.Common.{◌≡◌, ℕ, ◌≤◌, ◌<◌, List, [], ◌∷◌, ◌++◌, length, get_or, ap, ◌∙◌, arith}
use Rattle.std.proofs.lemmas.List.{length-append, get_or_append_left}
use Rattle.tsn_model.specs.declared.Decision.{Decision}
use Rattle.tsn_model.specs.Search.{Settlement, children_of, made_paths}
use Rattle.tsn_model.specs.Walk.{path_made, IsPlaceOf}
use Rattle.tsn_model.proofs.Histories.{made_paths-snoc}

made_grows : (history : List Settlement) (settlement : Settlement) → length (made_paths history) ≤ length (made_paths (history ++ settlement ∷ []))
made_grows history settlement =
    let children = children_of settlement.event.path settlement.event.outcome in
    let longer : length (made_paths (history ++ settlement ∷ [])) ≡ length (made_paths history ++ children) = ap length (made_paths-snoc history settlement) in
    omega (arith, longer, length-append (made_paths history) children)

path_made-stays : (history : List Settlement) (settlement : Settlement) (place : ℕ) → place < length (made_paths history) → path_made (history ++ settlement ∷ []) place ≡ path_made history place
unfolding path_made
path_made-stays history settlement place within =
    ap (λ ps. get_or ps place []) (made_paths-snoc history settlement)
    ∙ get_or_append_left (made_paths history) (children_of settlement.event.path settlement.event.outcome) [] place within

-- a place keeps its path
pub place_stays : (history : List Settlement) (settlement : Settlement) (path : List Decision) (place : ℕ) → IsPlaceOf history path place → IsPlaceOf (history ++ settlement ∷ []) path place
place_stays history settlement path place at =
    record {
      within = omega (arith, at.within, made_grows history settlement);
      is = path_made-stays history settlement place at.within ∙ at.is;
    }
