-- Lists and texts that a round of a loop makes longer by what one element more makes.
use Rattle.std.proofs.Common.{◌≡◌, ℕ, ◌+◌, ◌<◌, List, [], ◌∷◌, ◌++◌, map, take, length, slice_index_or, ap, refl, ◌∙◌, sym}
use Rattle.std.specs.List.{flat_map}
use Rattle.std.proofs.lemmas.List.{append_assoc, flat_map_more, map-append, map_more, take_more}

pub mapped_more : {X Y : Type 0} (f : X → Y) (xs : List X) (i : ℕ) (d : X) (before after : List Y) (y : Y) → i < length xs → before ≡ map f (take i xs)
    → after ≡ before ++ y ∷ [] → y ≡ f (slice_index_or xs i d) → after ≡ map f (take (i + 1) xs)
mapped_more f xs i d before after y below is pushed last =
    pushed ∙ ap (λ (ys : List _). ys ++ y ∷ []) is ∙ ap (λ z. map f (take i xs) ++ z ∷ []) last ∙ sym (map_more f xs i d below)

pub mapped_behind : {X Y : Type 0} (f : X → Y) (first : List Y) (xs : List X) (i : ℕ) (d : X) (before after : List Y) (y : Y) → i < length xs
    → before ≡ first ++ map f (take i xs) → after ≡ before ++ y ∷ [] → y ≡ f (slice_index_or xs i d) → after ≡ first ++ map f (take (i + 1) xs)
mapped_behind f first xs i d before after y below is pushed last =
    pushed ∙ ap (λ (ys : List _). ys ++ y ∷ []) is ∙ append_assoc first (map f (take i xs)) (y ∷ [])
    ∙ ap (λ (ys : List _). first ++ ys) (mapped_more f xs i d (map f (take i xs)) (map f (take i xs) ++ y ∷ []) y below refl refl last)

pub written_more : {X : Type 0} (f : X → List ℕ) (xs : List X) (i : ℕ) (d : X) (before after piece : List ℕ) → i < length xs → before ≡ flat_map f (take i xs)
    → after ≡ before ++ piece → piece ≡ f (slice_index_or xs i d) → after ≡ flat_map f (take (i + 1) xs)
written_more f xs i d before after piece below is written last =
    written ∙ ap (λ (text : List ℕ). text ++ piece) is ∙ ap (λ (text : List ℕ). flat_map f (take i xs) ++ text) last
    ∙ flat_map_more f [] (take i xs) (slice_index_or xs i d) ∙ ap (flat_map f) (sym (take_more xs i d below))

pub written_behind : {X : Type 0} (f : X → List ℕ) (first : List ℕ) (xs : List X) (i : ℕ) (d : X) (before after piece : List ℕ) → i < length xs
    → before ≡ first ++ flat_map f (take i xs) → after ≡ before ++ piece → piece ≡ f (slice_index_or xs i d) → after ≡ first ++ flat_map f (take (i + 1) xs)
written_behind f first xs i d before after piece below is written last =
    written ∙ ap (λ (text : List ℕ). text ++ piece) is ∙ append_assoc first (flat_map f (take i xs)) piece
    ∙ ap (λ (text : List ℕ). first ++ text) (written_more f xs i d (flat_map f (take i xs)) (flat_map f (take i xs) ++ piece) piece below refl refl last)

pub made_behind : {X Y Z : Type 0} (g : Y → Z) (f : X → List Y) (first : List Z) (xs : List X) (i : ℕ) (d : X) (before after : List Z) → i < length xs
    → before ≡ first ++ map g (flat_map f (take i xs)) → after ≡ before ++ map g (f (slice_index_or xs i d)) → after ≡ first ++ map g (flat_map f (take (i + 1) xs))
made_behind g f first xs i d before after below is made =
    let x = slice_index_or xs i d in
    made ∙ ap (λ (zs : List _). zs ++ map g (f x)) is ∙ append_assoc first (map g (flat_map f (take i xs))) (map g (f x))
    ∙ ap (λ (zs : List _). first ++ zs) (sym (map-append g (flat_map f (take i xs)) (f x)))
    ∙ ap (λ (ys : List _). first ++ map g ys) (flat_map_more f [] (take i xs) x ∙ ap (flat_map f) (sym (take_more xs i d below)))
