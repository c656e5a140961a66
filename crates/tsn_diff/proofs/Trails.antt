use Rattle.std.proofs.Common.{◌≡◌, ◌≢◌, ℕ, ◌⊎◌, List, [], ◌∷◌, ◌++◌, map, All, slice_index, Contains, refl, sym, ap, ◌∙◌, inl, inr, ⊎_elim, arith, get_or-set_other, Option}
use Rattle.std.proofs.lemmas.Bool.{cases_eq}
use Rattle.std.proofs.lemmas.List.{set-set, set_comm, set-get_or}
use Rattle.std.proofs.lemmas.List.Elements.{All-nil, All-cons, All-contains, All-map, Contains-append_right}
use Rattle.tsn_diff.specs.declared.forest.Step.{Step}
use Rattle.tsn_diff.specs.declared.trail.Former.{Former}
use Rattle.tsn_model.specs.Schedule.{offset_of}
use Rattle.tsn_diff.specs.Forest.{Labelling}
use Rattle.tsn_diff.specs.Steps.{last_of}
use Rattle.tsn_diff.specs.Trail.{put_back, put_back_all}

-- labels are the same where their lists are
same_labels : {a b : List ℕ} {c d : List (Option Step)} → a ≡ b → c ≡ d → ◌≡◌ {A = Labelling} (record { offsets = a; last = c }) (record { offsets = b; last = d })
same_labels e f = rw (e, f) refl

pub put_back_all-append : (us vs : List Former) (labels : Labelling) → put_back_all (us ++ vs) labels ≡ put_back_all us (put_back_all vs labels)
put_back_all-append [] vs labels = refl
put_back_all-append (u ∷ us) vs labels = ap (put_back u) (put_back_all-append us vs labels)

-- the label that was noted undoes what was written over it
pub put_back_noted : (labels : Labelling) (w : Former) → put_back (record { stream = w.stream; offset = slice_index labels.offsets w.stream; last = last_of labels.last w.stream }) (put_back w labels) ≡ labels
put_back_noted labels w =
    same_labels (set-set labels.offsets w.stream w.offset _ ∙ set-get_or labels.offsets w.stream 0)
    (set-set labels.last w.stream w.last _ ∙ set-get_or labels.last w.stream _)

put_back_twice : (u w : Former) (labels : Labelling) → u.stream ≡ w.stream → put_back u (put_back w labels) ≡ put_back u labels
put_back_twice u w labels e = rw e (same_labels (set-set labels.offsets w.stream w.offset u.offset) (set-set labels.last w.stream w.last u.last))

put_back_comm : (u w : Former) (labels : Labelling) → u.stream ≢ w.stream → put_back u (put_back w labels) ≡ put_back w (put_back u labels)
put_back_comm u w labels e =
    same_labels (set_comm labels.offsets w.stream u.stream w.offset u.offset (λ f. e (sym f))) (set_comm labels.last w.stream u.stream w.last u.last (λ f. e (sym f)))

-- what was written at a stream that is put back is lost; at another one it can be written afterwards
put_back_cases : (us : List Former) (w : Former) (labels : Labelling) → (put_back_all us (put_back w labels) ≡ put_back_all us labels) ⊎ ((put_back_all us (put_back w labels) ≡ put_back w (put_back_all us labels)) × All (λ (u : Former). u.stream ≢ w.stream) us)
put_back_cases [] w labels = inr (refl, All-nil (λ (u : Former). u.stream ≢ w.stream))
put_back_cases (u ∷ us) w labels =
    ⊎_elim (λ (lost : put_back_all us (put_back w labels) ≡ put_back_all us labels). inl (ap (put_back u) lost))
    (λ (kept : (put_back_all us (put_back w labels) ≡ put_back w (put_back_all us labels)) × All (λ (u : Former). u.stream ≢ w.stream) us).
    ⊎_elim (λ (e : u.stream ≡ w.stream). inl (ap (put_back u) kept.0 ∙ put_back_twice u w (put_back_all us labels) e))
    (λ (e : u.stream ≢ w.stream). inr (ap (put_back u) kept.0 ∙ put_back_comm u w (put_back_all us labels) e, All-cons (λ (u : Former). u.stream ≢ w.stream) u us e kept.1)) (cases_eq u.stream w.stream))
    (put_back_cases us w labels)

-- a stream that is put back may be written to before
pub put_back_again : (us : List Former) (w : Former) (labels : Labelling) → Contains (map (λ (u : Former). u.stream) us) w.stream → put_back_all us (put_back w labels) ≡ put_back_all us labels
put_back_again us w labels among =
    ⊎_elim (λ (lost : put_back_all us (put_back w labels) ≡ put_back_all us labels). lost)
    (λ (kept : (put_back_all us (put_back w labels) ≡ put_back w (put_back_all us labels)) × All (λ (u : Former). u.stream ≢ w.stream) us).
    absurd (All-contains (λ (s : ℕ). s ≢ w.stream) (map (λ (u : Former). u.stream) us) w.stream (All-map (λ (s : ℕ). s ≢ w.stream) (λ (u : Former). u.stream) us kept.1) among refl))
    (put_back_cases us w labels)

-- no other stream's offset changes
pub put_back_others : (us : List Former) (labels : Labelling) (stream : ℕ) → (offset_of labels.offsets stream ≡ offset_of (put_back_all us labels).offsets stream) ⊎ Contains (map (λ (u : Former). u.stream) us) stream
put_back_others [] labels stream = inl refl
put_back_others (u ∷ us) labels stream =
    ⊎_elim (λ (e : stream ≡ u.stream). inr (0, omega arith, sym e))
    (λ (e : stream ≢ u.stream).
    ⊎_elim (λ (same : offset_of labels.offsets stream ≡ offset_of (put_back_all us labels).offsets stream). inl (same ∙ sym (get_or-set_other (put_back_all us labels).offsets u.stream stream u.offset 0 e)))
    (λ (among : Contains (map (λ (u : Former). u.stream) us) stream). inr (Contains-append_right (u.stream ∷ []) (map (λ (u : Former). u.stream) us) stream among))
    (put_back_others us labels stream)) (cases_eq stream u.stream)
