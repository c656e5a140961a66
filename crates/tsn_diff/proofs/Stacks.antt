-- A stack with one more arc, with one less, and as it was.
use Rattle.std.proofs.Common.{◌≡◌, ℕ, ◌+◌, ◌-◌, ◌<◌, List, [], ◌∷◌, ◌++◌, length, map, take, drop, Contains, refl, sym, ap, ◌∙◌, subst, inl, inr, ⊎_elim, arith, length-drop}
use Rattle.std.proofs.lemmas.List.{drop-map, get_or_past, get_or_push, length-map, length_push, nil_from_length, take_all, take_at}
use Rattle.std.proofs.lemmas.List.Elements.{All-map, All-nil, All-push}
use Rattle.tsn_model.specs.declared.Arc.{Arc}
use Rattle.tsn_model.specs.Schedule.{offset_of}
use Rattle.tsn_diff.specs.declared.listing.Listing.{Listing}
use Rattle.tsn_diff.specs.declared.trail.Former.{Former}
use Rattle.tsn_diff.specs.declared.trail.Trail.{Trail}
use Rattle.tsn_diff.specs.Limits.{IsArcAmong}
use Rattle.tsn_diff.specs.Offsets.{IsLeast, LeastOffsets}
use Rattle.tsn_diff.specs.Answers.{Solves}
use Rattle.tsn_diff.specs.Forest.{Labelling, IsForest, Settles, least_by, labelling_by}
use Rattle.tsn_diff.specs.Listing.{IsListing}
use Rattle.tsn_diff.specs.Trail.{IsTrail, put_back_all}
use Rattle.tsn_diff.specs.Spread.{base_of, IsStart, IsNoted, IsWide}
use Rattle.tsn_diff.specs.Stack.{IsStack, RisesAt, KeepsOthers, AreRaisedLast, RiseAt, last_mark}
use Rattle.tsn_diff.proofs.Layers.{IsLeast-same, IsLayered-push, IsLayered-pop, noted_last}
use Rattle.tsn_diff.proofs.Listings.{take_front}
use Rattle.tsn_diff.proofs.Solutions.{IsLeast-settled, Solves-settled}
use Rattle.tsn_diff.proofs.Views.{labelling_by-least_by}
use Rattle.tsn_diff.proofs.Trails.{put_back_others}

-- the streams that were noted from a mark on
streams_from : (n mark : ℕ) (trail : Trail) → IsTrail n trail → drop mark trail.streams.items ≡ map (λ (f : Former). f.stream) (drop mark trail.formers.items)
streams_from n mark trail t = ap (λ (xs : List ℕ). drop mark xs) t.streams ∙ drop-map (λ (f : Former). f.stream) mark trail.formers.items

-- what is put back changes no other offsets
KeepsOthers-back : (n mark : ℕ) (labels : Labelling) (trail : Trail) → IsTrail n trail → KeepsOthers (drop mark trail.streams.items) labels.offsets (put_back_all (drop mark trail.formers.items) labels).offsets
KeepsOthers-back n mark labels trail t stream =
    ⊎_elim (λ (same : offset_of labels.offsets stream ≡ offset_of (put_back_all (drop mark trail.formers.items) labels).offsets stream). inl (sym same))
    (λ (among : Contains (map (λ (f : Former). f.stream) (drop mark trail.formers.items)) stream). inr (rw (streams_from n mark trail t) among))
    (put_back_others (drop mark trail.formers.items) labels stream)

-- what a stack keeps, said of the labels and of what is seen of them
pub IsStack-opened : (releases : List ℕ) (arcs : List Arc) (labels : Labelling) (listing : Listing) (trail : Trail) → IsForest arcs labels → IsStack releases arcs (labelling_by (least_by releases arcs labels)) listing trail → IsStack releases arcs labels listing trail
IsStack-opened releases arcs labels listing trail forest s =
    subst (λ (seen : Labelling). IsStack releases arcs seen listing trail) (labelling_by-least_by releases arcs labels forest) s

pub IsStack-closed : (releases : List ℕ) (arcs : List Arc) (labels : Labelling) (listing : Listing) (trail : Trail) → IsStack releases arcs labels listing trail → IsStack releases arcs (labelling_by (least_by releases arcs labels)) listing trail
IsStack-closed releases arcs labels listing trail s =
    subst (λ (seen : Labelling). IsStack releases arcs seen listing trail) (sym (labelling_by-least_by releases arcs labels s.layered.settles.forest)) s

-- a stack without arcs
pub IsStack-none : (releases : List ℕ) (labels : Labelling) (listing : Listing) (trail : Trail) → Settles releases [] labels → IsListing (length releases) [] listing → listing.marks.items ≡ [] → trail.formers.items ≡ [] → trail.streams.items ≡ [] → IsStack releases [] labels listing trail
IsStack-none releases labels listing trail settles listed marks formers streams = record {
  layered = rw (marks, formers) (record {
    settles = settles;
    count = refl;
    marks_in = λ k l. absurd (omega (arith, l));
    rising = λ j k m l. absurd (omega (arith, l));
    below = λ k l. absurd (omega (arith, l));
    first = refl;
    rises = λ k l a b p q. absurd (omega (arith, l));
  });
  listed = listed;
  noted = record { streams = rw (streams, formers) refl; below = rw formers (All-nil (λ (f : Former). f.stream < length releases)) };
}

pub IsStack-new : (found : LeastOffsets) (releases : List ℕ) (listing : Listing) (trail : Trail) → Solves releases [] found → Settles releases [] (labelling_by found) → IsListing (length releases) [] listing → listing.marks.items ≡ [] → trail.formers.items ≡ [] → trail.streams.items ≡ [] → IsStack found.releases found.arcs (labelling_by found) listing trail
IsStack-new found releases listing trail solves settles listed marks formers streams =
    let none = IsStack-none releases (labelling_by found) listing trail settles listed marks formers streams in
    subst (λ (rs : List ℕ). IsStack rs found.arcs (labelling_by found) listing trail) (sym solves.releases_are)
    (subst (λ (as' : List Arc). IsStack releases as' (labelling_by found) listing trail) (sym solves.arcs_are) none)

-- where all was put back, the arcs are solved as before
pub Solves-back : (releases : List ℕ) (arcs now : List Arc) (labels back : Labelling) → now ≡ arcs → back ≡ labels → Settles releases arcs labels → Solves releases now (least_by releases now back)
Solves-back releases arcs now labels back same_arcs same settles = rw (same_arcs, same) (Solves-settled releases arcs labels settles)

module _ (releases : List ℕ) (arcs : List Arc) (labels : Labelling) (listing : Listing) (trail : Trail) (s : IsStack releases arcs labels listing trail) where
  -- a wave may start
  pub IsStart-pushed : (arc : Arc) → IsArcAmong (length releases) arc → IsStart (base_of labels arcs trail arc) labels trail listing arc
  IsStart-pushed arc among =
      let count = s.layered.settles.raised.count in
      record {
        labels_are = refl;
        arc_is = refl;
        formers_are = refl;
        among = rw count (All-push (IsArcAmong (length releases)) arcs arc s.layered.settles.among among);
        forest = s.layered.settles.forest;
        met = s.layered.settles.met;
        listed = rw count s.listed;
        noted = rw count s.noted;
      }

  module _ (arc : Arc) (new : Labelling) (longer : Listing) (more : Trail) (noted : IsNoted (base_of labels arcs trail arc) new more) (wide : IsWide (base_of labels arcs trail arc) new more) (marks : longer.marks.items ≡ listing.marks.items ++ length trail.formers.items ∷ []) where
    pub IsStack-pushed : IsArcAmong (length releases) arc → IsListing (length labels.offsets) (arcs ++ arc ∷ []) longer → IsStack releases (arcs ++ arc ∷ []) new longer more
    IsStack-pushed among listed =
        let count = s.layered.settles.raised.count in
        let settles : Settles releases (arcs ++ arc ∷ []) new =
        record {
          among = All-push (IsArcAmong (length releases)) arcs arc s.layered.settles.among among;
          forest = wide.forest;
          raised = wide.raised releases s.layered.settles.raised;
          met = wide.met;
        } in
        record {
          layered = rw marks (IsLayered-push releases labels arcs listing.marks.items trail.formers.items s.layered arc new more.formers.items noted.before noted.back settles wide.each);
          listed = rw (← count) listed;
          noted = rw (← count) noted.streams;
        }

    pub RisesAt-pushed : RisesAt (drop (last_mark longer.marks.items) more.streams.items) labels.offsets new.offsets
    RisesAt-pushed =
        let mark = length trail.formers.items in
        let here : last_mark longer.marks.items ≡ mark = rw marks (get_or_push listing.marks.items mark 0 _ (omega (arith, length_push listing.marks.items mark))) in
        let P = λ (stream : ℕ). offset_of labels.offsets stream < offset_of new.offsets stream in
        let kept = KeepsOthers-back (length labels.offsets) mark new more noted.streams in
        rw here
        (record {
          each = rw (streams_from (length labels.offsets) mark more noted.streams) (All-map P (λ (f : Former). f.stream) (drop mark more.formers.items) wide.each);
          others = λ stream.
              ⊎_elim (λ (same : offset_of (put_back_all (drop mark more.formers.items) new).offsets stream ≡ offset_of new.offsets stream). inl (sym same ∙ ap (λ (l : Labelling). offset_of l.offsets stream) noted.back))
              (λ (among : Contains (drop mark more.streams.items) stream). inr among) (kept stream);
        })

  module _ (new : Labelling) (shorter : Listing) (less : Trail) (back : new ≡ put_back_all (drop (last_mark listing.marks.items) trail.formers.items) labels) where
    pub IsStack-popped : (fewer : List Arc) (last : Arc) → arcs ≡ fewer ++ last ∷ [] → shorter.marks.items ≡ take (length listing.marks.items - 1) listing.marks.items → IsListing (length releases) fewer shorter → less.formers.items ≡ take (last_mark listing.marks.items) trail.formers.items → IsTrail (length releases) less → IsStack releases fewer new shorter less
    IsStack-popped fewer last is marks listed formers noted =
        let front : fewer ≡ take (length arcs - 1) arcs = sym (ap (λ (xs : List Arc). take (length xs - 1) xs) is ∙ take_front fewer last) in
        record {
          layered = rw (front, marks, formers, back) (IsLayered-pop releases labels arcs listing.marks.items trail.formers.items s.layered (omega (arith, ap length is, length_push fewer last)));
          listed = listed;
          noted = noted;
        }

    pub KeepsOthers-popped : KeepsOthers (drop (last_mark listing.marks.items) trail.streams.items) labels.offsets new.offsets
    KeepsOthers-popped = rw back (KeepsOthers-back (length releases) (last_mark listing.marks.items) labels trail s.noted)

  -- what is lent as raised is what the last arc raised
  raised_by : (before : List Arc) (arc : Arc) → arcs ≡ before ++ arc ∷ [] → (old : List ℕ) → IsLeast releases before old → RisesAt (drop (last_mark listing.marks.items) trail.streams.items) old labels.offsets
  raised_by before arc is old least =
      let marks = listing.marks.items in
      let last = length marks - 1 in
      let long : length marks ≡ length before + 1 = omega (arith, s.layered.count, ap length is, length_push before arc) in
      let front : take last arcs ≡ before = ap (λ (xs : List Arc). take last xs) is ∙ take_at before (arc ∷ []) last (omega arith) in
      let whole : take (last + 1) arcs ≡ arcs = take_all (last + 1) arcs (omega (arith, s.layered.count)) in
      let back = put_back_all (drop (last_mark marks) trail.formers.items) labels in
      let below : IsLeast releases before back.offsets = rw front at (IsLeast-settled releases (take last arcs) back (s.layered.below last (omega arith))) in
      let rises : RiseAt (drop (last_mark marks) trail.formers.items) old labels.offsets = rw (noted_last marks trail.formers.items (omega arith)) at (s.layered.rises last (omega arith) old labels.offsets (rw front least) (rw whole (IsLeast-settled releases arcs labels s.layered.settles))) in
      let P = λ (stream : ℕ). offset_of old stream < offset_of labels.offsets stream in
      record {
        each = rw (streams_from (length releases) (last_mark marks) trail s.noted) (All-map P (λ (f : Former). f.stream) (drop (last_mark marks) trail.formers.items) rises);
        others = λ stream.
            ⊎_elim (λ (same : offset_of back.offsets stream ≡ offset_of labels.offsets stream). inl (sym same ∙ IsLeast-same releases before back.offsets old below least stream))
            (λ (among : Contains (drop (last_mark marks) trail.streams.items) stream). inr among) (KeepsOthers-back (length releases) (last_mark marks) labels trail s.noted stream);
      }

  -- nothing is, where there is no arc
  raised_none : arcs ≡ [] → drop (last_mark listing.marks.items) trail.streams.items ≡ []
  raised_none none =
      let marks = listing.marks.items in
      let no_marks : length marks ≡ 0 = omega (arith, s.layered.count, ap length none) in
      let noted : length trail.formers.items ≡ 0 = omega (arith, s.layered.first, get_or_past marks 0 (length trail.formers.items) (omega arith)) in
      nil_from_length (drop (last_mark marks) trail.streams.items) (omega (arith, length-drop (last_mark marks) trail.streams.items, ap length s.noted.streams, length-map trail.formers.items (λ (f : Former). f.stream)))

  pub AreRaisedLast-stack : AreRaisedLast releases arcs labels.offsets (drop (last_mark listing.marks.items) trail.streams.items)
  AreRaisedLast-stack = record { none = raised_none; last = raised_by }
