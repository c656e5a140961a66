use Rattle.std.proofs.Common.{◌≡◌, ℕ, ◌+◌, ◌<◌, ◌≤◌, pos, ◌+ℤ◌, ◌<ℤ◌, List, [], ◌∷◌, ◌++◌, length, replicate, All, slice_index, Option, Some, None, refl, ap, ◌∙◌, subst, ⊎_elim, arith, length-append}
use Rattle.std.proofs.lemmas.Bool.{cases_lt}
use Rattle.std.proofs.lemmas.Int.{ints}
use Rattle.std.proofs.lemmas.List.{get_or-replicate, get_or_past, get_or_append_left, length-replicate}
use Rattle.std.proofs.lemmas.List.Elements.{All-nil, All-push}
use Rattle.std.proofs.lemmas.List.FromFn.{length-map-range_with_len}
use Rattle.tsn_model.specs.declared.Arc.{Arc}
use Rattle.tsn_diff.specs.declared.forest.Step.{Step}
use Rattle.tsn_model.specs.Schedule.{offset_of}
use Rattle.tsn_model.specs.Arcs.{arc_at, Holds, HoldsAll}
use Rattle.tsn_model.proofs.Chains.{met_along}
use Rattle.tsn_diff.specs.Limits.{IsArcAmong}
use Rattle.tsn_model.specs.Arcs.{chain_sum, start_of}
use Rattle.tsn_diff.specs.Offsets.{Shows, Meets, IsLeast, chain_of}
use Rattle.tsn_diff.specs.Forest.{Labelling, IsForest, IsRaised, Settles, chain_by, least_by}
use Rattle.tsn_diff.specs.Steps.{last_of, Path, steps_back, indexes_of}
use Rattle.tsn_diff.specs.Progress.{Closes}
use Rattle.tsn_diff.specs.Steps.Path.{here, back}
use Rattle.tsn_diff.specs.Answers.{Solves, Refutes}
use Rattle.tsn_diff.proofs.Cases.{by_option}
use Rattle.tsn_diff.proofs.Views.{chain_of-least_by}
use Rattle.tsn_diff.proofs.Paths.{Path-steps_back}
use Rattle.tsn_diff.proofs.StepPaths.{length-path, length-path_any, steps_back_is, Rooted-here}
use Rattle.tsn_diff.proofs.Sums.{leads_of, indexes_in, explained, start_of-leads, Leads-push, chain_sum-push}
use Rattle.tsn_diff.proofs.Steps.{length-indexes_of}

pub top_below : {last : List (Option Step)} {i r : ℕ} {ss : List Step} (n : ℕ) → ((j : ℕ) (s : Step) → last_of last j ≡ Some s → s.from < n) → Path last i ss r → i < n → r < n
top_below n below here l = l
top_below {last} {i} n below (back {step = s} h p) l = top_below n below p (below i s h)

pub nil_from_none : {last : List (Option Step)} {i r : ℕ} {ss : List Step} → Path last i ss r → last_of last i ≡ None → ss ≡ []
nil_from_none here e = refl
nil_from_none (back h p) e = cc

module _ (releases : List ℕ) (arcs : List Arc) (labels : Labelling) (s : Settles releases arcs labels) where
  abbrev forest : IsForest arcs labels
  forest = s.forest

  abbrev raised : IsRaised releases labels
  raised = s.raised

  abbrev met : HoldsAll labels.offsets arcs
  met = s.met

  root_in : (i : ℕ) → i < length releases → (forest.rooted i).root < length releases
  root_in i l = let r = forest.rooted i in let k : r.root < length labels.offsets = top_below (length labels.offsets) (λ j s h. (forest.steps j s h).from_in) r.path (omega (arith, raised.count)) in omega (arith, raised.count)

  -- a stream's offset is the release of its chain's root and the weight of its chain
  exact : (i : ℕ) → pos (slice_index labels.offsets i) ≡ pos (slice_index releases (forest.rooted i).root) +ℤ chain_sum arcs (indexes_of (forest.rooted i).steps)
  exact i =
      let r = forest.rooted i in
      let above = explained arcs labels.offsets labels.last forest.steps r.path in
      let below = met_along arcs (λ j. pos (offset_of labels.offsets j)) met r.root (indexes_of r.steps) i (indexes_in arcs labels.offsets labels.last forest.steps r.path) (leads_of arcs labels.offsets labels.last forest.steps r.path) in
      let root = raised.kept r.root r.ends in
      omega (arith, ints, above, below, root)

  Meets-from_forest : Meets releases arcs labels.offsets
  Meets-from_forest = record {
    count = raised.count;
    released = λ i l. by_option (last_of labels.last i) (λ n. let k = raised.kept i n in omega arith) (λ s h. let k = raised.raised i s h in omega arith);
    met = met;
  }

  least_from_forest : (other : List ℕ) → Meets releases arcs other → (i : ℕ) → i < length releases → slice_index labels.offsets i ≤ slice_index other i
  least_from_forest other m i l =
      let r = forest.rooted i in
      let here = exact i in
      let there = met_along arcs (λ j. pos (offset_of other j)) m.met r.root (indexes_of r.steps) i (indexes_in arcs labels.offsets labels.last forest.steps r.path) (leads_of arcs labels.offsets labels.last forest.steps r.path) in
      let root = m.released r.root (root_in i l) in
      omega (arith, ints, here, there, root)

  short : (i : ℕ) → i < length releases → length (forest.rooted i).steps < length releases
  short i l =
      let r = forest.rooted i in
      let k : length r.steps < length labels.offsets = length-path (length labels.offsets) (λ j s h. (forest.steps j s h).from_in) r.path r.ends (omega (arith, raised.count)) in
      omega (arith, raised.count)

  chain_by_is : (i : ℕ) → i < length releases → chain_by labels i ≡ indexes_of (forest.rooted i).steps
  chain_by_is i l =
      let r = forest.rooted i in
      let k = short i l in
      ap indexes_of (steps_back_is (length labels.last) r.path r.ends (omega (arith, forest.count, raised.count)))

  Shows-from_forest : (i : ℕ) → i < length releases → Shows releases arcs (chain_of (least_by releases arcs labels) i) i (slice_index labels.offsets i)
  Shows-from_forest i l =
      let r = forest.rooted i in
      let way = leads_of arcs labels.offsets labels.last forest.steps r.path in
      let start : start_of arcs (indexes_of r.steps) i ≡ r.root = start_of-leads arcs r.root (indexes_of r.steps) i way in
      rw (chain_of-least_by releases arcs labels i (omega (arith, forest.count, raised.count)), chain_by_is i l) (record {
        leads = record { places = indexes_in arcs labels.offsets labels.last forest.steps r.path; leads = rw start way };
        sum = rw start (exact i);
        short = rw length-indexes_of (short i l);
        empty = λ e. by_option (last_of labels.last i) (λ n. ap indexes_of (nil_from_none r.path n)) (λ s h. let k = raised.raised i s h in absurd (omega arith));
      })

  pub IsLeast-settled : IsLeast releases arcs labels.offsets
  IsLeast-settled = record { meets = Meets-from_forest; least = least_from_forest }

  pub Solves-settled : Solves releases arcs (least_by releases arcs labels)
  Solves-settled = record {
    releases_are = refl;
    arcs_are = refl;
    least = IsLeast-settled;
    count = omega (arith, length-map-range_with_len (chain_by labels) 0 (length labels.last), forest.count, raised.count);
    chains = Shows-from_forest;
  }

-- the steps from the first stream of an arc back to its last one
abbrev pub closing_steps : List Arc → Labelling → ℕ → List Step
closing_steps arcs labels index = steps_back (length labels.last) labels.last (Some (arc_at arcs index).to) (arc_at arcs index).from

-- an arc that is not met, and what leads from its last stream to its first, close a chain of positive sum
pub Refutes-from_closes : (arcs : List Arc) (labels : Labelling) (index : ℕ) → IsForest arcs labels → All (IsArcAmong (length labels.offsets)) arcs → Closes arcs labels index → Refutes (length labels.offsets) arcs (indexes_of (closing_steps arcs labels index) ++ index ∷ [])
Refutes-from_closes arcs labels index forest among closes =
    let arc = arc_at arcs index in
    let ss = closing_steps arcs labels index in
    let ends = among index (record { from = 0; to = 0; weight = pos 0 }) closes.index_in in
    let way : Path labels.last arc.from ss arc.to = Path-steps_back labels.last (length labels.last) arc.to arc.from closes.passes in
    let short : length ss < length labels.offsets = length-path_any (length labels.offsets) (λ j s h. (forest.steps j s h).from_in) way (forest.rooted arc.to) ends.from_below in
    let above = explained arcs labels.offsets labels.last forest.steps way in
    let unmet = closes.unmet in
    let indexes = All-push (λ p. p < length arcs) (indexes_of ss) index (indexes_in arcs labels.offsets labels.last forest.steps way) closes.index_in in
    let closed = Leads-push arcs arc.to (indexes_of ss) arc.from index (leads_of arcs labels.offsets labels.last forest.steps way) refl in
    let long : length (indexes_of ss ++ index ∷ []) ≡ length ss + 1 = length-append (indexes_of ss) (index ∷ []) ∙ ap (λ n. n + 1) (length-indexes_of ss) in
    let positive : pos 0 <ℤ chain_sum arcs (indexes_of ss ++ index ∷ []) = rw chain_sum-push (omega (arith, ints, above, unmet)) in
    record {
      cycle = record {
        closed = record { places = indexes; some_arc = omega (arith, long); returns = (arc.to, closed) };
        short = omega (arith, long, short);
        positive = positive;
      };
      none = λ offset met. let more = met_along arcs offset met arc.to (indexes_of ss ++ index ∷ []) arc.to indexes closed in absurd (omega (arith, ints, more, positive));
    }

pub Refutes-same : (m n : ℕ) (arcs : List Arc) (chain : List ℕ) → m ≡ n → Refutes m arcs chain → Refutes n arcs chain
Refutes-same m n arcs chain e r = subst (λ (k : ℕ). Refutes k arcs chain) e r

-- labels that no arc has raised
pub last_of-replicate : (n i : ℕ) → last_of (replicate n None) i ≡ None
last_of-replicate n i =
    ⊎_elim (λ (l : i < n). get_or-replicate n i None None l) (λ (l : n ≤ i). get_or_past (replicate n None) i None (rw length-replicate l)) (cases_lt i n)

pub IsForest-unraised : (arcs : List Arc) (offsets : List ℕ) → length offsets ≤ 128 → All (λ release. release ≤ 1000000000) offsets → IsForest arcs (record { offsets = offsets; last = replicate (length offsets) None })
IsForest-unraised arcs offsets few early = record {
  count = length-replicate (length offsets) None;
  few = few;
  early = λ i h. ⊎_elim (λ (l : i < length offsets). early i 0 l) (λ (l : length offsets ≤ i). omega (arith, get_or_past offsets i 0 l)) (cases_lt i (length offsets));
  steps = λ i s h. let e = last_of-replicate (length offsets) i in cc;
  rooted = λ i. Rooted-here i (last_of-replicate (length offsets) i);
}

pub IsRaised-unraised : (offsets : List ℕ) → IsRaised offsets (record { offsets = offsets; last = replicate (length offsets) None })
IsRaised-unraised offsets = record {
  count = refl;
  kept = λ i h. refl;
  raised = λ i s h. let e = last_of-replicate (length offsets) i in cc;
}

-- they settle no arcs at all
pub Settles-unraised : (offsets : List ℕ) → length offsets ≤ 128 → All (λ release. release ≤ 1000000000) offsets → Settles offsets [] (record { offsets = offsets; last = replicate (length offsets) None })
Settles-unraised offsets few early = record {
  among = All-nil (IsArcAmong (length offsets));
  forest = IsForest-unraised [] offsets few early;
  raised = IsRaised-unraised offsets;
  met = All-nil (Holds offsets);
}

-- one more arc breaks no chain
pub IsForest-more : (arcs : List Arc) (labels : Labelling) (arc : Arc) → IsForest arcs labels → IsForest (arcs ++ arc ∷ []) labels
IsForest-more arcs labels arc f = record {
  count = f.count;
  few = f.few;
  early = f.early;
  steps = λ i s h.
      let g = f.steps i s h in
      let same : arc_at (arcs ++ arc ∷ []) s.index ≡ arc_at arcs s.index = get_or_append_left arcs (arc ∷ []) (record { from = 0; to = 0; weight = pos 0 }) s.index g.index_in in
      record {
        index_in = omega (arith, length-append arcs (arc ∷ []), g.index_in);
        ends = rw same g.ends;
        begins = rw same g.begins;
        from_in = g.from_in;
        explains = rw same g.explains;
      };
  rooted = f.rooted;
}
