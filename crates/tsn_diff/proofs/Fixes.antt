-- The streams on a way back are fixed one after another.
use Rattle.std.proofs.Common.{◌≡◌, ◌≢◌, ℕ, ◌+◌, ◌<◌, ◌≤◌, ◌⊎◌, List, [], ◌∷◌, ◌++◌, length, set, replicate, Option, Some, None, refl, sym, ◌∙◌, inl, inr, ⊎_elim, arith, length-append, get_or-set_other, get_or-set_same}
use Rattle.std.proofs.lemmas.Bool.{cases_eq, cases_lt}
use Rattle.std.proofs.lemmas.Option.{same_Some}
use Rattle.std.proofs.lemmas.List.{get_or-replicate, get_or_past, length-replicate}
use Rattle.tsn_diff.specs.declared.forest.Step.{Step}
use Rattle.tsn_diff.specs.declared.spread.Stage.{Stage}
use Rattle.tsn_diff.specs.declared.spread.Stage.TheVariants.{Calm, Fixed}
use Rattle.tsn_diff.specs.Steps.{Path, Rooted, last_of}
use Rattle.tsn_diff.specs.Steps.Path.{here, back}
use Rattle.tsn_diff.specs.Spread.{stage_of, AreCalm, AreFixed, IsLifted}
use Rattle.tsn_diff.proofs.StepPaths.{Path-append, length-path_any}

-- the streams on the way back from `first` are fixed as far as `next`, and that one isn't yet
pub record AreFixedTo (last : List (Option Step)) (stages : List Stage) (first next count : ℕ) : Type 0 where
  pub steps : List Step
  pub path : Path last first steps next
  pub count_is : length steps ≡ count
  pub begins : (first ≡ next) ⊎ (stage_of stages first ≡ Fixed)
  pub closed : (stream : ℕ) (step : Step) → stage_of stages stream ≡ Fixed → last_of last stream ≡ Some step
      → (stage_of stages step.from ≡ Fixed) ⊎ (step.from ≡ next)
  pub way : (stream : ℕ) → stage_of stages stream ≡ Fixed → (steps : List Step) × Path last first steps stream
  pub others : (stream : ℕ) → (stage_of stages stream ≡ Calm) ⊎ (stage_of stages stream ≡ Fixed)

-- at first all are calm
pub AreCalm-replicate : (n : ℕ) → AreCalm (replicate n Calm)
AreCalm-replicate n i =
    ⊎_elim (λ (l : i < n). get_or-replicate n i Calm Calm l) (λ (l : n ≤ i). get_or_past (replicate n Calm) i Calm (rw length-replicate l)) (cases_lt i n)

pub AreFixedTo-none : (last : List (Option Step)) (stages : List Stage) (first : ℕ) → AreCalm stages → AreFixedTo last stages first first 0
AreFixedTo-none last stages first calm = record {
  steps = [];
  path = here;
  count_is = refl;
  begins = inl refl;
  closed = λ i s f h. let c = calm i in cc;
  way = λ i f. let c = calm i in cc;
  others = λ i. inl (calm i);
}

module _ (last : List (Option Step)) (stages : List Stage) (first next count : ℕ) (f : AreFixedTo last stages first next count) (room : next < length stages) where
  abbrev after : List Stage
  after = set stages next Fixed

  stands : stage_of after next ≡ Fixed
  stands = get_or-set_same stages next Fixed Calm room

  now_fixed : (i : ℕ) → stage_of stages i ≡ Fixed → stage_of after i ≡ Fixed
  now_fixed i g = ⊎_elim (λ (e : i ≡ next). rw e stands) (λ (e : i ≢ next). get_or-set_other stages next i Fixed Calm e ∙ g) (cases_eq i next)

  was_fixed : (i : ℕ) → i ≢ next → stage_of after i ≡ Fixed → stage_of stages i ≡ Fixed
  was_fixed i e g = sym (get_or-set_other stages next i Fixed Calm e) ∙ g

  begins_now : stage_of after first ≡ Fixed
  begins_now = ⊎_elim (λ (e : first ≡ next). rw e stands) (λ (g : stage_of stages first ≡ Fixed). now_fixed first g) f.begins

  way_now : (i : ℕ) → stage_of after i ≡ Fixed → (steps : List Step) × Path last first steps i
  way_now i g = ⊎_elim (λ (e : i ≡ next). rw e (f.steps, f.path)) (λ (e : i ≢ next). f.way i (was_fixed i e g)) (cases_eq i next)

  closed_now : (i : ℕ) (s : Step) → i ≢ next → stage_of after i ≡ Fixed → last_of last i ≡ Some s → stage_of after s.from ≡ Fixed
  closed_now i s e g h =
      ⊎_elim (λ (g : stage_of stages s.from ≡ Fixed). now_fixed s.from g) (λ (e : s.from ≡ next). rw e stands) (f.closed i s (was_fixed i e g) h)

  -- where no step is left, all are fixed
  pub AreFixed-root : last_of last next ≡ None → AreFixed last after first
  AreFixed-root none = record {
    begins = begins_now;
    closed = λ i s g h. ⊎_elim (λ (e : i ≡ next). let h' = rw e at h in cc) (λ (e : i ≢ next). closed_now i s e g h) (cases_eq i next);
    way = way_now;
  }

  pub none_lifted : (i : ℕ) → IsLifted (stage_of after i) → ⊥
  none_lifted i l =
      ⊎_elim (λ (e : i ≡ next). rw (e, stands) at l)
      (λ (e : i ≢ next).
      let same = get_or-set_other stages next i Fixed Calm e in
      ⊎_elim (λ (c : stage_of stages i ≡ Calm). rw (same, c) at l) (λ (g : stage_of stages i ≡ Fixed). rw (same, g) at l) (f.others i)) (cases_eq i next)

  -- and else the way goes on
  pub AreFixedTo-more : (step : Step) → last_of last next ≡ Some step → AreFixedTo last after first step.from (count + 1)
  AreFixedTo-more step known = record {
    steps = f.steps ++ step ∷ [];
    path = Path-append f.path (back known here);
    count_is = omega (arith, f.count_is, length-append f.steps (step ∷ []));
    begins = inr begins_now;
    closed = λ i s g h.
        ⊎_elim
        (λ (e : i ≡ next). let same : s ≡ step = same_Some _ _ (sym (rw e at h) ∙ known) in inr (rw same refl))
        (λ (e : i ≢ next). inl (closed_now i s e g h)) (cases_eq i next);
    way = way_now;
    others = λ i.
        ⊎_elim (λ (e : i ≡ next). inr (rw e stands))
        (λ (e : i ≢ next). rw (get_or-set_other stages next i Fixed Calm e) (f.others i)) (cases_eq i next);
  }

-- no way is as long as there are streams
pub AreFixedTo-short : (last : List (Option Step)) (stages : List Stage) (first next count : ℕ) → AreFixedTo last stages first next count
    → ((i : ℕ) (s : Step) → last_of last i ≡ Some s → s.from < length last) → Rooted last next → first < length last → count < length last
AreFixedTo-short last stages first next count f below rooted l =
    let short = length-path_any (length last) below f.path rooted l in
    omega (arith, short, f.count_is)
