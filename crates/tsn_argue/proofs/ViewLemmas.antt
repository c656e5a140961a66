-- What becomes of the state where the view learns a fact.
use Rattle.std.proofs.Common.{◌≡◌, ◌⊎◌, ℕ, ◌<◌, [], ◌∷◌, ◌++◌, ℤ, pos, ◌≤ℤ◌, ◌<ℤ◌, Bool, true, false, refl, sym, ◌∙◌, subst, inl, inr, arith}
use Rattle.std.specs.Prelude.{MatchBool, Result, Ok, Err, OnOk}
use Rattle.std.specs.Int.{int_min, int_max}
use Rattle.std.proofs.lemmas.Int.{ints, clamps, by_lt_z}
use Rattle.std.proofs.lemmas.List.{length-set, get_or-set_same}
use Rattle.std.proofs.lemmas.List.Elements.{All-push}
use Rattle.tsn_model.specs.declared.Decision.{Decision}
use Rattle.tsn_model.specs.Network.{Network, stream_count}
use Rattle.tsn_model.specs.Schedule.{IsConflict}
use Rattle.tsn_model.specs.Argument as model
use Rattle.tsn_model.specs.Argument.{from, until, order, done_from, done_until, Fact, IsFact, low_at, high_at, IsImpossible, learned}
use Rattle.tsn_model.proofs.Numbers.{each-set}
use Rattle.tsn_model.proofs.ArgumentNumbers.{IsBounded-learned}
use Rattle.tsn_argue.specs.State.{view_of, base_of, IsKept, IsSound, Becomes}
use Rattle.tsn_argue.specs.declared.view.View.{View}

-- ---- whether a view is impossible

-- the fact leaves no number between those that it changes
abbrev pub Crosses : model.View → Fact → Type 0
Crosses view (from i v) = high_at view i <ℤ v
Crosses view (until i v) = v <ℤ low_at view i
Crosses view (order decision) = ⊥
Crosses view (done_from v) = view.done_high <ℤ v
Crosses view (done_until v) = v <ℤ view.done_low

-- a view is impossible with a fact where it was, or where the fact crosses its numbers
module _ (network : Network) (view : model.View) where
  impossible_with : IsKept network view → (fact : Fact) → IsFact network fact → IsImpossible network view ⊎ Crosses view fact
      → IsImpossible network (learned view fact)
  unfolding learned
  impossible_with kept (from i v) there (inl (inl (k, below, crossed))) =
      let rises = each-set (λ j x. low_at view j ≤ℤ x) view.low i (int_max v (low_at view i)) (omega (arith, ints, clamps)) (λ j. omega (arith, ints)) k in
      inl (k, below, omega (arith, ints, rises, crossed))
  impossible_with kept (from i v) there (inr crosses) =
      let new = get_or-set_same view.low i (int_max v (low_at view i)) (pos 0) (omega (arith, kept.lows, there)) in
      inl (i, there, omega (arith, ints, clamps, new, crosses))
  impossible_with kept (until i v) there (inl (inl (k, below, crossed))) =
      let falls = each-set (λ j x. x ≤ℤ high_at view j) view.high i (int_min v (high_at view i)) (omega (arith, ints, clamps)) (λ j. omega (arith, ints)) k in
      inl (k, below, omega (arith, ints, falls, crossed))
  impossible_with kept (until i v) there (inr crosses) =
      let new = get_or-set_same view.high i (int_min v (high_at view i)) (pos 0) (omega (arith, kept.highs, there)) in
      inl (i, there, omega (arith, ints, clamps, new, crosses))
  impossible_with kept (order decision) there (inl was) = was
  impossible_with kept (done_from v) there (inl (inl crossed)) = inl crossed
  impossible_with kept (done_from v) there (inl (inr past)) = inr (omega (arith, ints, clamps, past))
  impossible_with kept (done_from v) there (inr crosses) = inr (omega (arith, ints, clamps, crosses))
  impossible_with kept (done_until v) there (inl (inl crossed)) = inl crossed
  impossible_with kept (done_until v) there (inl (inr past)) = inr (omega (arith, ints, clamps, past))
  impossible_with kept (done_until v) there (inr crosses) = inr (omega (arith, ints, clamps, crosses))
  impossible_with kept (from i v) there (inl (inr past)) = inr past
  impossible_with kept (until i v) there (inl (inr past)) = inr past
  impossible_with kept (order decision) there (inr none) = absurd none

  or_crossed : (k : ℕ) (Cross : Type 0) → k < stream_count network → (high_at view k <ℤ low_at view k) ⊎ Cross → IsImpossible network view ⊎ Cross
  or_crossed k Cross below (inl was) = inl (inl (k, below, was))
  or_crossed k Cross below (inr crossed) = inr crossed

  impossible_parts : (fact : Fact) → IsImpossible network (learned view fact) → IsImpossible network view ⊎ Crosses view fact
  unfolding learned
  impossible_parts (from i v) (inl (k, below, crossed)) =
      or_crossed k (high_at view i <ℤ v) below
      (each-set (λ j x. high_at view j <ℤ x → (high_at view j <ℤ low_at view j) ⊎ (high_at view i <ℤ v)) view.low i (int_max v (low_at view i))
      (λ past. by_lt_z (high_at view i) v (λ less. inr less) (λ under. inl (omega (arith, ints, clamps, past, under)))) (λ j past. inl past) k crossed)
  impossible_parts (until i v) (inl (k, below, crossed)) =
      or_crossed k (v <ℤ low_at view i) below
      (each-set (λ j x. x <ℤ low_at view j → (high_at view j <ℤ low_at view j) ⊎ (v <ℤ low_at view i)) view.high i (int_min v (high_at view i))
      (λ past. by_lt_z v (low_at view i) (λ less. inr less) (λ over. inl (omega (arith, ints, clamps, past, over)))) (λ j past. inl past) k crossed)
  impossible_parts (from i v) (inr past) = inl (inr past)
  impossible_parts (until i v) (inr past) = inl (inr past)
  impossible_parts (order decision) was = inl was
  impossible_parts (done_from v) (inl crossed) = inl (inl crossed)
  impossible_parts (done_from v) (inr past) = by_lt_z view.done_high v (λ less. inr less) (λ under. inl (inr (omega (arith, ints, clamps, past, under))))
  impossible_parts (done_until v) (inl crossed) = inl (inl crossed)
  impossible_parts (done_until v) (inr past) = by_lt_z v view.done_low (λ less. inr less) (λ over. inl (inr (omega (arith, ints, clamps, past, over))))

-- what is told of one that was known, and of numbers that are crossed
abbrev pub Told : Bool → Bool → Type 0 → Type 0
Told told known Cross = MatchBool told ((known ≡ true) ⊎ Cross) ((known ≡ false) × (Cross → ⊥))

pub flag_or : (known told : Bool) (Old New Cross : Type 0) → MatchBool known Old (Old → ⊥) → Told told known Cross → (Old ⊎ Cross → New)
    → (New → Old ⊎ Cross) → MatchBool told New (New → ⊥)
flag_or true true Old New Cross old crossed into parts = into (inl old)
flag_or false true Old New Cross old (inl is) into parts = absurd (cc)
flag_or false true Old New Cross old (inr crossed) into parts = into (inr crossed)
flag_or true false Old New Cross old none into parts = let is = none.0 in absurd (cc)
flag_or false false Old New Cross old none into parts = λ new. elim (parts new) [ inl was ↦ old was | inr crossed ↦ none.1 crossed ]

-- by two numbers
pub told_by : (told known : Bool) (high low : ℤ) (Cross : Type 0) → MatchBool told ((known ≡ true) ⊎ (high <ℤ low)) ((known ≡ false) × (low ≤ℤ high))
    → (high <ℤ low → Cross) → (Cross → high <ℤ low) → Told told known Cross
told_by true known high low Cross (inl is) crosses crossed = inl is
told_by true known high low Cross (inr past) crosses crossed = inr (crosses past)
told_by false known high low Cross apart crosses crossed = (apart.0, λ c. let past = crossed c in let not_past = apart.1 in omega (arith, ints, past, not_past))

same_told : (known : Bool) → Told known known ⊥
same_told true = inl refl
same_told false = (refl, λ none. none)

-- ---- the whole state

-- a view that is kept stays so with a fact
pub IsKept-learned : (network : Network) (view : model.View) (fact : Fact) → IsKept network view → IsFact network fact → IsKept network (learned view fact)
unfolding learned
IsKept-learned network view (from i v) kept is =
    let lows = length-set view.low i (int_max v (low_at view i)) ∙ kept.lows in
    record { lows = lows; highs = kept.highs; bounded = IsBounded-learned network view (from i v) kept.bounded; conflicts = kept.conflicts }
IsKept-learned network view (until i v) kept is =
    let highs = length-set view.high i (int_min v (high_at view i)) ∙ kept.highs in
    record { lows = kept.lows; highs = highs; bounded = IsBounded-learned network view (until i v) kept.bounded; conflicts = kept.conflicts }
IsKept-learned network view (order decision) kept is =
    let conflicts = All-push (λ (d : Decision). IsConflict network d.triple) view.orders decision kept.conflicts is in
    record { lows = kept.lows; highs = kept.highs; bounded = IsBounded-learned network view (order decision) kept.bounded; conflicts = conflicts }
IsKept-learned network view (done_from v) kept is =
    record { lows = kept.lows; highs = kept.highs; bounded = IsBounded-learned network view (done_from v) kept.bounded; conflicts = kept.conflicts }
IsKept-learned network view (done_until v) kept is =
    record { lows = kept.lows; highs = kept.highs; bounded = IsBounded-learned network view (done_until v) kept.bounded; conflicts = kept.conflicts }

-- it is told whether a view is impossible
abbrev pub Flag : Network → model.View → Bool → Type 0
Flag network view told = MatchBool told (IsImpossible network view) (IsImpossible network view → ⊥)

-- the view becomes another one, and nothing else changes
becomes : (old new : View) (after : model.View) → IsSound old → new.timing.now ≡ old.timing.now
    → base_of new ≡ base_of old → new.base_crossed ≡ old.base_crossed → view_of new ≡ after → IsKept old.timing.now after
    → MatchBool new.crossed (IsImpossible old.timing.now after) (IsImpossible old.timing.now after → ⊥) → Becomes old new after
becomes old new after sound network base flag view kept told = record {
  sound = record {
    view = rw (network, view) kept;
    base = rw (network, base) sound.base;
    crossed = subst (λ n. Flag n (view_of new) new.crossed) (sym network) (subst (λ v. Flag old.timing.now v new.crossed) (sym view) told);
    base_crossed = subst (λ n. Flag n (base_of new) new.base_crossed) (sym network)
        (subst (λ v. Flag old.timing.now v new.base_crossed) (sym base) (subst (Flag old.timing.now (base_of old)) (sym flag) sound.base_crossed));
  };
  network = network;
  base = base;
  view = view;
}

-- the view becomes that with a fact
pub learns : (old new : View) (fact : Fact) → IsSound old → IsFact old.timing.now fact → new.timing.now ≡ old.timing.now
    → base_of new ≡ base_of old → new.base_crossed ≡ old.base_crossed → view_of new ≡ learned (view_of old) fact
    → Told new.crossed old.crossed (Crosses (view_of old) fact) → Becomes old new (learned (view_of old) fact)
learns old new fact sound is network base flag view told =
    becomes old new (learned (view_of old) fact) sound network base flag view (IsKept-learned old.timing.now (view_of old) fact sound.view is)
    (flag_or old.crossed new.crossed _ _ _ sound.crossed told (impossible_with old.timing.now (view_of old) sound.view fact is)
    (impossible_parts old.timing.now (view_of old) fact))

-- a decision makes no view impossible
pub decided : {E : Type 0} (old new : View) (decision : Decision) → IsSound old → IsConflict old.timing.now decision.triple → new.timing.now ≡ old.timing.now
    → new.low ≡ old.low → new.high ≡ old.high → new.done ≡ old.done → base_of new ≡ base_of old
    → new.base_crossed ≡ old.base_crossed → new.crossed ≡ old.crossed → (r : Result Unit E) → OnOk r (new.orders.view ≡ old.orders.view ++ decision ∷ [])
    → OnOk r (Becomes old new (learned (view_of old) (order decision)))
unfolding learned
decided old new decision sound conflict network low high done base flag crossed (Err e) view = tt
decided old new decision sound conflict network low high done base flag crossed (Ok u) view =
    learns old new (order decision) sound conflict network base flag
    (λ k. record { low = (low k).view; high = (high k).view; orders = view k; done_low = (done k).low; done_high = (done k).high })
    (subst (λ told. Told told old.crossed ⊥) (sym crossed) (same_told old.crossed))

pub on_ok : {T E P Q : Type 0} (r : Result T E) → (P → Q) → OnOk r P → OnOk r Q
on_ok (Ok value) follows holds = follows holds
on_ok (Err error) follows holds = tt
