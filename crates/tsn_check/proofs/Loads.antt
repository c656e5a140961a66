-- The entries of a leaf over a whole link, taken one after another.
use Rattle.std.proofs.Common.{◌≡◌, ◌≢◌, ℕ, zero, suc, ◌+◌, ◌<◌, ◌≤◌, List, [], ◌∷◌, ◌++◌, length, take, get_or, All, Any, ℤ, pos, ◌+ℤ◌, ◌-ℤ◌, ◌≤ℤ◌, ◌<ℤ◌, Bool, true, false, cond, Option, Some, None, MatchOption, Ok, ◌==◌, refl, sym, ap, ap₂, ◌∙◌, subst, arith, eqb-true, eq-eqb}
use Rattle.std.specs.Prelude.{slice_get, int_lt, ◌&&◌}
use Rattle.std.specs.Int.{int_min}
use Rattle.std.specs.List.{list_any}
use Rattle.std.proofs.lemmas.Bool.{false≢true, and_parts, and_from}
use Rattle.std.proofs.lemmas.Int.{ints}
use Rattle.std.proofs.lemmas.List.{length-append, length-take, take_more}
use Rattle.std.proofs.lemmas.List.Elements.{All-push}
use Rattle.std.proofs.lemmas.List.Folds.{Any-from_list_any, list_any_at}
use Rattle.std.proofs.lemmas.List.Sums.{sum_by-append}
use Rattle.std.proofs.lemmas.List.Quantifiers.{all_pairs_push}
use Rattle.tsn_model.specs.declared.Decision.{Decision}
use Rattle.tsn_model.specs.declared.Frame.{Frame}
use Rattle.tsn_model.specs.Network.{Network}
use Rattle.tsn_model.specs.Timing.{separation, arrival}
use Rattle.tsn_model.specs.Certificate.{Entry, load, IsFrameOn, begin_on, end_on, LeadsTo, AreEntries, sum_on, least, head_of, tail_of, work_of, busy_until, load_bound}
use Rattle.tsn_model.proofs.Lists.{least-map_push, least-one}
use Rattle.tsn_check.specs.Faults.{IsWrongEntry, IsFirstWrong}
use Rattle.tsn_check.specs.Steps.{IsRightEntry, IsLoad, FindsBound}
use Rattle.tsn_check.specs.declared.load.LinkLoad.{LinkLoad}
use Rattle.tsn_check.specs.declared.why.Shortfall.{Shortfall}
use Rattle.tsn_check.specs.declared.why.Shortfall.TheVariants.{Bound}
use Rattle.tsn_check.specs.declared.why.NodeFault.{NodeFault}

-- ---- a frame among others

-- whether an entry is of the frame
abbrev is_of : Frame → Entry → Bool
is_of frame entry = entry.frame.stream == frame.stream && entry.frame.shift == frame.shift

same_frame : (a b : Frame) → (a.stream == b.stream && a.shift == b.shift) ≡ true → a ≡ b
same_frame a b e =
    let parts = and_parts (a.stream == b.stream) (a.shift == b.shift) e in
    ap₂ (λ (stream shift : ℕ). record { stream = stream; shift = shift }) (eqb-true a.stream b.stream parts.0) (eqb-true a.shift b.shift parts.1)

frame_same : (a b : Frame) → a ≡ b → (a.stream == b.stream && a.shift == b.shift) ≡ true
frame_same a b e =
    and_from (a.stream == b.stream) (a.shift == b.shift) (eq-eqb a.stream b.stream (ap (λ f. f.stream) e)) (eq-eqb a.shift b.shift (ap (λ f. f.shift) e))

pub repeated : (entries : List Entry) (frame : Frame) → list_any (is_of frame) entries ≡ true → Any (λ (other : Entry). other.frame ≡ frame) entries
repeated entries frame found =
    let at = Any-from_list_any (is_of frame) entries found in
    (at.0, at.1, at.2, at.3, same_frame at.1.frame frame at.4)

pub not_repeated : (entries : List Entry) (frame : Frame) → list_any (is_of frame) entries ≡ false → All (λ (other : Entry). other.frame ≢ frame) entries
not_repeated entries frame none = λ k d below same.
    false≢true (sym none ∙ list_any_at (is_of frame) entries k d below (frame_same (get_or entries k d).frame frame same))

-- ---- the least of some numbers

-- what holds of two numbers holds of the lesser one
lesser : (P : ℤ → Type 0) (x y least : ℤ) → least ≡ int_min x y → P x → P y → P least
lesser P x y least is p q = subst P (sym is) (elim (int_lt y x) as (λ b. P (cond b y x)) [ true ↦ q | false ↦ p ])

module _ (network : Network) (path : List Decision) (link : ℕ) where
  work-push : (entries : List Entry) (entry : Entry) → work_of network link (entries ++ entry ∷ []) ≡ work_of network link entries + work_of network link (entry ∷ [])
  unfolding work_of
  work-push entries entry = sum_by-append (λ (e : Entry). separation network e.frame.stream link) entries (entry ∷ [])

  work-one : (entry : Entry) → work_of network link (entry ∷ []) ≡ separation network entry.frame.stream link
  unfolding work_of
  work-one entry = omega arith

  -- ---- right entries

  pub no_entries : AreEntries network path link []
  no_entries = grind arith

  pub entries_push : (entries : List Entry) (entry : Entry) → AreEntries network path link entries → IsRightEntry network path link entries entry → AreEntries network path link (entries ++ entry ∷ [])
  entries_push entries entry are right = record {
    different = all_pairs_push (λ (a b : Entry). a.frame ≢ b.frame) entries entry are.different right.other_frame;
    on_link = All-push (λ (e : Entry). IsFrameOn network link e.frame) entries entry are.on_link right.on_link;
    chains = All-push (λ (e : Entry). LeadsTo network path e.chain e.frame.stream) entries entry are.chains right.leads;
  }

  -- ---- what entries come to

  -- one entry
  pub one_load : (entry : Entry) (found : LinkLoad) (sum : ℤ) (begin work end : ℕ) → sum ≡ sum_on network path entry.chain entry.frame.stream → begin ≡ begin_on network link entry.frame
      → work ≡ separation network entry.frame.stream link → end ≡ arrival network entry.frame.stream → pos 0 ≤ℤ (sum +ℤ pos 154880000000) → sum ≤ℤ pos 155880000000
      → begin ≤ 1230000000 → work ≤ 1233600 → end ≤ 230000000
      → found.head ≡ sum +ℤ pos begin → found.work ≡ work → found.tail ≡ pos end -ℤ pos (begin + work) → IsLoad network path link (entry ∷ []) found
  unfolding least head_of tail_of end_on
  one_load entry found sum begin work end adds begins works ends low high short_begin short_work short_end head is_work tail = record {
    head = head ∙ (λ i. adds i +ℤ pos (begins i));
    work = is_work ∙ works ∙ sym (work-one entry);
    tail = tail ∙ (λ i. pos (ends i) -ℤ pos (begins i + works i));
    low_head = omega (arith, ints);
    high_head = omega (arith, ints);
    short_work = omega (arith, ints);
    low_tail = omega (arith, ints);
    high_tail = omega (arith, ints);
  }

  -- more entries
  pub load_push : (entries : List Entry) (entry : Entry) (all next more : LinkLoad) → 0 < length entries → IsLoad network path link entries all → IsLoad network path link (entry ∷ []) next
      → more.head ≡ int_min all.head next.head → more.work ≡ all.work + next.work → more.tail ≡ int_min all.tail next.tail → IsLoad network path link (entries ++ entry ∷ []) more
  load_push entries entry all next more some is_all is_next head work tail = grind (arith, least-one, least-map_push, work-push, lesser, ints, length-append)

  -- what a leaf with these entries shows
  pub busy_until_is : (entries : List Entry) (all : LinkLoad) → IsLoad network path link entries all → busy_until network path link entries ≡ all.head +ℤ pos all.work
  unfolding busy_until
  busy_until_is entries all loaded = λ i. sym loaded.head i +ℤ pos (sym loaded.work i)

  pub load_bound_is : (entries : List Entry) (all : LinkLoad) → IsLoad network path link entries all → load_bound network path link entries ≡ all.head +ℤ pos all.work +ℤ all.tail
  unfolding load_bound
  load_bound_is entries all loaded = λ i. busy_until_is entries all loaded i +ℤ sym loaded.tail i

  -- a leaf over the link is told by what its entries come to
  pub load_found : (target : ℕ) (entries : List Entry) (all : LinkLoad) (bound : ℤ) (found : Option Shortfall) → AreEntries network path link entries
      → IsLoad network path link entries all → bound ≡ all.head +ℤ pos all.work +ℤ all.tail
      → MatchOption found (pos target ≤ℤ bound) (λ short. (bound <ℤ pos target) × (short ≡ Bound bound target))
      → FindsBound network target path (load link entries) (Ok found)
  load_found target entries all bound None are loaded is enough = (are, rw (load_bound_is entries all loaded ∙ sym is) enough)
  load_found target entries all bound (Some short) are loaded is low =
      let same = load_bound_is entries all loaded ∙ sym is in
      (are, λ proves. omega (arith, ints), low.1 ∙ ap (λ z. Bound z target) (sym same))

  -- ---- and in the code

  pub start_load : (entries : List Entry) (first : Entry) (all : LinkLoad) → 0 < length entries → first ≡ get_or entries 0 first
      → IsRightEntry network path link [] first → IsLoad network path link (first ∷ []) all
      → AreEntries network path link (take 1 entries) × IsLoad network path link (take 1 entries) all
  start_load [] first all some is right loaded = absurd (omega arith)
  start_load (entry ∷ entries) first all some is right loaded =
      let both : AreEntries network path link (first ∷ []) × IsLoad network path link (first ∷ []) all = (entries_push [] first no_entries right, loaded) in
      subst (λ e. AreEntries network path link (e ∷ []) × IsLoad network path link (e ∷ []) all) is both

  pub more_load : (entries : List Entry) (k : ℕ) (next : Entry) (all found more : LinkLoad) → 0 < k → k < length entries → next ≡ get_or entries k next
      → AreEntries network path link (take k entries) → IsLoad network path link (take k entries) all
      → IsRightEntry network path link (take k entries) next → IsLoad network path link (next ∷ []) found
      → more.head ≡ int_min all.head found.head → more.work ≡ all.work + found.work → more.tail ≡ int_min all.tail found.tail
      → AreEntries network path link (take (k + 1) entries) × IsLoad network path link (take (k + 1) entries) more
  more_load entries k next all found more some below is are loaded right next_loaded head work tail =
      let before = take k entries in
      let longer : take (k + 1) entries ≡ before ++ next ∷ [] = take_more entries k next below ∙ ap (λ e. before ++ e ∷ []) (sym is) in
      let some_before : 0 < length before = omega (arith, length-take k entries) in (
        subst (AreEntries network path link) (sym longer) (entries_push before next are right),
        subst (λ es. IsLoad network path link es more) (sym longer) (load_push before next all found more some_before loaded next_loaded head work tail),
      )

  there_entry : (entries : List Entry) (k : ℕ) (d : Entry) → k < length entries → slice_get entries k ≡ Some (get_or entries k d)
  there_entry [] k d below = absurd (omega arith)
  there_entry (entry ∷ entries) zero d below = refl
  there_entry (entry ∷ entries) (suc k) d below = there_entry entries k d (omega arith)

  -- the entry at k is the first that isn't right
  pub wrong_there : (entries : List Entry) (k : ℕ) (next : Entry) (fault : NodeFault) → k < length entries → next ≡ get_or entries k next
      → AreEntries network path link (take k entries) → IsWrongEntry network path link (take k entries) next fault
      → IsFirstWrong network path link entries fault
  wrong_there entries k next fault below is right wrong = grind (arith, there_entry)
