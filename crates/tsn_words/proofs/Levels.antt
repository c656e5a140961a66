-- What a parse of the program without a fault finds: a command, with what it requires.
use Rattle.std.proofs.Common.{◌≡◌, ◌∙◌, ◌≤◌, ◌&&◌, ◌||◌, ◌++◌, append_assoc, not, is_some, subst, ℕ, Bool, cond, codes, zero, suc, refl, sym, ap, arith, List, [], ◌∷◌, length, leb-true, nat_le, true, false, Option, Some, None, All, IfSome, true≢false}
use Rattle.std.specs.Prelude.{MatchOption, option_and_then, option_map, slice_get}
use Rattle.std.specs.Option.{option_map_or}
use Rattle.std.specs.List.{find, list_all, list_any}
use Rattle.std.specs.Str.{bytes_eq}
use Rattle.std.proofs.lemmas.Slice.Eq.{bytes_eq-Decides}
use Rattle.clap.specs.Facts.{explicit_source, parser_of_value, unwrap_or_range}
use Rattle.clap.specs.Kinds.{Kinds}
use Rattle.clap.specs.Faults.{check_fault, defaults_fault, entered_fault, fault_of, level_fault, settle_fault, walk_fault}
use Rattle.clap.specs.Walk.{Names, Row, Rule, Text, action_of, all_of, answers_to, first_of, nothing_held, rows_after, settled, stop_after, walk, walk_from}
use Rattle.clap.specs.Simple.{Shape, argument_words, built, entered, label_of, names_of, rows_at, subcommand_of}
use Rattle.clap.specs.Takes.{is_given}
use Rattle.clap.proofs.ValueTestLemmas.{accepts-Accepts}
use Rattle.tsn_words.specs.Grammar as grammar
use Rattle.tsn_words.specs.Grammar.{Each, HasArguments, HasWords, IsGiven, IsTaken, IsWhole, takes_word}
use Rattle.tsn_words.proofs.Given.{Fit, FitsFor, Good, GoodFor, StopGood, both_of, checked, defaults_good, each_append, each_of, found_one, neither, settled_good, walk_good}

-- ---- one level

module _ (s : Shape) (names : Names) (words : List Text) (has : Bool) (below : Kinds) (e : level_fault s names nothing_held words has below ≡ []) where
  pub below_none : below ≡ []
  below_none =
      let walked = neither (walk_fault s names (walk_from nothing_held) words) _ e in
      (neither below _ walked.1).0

  pub check_none : check_fault s (rows_after s.rules names words) has ≡ []
  check_none =
      let end = (walk s.rules names nothing_held words).held in
      let walked = neither (walk_fault s names (walk_from nothing_held) words) _ e in
      let under = neither below _ walked.1 in
      let settle = neither (settle_fault s.rules s.args_override_self end) _ under.1 in
      (neither (defaults_fault (settled s.rules end).rows s.rules) _ settle.1).1

  pub rows_good : (id : Text) (Q : Text → Type 0) → Each (FitsFor id Q) s.rules → Each (GoodFor id Q) (rows_after s.rules names words)
  rows_good id Q fits =
      let end = (walk s.rules names nothing_held words).held in
      let walked = neither (walk_fault s names (walk_from nothing_held) words) _ e in
      let under = neither below _ walked.1 in
      let settle = neither (settle_fault s.rules s.args_override_self end) _ under.1 in
      let good = walk_good id Q s fits names words (walk_from nothing_held) walked.0 (tt, tt) in
      defaults_good id Q (settled s.rules end).rows s.rules fits (settled_good id Q s fits end settle.0 good.0)

  pub stop_good : (id : Text) (Q : Text → Type 0) (fits : Each (FitsFor id Q) s.rules) → StopGood id Q s fits (stop_after s.rules names words)
  stop_good id Q fits =
      let walked = neither (walk_fault s names (walk_from nothing_held) words) _ e in
      (walk_good id Q s fits names words (walk_from nothing_held) walked.0 (tt, tt)).1

none_of : (p : Rule → Bool) (xs : List Rule) → list_any p xs ≡ false → Each (λ a. p a ≡ false) xs
none_of p [] e = tt
none_of p (x ∷ xs) e = go (p x) refl e (λ rest. none_of p xs rest)
  where
    go : (b : Bool) → p x ≡ b → (b || list_any p xs) ≡ false → (list_any p xs ≡ false → Each (λ a. p a ≡ false) xs) → Each (λ a. p a ≡ false) (x ∷ xs)
    go true is e rest = cc
    go false is e rest = (is, rest e)

-- a command that is required is met
command_met : (s : Shape) (rows : List Row) (has : Bool) → check_fault s rows has ≡ [] → (not has && s.subcommand_required) ≡ false
command_met s rows has e =
    (checked (not has && (s.arg_required_else_help && not (list_any (λ r. explicit_source r.source) rows))) (not has && s.subcommand_required)
    (not (s.subcommand_negates_reqs && has) && list_any (λ a. a.required && not (is_given a.id rows)) s.rules) e).1

-- each argument that is required is given
required : (s : Shape) (words : List Text) → s.subcommand_negates_reqs ≡ false → level_fault s [] nothing_held words false [] ≡ []
    → Each (λ a. (a.required && not (is_given a.id (rows_after s.rules [] words))) ≡ false) s.rules
required s words negates e =
    let rows = rows_after s.rules [] words in
    let p : Rule → Bool = λ a. a.required && not (is_given a.id rows) in
    let none = (checked (not false && (s.arg_required_else_help && not (list_any (λ r. explicit_source r.source) rows))) (not false && s.subcommand_required)
    (not (s.subcommand_negates_reqs && false) && list_any p s.rules) (check_none s [] words false [] e)).2 in
    let any : list_any p s.rules ≡ false = rw negates at none in
    none_of p s.rules any

-- ---- an argument

given : (id : Text) (Q : Text → Type 0) (rows : List Row) → Each (GoodFor id Q) rows → (not (is_given id rows)) ≡ false → (r : Row) × (find (λ r. bytes_eq r.id id) rows ≡ Some r) × Good Q r.values
given id Q rows good is = go (find (λ r. bytes_eq r.id id) rows) refl is
  where
    go : (o : Option Row) → find (λ r. bytes_eq r.id id) rows ≡ o → not (option_map_or (λ r. explicit_source r.source) o false) ≡ false
        → (r : Row) × (find (λ r. bytes_eq r.id id) rows ≡ Some r) × Good Q r.values
    go None found is = cc
    go (Some r) found is =
        let one = found_one (GoodFor id Q) (λ r. bytes_eq r.id id) rows r good found in
        (r, found, one.0 one.1)

first_some : (vs : List Text) → 1 ≤ length vs → is_some (slice_get vs 0) ≡ true
first_some [] some = absurd (omega arith)
first_some (v ∷ vs) some = refl

first_given : (id : Text) (Q : Text → Type 0) (rows : List Row) → Each (GoodFor id Q) rows → (not (is_given id rows)) ≡ false → IsGiven id rows
first_given id Q rows good is =
    let r = given id Q rows good is in
    ap (λ o. is_some (option_and_then (λ (r : Row). slice_get r.values 0) o)) r.1 ∙ first_some r.0.values r.2.some

first_fits : (id : Text) (Q : Text → Type 0) (rows : List Row) → Each (GoodFor id Q) rows → IfSome (first_of id rows) Q
first_fits id Q rows good = go (find (λ r. bytes_eq r.id id) rows) refl
  where
    first : (vs : List Text) → Each Q vs → IfSome (slice_get vs 0) Q
    first [] each = tt
    first (v ∷ vs) each = each.0

    go : (o : Option Row) → find (λ r. bytes_eq r.id id) rows ≡ o → IfSome (option_and_then (λ (r : Row). slice_get r.values 0) o) Q
    go None found = tt
    go (Some r) found =
        let one = found_one (GoodFor id Q) (λ r. bytes_eq r.id id) rows r good found in
        first r.values (one.0 one.1).each

all_each : (Q : Text → Type 0) (xs : List Text) → Each Q xs → All Q xs
all_each Q [] each k d lt = absurd (omega arith)
all_each Q (x ∷ xs) each zero d lt = each.0
all_each Q (x ∷ xs) each (suc k) d lt = all_each Q xs each.1 k d (omega arith)

all_given : (id : Text) (Q : Text → Type 0) (rows : List Row) → Each (GoodFor id Q) rows → (not (is_given id rows)) ≡ false
    → MatchOption (all_of id rows) ⊥ (λ words. (1 ≤ length words) × All Q words)
all_given id Q rows good is =
    let r = given id Q rows good is in
    let Has : Option (List Text) → Type 0 = λ o. MatchOption o ⊥ (λ words. (1 ≤ length words) × All Q words) in
    subst Has (sym (ap (option_map (λ (r : Row). r.values)) r.1)) (r.2.some, all_each _ _ r.2.each)

-- ---- the arguments of a command

abbrev has_none : {X : Type 0} → List X → Bool
has_none [] = true
has_none (x ∷ xs) = false

-- a rule whose parser is asked for each value
abbrev is_fit : Rule → Bool
is_fit a = nat_le 1 (unwrap_or_range a.range).start_inclusive && has_none a.defaults

abbrev differs : Rule → Rule → Bool
differs a x = not (bytes_eq x.id a.id)

-- a rule that takes words is fit, and each differs from those before it and behind it
abbrev are_fit : List Rule → List Rule → Bool
are_fit before [] = true
are_fit before (a ∷ after) =
    (not (takes_word (action_of a)) || is_fit a) && (list_all (differs a) before && (list_all (differs a) after && are_fit (before ++ a ∷ []) after))

empty : (xs : List Text) → has_none xs ≡ true → xs ≡ []
empty [] e = refl
empty (x ∷ xs) e = absurd (true≢false (sym e))

not_both : (b : Bool) → not b ≡ true → b ≡ true → ⊥
not_both true none some = true≢false (sym none)
not_both false none some = true≢false (sym some)

fit_of : (a : Rule) → takes_word (action_of a) ≡ true → is_fit a ≡ true → Fit (IsTaken a) a
fit_of a kind e =
    let parts = both_of (nat_le 1 (unwrap_or_range a.range).start_inclusive) _ e in
    record {
      some = leb-true _ _ parts.0;
      each = λ t passes. accepts-Accepts a.ignore_case (parser_of_value a.parser) t passes;
      kind = kind;
      no_default = empty a.defaults parts.1;
    }

others : (a : Rule) (xs : List Rule) → list_all (differs a) xs ≡ true → Each (FitsFor a.id (IsTaken a)) xs
others a [] e = tt
others a (x ∷ xs) e = let parts = both_of (differs a x) _ e in (λ same. absurd (not_both _ parts.0 same), others a xs parts.1)

words_of : (a : Rule) (rows : List Row) (required : Bool) → Each (GoodFor a.id (IsTaken a)) rows → (required && not (is_given a.id rows)) ≡ false → HasWords true required a rows
words_of a rows false good wanted = first_fits a.id (IsTaken a) rows good
words_of a rows true good wanted = (first_given a.id (IsTaken a) rows good wanted, all_given a.id (IsTaken a) rows good wanted)

module _ (s : Shape) (words : List Text) (negates : s.subcommand_negates_reqs ≡ false) (e : level_fault s [] nothing_held words false [] ≡ []) where
  abbrev rows : List Row
  rows = rows_after s.rules [] words

  argument : (a : Rule) (takes : Bool) → takes_word (action_of a) ≡ takes → (not takes || is_fit a) ≡ true → (Fit (IsTaken a) a → Each (FitsFor a.id (IsTaken a)) s.rules)
      → (a.required && not (is_given a.id rows)) ≡ false → HasWords takes a.required a rows
  argument a false kind fit fits wanted = tt
  argument a true kind fit fits wanted = words_of a rows a.required (rows_good s [] words false [] e a.id (IsTaken a) (fits (fit_of a kind fit))) wanted

  arguments : (before after : List Rule) → before ++ after ≡ s.rules → are_fit before after ≡ true → Each (λ a. (a.required && not (is_given a.id rows)) ≡ false) after → HasArguments after rows
  arguments before [] all fit wanted = tt
  arguments before (a ∷ after) all fit wanted =
      let parts = both_of _ _ fit in
      let ahead = both_of (list_all (differs a) before) _ parts.1 in
      let behind = both_of (list_all (differs a) after) _ ahead.1 in (
        argument a (takes_word (action_of a)) refl parts.0
            (λ is. subst (Each (FitsFor a.id (IsTaken a))) all
            (each_append (FitsFor a.id (IsTaken a)) before (a ∷ after) (others a before ahead.0) (λ _. is, others a after behind.0)))
            wanted.0,
        arguments (before ++ a ∷ []) after (append_assoc before (a ∷ []) after ∙ all) behind.1 wanted.1,
      )

-- ---- the commands

-- a command of one name, whose rules are fit; or help
abbrev is_usual : Shape → Bool
is_usual s = has_none s.aliases && (bytes_eq s.name (codes "help") || (not s.subcommand_negates_reqs && are_fit [] s.rules))

no_aliases : (s : Shape) (xs : List (List ℕ)) (word : Text) → has_none xs ≡ true → answers_to word (s.name, xs) ≡ true → s.name ≡ word
no_aliases s [] word e answers = (bytes_eq-Decides s.name word).0 (or_false (bytes_eq s.name word) answers)
  where
    or_false : (b : Bool) → (b || false) ≡ true → b ≡ true
    or_false true e = refl
    or_false false e = e
no_aliases s (x ∷ xs) word e answers = absurd (true≢false (sym e))

-- a test that only equal texts pass, whichever stands first
other_way : (a b : Text) (p : Bool) → bytes_eq b a ≡ p → bytes_eq a b ≡ p
other_way a b p is = go (bytes_eq a b) refl p is
  where
    go : (q : Bool) → bytes_eq a b ≡ q → (p : Bool) → bytes_eq b a ≡ p → bytes_eq a b ≡ p
    go true there true back = there
    go true there false back =
        let same : bytes_eq b a ≡ bytes_eq a b = subst (λ t. bytes_eq t a ≡ bytes_eq a t) ((bytes_eq-Decides a b).0 there) refl in
        absurd (true≢false (sym (sym back ∙ same ∙ there)))
    go false there true back =
        let same : bytes_eq a b ≡ bytes_eq b a = subst (λ t. bytes_eq t b ≡ bytes_eq b t) ((bytes_eq-Decides b a).0 back) refl in
        absurd (true≢false (sym (sym there ∙ same ∙ back)))
    go false there false back = there

-- so the command that a word finds is the one of that name
same_found : (word : Text) (xs : List Shape) → Each (λ s. is_usual s ≡ true) xs
    → find (λ s. answers_to word (label_of s)) xs ≡ find (λ s. bytes_eq word s.name) xs
same_found word [] usual = refl
same_found word (x ∷ xs) usual = go x.aliases (both_of (has_none x.aliases) _ usual.0).0 (bytes_eq x.name word) refl (same_found word xs usual.1)
  where
    go : (aliases : List (List ℕ)) → has_none aliases ≡ true → (p : Bool) → bytes_eq x.name word ≡ p
        → find (λ s. answers_to word (label_of s)) xs ≡ find (λ s. bytes_eq word s.name) xs
        → cond (answers_to word (x.name, aliases)) (Some x) (find (λ s. answers_to word (label_of s)) xs) ≡ cond (bytes_eq word x.name) (Some x) (find (λ s. bytes_eq word s.name) xs)
    go [] none true is rest = rw (is, other_way word x.name true is) refl
    go [] none false is rest = rw (is, other_way word x.name false is) rest
    go (y ∷ ys) none p is rest = absurd (true≢false (sym none))

-- what is known of a command that was met by this word
known : (s : Shape) (words : List Text) → bytes_eq s.name (codes "help") ≡ false → (bytes_eq s.name (codes "help") || (not s.subcommand_negates_reqs && are_fit [] s.rules)) ≡ true
    → level_fault s [] nothing_held words false [] ≡ [] → HasArguments s.rules (rows_after s.rules [] words)
known s words other usual e =
    let fit : (not s.subcommand_negates_reqs && are_fit [] s.rules) ≡ true = rw other at usual in
    let parts = both_of (not s.subcommand_negates_reqs) _ fit in
    let negates = isnt s.subcommand_negates_reqs parts.0 in
    arguments s words negates e [] s.rules refl parts.1 (required s words negates e)
  where
    isnt : (b : Bool) → not b ≡ true → b ≡ false
    isnt true e = sym e
    isnt false e = refl

-- ---- the program

each_usual : Each (λ s. is_usual s ≡ true) (built grammar.tsn).subs
each_usual = each_of is_usual (built grammar.tsn).subs refl

entered_whole : (stop : Option (Text × List Text)) → option_map_or (λ p. bytes_eq p.0 (codes "help")) stop false ≡ false
    → is_some (entered (built grammar.tsn) stop) ≡ true → entered_fault (built grammar.tsn) stop ≡ [] → IsWhole (entered (built grammar.tsn) stop)
entered_whole None no_help some e = cc
entered_whole (Some p) no_help some e = go (find (λ s. answers_to p.0 (label_of s)) (built grammar.tsn).subs) refl some e
  where
    go : (o : Option Shape) → find (λ s. answers_to p.0 (label_of s)) (built grammar.tsn).subs ≡ o → is_some (option_map (λ s. rows_at s p.1) o) ≡ true
        → option_map_or (λ s. level_fault s [] nothing_held p.1 false []) o [] ≡ [] → IsWhole (option_map (λ s. rows_at s p.1) o)
    go None found some e = cc
    go (Some s) found some e =
        let one = found_one (λ s. is_usual s ≡ true) (λ s. answers_to p.0 (label_of s)) (built grammar.tsn).subs s each_usual found in
        let usual = both_of (has_none s.aliases) _ one.0 in
        let named : s.name ≡ p.0 = no_aliases s s.aliases p.0 usual.0 one.1 in
        let other : bytes_eq s.name (codes "help") ≡ false = subst (λ n. bytes_eq n (codes "help") ≡ false) (sym named) no_help in
        let met : find (λ x. bytes_eq s.name x.name) (built grammar.tsn).subs ≡ Some s =
        subst (λ n. find (λ x. bytes_eq n x.name) (built grammar.tsn).subs ≡ Some s) (sym named) (sym (same_found p.0 (built grammar.tsn).subs each_usual) ∙ found) in
        let Has : Option Shape → Type 0 = λ o. MatchOption o ⊥ (λ command. HasArguments command.rules (rows_after s.rules [] p.1)) in
        (other, subst Has (sym met) (known s p.1 other usual.1 e))

abbrev Any : Text → Type 0
Any _ = Unit {0}

-- another argument
apart : {A : Type 0} → false ≡ true → A
apart e = absurd (true≢false (sym e))

top_fits : Each (FitsFor (codes "NET") Any) (built grammar.tsn).top.rules
top_fits = (apart, (apart, tt))

not_help : (stop : Option (Text × List Text)) → StopGood (codes "NET") Any (built grammar.tsn).top top_fits stop → option_map_or (λ p. bytes_eq p.0 (codes "help")) stop false ≡ false
not_help None good = refl
not_help (Some p) good = good refl

some_entered : (has : Bool) → (not has && true) ≡ false → has ≡ true
some_entered true e = refl
some_entered false e = cc

-- words without a fault have a command, with what it requires
pub whole : (words : List Text) → fault_of grammar.tsn words ≡ [] → IsWhole (subcommand_of grammar.tsn words)
whole words e =
    let a = built grammar.tsn in
    let after = argument_words grammar.tsn words in
    let stop = stop_after a.top.rules (names_of a) after in
    let has = is_some (entered a stop) in
    let below = entered_fault a stop in
    let stops = stop_good a.top (names_of a) after has below e (codes "NET") Any top_fits in
    let some = some_entered has (command_met a.top (rows_after a.top.rules (names_of a) after) has (check_none a.top (names_of a) after has below e)) in
    entered_whole stop (not_help stop stops) some (below_none a.top (names_of a) after has below e)
