-- Words in which the grammar has no fault are words that it takes.
use Rattle.std.proofs.Common.{◌≡◌, ◌≤◌, ◌+◌, ◌==◌, ◌&&◌, ◌||◌, not, is_some, ℕ, Bool, cond, codes, zero, suc, refl, sym, arith, List, [], ◌∷◌, length, drop, min, true, false, Option, Some, None, true≢false, nat_lt, nat_le, le-leb}
use Rattle.std.specs.Prelude.{encode_utf8, slice_get}
use Rattle.std.specs.Option.{option_map_or}
use Rattle.std.specs.List.{find, list_all, list_any}
use Rattle.std.specs.Str.{bytes_eq, chars}
use Rattle.std.proofs.lemmas.Bool.{eqb-true, ltb-false}
use Rattle.clap.specs.Facts.{explicit_source, parser_of_value, unwrap_or_range}
use Rattle.clap.specs.Matches.{count_text}
use Rattle.clap.specs.Kinds.{Kinds, or_else, range_kinds}
use Rattle.clap.specs.Faults.{action_fault, bundle_fault, bundle_step_fault, count_fault, defaults_fault, entered_fault, fault_of, flag_word_fault, flags_fault, level_fault, long_fault, option_fault, other_fault, positional_fault, react_fault, repeat_fault, settle_fault, short_fault, step_fault, stray_fault, turn_fault, use_fault, values_fault, walk_fault, word_fault}
use Rattle.clap.specs.Takes.{action_passes, bundle_passes, bundle_step_passes, count_passes, default_passes, entered_passes, flag_word_passes, flags_pass, is_given, is_valid, level_passes, long_passes, option_passes, other_passes, positional_passes, react_passes, settle_passes, short_passes, step_passes, takes, turn_passes, use_passes, value_passes, values_pass, walk_passes, word_passes}
use Rattle.clap.specs.Walk.{Held, Names, Row, Rule, Step, Text, Waiting, Walk, action_of, answers_to, arg_by_id, arg_by_index, arg_by_long, arg_by_short, attached_value, count_of, finished, has_row, is_pending, most_values, next, nothing_held, reacted, settled, subcommand, subcommand_met, takes_several, takes_values, trailing, value, values_or_missing, walk, walk_from, walked, word_met}
use Rattle.clap.specs.Lexer.{long_of, short_of}
use Rattle.clap.specs.Simple.{App, Shape, argument_words, built, entered, label_of, names_of}
use Rattle.clap.specs.declared.builder.action.ArgAction.{ArgAction}
use Rattle.clap.specs.declared.builder.action.ArgAction.TheVariants as action
use Rattle.clap.specs.declared.error.kind.ErrorKind.{ErrorKind}
use Rattle.clap.specs.declared.error.kind.ErrorKind.TheVariants as error_kind
use Rattle.tsn_words.specs.Grammar as grammar
use Rattle.tsn_words.specs.Grammar.{Each}
use Rattle.tsn_words.proofs.Given.{accepted, both_of, checked, each_as, each_of, found_one, neither}

pub both : (a b : Bool) → a ≡ true → b ≡ true → (a && b) ≡ true
both true b e f = f
both false b e f = absurd (true≢false (sym e))

-- a kind that comes where both tests hold
never_both : (k : Kinds) (a b : Bool) → (k ≡ [] → ⊥) → cond (a && not b) k [] ≡ [] → (not a || b) ≡ true
never_both k true true some e = refl
never_both k true false some e = absurd (some e)
never_both k false b some e = refl

kinds_some : (k : ErrorKind) (ks : Kinds) → k ∷ ks ≡ [] → ⊥
kinds_some k ks e = cc

-- ---- one use of an argument

all_values : (a : Rule) (vs : List Text) → values_fault a vs ≡ [] → values_pass a vs ≡ true
all_values a [] e = refl
all_values a (v ∷ vs) e =
    let parts = neither _ _ e in
    both (value_passes a v) (values_pass a vs) (accepted a.ignore_case (parser_of_value a.parser) v parts.0) (all_values a vs parts.1)

count_taken : (a : Rule) (vs : List Text) (rows : List Row) → count_fault a vs rows ≡ [] → count_passes a vs rows ≡ true
count_taken a [] rows e = accepted a.ignore_case (parser_of_value a.parser) (count_text (min (count_of a.id rows + 1) 255)) e
count_taken a (v ∷ vs) rows e = all_values a (v ∷ vs) e

set_taken : (again : Bool) (a : Rule) (vs : List Text) (rows : List Row) → or_else (repeat_fault again a.id rows) (values_fault a vs) ≡ []
    → ((not (has_row a.id rows) || again) && values_pass a vs) ≡ true
set_taken again a vs rows e =
    let parts = neither (repeat_fault again a.id rows) _ e in
    both (not (has_row a.id rows) || again) (values_pass a vs) (never_both (error_kind.ArgumentConflict ∷ []) (has_row a.id rows) again (kinds_some _ _) parts.0) (all_values a vs parts.1)

action_taken : (x : ArgAction) (again : Bool) (a : Rule) (vs : List Text) (rows : List Row) → action_fault x again a vs rows ≡ [] → action_passes x again a vs rows ≡ true
action_taken action.Set again a vs rows e = set_taken again a vs rows e
action_taken action.SetTrue again a vs rows e = set_taken again a vs rows e
action_taken action.SetFalse again a vs rows e = set_taken again a vs rows e
action_taken action.Append again a vs rows e = all_values a vs e
action_taken action.Count again a vs rows e = count_taken a vs rows e
action_taken _ again a vs rows e = absurd (kinds_some _ _ e)

within : (least most n : ℕ) → range_kinds least most n ≡ [] → (least ≤ n) × (n ≤ most)
within least most n e = go (nat_lt 0 least && n == 0) (least == most) (least == n) (nat_lt n least) (nat_lt most n) refl refl refl refl e
  where
    go : (a b c d f : Bool) → (least == most) ≡ b → (least == n) ≡ c → nat_lt n least ≡ d → nat_lt most n ≡ f
        → cond a (error_kind.InvalidValue ∷ []) (cond b (cond c [] (error_kind.WrongNumberOfValues ∷ [])) (cond d (error_kind.TooFewValues ∷ []) (cond f (error_kind.TooManyValues ∷ []) []))) ≡ []
        → (least ≤ n) × (n ≤ most)
    go true b c d f one same few many e = absurd (kinds_some _ _ e)
    go false true true d f one same few many e =
        let p = eqb-true least most one in
        let q = eqb-true least n same in
        (omega arith, omega arith)
    go false true false d f one same few many e = absurd (kinds_some _ _ e)
    go false false c true f one same few many e = absurd (kinds_some _ _ e)
    go false false c false true one same few many e = absurd (kinds_some _ _ e)
    go false false c false false one same few many e = (ltb-false n least few, ltb-false most n many)

use_taken : (again : Bool) (a : Rule) (vs : List Text) (rows : List Row) → use_fault again a vs rows ≡ [] → use_passes again a vs rows ≡ true
use_taken again a vs rows e =
    let parts = neither (range_kinds (unwrap_or_range a.range).start_inclusive (most_values a) (length vs)) _ e in
    let range = within _ _ _ parts.0 in
    both (nat_le (unwrap_or_range a.range).start_inclusive (length vs)) _ (le-leb _ _ range.0)
    (both (nat_le (length vs) (most_values a)) _ (le-leb _ _ range.1) (action_taken (action_of a) again a (values_or_missing a vs) rows parts.1))

-- ---- the walk

module _ (s : Shape) where
  abbrev c : List Rule
  c = s.rules

  abbrev again : Bool
  again = s.args_override_self

  by_id_taken : (o : Option Rule) (vs : List Text) (rows : List Row) → option_map_or (λ a. use_fault again a vs rows) o [] ≡ [] → option_map_or (λ a. use_passes again a vs rows) o true ≡ true
  by_id_taken None vs rows e = refl
  by_id_taken (Some a) vs rows e = use_taken again a vs rows e

  pending_taken : (p : Option (Text × List Text)) (rows : List Row) → option_map_or (λ p. option_map_or (λ a. use_fault again a p.1 rows) (arg_by_id c p.0) []) p [] ≡ []
      → option_map_or (λ p. option_map_or (λ a. use_passes again a p.1 rows) (arg_by_id c p.0) true) p true ≡ true
  pending_taken None rows e = refl
  pending_taken (Some p) rows e = by_id_taken (arg_by_id c p.0) p.1 rows e

  settle_taken : (h : Held) → settle_fault c again h ≡ [] → settle_passes c again h ≡ true
  settle_taken h e = pending_taken h.pending h.rows e

  react_taken : (a : Rule) (vs : List Text) (h : Held) → react_fault c again a vs h ≡ [] → react_passes c again a vs h ≡ true
  react_taken a vs h e =
      let parts = neither (settle_fault c again h) _ e in
      both (settle_passes c again h) _ (settle_taken h parts.0) (use_taken again a vs (settled c h).rows parts.1)

  option_taken : (a : Rule) (v : Option Text) (h : Held) → option_fault c again a v h ≡ [] → option_passes c again a v h ≡ true
  option_taken a (Some v) h e = react_taken a (v ∷ []) h e
  option_taken a None h e = settle_taken h e

  flag_taken : (a : Rule) (v : Option Text) (h : Held) → cond (is_some v) (error_kind.TooManyValues ∷ []) (react_fault c again a [] h) ≡ []
      → (not (is_some v) && react_passes c again a [] h) ≡ true
  flag_taken a (Some v) h e = absurd (kinds_some _ _ e)
  flag_taken a None h e = react_taken a [] h e

  long_taken : (o : Option Rule) (v : Option Text) (h : Held) → long_fault c again o v h ≡ [] → long_passes c again o v h ≡ true
  long_taken None v h e = absurd (kinds_some _ _ e)
  long_taken (Some a) v h e = go (takes_values a) e
    where
      go : (b : Bool) → cond b (option_fault c again a v h) (cond (is_some v) (error_kind.TooManyValues ∷ []) (react_fault c again a [] h)) ≡ []
          → cond b (option_passes c again a v h) (not (is_some v) && react_passes c again a [] h) ≡ true
      go true e = option_taken a v h e
      go false e = flag_taken a v h e

  short_taken : (o : Option Rule) (rest : Text) (h : Held) (next_fault : Held → Kinds) (next_passes : Held → Bool) → ((x : Held) → next_fault x ≡ [] → next_passes x ≡ true)
      → short_fault c again o rest h next_fault ≡ [] → short_passes c again o rest h next_passes ≡ true
  short_taken None rest h next_fault next_passes then e = absurd (kinds_some _ _ e)
  short_taken (Some a) rest h next_fault next_passes then e = go (takes_values a) e
    where
      go : (b : Bool) → cond b (option_fault c again a (attached_value rest) h) (or_else (react_fault c again a [] h) (next_fault (reacted c a [] h))) ≡ []
          → cond b (option_passes c again a (attached_value rest) h) (react_passes c again a [] h && next_passes (reacted c a [] h)) ≡ true
      go true e = option_taken a (attached_value rest) h e
      go false e =
          let parts = neither (react_fault c again a [] h) _ e in
          both (react_passes c again a [] h) _ (react_taken a [] h parts.0) (then (reacted c a [] h) parts.1)

  bundle_step_taken : (x : Option ℕ) (flags : Text) (skip : ℕ) (h : Held) (next_fault : Text → ℕ → Held → Kinds) (next_passes : Text → ℕ → Held → Bool)
      → ((rest : Text) (n : ℕ) (y : Held) → next_fault rest n y ≡ [] → next_passes rest n y ≡ true)
      → bundle_step_fault c again x flags skip h next_fault ≡ [] → bundle_step_passes c again x flags skip h next_passes ≡ true
  bundle_step_taken None flags skip h next_fault next_passes then e = refl
  bundle_step_taken (Some x) flags zero h next_fault next_passes then e =
      let rest = drop (length (encode_utf8 x)) flags in
      short_taken (arg_by_short c x) rest h (next_fault rest 0) (next_passes rest 0) (λ y none. then rest 0 y none) e
  bundle_step_taken (Some x) flags (suc skip) h next_fault next_passes then e = then (drop (length (encode_utf8 x)) flags) skip h e

  flags_taken : (k : ℕ) (flags : Text) (skip : ℕ) (h : Held) → flags_fault c again k flags skip h ≡ [] → flags_pass c again k flags skip h ≡ true
  unfolding flags_fault flags_pass
  flags_taken zero flags skip h e = refl
  flags_taken (suc k) flags skip h e =
      bundle_step_taken (slice_get (chars flags) 0) flags skip h (flags_fault c again k) (flags_pass c again k) (λ rest n y none. flags_taken k rest n y none) e

  bundle_taken : (flags : Option Text) (h : Held) → option_map_or (λ flags. bundle_fault c again flags h) flags [] ≡ [] → option_map_or (λ flags. bundle_passes c again flags h) flags true ≡ true
  bundle_taken None h e = refl
  bundle_taken (Some flags) h e = flags_taken (length flags) flags h.skip (record h { skip = 0 }) e

  flag_word_taken : (o : Option (Text × Option Text)) (word : Text) (h : Held) → flag_word_fault c again o word h ≡ [] → flag_word_passes c again o word h ≡ true
  flag_word_taken (Some p) word h e = long_taken (arg_by_long c p.0) p.1 h e
  flag_word_taken None word h e = bundle_taken (short_of word) h e

  or_passes : (b p : Bool) (ks : Kinds) → (ks ≡ [] → p ≡ true) → cond b [] ks ≡ [] → (b || p) ≡ true
  or_passes true p ks then e = refl
  or_passes false p ks then e = then e

  other_taken : (o : Option Text) (word : Text) (h : Held) → other_fault s o word h ≡ [] → other_passes s o word h ≡ true
  other_taken (Some name) word h e =
      never_both (error_kind.DisplayHelp ∷ error_kind.InvalidSubcommand ∷ []) (bytes_eq name (codes "help")) s.disable_help_subcommand (kinds_some _ _) e
  other_taken None word h e = or_passes (bytes_eq word (45 ∷ 45 ∷ [])) _ _ (flag_word_taken (long_of word) word h) e

  word_taken : (names : Names) (is_trailing : Bool) (waiting : Waiting) (word : Text) (h : Held) → word_fault s names is_trailing waiting word h ≡ []
      → word_passes s names is_trailing waiting word h ≡ true
  word_taken names is_trailing waiting word h e = or_passes is_trailing _ _ (other_taken (subcommand_met names waiting word) word h) e

  positional_taken : (o : Option Rule) (h : Held) → option_map_or (λ a. positional_fault c again a h) o (stray_fault s) ≡ [] → option_map_or (λ a. positional_passes c again a h) o false ≡ true
  positional_taken None h e = absurd (go s.is_leaf e)
    where
      go : (b : Bool) → cond b (error_kind.UnknownArgument ∷ []) (error_kind.UnknownArgument ∷ error_kind.InvalidSubcommand ∷ []) ≡ [] → ⊥
      go true e = kinds_some _ _ e
      go false e = kinds_some _ _ e
  positional_taken (Some a) h e = or_passes (is_pending a h.pending && takes_several a) _ _ (settle_taken h) e

  step_taken : (position : ℕ) (h : Held) (step : Step) → step_fault s position h step ≡ [] → step_passes s position h step ≡ true
  step_taken position h value e = positional_taken (arg_by_index c position) h e
  step_taken position h (next waiting) e = refl
  step_taken position h (trailing p) e = refl
  step_taken position h (subcommand name) e = refl

  turn_taken : (names : Names) (w : Walk) (word : Text) → turn_fault s names w word ≡ [] → turn_passes s names w word ≡ true
  turn_taken names w word e =
      let met = word_met c names w.is_trailing w.waiting w.position word w.held in
      or_passes (is_some w.stopped) _ _
      (λ none.
      let parts = neither (word_fault s names w.is_trailing w.waiting word w.held) _ none in
      both (word_passes s names w.is_trailing w.waiting word w.held) _ (word_taken names w.is_trailing w.waiting word w.held parts.0) (step_taken w.position met.0 met.1 parts.1)) e

  walk_taken : (names : Names) (words : List Text) (w : Walk) → walk_fault s names w words ≡ [] → walk_passes s names w words ≡ true
  unfolding walk_fault walk_passes
  walk_taken names [] w e = refl
  walk_taken names (word ∷ rest) w e =
      let parts = neither (turn_fault s names w word) _ e in
      both (turn_passes s names w word) _ (turn_taken names w word parts.0) (walk_taken names rest (walked c names w word) parts.1)

-- ---- after the walk

help_unwanted : (has wants any : Bool) → (not has && (wants && not any)) ≡ false → (not wants || (has || any)) ≡ true
help_unwanted true true any e = refl
help_unwanted true false any e = refl
help_unwanted false true true e = refl
help_unwanted false true false e = absurd (true≢false e)
help_unwanted false false any e = refl

implied : (has wants : Bool) → (not has && wants) ≡ false → (not wants || has) ≡ true
implied true true e = refl
implied true false e = refl
implied false true e = absurd (true≢false e)
implied false false e = refl

each_given : (rows : List Row) (rules : List Rule) → list_any (λ a. a.required && not (is_given a.id rows)) rules ≡ false → list_all (λ a. not a.required || is_given a.id rows) rules ≡ true
each_given rows [] e = refl
each_given rows (a ∷ rest) e = go a.required (is_given a.id rows) (λ none. each_given rows rest none) e
  where
    go : (r g : Bool) → (list_any (λ a. a.required && not (is_given a.id rows)) rest ≡ false → list_all (λ a. not a.required || is_given a.id rows) rest ≡ true) → ((r && not g) || list_any (λ a. a.required && not (is_given a.id rows)) rest) ≡ false
        → ((not r || g) && list_all (λ a. not a.required || is_given a.id rows) rest) ≡ true
    go true true then e = then e
    go true false then e = absurd (true≢false e)
    go false g then e = then e

required_taken : (m any all : Bool) → (any ≡ false → all ≡ true) → (not m && any) ≡ false → (m || all) ≡ true
required_taken true any all then e = refl
required_taken false any all then e = then e

-- the defaults pass, and no argument has a rule on another
abbrev IsFree : Shape → Type 0
IsFree s = (list_all default_passes s.rules ≡ true) × (list_all (λ a. a.is_free) s.rules ≡ true)

level_taken : (s : Shape) (names : Names) (words : List Text) (has : Bool) (below : Kinds) → IsFree s → level_fault s names nothing_held words has below ≡ []
    → level_passes s names nothing_held words has ≡ true
level_taken s names words has below free e =
    let end = (walk s.rules names nothing_held words).held in
    let rows = finished s.rules end in
    let walked = neither (walk_fault s names (walk_from nothing_held) words) _ e in
    let under = neither below _ walked.1 in
    let settle = neither (settle_fault s.rules s.args_override_self end) _ under.1 in
    let last = neither (defaults_fault (settled s.rules end).rows s.rules) _ settle.1 in
    let explicit = list_any (λ r. explicit_source r.source) rows in
    let wants : Rule → Bool = λ a. a.required && not (is_given a.id rows) in
    let checks = checked (not has && (s.arg_required_else_help && not explicit)) (not has && s.subcommand_required)
    (not (s.subcommand_negates_reqs && has) && list_any wants s.rules) last.1 in
    let valid : is_valid s rows has ≡ true =
    both (not s.arg_required_else_help || (has || explicit)) _ (help_unwanted has s.arg_required_else_help explicit checks.0)
    (both (not s.subcommand_required || has) _ (implied has s.subcommand_required checks.1)
    (both (list_all (λ a. a.is_free) s.rules) _ free.1
    (required_taken (s.subcommand_negates_reqs && has) (list_any wants s.rules) _ (each_given rows s.rules) checks.2))) in
    both (walk_passes s names (walk_from nothing_held) words) _ (walk_taken s names words (walk_from nothing_held) walked.0)
    (both (settle_passes s.rules s.args_override_self end) _ (settle_taken s end settle.0)
    (both (list_all default_passes s.rules) _ free.0 valid))

entered_taken : (a : App) (stop : Option (Text × List Text)) → Each IsFree a.subs → entered_fault a stop ≡ [] → entered_passes a stop ≡ true
entered_taken a None free e = refl
entered_taken a (Some p) free e = go (find (λ s. answers_to p.0 (label_of s)) a.subs) refl e
  where
    go : (o : Option Shape) → find (λ s. answers_to p.0 (label_of s)) a.subs ≡ o → option_map_or (λ s. level_fault s [] nothing_held p.1 false []) o [] ≡ []
        → option_map_or (λ s. level_passes s [] nothing_held p.1 false) o true ≡ true
    go None found e = refl
    go (Some s) found e = level_taken s [] p.1 false [] (found_one IsFree (λ s. answers_to p.0 (label_of s)) a.subs s free found).0 e

each_free : Each IsFree (built grammar.tsn).subs
each_free =
    let is_free : Shape → Bool = λ s. list_all default_passes s.rules && list_all (λ a. a.is_free) s.rules in
    each_as (λ s. is_free s ≡ true) IsFree (built grammar.tsn).subs (λ s. both_of (list_all default_passes s.rules) (list_all (λ a. a.is_free) s.rules))
    (each_of is_free (built grammar.tsn).subs refl)

-- words without a fault are taken
pub taken : (words : List Text) → fault_of grammar.tsn words ≡ [] → takes grammar.tsn words ≡ true
taken words e =
    let a = built grammar.tsn in
    let after = argument_words grammar.tsn words in
    let stop = (walk a.top.rules (names_of a) nothing_held after).stopped in
    let has = is_some (entered a stop) in
    let below = entered_fault a stop in
    let walked = neither (walk_fault a.top (names_of a) (walk_from nothing_held) after) _ e in
    let under = neither below _ walked.1 in
    both (entered_passes a stop) _ (entered_taken a stop each_free under.0) (level_taken a.top (names_of a) after has below (refl, refl) e)
