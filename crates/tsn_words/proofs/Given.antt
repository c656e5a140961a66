-- What a parse without a fault leaves of an argument: where it is given it has values, and its parser takes each.
use Rattle.std.proofs.Common.{◌≡◌, ◌≤◌, ◌+◌, ◌&&◌, not, is_some, subst, ℕ, Bool, cond, codes, zero, suc, refl, sym, ap, arith, List, [], ◌∷◌, ◌++◌, length, drop, min, true, false, Option, Some, None, true≢false, nat_lt, lt-ltb, length-append}
use Rattle.std.specs.Prelude.{encode_utf8, slice_get}
use Rattle.std.specs.Option.{option_map_or}
use Rattle.std.specs.List.{find, fold, list_all, list_any}
use Rattle.std.specs.Str.{bytes_eq, chars}
use Rattle.std.proofs.lemmas.Slice.Eq.{bytes_eq-Decides}
use Rattle.clap.specs.Values.{refused_kind}
use Rattle.clap.specs.ValueTests.{accepts}
use Rattle.clap.specs.Facts.{parser_of_value, unwrap_or_range}
use Rattle.clap.specs.Kinds.{Kinds, check_kinds, or_else, range_kinds, value_kinds}
use Rattle.clap.specs.Faults.{bundle_step_fault, check_fault, defaults_fault, flag_word_fault, flags_fault, level_fault, long_fault, option_fault, other_fault, positional_fault, react_fault, settle_fault, short_fault, step_fault, stray_fault, turn_fault, use_fault, values_fault, walk_fault, word_fault}
use Rattle.clap.specs.Walk.{Held, Names, Outcome, Row, Rule, Step, Text, Waiting, Walk, action_of, after_flag, after_step, arg_by_id, arg_by_index, arg_by_long, arg_by_short, at_row, attached_value, bundle, bundle_met, bundle_step, count_of, default_rows, done, flag_met, has_row, idle, is_pending, long_met, more_values, most_values, new_count, next, option, option_met, option_word, plain, plain_word, positional, pushed, reacted, reading_by, refused, settled, settled_rows, short_met, short_or_plain, subcommand, subcommand_met, subcommand_or_other, takes_several, takes_values, to_positional, trailing, used, used_as, used_by_id, value, values_or_missing, waits, walked, walked_from, with_count, with_default, with_values, without, word_met, long_or_other}
use Rattle.clap.specs.Lexer.{long_of, short_of}
use Rattle.clap.specs.Simple.{Shape}
use Rattle.clap.specs.Takes.{value_passes}
use Rattle.clap.specs.declared.builder.action.ArgAction.{ArgAction}
use Rattle.clap.specs.declared.builder.action.ArgAction.TheVariants as action
use Rattle.clap.specs.declared.builder.value_parser.ValueParser.{ValueParser}
use Rattle.clap.specs.declared.builder.value_parser.Reading.{Reading}
use Rattle.clap.specs.declared.parser.matches.ValueSource.{ValueSource}
use Rattle.clap.specs.declared.parser.matches.ValueSource.TheVariants.{DefaultValue, CommandLine}
use Rattle.clap.specs.declared.error.kind.ErrorKind.TheVariants as error_kind
use Rattle.tsn_words.specs.Grammar.{Each, takes_word}

pub each_append : {X : Type 0} (P : X → Type 0) (xs ys : List X) → Each P xs → Each P ys → Each P (xs ++ ys)
each_append P [] ys before behind = behind
each_append P (x ∷ xs) ys before behind = (before.0, each_append P xs ys before.1 behind)

pub each_as : {X : Type 0} (P Q : X → Type 0) (xs : List X) → ((x : X) → P x → Q x) → Each P xs → Each Q xs
each_as P Q [] step h = tt
each_as P Q (x ∷ xs) step h = (step x h.0, each_as P Q xs step h.1)

pub both_of : (a b : Bool) → (a && b) ≡ true → (a ≡ true) × (b ≡ true)
both_of true b e = (refl, e)
both_of false b e = absurd (true≢false (sym e))

pub each_of : {X : Type 0} (p : X → Bool) (xs : List X) → list_all p xs ≡ true → Each (λ x. p x ≡ true) xs
each_of p [] e = tt
each_of p (x ∷ xs) e = let parts = both_of (p x) _ e in (parts.0, each_of p xs parts.1)

some≢none : {X : Type 0} (x : X) → Some x ≡ None → ⊥
some≢none x e = true≢false (ap is_some e)

-- what a search finds is one of the list, and passes
pub found_one : {X : Type 0} (P : X → Type 0) (p : X → Bool) (xs : List X) (x : X) → Each P xs → find p xs ≡ Some x → P x × (p x ≡ true)
found_one P p [] x h found = absurd (some≢none x (sym found))
found_one P p (y ∷ ys) x h found = go (p y) refl found (λ rest. found_one P p ys x h.1 rest)
  where
    go : (b : Bool) → p y ≡ b → cond b (Some y) (find p ys) ≡ Some x → (find p ys ≡ Some x → P x × (p x ≡ true)) → P x × (p x ≡ true)
    go true passes is rest =
        let same : y ≡ x = ap (λ o. Rattle.std.specs.Option.unwrap_or o y) is in
        (subst P same h.0, subst (λ z. p z ≡ true) same passes)
    go false passes is rest = rest is

pub neither : (a b : Kinds) → or_else a b ≡ [] → (a ≡ []) × (b ≡ [])
neither [] b e = (refl, e)
neither (k ∷ ks) b e = cc

pub checked : (a b d : Bool) → check_kinds a b d ≡ [] → (a ≡ false) × (b ≡ false) × (d ≡ false)
checked true b d e = cc
checked false true d e = cc
checked false false true e = cc
checked false false false e = (refl, refl, refl)

pub accepted : (i : Bool) (p : ValueParser) (v : Text) → value_kinds i p v ≡ [] → accepts i p v ≡ true
accepted i p v e = go (accepts i p v) refl e
  where
    go : (b : Bool) → accepts i p v ≡ b → cond b [] (refused_kind p ∷ []) ≡ [] → accepts i p v ≡ true
    go true t none = t
    go false t none = cc

each_accepted : (a : Rule) (vs : List Text) → values_fault a vs ≡ [] → Each (λ v. value_passes a v ≡ true) vs
each_accepted a [] e = tt
each_accepted a (v ∷ vs) e =
    let parts = neither _ _ e in
    (accepted a.ignore_case (parser_of_value a.parser) v parts.0, each_accepted a vs parts.1)

some_values : (least most n : ℕ) → range_kinds least most n ≡ [] → 1 ≤ least → 1 ≤ n
some_values least most zero e some =
    let some_wanted : nat_lt 0 least ≡ true = lt-ltb 0 least (omega arith) in
    let fault : range_kinds least most 0 ≡ error_kind.InvalidValue ∷ [] = rw some_wanted refl in
    cc
some_values least most (suc n) e some = omega arith

kept_values : (a : Rule) (values : List Text) → 1 ≤ length values → values_or_missing a values ≡ values
kept_values a [] some = absurd (omega arith)
kept_values a (v ∷ vs) some = refl

same_id : (a b c : Text) → bytes_eq a b ≡ true → bytes_eq a c ≡ true → bytes_eq b c ≡ true
same_id a b c ab ac = subst (λ t. bytes_eq t c ≡ true) ((bytes_eq-Decides a b).0 ab) ac

-- rows of one name change, or one comes at the end
at_row_each : (P : Row → Type 0) (name : Text) (change : Row → List Row) (missing rows : List Row)
    → ((r : Row) → bytes_eq r.id name ≡ true → P r → Each P (change r)) → Each P missing → Each P rows → Each P (at_row name change missing rows)
at_row_each P name change missing [] changed new h = new
at_row_each P name change missing (r ∷ rs) changed new h = go (bytes_eq r.id name) refl (at_row_each P name change missing rs changed new h.1)
  where
    go : (b : Bool) → bytes_eq r.id name ≡ b → Each P (at_row name change missing rs) → Each P (cond b (change r ++ rs) (r ∷ at_row name change missing rs))
    go true same rest = each_append P (change r) rs (changed r same h.0) h.1
    go false same rest = (h.0, rest)

-- the values of an argument, of which there are some
pub record Good (Q : Text → Type 0) (values : List Text) : Type 0 where
  pub some : 1 ≤ length values
  pub each : Each Q values

-- the argument takes a value in each use, has no default, and its parser takes texts of Q alone
pub record Fit (Q : Text → Type 0) (a : Rule) : Type 0 where
  pub some : 1 ≤ (unwrap_or_range a.range).start_inclusive
  pub each : (t : Text) → value_passes a t ≡ true → Q t
  pub kind : takes_word (action_of a) ≡ true
  pub no_default : a.defaults ≡ []

record New (Q : Text → Type 0) (x : ArgAction) (values : List Text) : Type 0 where
  good : Good Q values
  kind : takes_word x ≡ true

abbrev pub FitsFor : Text → (Text → Type 0) → Rule → Type 0
FitsFor id Q a = bytes_eq a.id id ≡ true → Fit Q a

abbrev pub GoodFor : Text → (Text → Type 0) → Row → Type 0
GoodFor id Q r = bytes_eq r.id id ≡ true → Good Q r.values

more_good : (Q : Text → Type 0) (xs ys : List Text) → Good Q xs → Good Q ys → Good Q (xs ++ ys)
more_good Q xs ys before behind = record {
  some = let a = before.some in rw length-append (omega arith);
  each = each_append Q xs ys before.each behind.each;
}

module _ (id : Text) (Q : Text → Type 0) where
  abbrev pub Rows : List Row → Type 0
  Rows = Each (GoodFor id Q)

  abbrev pub Kept : Held → Type 0
  Kept h = Rows h.rows

  without_good : (name : Text) (rows : List Row) → Rows rows → Rows (without name rows)
  without_good name rows h = at_row_each (GoodFor id Q) name (λ _. []) [] rows (λ r same good. tt) tt h

  with_values_good : (name : Text) (how : Reading) (s : ValueSource) (values : List Text) (rows : List Row) → (bytes_eq name id ≡ true → Good Q values)
      → Rows rows → Rows (with_values name how s values rows)
  with_values_good name how s values rows new h = at_row_each (GoodFor id Q) name (more_values s values) _ rows
      (λ r named good. (λ same. more_good Q r.values values (good same) (new (same_id r.id name id named same)), tt))
      (new, tt) h

  with_count_good : (name : Text) (how : Reading) (s : ValueSource) (n : ℕ) (rows : List Row) → (bytes_eq name id ≡ true → ⊥)
      → Rows rows → Rows (with_count name how s n rows)
  with_count_good name how s n rows other h = at_row_each (GoodFor id Q) name (new_count s n) _ rows
      (λ r named good. (λ same. absurd (other (same_id r.id name id named same)), tt))
      (λ same. absurd (other same), tt) h

  counts_not : (values : List Text) → New Q action.Count values → ⊥
  counts_not values new = true≢false (sym new.kind)

  used_as_good : (x : ArgAction) (name : Text) (how : Reading) (values : List Text) (rows : List Row) → (bytes_eq name id ≡ true → New Q x values)
      → Rows rows → Rows (used_as x name how values rows)
  used_as_good action.Set name how values rows new h = with_values_good name how CommandLine values _ (λ same. (new same).good) (without_good name rows h)
  used_as_good action.SetTrue name how values rows new h = with_values_good name how CommandLine values _ (λ same. (new same).good) (without_good name rows h)
  used_as_good action.SetFalse name how values rows new h = with_values_good name how CommandLine values _ (λ same. (new same).good) (without_good name rows h)
  used_as_good action.Append name how values rows new h = with_values_good name how CommandLine values rows (λ same. (new same).good) h
  used_as_good action.Count name how [] rows new h = with_count_good name how CommandLine (min (count_of name rows + 1) 255) (without name rows) (λ same. counts_not [] (new same)) (without_good name rows h)
  used_as_good action.Count name how (v ∷ vs) rows new h = with_values_good name how CommandLine (v ∷ vs) _ (λ same. (new same).good) (without_good name rows h)
  used_as_good _ name how values rows new h = h

  use_accepted : (x : ArgAction) (again : Bool) (a : Rule) (values : List Text) (rows : List Row) → takes_word x ≡ true
      → Rattle.clap.specs.Faults.action_fault x again a values rows ≡ [] → values_fault a values ≡ []
  use_accepted action.Set again a values rows set e = (neither _ _ e).1
  use_accepted action.Append again a values rows set e = e
  use_accepted action.SetTrue again a values rows set e = (neither _ _ e).1
  use_accepted action.SetFalse again a values rows set e = (neither _ _ e).1
  use_accepted _ again a values rows set e = absurd (true≢false (sym set))

  use_new : (again : Bool) (a : Rule) (values : List Text) (rows : List Row) → Fit Q a → use_fault again a values rows ≡ [] → New Q (action_of a) (values_or_missing a values)
  use_new again a values rows fit e =
      let parts = neither (range_kinds (unwrap_or_range a.range).start_inclusive (most_values a) (length values)) _ e in
      let some = some_values _ _ _ parts.0 fit.some in
      let same = kept_values a values some in
      let taken = use_accepted (action_of a) again a (values_or_missing a values) rows fit.kind parts.1 in
      record {
        good = record {
          some = subst (λ vs. 1 ≤ length vs) (sym same) some;
          each = each_as _ Q _ fit.each (each_accepted a (values_or_missing a values) taken);
        };
        kind = fit.kind;
      }

  used_good : (again : Bool) (a : Rule) (values : List Text) (rows : List Row) → FitsFor id Q a → use_fault again a values rows ≡ [] → Rows rows → Rows (used a values rows)
  used_good again a values rows fits e h = used_as_good (action_of a) a.id (reading_by a) (values_or_missing a values) rows (λ same. use_new again a values rows (fits same) e) h

  -- ---- after the walk

  default_rows_good : (name : Text) (how : Reading) (values : List Text) (rows : List Row) → (bytes_eq name id ≡ true → values ≡ []) → Rows rows → Rows (default_rows name how values rows)
  default_rows_good name how [] rows none h = h
  default_rows_good name how (v ∷ vs) rows none h = with_values_good name how DefaultValue (v ∷ vs) rows (λ same. let bad = none same in cc) h

  default_good : (rows : List Row) (a : Rule) → FitsFor id Q a → Rows rows → Rows (with_default rows a)
  default_good rows a fits h = go (has_row a.id rows)
    where
      go : (b : Bool) → Rows (cond b rows (default_rows a.id (reading_by a) a.defaults rows))
      go true = h
      go false = default_rows_good a.id (reading_by a) a.defaults rows (λ same. (fits same).no_default) h

  pub defaults_good : (rows : List Row) (xs : List Rule) → Each (FitsFor id Q) xs → Rows rows → Rows (fold with_default rows xs)
  defaults_good rows [] fits h = h
  defaults_good rows (x ∷ xs) fits h = defaults_good (with_default rows x) xs fits.1 (default_good rows x fits.0 h)

  -- ---- the walk

  module _ (s : Shape) (fits : Each (FitsFor id Q) s.rules) where
    abbrev pub c : List Rule
    c = s.rules

    abbrev pub again : Bool
    again = s.args_override_self

    abbrev pub FitsIf : Option Rule → Type 0
    FitsIf o = (a : Rule) → o ≡ Some a → FitsFor id Q a

    finds : (p : Rule → Bool) → FitsIf (find p c)
    finds p a found = (found_one (FitsFor id Q) p c a fits found).0

    by_id_good : (o : Option Rule) (values : List Text) (rows : List Row) → FitsIf o → option_map_or (λ a. use_fault again a values rows) o [] ≡ []
        → Rows rows → Rows (used_by_id o values rows)
    by_id_good None values rows may e h = h
    by_id_good (Some a) values rows may e h = used_good again a values rows (may a refl) e h

    settled_rows_good : (p : Option (Text × List Text)) (rows : List Row)
        → option_map_or (λ p. option_map_or (λ a. use_fault again a p.1 rows) (arg_by_id c p.0) []) p [] ≡ [] → Rows rows → Rows (settled_rows c p rows)
    settled_rows_good None rows e h = h
    settled_rows_good (Some p) rows e h = by_id_good (arg_by_id c p.0) p.1 rows (finds _) e h

    pub settled_good : (h : Held) → settle_fault c again h ≡ [] → Kept h → Kept (settled c h)
    settled_good h e good = settled_rows_good h.pending h.rows e good

    reacted_good : (a : Rule) (values : List Text) (h : Held) → FitsFor id Q a → react_fault c again a values h ≡ [] → Kept h → Kept (reacted c a values h)
    reacted_good a values h may e good =
        let parts = neither (settle_fault c again h) _ e in
        used_good again a values (settled c h).rows may parts.1 (settled_good h parts.0 good)

    option_good : (a : Rule) (v : Option Text) (h : Held) → FitsFor id Q a → option_fault c again a v h ≡ [] → Kept h → Kept (option_met c a v h).0
    option_good a (Some v) h may e good = reacted_good a (v ∷ []) h may e good
    option_good a None h may e good = settled_good h e good

    flag_good : (a : Rule) (v : Option Text) (h : Held) → FitsFor id Q a → cond (is_some v) (error_kind.TooManyValues ∷ []) (react_fault c again a [] h) ≡ [] → Kept h → Kept (flag_met c a v h).0
    flag_good a (Some v) h may e good = good
    flag_good a None h may e good = reacted_good a [] h may e good

    long_good : (o : Option Rule) (v : Option Text) (h : Held) → FitsIf o → long_fault c again o v h ≡ [] → Kept h → Kept (long_met c o v h).0
    long_good None v h may e good = good
    long_good (Some a) v h may e good = go (takes_values a) e
      where
        go : (b : Bool) → cond b (option_fault c again a v h) (cond (is_some v) (error_kind.TooManyValues ∷ []) (react_fault c again a [] h)) ≡ []
            → Kept (cond b (option_met c a v h) (flag_met c a v h)).0
        go true e = option_good a v h (may a refl) e good
        go false e = flag_good a v h (may a refl) e good

    short_good : (o : Option Rule) (rest : Text) (h : Held) (next_fault : Held → Kinds) (next_met : Held → Held × Outcome) → FitsIf o
        → ((x : Held) → next_fault x ≡ [] → Kept x → Kept (next_met x).0) → short_fault c again o rest h next_fault ≡ [] → Kept h → Kept (short_met c o rest h next_met).0
    short_good None rest h next_fault next_met may then e good = good
    short_good (Some a) rest h next_fault next_met may then e good = go (takes_values a) e
      where
        go : (b : Bool) → cond b (option_fault c again a (attached_value rest) h) (or_else (react_fault c again a [] h) (next_fault (reacted c a [] h))) ≡ []
            → Kept (cond b (option_met c a (attached_value rest) h) (next_met (reacted c a [] h))).0
        go true e = option_good a (attached_value rest) h (may a refl) e good
        go false e =
            let parts = neither (react_fault c again a [] h) _ e in
            then (reacted c a [] h) parts.1 (reacted_good a [] h (may a refl) parts.0 good)

    bundle_step_good : (x : Option ℕ) (flags : Text) (skip : ℕ) (so_far : Outcome) (h : Held) (next_fault : Text → ℕ → Held → Kinds) (next_met : Text → ℕ → Outcome → Held → Held × Outcome)
        → ((rest : Text) (n : ℕ) (o : Outcome) (y : Held) → next_fault rest n y ≡ [] → Kept y → Kept (next_met rest n o y).0)
        → bundle_step_fault c again x flags skip h next_fault ≡ [] → Kept h → Kept (bundle_step c x flags skip so_far h next_met).0
    bundle_step_good None flags skip so_far h next_fault next_met then e good = good
    bundle_step_good (Some x) flags zero so_far h next_fault next_met then e good =
        let rest = drop (length (encode_utf8 x)) flags in
        short_good (arg_by_short c x) rest h (next_fault rest 0) (next_met rest 0 done) (finds _) (λ y none kept. then rest 0 done y none kept) e good
    bundle_step_good (Some x) flags (suc skip) so_far h next_fault next_met then e good = then (drop (length (encode_utf8 x)) flags) skip so_far h e good

    flags_good : (k : ℕ) (flags : Text) (skip : ℕ) (so_far : Outcome) (h : Held) → flags_fault c again k flags skip h ≡ [] → Kept h → Kept (bundle_met c k flags skip so_far h).0
    unfolding flags_fault bundle_met
    flags_good zero flags skip so_far h e good = good
    flags_good (suc k) flags skip so_far h e good =
        bundle_step_good (slice_get (chars flags) 0) flags skip so_far h (flags_fault c again k) (bundle_met c k) (λ rest n o y none kept. flags_good k rest n o y none kept) e good

    -- a step that enters `help` has a fault, where there is such a command
    abbrev pub NoHelp : Text → Type 0
    NoHelp name = s.disable_help_subcommand ≡ false → bytes_eq name (codes "help") ≡ false

    abbrev pub StepGood : Step → Type 0
    StepGood (subcommand name) = NoHelp name
    StepGood _ = Unit {0}

    abbrev pub Met : Held × Step → Type 0
    Met p = Kept p.0 × StepGood p.1

    option_word_good : (o : Option Rule) (name word : Text) (h : Held) → Kept h → Kept (option_word o name word h).0
    option_word_good None name word h good = good
    option_word_good (Some a) name word h good = good

    plain_good : (waiting : Waiting) (word : Text) (h : Held) → Kept h → Met (plain_word c waiting word h)
    plain_good idle word h good = (good, tt)
    plain_good (option name) word h good = (option_word_good (arg_by_id c name) name word h good, tt)
    plain_good positional word h good = (good, tt)

    after_flag_good : (waiting : Waiting) (word : Text) (h : Held) (o : Outcome) → Kept h → Met (after_flag c waiting word h o)
    after_flag_good waiting word h done good = (good, tt)
    after_flag_good waiting word h (waits name) good = (good, tt)
    after_flag_good waiting word h plain good = plain_good waiting word h good
    after_flag_good waiting word h refused good = plain_good waiting word h good

    short_or_plain_good : (waiting : Waiting) (word : Text) (flags : Option Text) (h : Held)
        → option_map_or (λ flags. Rattle.clap.specs.Faults.bundle_fault c again flags h) flags [] ≡ [] → Kept h → Met (short_or_plain c waiting word flags h)
    short_or_plain_good waiting word (Some flags) h e good =
        after_flag_good waiting word (bundle c flags h).0 (bundle c flags h).1 (flags_good (length flags) flags h.skip plain (record h { skip = 0 }) e good)
    short_or_plain_good waiting word None h e good = plain_good waiting word h good

    long_or_other_good : (waiting : Waiting) (word : Text) (o : Option (Text × Option Text)) (h : Held) → flag_word_fault c again o word h ≡ [] → Kept h
        → Met (long_or_other c waiting word o h)
    long_or_other_good waiting word (Some p) h e good =
        after_flag_good waiting word (long_met c (arg_by_long c p.0) p.1 h).0 (long_met c (arg_by_long c p.0) p.1 h).1 (long_good (arg_by_long c p.0) p.1 h (finds _) e good)
    long_or_other_good waiting word None h e good = short_or_plain_good waiting word (short_of word) h e good

    no_help : (name : Text) → cond (bytes_eq name (codes "help") && not s.disable_help_subcommand) (error_kind.DisplayHelp ∷ error_kind.InvalidSubcommand ∷ []) [] ≡ [] → NoHelp name
    no_help name e enabled = go (bytes_eq name (codes "help")) (rw enabled at e)
      where
        go : (b : Bool) → cond (b && true) (error_kind.DisplayHelp ∷ error_kind.InvalidSubcommand ∷ []) [] ≡ [] → b ≡ false
        go true e = cc
        go false e = refl

    other_good : (o : Option Text) (waiting : Waiting) (position : ℕ) (word : Text) (h : Held) → other_fault s o word h ≡ [] → Kept h
        → Met (subcommand_or_other c o waiting position word h)
    other_good (Some name) waiting position word h e good = (good, no_help name e)
    other_good None waiting position word h e good = go (bytes_eq word (45 ∷ 45 ∷ [])) e
      where
        go : (b : Bool) → cond b [] (flag_word_fault c again (long_of word) word h) ≡ []
            → Met (cond b (h, trailing position) (long_or_other c waiting word (long_of word) h))
        go true e = (good, tt)
        go false e = long_or_other_good waiting word (long_of word) h e good

    word_good : (names : Names) (is_trailing : Bool) (waiting : Waiting) (position : ℕ) (word : Text) (h : Held) → word_fault s names is_trailing waiting word h ≡ [] → Kept h
        → Met (word_met c names is_trailing waiting position word h)
    word_good names true waiting position word h e good = (good, tt)
    word_good names false waiting position word h e good = other_good (subcommand_met names waiting word) waiting position word h e good

    abbrev pub StopGood : Option (Text × List Text) → Type 0
    StopGood None = Unit {0}
    StopGood (Some p) = NoHelp p.0

    abbrev pub WalkGood : Walk → Type 0
    WalkGood w = Kept w.held × StopGood w.stopped

    positional_good : (o : Option Rule) (word : Text) (w : Walk) (h : Held) → option_map_or (λ a. positional_fault c again a h) o (stray_fault s) ≡ [] → Kept h → StopGood w.stopped
        → WalkGood (to_positional c o word w h)
    positional_good None word w h e good stop = (good, stop)
    positional_good (Some a) word w h e good stop = (go (is_pending a h.pending && takes_several a) e, tt)
      where
        go : (b : Bool) → cond b [] (settle_fault c again h) ≡ [] → Kept (pushed a.id word (cond b h (settled c h)))
        go true e = good
        go false e = settled_good h e good

    step_good : (word : Text) (w : Walk) (h : Held) (step : Step) → step_fault s w.position h step ≡ [] → Met (h, step) → StopGood w.stopped → WalkGood (after_step c word w h step)
    step_good word w h (next waiting) e met stop = (met.0, stop)
    step_good word w h (trailing position) e met stop = (met.0, stop)
    step_good word w h (subcommand name) e met stop = (met.0, met.1)
    step_good word w h value e met stop = positional_good (arg_by_index c w.position) word w h e met.0 stop

    turn_good : (names : Names) (w : Walk) (word : Text) (o : Option (Text × List Text)) → w.stopped ≡ o
        → cond (is_some o) [] (or_else (word_fault s names w.is_trailing w.waiting word w.held)
        (step_fault s w.position (word_met c names w.is_trailing w.waiting w.position word w.held).0 (word_met c names w.is_trailing w.waiting w.position word w.held).1)) ≡ []
        → WalkGood w → WalkGood (walked_from c names o w word)
    turn_good names w word (Some p) is e good = (good.0, subst StopGood is good.1)
    turn_good names w word None is e good =
        let parts = neither (word_fault s names w.is_trailing w.waiting word w.held) _ e in
        let met = word_good names w.is_trailing w.waiting w.position word w.held parts.0 good.0 in
        step_good word w _ _ parts.1 met good.1

    pub walk_good : (names : Names) (words : List Text) (w : Walk) → walk_fault s names w words ≡ [] → WalkGood w → WalkGood (fold (walked c names) w words)
    unfolding walk_fault walked
    walk_good names [] w e good = good
    walk_good names (word ∷ rest) w e good =
        let parts = neither (turn_fault s names w word) _ e in
        walk_good names rest (walked c names w word) parts.1 (turn_good names w word w.stopped refl parts.0 good)
