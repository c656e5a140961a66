use Rattle.std.proofs.Common.{◌≡◌, ◌≤◌, ◌∙◌, List, All, Option, Some, None, sym, ap, codes, map, length, rules, arith, refl}
use Rattle.std.specs.Prelude.{MatchOption}
use Rattle.std.proofs.Math.ListN.{length-map}
use Rattle.clap.specs.Words.{IsUnsignedIn, Text, found_of, rows_of}
use Rattle.clap.proofs.WalkLemmas.{raw_values-rows}
use Rattle.tsn_words.specs.declared.words.TheConstants.{MAX_OFFSET}
use Rattle.tsn_words.proofs.Getters.{all_got, are_numbers}
use Rattle.tsn_words.proofs.words.ValidWords.read.Goals as goal

abbrev Has : Option (List Text) → Type 0
Has o = MatchOption o ⊥ (λ words. (1 ≤ length words) × All (IsUnsignedIn 0 MAX_OFFSET) words)

pub unreachable-requires : goal.unreachable-requires
unreachable-requires c = all_got (found_of c.args.words.now) (codes "OFFSET") None Has c.in_default.ensures c.requires.1.1.0.1

pub offsets_of-requires : goal.offsets_of-requires
offsets_of-requires c =
    let has : Has (Some (map (λ word. word.now) c.in-Some.texts.now)) = all_got (found_of c.args.words.now) (codes "OFFSET") _ Has c.in-Some.ensures c.requires.1.1.0.1 in
    has.1

pub invariant_of-result-clause-some : goal.invariant_of-result-clause-some
invariant_of-result-clause-some c =
    let has : Has (Some (map (λ word. word.now) c.in-Some.texts.now)) = all_got (found_of c.args.words.now) (codes "OFFSET") _ Has c.in-Some.ensures c.requires.1.1.0.1 in
    let some : 1 ≤ length (map (λ word. word.now) c.in-Some.texts.now) = has.0 in
    let same : length c.in_ok-offsets_of.field-0.items ≡ length (map (λ word. word.now) c.in-Some.texts.now) = ap length c.in_ok-offsets_of.ensures.values ∙ simp length-map in
    let enough : 1 ≤ length c.in_ok-offsets_of.field-0.items = omega arith in
    search rules

pub returns : goal.returns
returns c =
    let found = found_of c.args.words.now in
    let texts = map (λ word. word.now) c.in-Some.texts.now in
    let has : Has (Some texts) = all_got found (codes "OFFSET") _ Has c.in-Some.ensures c.requires.1.1.0.1 in (
      (
        rows_of found,
        refl,
        (
          c.text_of.ensures,
          (texts, sym (raw_values-rows found (codes "OFFSET")) ∙ sym c.in-Some.ensures, are_numbers 0 MAX_OFFSET texts has.1, c.in_ok-offsets_of.ensures.values),
          c.flag_of.ensures,
        ),
      ),
      refl,
    )
