use Rattle.std.proofs.Common.{◌≤◌, ◌≡◌, All, map, take}
use Rattle.tsn_words.specs.Grammar.{number_of}
use Rattle.tsn_words.specs.declared.words.TheConstants.{MAX_OFFSET}
use Rattle.tsn_words.proofs.values.offsets_of.Given as goal

abbrev pub invariant-loop-word : goal.invariant-loop-word
invariant-loop-word l = record {
  small : All (λ offset. offset ≤ MAX_OFFSET) l.offsets.items;
  values : l.offsets.items ≡ map number_of (take l.word-index (map (λ word. word.now) l.words));
}
