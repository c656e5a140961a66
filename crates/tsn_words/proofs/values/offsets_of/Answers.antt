use Rattle.std.proofs.Common.{◌≡◌, ◌≤◌, ◌∷◌, ◌++◌, [], ◌∙◌, rules, arith}
use Rattle.std.proofs.lemmas.List.Elements.{All-push}
use Rattle.std.proofs.lemmas.Grind.{common_steps}
use Rattle.clap.specs.Words.{IsUnsignedIn}
use Rattle.tsn_words.specs.declared.words.TheConstants.{MAX_OFFSET}
use Rattle.tsn_words.proofs.Fronts.{more_values, one_within}
use Rattle.tsn_words.proofs.values.offsets_of.Goals as goal

pub unsigned_of-offset-requires : goal.unsigned_of-offset-requires
unsigned_of-offset-requires c = one_within (λ word. word.now) (IsUnsignedIn 0 MAX_OFFSET) c.args.words.now c.loop-word.word-index _ c.loop-word-test.true c.requires

pub loop-word-preserved : goal.loop-word-preserved
loop-word-preserved c =
    let pushed : c.push.new.self.items ≡ c.loop-word.offsets.items ++ c.unsigned_of-offset.result ∷ [] = search rules in
    record {
      small = rw pushed (All-push (λ offset. offset ≤ MAX_OFFSET) _ _ c.loop-word.invariant.small c.unsigned_of-offset.ensures.small);
      values = pushed ∙ more_values (λ word. word.now) c.args.words.now c.loop-word.word-index _ _ _ c.loop-word-test.true c.loop-word.invariant.values c.unsigned_of-offset.ensures.value;
    }

pub slice_bounds-unsigned_of-end : goal.slice_bounds-unsigned_of-end
slice_bounds-unsigned_of-end c = grind (arith, common_steps) steps 2000000

pub unsigned_of-offset-requires-text-word : goal.unsigned_of-offset-requires-text-word
unsigned_of-offset-requires-text-word c = grind (arith, common_steps) steps 2000000
