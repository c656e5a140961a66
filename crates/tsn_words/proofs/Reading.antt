-- What the reading of the command that words ask for says of the words.
use Rattle.std.proofs.Common.{◌≡◌, ◌&&◌, ◌∙◌, Bool, List, Result, Ok, Err, IfOk, IfErr, true, false, true≢false, refl, sym}
use Rattle.clap.specs.Words.{Text, subcommand_of, takes}
use Rattle.tsn_words.specs.Grammar.{AsksFor, IsRefused, takes_words, tsn}
use Rattle.tsn_words.specs.Table.{IsReadOf}
use Rattle.tsn_words.specs.declared.words.Words.{Words}
use Rattle.tsn_words.specs.declared.words.WordsFault.{WordsFault}
use Rattle.tsn_words.specs.declared.words.WordsFault.TheVariants.{Asked, Memory, Refused}
use Rattle.tsn_words.proofs.Taken.{both}

-- what words without a fault are read as: the command that they ask for, or a fault, which refuses words whose format is none of the command's
pub record Reads (words : List Text) (result : Result Words WordsFault) : Type 0 where
  pub asked : IfOk result (AsksFor words)
  pub known : IfOk result (λ _. takes_words words ≡ true)
  pub refused : IfErr result (λ fault. IsRefused fault → takes_words words ≡ true → ⊥)
  pub memory : takes_words words ≡ true → IfErr result (λ fault. fault ≡ Memory)

unknown : (a b : Bool) → b ≡ false → (a && b) ≡ true → ⊥
unknown true b e f = true≢false (sym f ∙ e)
unknown false b e f = true≢false (sym f)

pub only_memory : (fault : WordsFault) → (IsRefused fault → ⊥) → fault ≡ Memory
only_memory (Refused text) never = absurd (never tt)
only_memory (Asked text) never = absurd (never tt)
only_memory Memory never = refl

pub reads_of : (words : List Text) (result : Result Words WordsFault) → takes tsn words ≡ true → IsReadOf (subcommand_of tsn words) result → Reads words result
reads_of words (Ok asked) all reads = record { asked = reads.0; known = both (takes tsn words) _ all reads.1; refused = tt; memory = λ _. tt }
reads_of words (Err fault) all reads =
    let refused : IsRefused fault → takes_words words ≡ true → ⊥ = λ is takes_all. unknown (takes tsn words) _ (reads is) takes_all in
    record { asked = tt; known = tt; refused = refused; memory = λ takes_all. only_memory fault (λ is. refused is takes_all) }
