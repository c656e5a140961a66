use Rattle.std.proofs.Common.{◌≡◌, true, false, ap, sym, ◌∙◌}
use Rattle.tsn_cert.specs.Fault.{named}
use Rattle.tsn_cert.specs.declared.fault.FileFault.TheVariants.{NotJson}
use Rattle.tsn_cert.proofs.JsonLemmas.{value_of-read}
use Rattle.tsn_codec.proofs.JsonLemmas.{value_of-refused}
use Rattle.tsn_codec.proofs.document.value_from.Goals as goal
use Rattle.tsn_codec.proofs.document.value_from.Goals.{then-is_memory, else-is_memory}

pub returns-in-Ok-clause-value : goal.returns-in-Ok-clause-value
returns-in-Ok-clause-value c = ap (named NotJson) (value_of-read _ _ c.in-Ok.ensures.ok.0 c.in-Ok.ensures.ok.1)

pub returns-after-is_memory-clause-value : goal.returns-after-is_memory-clause-value
returns-after-is_memory-clause-value c =
    elim c.if-is_memory.branch [
      | then-is_memory w ↦ rw w.result-is tt
      | else-is_memory w ↦ rw w.result-is
          (ap (named NotJson)
          (value_of-refused _ (c.in-Err.ensures.err (λ m. let bad : false ≡ true = sym w.if-is_memory.false ∙ c.is_memory.ensures.1 m in cc))))
    ]
