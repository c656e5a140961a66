use Rattle.std.proofs.Common.{codes, [], ◌∷◌}
use Rattle.serde_json.specs.Data.{string}
use Rattle.serde_json.specs.View.{view}
use Rattle.tsn_cert.specs.Json.{number_value, array_value}
use Rattle.tsn_codec.proofs.CertLemmas.{made_of, back_of, late_back, load_back}
use Rattle.tsn_codec.proofs.JsonLemmas.{back}
use Rattle.tsn_codec.proofs.cert.print.bound_value.Goals as goal

pub returns-in-Late-clause-value : goal.returns-in-Late-clause-value
returns-in-Late-clause-value c =
    rw c.in-Late.is
    (made_of c.one_part_value.result c.chain_value.result view view (λ d. array_value (string (codes "late") ∷ number_value c.in-Late.stream ∷ d ∷ [])) _
    c.chain_value.ensures.value c.one_part_value.ensures)

pub returns-in-Late-clause-reads_back : goal.returns-in-Late-clause-reads_back
returns-in-Late-clause-reads_back c =
    rw c.in-Late.is (back c.one_part_value.result (late_back c.in-Late.stream c.in-Late.chain c.chain_value.ensures.short))

pub returns-in-Load-clause-value : goal.returns-in-Load-clause-value
returns-in-Load-clause-value c =
    rw c.in-Load.is
    (made_of c.one_part_value-in-Load.result c.entries_value.result view view
    (λ d. array_value (string (codes "load") ∷ number_value c.in-Load.link ∷ d ∷ [])) _ c.entries_value.ensures.value c.one_part_value-in-Load.ensures)

pub returns-in-Load-clause-reads_back : goal.returns-in-Load-clause-reads_back
returns-in-Load-clause-reads_back c =
    rw c.in-Load.is
    (back_of c.one_part_value-in-Load.result c.entries_value.result _ (load_back c.in-Load.link c.in-Load.entries) c.entries_value.ensures.reads_back
    c.one_part_value-in-Load.ensures)
