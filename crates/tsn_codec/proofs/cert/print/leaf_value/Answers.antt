use Rattle.std.proofs.Common.{codes, [], ◌∷◌}
use Rattle.serde_json.specs.Data.{string}
use Rattle.serde_json.specs.View.{view}
use Rattle.tsn_cert.specs.Json.{number_value, array_value}
use Rattle.tsn_codec.proofs.CertLemmas.{made_of, back_of, overrun_back, cycle_back, overload_back}
use Rattle.tsn_codec.proofs.JsonLemmas.{back}
use Rattle.tsn_codec.proofs.cert.print.leaf_value.Goals as goal

pub returns-in-Overrun-clause-value : goal.returns-in-Overrun-clause-value
returns-in-Overrun-clause-value c =
    rw c.in-Overrun.is
    (made_of c.one_part_value.result c.chain_value.result view view (λ d. array_value (string (codes "overrun") ∷ number_value c.in-Overrun.stream ∷ d ∷ []))
    _ c.chain_value.ensures.value c.one_part_value.ensures)

pub returns-in-Overrun-clause-reads_back : goal.returns-in-Overrun-clause-reads_back
returns-in-Overrun-clause-reads_back c =
    rw c.in-Overrun.is (back c.one_part_value.result (overrun_back c.in-Overrun.stream c.in-Overrun.chain c.chain_value.ensures.short))

pub returns-in-Cycle-clause-reads_back : goal.returns-in-Cycle-clause-reads_back
returns-in-Cycle-clause-reads_back c =
    rw c.in-Cycle.is (back c.pair_value.result (cycle_back c.in-Cycle.chain c.chain_value-in-Cycle.ensures.short))

pub returns-in-Overload-clause-value : goal.returns-in-Overload-clause-value
returns-in-Overload-clause-value c =
    rw c.in-Overload.is
    (made_of c.one_part_value-in-Overload.result c.entries_value.result view view
    (λ d. array_value (string (codes "overload") ∷ number_value c.in-Overload.link ∷ d ∷ [])) _ c.entries_value.ensures.value
    c.one_part_value-in-Overload.ensures)

pub returns-in-Overload-clause-reads_back : goal.returns-in-Overload-clause-reads_back
returns-in-Overload-clause-reads_back c =
    rw c.in-Overload.is
    (back_of c.one_part_value-in-Overload.result c.entries_value.result _ (overload_back c.in-Overload.link c.in-Overload.entries)
    c.entries_value.ensures.reads_back c.one_part_value-in-Overload.ensures)
