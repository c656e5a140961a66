use Rattle.std.proofs.Common.{codes, [], ◌∷◌}
use Rattle.serde_json.specs.Data.{string}
use Rattle.serde_json.specs.View.{view}
use Rattle.tsn_cert.specs.Json.{number_value, array_value}
use Rattle.tsn_codec.proofs.CertLemmas.{made_of_two, back_of_two, tie_back, tie_load_back}
use Rattle.tsn_codec.proofs.cert.print.tie_value.Goals as goal

pub returns-in-Late-clause-value : goal.returns-in-Late-clause-value
returns-in-Late-clause-value c =
    rw c.in-Late.is
    (made_of_two c.two_part_value.result c.chain_value-chain.result c.chains_value.result view view view
    (λ d e. array_value (string (codes "tie") ∷ number_value c.in-Late.stream ∷ d ∷ e ∷ [])) _ _
    c.chain_value-chain.ensures.value c.chains_value.ensures.value c.two_part_value.ensures)

pub returns-in-Late-clause-reads_back : goal.returns-in-Late-clause-reads_back
returns-in-Late-clause-reads_back c =
    rw c.in-Late.is
    (back_of_two c.two_part_value.result c.chain_value-chain.result c.chains_value.result _ _
    (λ _ _ read. tie_back c.in-Late.stream c.in-Late.chain c.args.chains.now c.chain_value-chain.ensures.short read)
    c.chain_value-chain.ensures.value c.chains_value.ensures.reads_back c.two_part_value.ensures)

pub returns-in-Load-clause-value : goal.returns-in-Load-clause-value
returns-in-Load-clause-value c =
    rw c.in-Load.is
    (made_of_two c.two_part_value-in-Load.result c.entries_value-entries.result c.chains_value-in-Load.result view view view
    (λ d e. array_value (string (codes "tieload") ∷ number_value c.in-Load.link ∷ d ∷ e ∷ [])) _ _
    c.entries_value-entries.ensures.value c.chains_value-in-Load.ensures.value c.two_part_value-in-Load.ensures)

pub returns-in-Load-clause-reads_back : goal.returns-in-Load-clause-reads_back
returns-in-Load-clause-reads_back c =
    rw c.in-Load.is
    (back_of_two c.two_part_value-in-Load.result c.entries_value-entries.result c.chains_value-in-Load.result _ _
    (λ _ entries chains. tie_load_back c.in-Load.link c.in-Load.entries c.args.chains.now entries chains)
    c.entries_value-entries.ensures.reads_back c.chains_value-in-Load.ensures.reads_back c.two_part_value-in-Load.ensures)
