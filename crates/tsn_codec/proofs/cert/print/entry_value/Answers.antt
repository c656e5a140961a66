use Rattle.tsn_codec.proofs.CertLemmas.{entry_back}
use Rattle.tsn_codec.proofs.JsonLemmas.{back}
use Rattle.tsn_codec.proofs.cert.print.entry_value.Goals as goal

pub returns-then-frame-eq0-clause-reads_back : goal.returns-then-frame-eq0-clause-reads_back
returns-then-frame-eq0-clause-reads_back c = back c.pair_value.result (rw (← c.entry.view_is) (entry_back _ c.chain_value-chain.ensures.short))

pub returns-else-frame-eq0-clause-reads_back : goal.returns-else-frame-eq0-clause-reads_back
returns-else-frame-eq0-clause-reads_back c = back c.array.result (rw (← c.entry.view_is) (entry_back _ c.chain_value-chain.ensures.short))
