use Rattle.std.proofs.Common.{sym, ◌∙◌}
use Rattle.tsn_model.proofs.Rest.{rest_from, all_here, all_later, all_past}
use Rattle.tsn_cert.specs.Json.{all_within}
use Rattle.tsn_cert.specs.Cert.{max_number}
use Rattle.tsn_codec.proofs.cert.limits.chains_fit.Goals as goal

pub returns-then-not-chain_fits : goal.returns-then-not-chain_fits
returns-then-not-chain_fits c =
    all_here (all_within max_number) _ _ _
    (rest_from c.args.chains.now c.loop-chain.chain-index c.chain-item.result c.loop-chain-test.true c.chain-item.is) _
    (sym c.chain_fits.ensures ∙ c.if-not-chain_fits.true) c.loop-chain.invariant

pub loop-chain-preserved : goal.loop-chain-preserved
loop-chain-preserved c =
    all_later (all_within max_number) _ _ _
    (rest_from c.args.chains.now c.loop-chain.chain-index c.chain-item.result c.loop-chain-test.true c.chain-item.is) _
    (sym c.chain_fits.ensures ∙ c.if-not-chain_fits.false) c.loop-chain.invariant

pub returns : goal.returns
returns c = all_past (all_within max_number) c.args.chains.now c.loop-chain.chain-index c.loop-chain-test.false _ c.loop-chain.invariant
