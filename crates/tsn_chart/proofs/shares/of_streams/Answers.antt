use Rattle.std.proofs.Common.{◌≡◌, ◌<◌, All, length, sym, ap, ◌∙◌, subst}
use Rattle.std.proofs.lemmas.Result.{IfOk-weaker}
use Rattle.tsn_chart.specs.declared.stream.StreamShare.{StreamShare}
use Rattle.tsn_chart.specs.Shares.{stream_shares}
use Rattle.tsn_chart.proofs.Wholes.{shares_named}
use Rattle.tsn_chart.proofs.shares.of_streams.Goals as goal

pub returns-clause-named : goal.returns-clause-named
returns-clause-named c =
    let network = c.args.problem.now.network in
    let offsets = c.args.valid.now in
    IfOk-weaker c.stream_shares.result (λ shares. shares.items ≡ stream_shares c.timing.result.now offsets) _
    (λ shares is. subst (λ xs. All (λ (share : StreamShare). share.stream < length c.args.problem.now.stream_names) xs)
    (sym (is ∙ ap (λ n. stream_shares n offsets) c.timing.ensures))
    (shares_named network offsets _ (sym c.streams-streams.ensures.count ∙ c.streams-streams.ensures.named)))
    c.stream_shares.ensures
