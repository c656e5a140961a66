use Rattle.std.proofs.Common.{◌≡◌, map, ap, ◌∙◌}
use Rattle.std.proofs.lemmas.Result.{IfOk-weaker}
use Rattle.tsn_chart.specs.Listeners.{listener_share, listener_shares}
use Rattle.tsn_chart.proofs.listener.listeners_of.Goals as goal

pub returns-clause-value : goal.returns-clause-value
unfolding listener_shares
returns-clause-value c =
    let share = listener_share c.args.timing.now c.args.share.now in
    IfOk-weaker c.shares_at-shares.result (λ shares. shares.items ≡ map share c.deref.result.now) _
    (λ shares is. is ∙ ap (map share) (c.deref.ensures.value ∙ c.in_ok-ends.ensures.value)) c.shares_at-shares.ensures.value
