use Rattle.std.proofs.Common.{◌++◌, string_bytes, refl, ap, ◌∙◌}
use Rattle.std.specs.List.{flat_map}
use Rattle.std.proofs.lemmas.List.{take_all}
use Rattle.tsn_model.proofs.More.{written_behind}
use Rattle.tsn_chart.specs.Csv.{listener_record}
use Rattle.tsn_chart.proofs.csv.write_each.Goals as goal

pub loop-listener-preserved : goal.loop-listener-preserved
loop-listener-preserved c =
    written_behind (listener_record c.args.problem.now c.args.stream) _ c.args.listeners.now c.loop-listener.listener-index _ _ _ _ c.loop-listener-test.true
    c.loop-listener.invariant c.in_ok-write_listener.ensures refl

pub returns : goal.returns
returns c =
    c.loop-listener.invariant
    ∙ ap (λ shares. string_bytes c.args.text.now ++ flat_map (listener_record c.args.problem.now c.args.stream) shares)
    (take_all c.loop-listener.listener-index c.args.listeners.now c.loop-listener-test.false)
