use Rattle.std.proofs.Common.{◌≡◌, true, false, Some, ap, length, option_map, sym, ◌∙◌, arith}
use Rattle.std.proofs.lemmas.Bool.Decides.{nat_tests}
use Rattle.std.proofs.lemmas.List.{length-map}
use Rattle.toml.specs.View.{view}
use Rattle.toml.specs.declared.value.Value.{Value}
use Rattle.tsn_net.specs.Document.{text_of}
use Rattle.tsn_net.specs.DocumentView.{texts_view}
use Rattle.tsn_net.specs.Conditions.{is_long}
use Rattle.tsn_net.proofs.Along.{stops_at, goes_past, ends_at}
use Rattle.tsn_net.proofs.tables.long_route.Goals as goal

pub returns-then-count-gt65 : goal.returns-then-count-gt65
returns-then-count-gt65 c =
    let names = texts_view c.texts_of-count.result.now in
    let same : length names ≡ length c.texts_of-count.result.now = length-map c.texts_of-count.result.now (λ (v : Value). text_of (view v)) in
    let long : is_long names ≡ true = let more = c.if-count-gt65.true in rw same (grind (arith, nat_tests)) in
    sym (ap Some same) ∙ ap (option_map length) (stops_at is_long c.args.routes.now c.loop-route.route-index c.route-item.result names _ c.loop-route-test.true c.route-item.is
    c.texts_of-count.ensures c.loop-route.invariant long)

pub loop-route-preserved : goal.loop-route-preserved
loop-route-preserved c =
    let names = texts_view c.texts_of-count.result.now in
    let same : length names ≡ length c.texts_of-count.result.now = length-map c.texts_of-count.result.now (λ (v : Value). text_of (view v)) in
    let short : is_long names ≡ false = let less = c.if-count-gt65.false in rw same (grind (arith, nat_tests)) in
    goes_past is_long c.args.routes.now c.loop-route.route-index c.route-item.result names _ c.loop-route-test.true c.route-item.is
    c.texts_of-count.ensures c.loop-route.invariant short

pub returns : goal.returns
returns c = ap (option_map length) (ends_at is_long c.args.routes.now c.loop-route.route-index _ c.loop-route-test.false c.loop-route.invariant)
