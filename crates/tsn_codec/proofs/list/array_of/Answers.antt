use Rattle.serde_json.specs.View.{view}
use Rattle.tsn_codec.proofs.Printed.{each_printed_more, printed_more, printed_all, printed_done}
use Rattle.tsn_codec.proofs.list.array_of.Goals as goal

pub loop-one-preserved : goal.loop-one-preserved
loop-one-preserved g c = record {
  printed = printed_more view g.T.Element.seen g.T.Element.written _ _ _ _ c.loop-one.one-index c.one-item.result c.loop-one-test.true c.one-item.is
      c.in_ok-push.ensures.items c.in_ok-print.ensures.value c.loop-one.invariant.printed;
  read = each_printed_more g.T.Element.seen g.T.Element.form.said g.T.Element.written _ c.loop-one.one-index c.one-item.result c.loop-one-test.true
      c.one-item.is c.in_ok-print.ensures.reads_back c.loop-one.invariant.read;
}

pub returns-clause-value : goal.returns-clause-value
returns-clause-value g c =
    printed_all g.T.Element.seen g.T.Element.written c.loop-one.items _ c.loop-one.one-index c.loop-one-test.false c.loop-one.invariant.printed

pub returns-clause-reads_back : goal.returns-clause-reads_back
returns-clause-reads_back g c =
    printed_done g.T.Element.seen g.T.Element.form.said g.T.Element.written _ c.loop-one.one-index c.loop-one-test.false c.loop-one.invariant.read
