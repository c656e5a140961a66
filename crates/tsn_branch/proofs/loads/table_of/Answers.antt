use Rattle.std.proofs.Common.{◌≡◌, ◌+◌, sym, subst, arith}
use Rattle.tsn_branch.specs.Loads.{link_in, link_with, users_upto}
use Rattle.tsn_branch.proofs.Loading.{link_whole, link_of}
use Rattle.tsn_branch.proofs.loads.table_of.Goals as goal

pub loop-stream-init : goal.loop-stream-init
loop-stream-init c = record {
  same = c.none-table.ensures.link;
  upto = c.none-table.ensures.none c.args.timing.now;
  short = omega arith;
  end = c.streams-stream-end.ensures.value;
}

pub take-requires-clause-upto : goal.take-requires-clause-upto
take-requires-clause-upto c =
    let network = c.args.timing.now in
    subst (λ l. link_in c.loop-stream.table ≡ link_with network l (users_upto network l c.loop-stream.stream)) (sym c.loop-stream.invariant.same) c.loop-stream.invariant.upto

pub loop-stream-preserved : goal.loop-stream-preserved
loop-stream-preserved c =
    let network = c.args.timing.now in
    let more = rw c.loop-stream.invariant.same at c.in_ok-take.ensures.upto in
    record {
      same = link_of network c.args.link (link_in c.take.new.self) (users_upto network c.args.link (c.loop-stream.stream + 1)) more;
      upto = more;
      short = c.in_ok-take.ensures.short;
      end = c.loop-stream.invariant.end;
    }

pub returns : goal.returns
returns c =
    let past = c.loop-stream-test.false in
    let end = c.loop-stream.invariant.end in
    let done = c.loop-stream.auto.stream-end in
    link_whole c.args.timing.now c.args.link (link_in c.loop-stream.table) c.loop-stream.stream (omega arith) c.loop-stream.invariant.upto
