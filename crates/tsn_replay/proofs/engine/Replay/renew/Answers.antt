use Rattle.std.proofs.Common.{sym, ap, ◌∙◌, subst, arith, inl, inr, ◌+◌}
use Rattle.std.proofs.lemmas.Bool.{cases_eq}
use Rattle.tsn_replay.specs.declared.engine.State.{State}
use Rattle.tsn_replay.specs.Ports.{port_in}
use Rattle.tsn_replay.specs.Progress.{setting_of, IsPortAt}
use Rattle.tsn_replay.proofs.States.{AreRenewedUpto, renewed_under_way, renewed_count, renewed_here, renewed_other, renewed_skip, renewed_more}
use Rattle.tsn_replay.proofs.engine.Replay.renew.Goals as goal
use Rattle.tsn_replay.proofs.engine.Replay.renew.Goals.{then-continues, else-continues}

pub loop-hop-init : goal.loop-hop-init
loop-hop-init c =
    let setting = setting_of c.args.self.now in
    let old = c.args.state.now in
    let new = c.renew_port.new.state in
    let number = c.args.number in
    let one = c.renew_port.ensures in
    let count = c.requires.count in
    record {
      renewed = record {
        under_way = renewed_under_way setting number old new one c.requires.state;
        count = renewed_count setting number old new one ∙ count;
        each = λ other below none. elim (cases_eq number other) [
          | inl same ↦ subst (λ n. IsPortAt setting new n (port_in new.ports n)) same (renewed_here setting number old new one (omega arith))
          | inr differ ↦ renewed_other setting number old new one other differ
              (c.requires.others other below differ (λ hop d hop_below continues on. none hop d (omega arith) hop_below continues on))
        ];
        end = ap (λ (state : State). state.end) one.ports;
        free = ap (λ (state : State). state.free) one.ports;
      };
      last = c.hops-hop-end.ensures.value;
    }

pub loop-hop-preserved : goal.loop-hop-preserved
loop-hop-preserved c =
    let setting = setting_of c.args.self.now in
    let stream = c.args.started.now.stream in
    let from = c.args.started.now.hop in
    let first = c.args.state.now in
    let hop = c.loop-hop.hop in
    let so_far = c.loop-hop.invariant.renewed in
    record {
      renewed = elim c.if-continues.branch [
        | then-continues w ↦ subst (AreRenewedUpto setting stream from (hop + 1) first) (sym w.state-is)
            (renewed_more setting stream from hop first c.loop-hop.state so_far w.list_of-next.result
            w.list_of-next.ensures.list w.list_of-next.ensures.of
            w.renew_port-then-continues.new.state w.renew_port-then-continues.ensures)
        | else-continues w ↦ subst (AreRenewedUpto setting stream from (hop + 1) first) (sym w.state-is)
            (renewed_skip setting stream from hop first c.loop-hop.state so_far (λ continues.
            let yes = c.continues.ensures.1 continues in
            let no = w.if-continues.false in
            absurd cc))
      ];
      last = c.loop-hop.invariant.last;
    }

pub returns-clause-state : goal.returns-clause-state
returns-clause-state c =
    let so_far = c.loop-hop.invariant.renewed in
    record {
      under_way = so_far.under_way;
      ports = record {
        count = so_far.count;
        each = λ other below. so_far.each other below (λ hop d since hop_below continues on.
            let last = c.loop-hop.invariant.last in omega arith);
      };
    }

pub list_of-next-requires-clause-state : goal.list_of-next-requires-clause-state
list_of-next-requires-clause-state c = c.loop-hop.invariant.renewed.under_way

pub renew_port-requires-then-continues-clause-state : goal.renew_port-requires-then-continues-clause-state
renew_port-requires-then-continues-clause-state c = c.loop-hop.invariant.renewed.under_way

pub returns-clause-free : goal.returns-clause-free
returns-clause-free c = c.loop-hop.invariant.renewed.free
