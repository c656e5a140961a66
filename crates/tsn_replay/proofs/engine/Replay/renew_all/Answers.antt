use Rattle.std.proofs.Common.{◌≡◌, ◌∙◌, refl, subst, arith, inl, inr}
use Rattle.std.proofs.lemmas.Bool.{cases_lt}
use Rattle.tsn_replay.specs.Ports.{port_in}
use Rattle.tsn_replay.specs.Progress.{setting_of, IsPortAt}
use Rattle.tsn_replay.proofs.States.{renewed_under_way, renewed_count, renewed_here, renewed_other}
use Rattle.tsn_replay.proofs.engine.Replay.renew_all.Goals as goal

pub loop-number-preserved : goal.loop-number-preserved
loop-number-preserved c =
    let setting = setting_of c.args.self.now in
    let old = c.loop-number.state in
    let new = c.renew_port.new.state in
    let number = c.loop-number.number in
    let is = c.renew_port.ensures in
    let count = c.loop-number.invariant.count in
    record {
      under_way = renewed_under_way setting number old new is c.loop-number.invariant.under_way;
      count = renewed_count setting number old new is ∙ count;
      each = λ other upto. elim (cases_lt other number) [
        | inl earlier ↦ renewed_other setting number old new is other (λ same. omega arith) (c.loop-number.invariant.each other earlier)
        | inr here ↦
            let same : number ≡ other = omega arith in
            subst (λ n. IsPortAt setting new n (port_in new.ports n)) same (renewed_here setting number old new is (omega arith))
      ];
      last = refl;
    }

pub renew_port-requires-clause-state : goal.renew_port-requires-clause-state
renew_port-requires-clause-state c = c.loop-number.invariant.under_way
