use Rattle.std.proofs.Common.{◌≡◌, ◌*◌, ◌≤◌, ◌<◌, ◌^◌, ℕ, All, replicate, length, get_or, refl, sym, ap, ◌∙◌, subst, arith, mul-le-mul}
use Rattle.std.proofs.lemmas.List.{length-replicate}
use Rattle.std.proofs.lemmas.List.Elements.{All-replicate}
use Rattle.tsn_replay.specs.Queue.{free_on}
use Rattle.tsn_replay.specs.Feeding.{no_start, waiting_on, IsFeedOf, IsFirstOn}
use Rattle.tsn_replay.specs.Openings.{AreListNumbers}
use Rattle.tsn_replay.specs.Records.{IsRecord}
use Rattle.tsn_replay.specs.Progress.{setting_of}
use Rattle.tsn_replay.proofs.Steps.{zeros, no_run, no_fed}
use Rattle.tsn_replay.proofs.Settings.{lists_few}
use Rattle.tsn_replay.proofs.engine.Replay.begin.Goals as goal

pub renew_all-requires-clause-state : goal.renew_all-requires-clause-state
renew_all-requires-clause-state c =
    let setting = setting_of c.args.self.now in
    let items : c.in_ok-vec.field-0.items ≡ replicate c.links-links.result 0 = c.in_ok-vec.ensures.items_if_clones_equal (λ y same. same) in
    let zero : (link : ℕ) → free_on c.in_ok-vec.field-0.items link ≡ 0 = λ link. ap (λ xs. get_or xs link 0) items ∙ zeros c.links-links.result link in
    let product : c.args.self.now.cycles * c.cycle.result ≤ 16 * 1000000000 = mul-le-mul c.requires.few c.cycle.ensures.bound in
    let line = waiting_on c.in_ok-of.field-0 in
    let first : (link : ℕ) → link < length setting.network.links → IsFirstOn setting.background link (line link) = λ link below. c.in_ok-of.ensures.first link (let links = c.links-links.ensures.value in omega arith) in
    record {
      end = ap (λ n. c.args.self.now.cycles * n) c.cycle.ensures.value;
      time = omega arith;
      small = omega arith;
      made = no_start;
      records = subst (IsRecord setting.keeps no_start) (sym c.new-2.ensures) (record { scheduled = refl; background = λ kept. refl });
      turn = c.in_ok-frames.ensures.begun.turn;
      run = no_run setting.network
          (record { offsets = setting.offsets; slack = setting.slack; turn = c.in_ok-frames.ensures.begun.turn }) setting.gates setting.cycles c.in_ok-vec.field-0.items zero c.in_ok-frames.ensures.begun.turns;
      fed = no_fed setting.network setting.gates setting.cycles c.in_ok-vec.field-0.items zero setting.background line first;
      tracked = c.in_ok-frames.ensures.begun.tracked;
      line = c.in_ok-frames.ensures.line;
      feed = subst (λ n. IsFeedOf setting.background n c.in_ok-of.field-0) c.links-links.ensures.value c.in_ok-of.ensures.feed;
      numbers = subst (λ n. AreListNumbers setting.gates n c.in_ok-numbers_by_link.field-0.items) c.links-links.ensures.value c.in_ok-numbers_by_link.ensures;
      visits = c.in_ok-visits_of.ensures;
      wires = ap length items ∙ (length-replicate c.links-links.result 0 ∙ c.links-links.ensures.value);
      frees = subst (All (λ time. time ≤ 2 ^ 40)) (sym items) (All-replicate (λ time. time ≤ 2 ^ 40) c.links-links.result 0 (omega arith));
      readies = c.in_ok-frames.ensures.ready;
    }

pub new-requires : goal.new-requires
new-requires c = lists_few c.args.self.now.network.now c.requires.formed c.args.self.now.gates.now c.requires.lists
