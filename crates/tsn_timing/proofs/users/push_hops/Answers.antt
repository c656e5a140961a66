use Rattle.std.proofs.Common.{◌≡◌, ◌+◌, ◌<◌, length, ap, sym, subst, ◌∙◌, arith}
use Rattle.std.proofs.lemmas.List.{length-map}
use Rattle.tsn_timing.specs.declared.users.Users.{Users}
use Rattle.tsn_timing.specs.Users.{users_in, with_user}
use Rattle.tsn_timing.proofs.Using.{AreHopsDone, no_hop_done, one_hop_done, hops_done}
use Rattle.tsn_timing.proofs.users.push_hops.Goals as goal

pub loop-hop-init : goal.loop-hop-init
loop-hop-init c = record {
  done = no_hop_done c.args.network.now c.requires.formed c.args.stream c.requires.stream _ c.requires.before;
  end = c.hops-hop-end.ensures.value;
}

pub push_user-requires : goal.push_user-requires
push_user-requires c =
    let long = c.loop-hop.invariant.done.long in
    let same = length-map c.loop-hop.lists.items (λ (users : Users). users.list.items) in
    omega arith

pub loop-hop-preserved : goal.loop-hop-preserved
loop-hop-preserved c =
    let network = c.args.network.now in
    let i = c.args.stream in
    let k = c.loop-hop.hop in
    let old = users_in c.loop-hop.lists.items in
    let link = c.route_link.ensures.value in
    let inside : k < c.hops-hop-end.result = c.loop-hop-test.true in
    let now = c.in_ok-push_user.ensures ∙ ap (λ l. with_user old l (record { stream = i; hop = k })) link in
    record {
      done = subst (AreHopsDone network i (k + 1)) (sym now)
          (one_hop_done network c.requires.formed i c.requires.stream k old (omega arith)
          (subst (λ l. l < length network.links) link c.route_link.ensures.exists) c.loop-hop.invariant.done);
      end = c.loop-hop.invariant.end;
    }

pub returns : goal.returns
returns c = hops_done c.args.network.now c.requires.formed c.args.stream c.requires.stream c.loop-hop.hop _ (omega arith) c.loop-hop.invariant.done
