use Rattle.std.proofs.Common.{◌≡◌, ◌<◌, ◌∙◌, Some, All, AllPairs, Contains, ap, sym, subst, arith}
use Rattle.tsn_model.specs.Timing.{hop_on}
use Rattle.tsn_timing.specs.declared.users.User.{User}
use Rattle.tsn_timing.specs.declared.users.Users.{Users}
use Rattle.tsn_timing.specs.Users.{AreUsers, users_of}
use Rattle.tsn_timing.proofs.Using.{lists_long, list_of, users_use, users_all, users_ascend}
use Rattle.tsn_timing.proofs.timing.Timing.users.Goals as goal

pub index-requires : goal.index-requires
index-requires c =
    let are = subst (λ network. AreUsers network c.self.inside.users.items) c.self.view_is c.self.invariant.1 in
    let long = lists_long c.args.self.now c.self.inside.users.items are in
    omega arith

pub returns : goal.returns
returns c =
    let network = c.args.self.now in
    let link = c.args.link in
    let are = subst (λ network. AreUsers network c.self.inside.users.items) c.self.view_is c.self.invariant.1 in
    let value : c.deref.result.now ≡ users_of network link = c.deref.ensures.value ∙ ap (λ (users : Users). users.list.items) c.index.ensures
    ∙ list_of network c.self.inside.users.items link c.index.result.now are c.requires in
    record {
      value = value;
      hops = subst (All (λ (one : User). hop_on network one.stream link ≡ Some one.hop)) (sym value) (users_use network link);
      all = λ stream hop on. subst (λ us. Contains us (record { stream = stream; hop = hop })) (sym value) (users_all network link stream hop on);
      ascending = subst (AllPairs (λ (a b : User). a.stream < b.stream)) (sym value) (users_ascend network link);
    }
