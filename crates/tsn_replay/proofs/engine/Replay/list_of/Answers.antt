use Rattle.std.proofs.Common.{◌≡◌, ◌<◌, [], length, get_or, sym, ap, ◌∙◌, subst, arith}
use Rattle.std.proofs.lemmas.List.{get_or_default}
use Rattle.tsn_model.specs.Bridge.{LinkGates}
use Rattle.tsn_replay.proofs.engine.Replay.list_of.Goals as goal

pub returns-clause-list : goal.returns-clause-list
returns-clause-list c =
    let d : LinkGates = record { link = 0; entries = [] } in
    let link = c.route_link.ensures.value in
    let used = c.requires.setting.lists.used c.args.stream c.args.hop c.requires.stream c.requires.hop in
    let read : c.index.result.now ≡ get_or c.args.state.now.numbers.items c.route_link.result 0 =
    c.index.ensures ∙ get_or_default c.args.state.now.numbers.items c.route_link.result c.index.result.now 0
    (let count = c.requires.state.numbers.count in omega arith) in
    let listed : c.index.result.now ≡ used.0 =
    read ∙ (ap (λ l. get_or c.args.state.now.numbers.items l 0) (link ∙ sym (used.2 d)) ∙ c.requires.state.numbers.of_list used.0 d used.1) in
    subst (λ n. n < length c.args.self.now.gates.now) (sym listed) used.1

pub returns-clause-of : goal.returns-clause-of
returns-clause-of c number d below on =
    let link = c.route_link.ensures.value in
    let read : c.index.result.now ≡ get_or c.args.state.now.numbers.items c.route_link.result 0 =
    c.index.ensures ∙ get_or_default c.args.state.now.numbers.items c.route_link.result c.index.result.now 0
    (let count = c.requires.state.numbers.count in omega arith) in
    sym (read ∙ (ap (λ l. get_or c.args.state.now.numbers.items l 0) (link ∙ sym on) ∙ c.requires.state.numbers.of_list number d below))
