use Rattle.std.proofs.Common.{List, ap, ◌∙◌, subst, arith}
use Rattle.tsn_conflict.specs.declared.uses.Use.{Use}
use Rattle.tsn_conflict.specs.Kept.{Kept, use_in, AreConflictsOf}
use Rattle.tsn_conflict.specs.Rows.{uses_in}
use Rattle.tsn_conflict.proofs.Reading.{Reads-used}
use Rattle.tsn_conflict.proofs.sharing.Conflicts.use_on.Goals as goal

pub look_up-requires-clause-stream : goal.look_up-requires-clause-stream
look_up-requires-clause-stream c =
    let network = c.self.inside.timing in
    let is = subst (AreConflictsOf network) c.self.view_is c.self.invariant.of_network in
    let rows = ap uses_in c.deref.ensures.value ∙ ap (λ (kept : Kept). kept.uses) c.self.view_is in
    (Reads-used network _ c.args.stream c.args.link is.formed (rows ∙ is.uses) (c.requires network is)).row_kept

pub look_up-requires-clause-link : goal.look_up-requires-clause-link
look_up-requires-clause-link c =
    let network = c.self.inside.timing in
    let is = subst (AreConflictsOf network) c.self.view_is c.self.invariant.of_network in
    let rows = ap uses_in c.deref.ensures.value ∙ ap (λ (kept : Kept). kept.uses) c.self.view_is in
    (Reads-used network _ c.args.stream c.args.link is.formed (rows ∙ is.uses) (c.requires network is)).link_kept

pub returns : goal.returns
returns c =
    let network = c.self.inside.timing in
    let is = subst (AreConflictsOf network) c.self.view_is c.self.invariant.of_network in
    let rows = ap uses_in c.deref.ensures.value ∙ ap (λ (kept : Kept). kept.uses) c.self.view_is in
    let early = (Reads-used network c.args.self.now.uses c.args.stream c.args.link is.formed is.uses (c.requires network is)).early in
    let short = (Reads-used network c.args.self.now.uses c.args.stream c.args.link is.formed is.uses (c.requires network is)).short in
    let value = c.look_up.ensures ∙ ap (λ (us : List (List Use)). use_in us c.args.stream c.args.link) rows in
    let read = value ∙ (Reads-used network c.args.self.now.uses c.args.stream c.args.link is.formed is.uses (c.requires network is)).value in
    let start = ap (λ (u : Use). u.start) read in
    let separation = ap (λ (u : Use). u.separation) read in record {
      counted = (Reads-used network c.args.self.now.uses c.args.stream c.args.link is.formed is.uses (c.requires network is)).row_kept;
      early = omega arith;
      short = omega arith;
      start = λ other of_other. ap (λ (u : Use). u.start) (value ∙ (Reads-used other c.args.self.now.uses c.args.stream c.args.link of_other.formed of_other.uses (c.requires other of_other)).value);
      separation = λ other of_other. ap (λ (u : Use). u.separation) (value ∙ (Reads-used other c.args.self.now.uses c.args.stream c.args.link of_other.formed of_other.uses (c.requires other of_other)).value);
    }
