use Rattle.std.proofs.Common.{◌+◌, MatchOption, sym, ap, ◌∙◌, subst, arith}
use Rattle.std.specs.Global.{Vec}
use Rattle.std.proofs.lemmas.Grind.{common_steps}
use Rattle.tsn_gate.specs.declared.list.GateList.{GateList}
use Rattle.tsn_gate.specs.GateLists.{IsUsed, IsListOf, AreWantedLists}
use Rattle.tsn_gate.proofs.Wanted.{AreListsBelow, AreListsBelow-skip, AreListsBelow-more, AreWantedLists-below, HasWantedGates-lists, lists_exist}
use Rattle.tsn_gate.proofs.lists.lists_of.Goals as goal
use Rattle.tsn_gate.proofs.lists.lists_of.Goals.{in-Some+in_ok-push, in_default}

pub loop-link-preserved : goal.loop-link-preserved
loop-link-preserved c =
    let network = c.args.timing.now in
    let offsets = c.args.offsets.now in
    let link = c.loop-link.link in
    let lists = c.loop-link.lists.items in
    elim c.match-branch-2.branch [
      | in-Some+in_ok-push w ↦
          let is = subst (λ list. MatchOption list (¬ IsUsed network link) (IsListOf network offsets link)) w.in-Some.is c.in_ok-list.ensures in
          subst (AreListsBelow network offsets (link + 1)) (sym (ap (λ (v : Vec GateList). v.items) w.lists-is ∙ w.in_ok-push.ensures.items))
          (AreListsBelow-more network offsets link lists w.in-Some.list c.loop-link.invariant is)
      | in_default w ↦
          let unused = subst (λ list. MatchOption list (¬ IsUsed network link) (IsListOf network offsets link)) w.in_default.is c.in_ok-list.ensures in
          subst (AreListsBelow network offsets (link + 1)) (sym (ap (λ (v : Vec GateList). v.items) w.lists-is))
          (AreListsBelow-skip network offsets link lists c.loop-link.invariant unused)
    ]

wanted : (c : goal.After-loop-link) → AreWantedLists c.args.timing.now c.args.offsets.now c.loop-link.lists.items
wanted c =
    AreWantedLists-below c.args.timing.now c.args.offsets.now c.cycle-cycle.ensures.well_formed c.loop-link.link c.loop-link.lists.items (omega arith) c.loop-link.invariant

pub returns : goal.returns
returns c = record {
  lists = wanted c;
  gates = HasWantedGates-lists c.args.timing.now c.args.offsets.now c.cycle-cycle.ensures.well_formed c.loop-link.lists.items (wanted c);
  exist = lists_exist c.args.timing.now c.args.offsets.now c.cycle-cycle.ensures.well_formed c.loop-link.lists.items (wanted c);
}

pub list_of-requires-clause-formed : goal.list_of-requires-clause-formed
list_of-requires-clause-formed c = grind (arith, common_steps) steps 2000000
