use Rattle.std.proofs.Common.{◌<◌, All, sym, subst}
use Rattle.tsn_model.specs.Bridge.{LinkGates}
use Rattle.tsn_replay.specs.Values.{FrameValue}
use Rattle.tsn_replay.specs.Faults.{IsListed}
use Rattle.tsn_replay.proofs.conditions.names_links.Goals as goal

pub returns : goal.returns
returns c = (
  λ yes. record {
    exist = subst (λ n. All (λ (list : LinkGates). list.link < n) c.args.lists.now) c.links.ensures.value (c.all_exist.ensures.0 c.if-not-all_exist.false);
    distinct = c.are_distinct.ensures.0 c.if-not-are_distinct.false;
    used = c.all_used_listed.ensures.0 c.if-not-all_used_listed.false;
    waited = subst (All (λ (frame : FrameValue). IsListed c.args.lists.now frame.link)) c.frames.ensures (c.all_waited_listed.ensures.0 yes);
  },
  λ names. c.all_waited_listed.ensures.1 (subst (All (λ (frame : FrameValue). IsListed c.args.lists.now frame.link)) (sym c.frames.ensures) names.waited),
)
