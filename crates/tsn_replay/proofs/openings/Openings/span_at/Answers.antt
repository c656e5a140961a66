use Rattle.std.proofs.Common.{◌≡◌, ◌%◌, ◌<◌, get_or, ap, ◌∙◌, subst, arith}
use Rattle.std.proofs.Math.Nat.{mod-lt}
use Rattle.std.proofs.lemmas.List.{get_or_default}
use Rattle.std.proofs.lemmas.Grind.{common_steps}
use Rattle.tsn_model.specs.declared.GateEntry.{GateEntry}
use Rattle.tsn_model.specs.Gates.{cycle_of}
use Rattle.tsn_model.specs.Bridge.{LinkGates}
use Rattle.tsn_gate.specs.Entries.{IsGateList}
use Rattle.tsn_gate.proofs.Playing.{cycle_of_more, cycle_of_part}
use Rattle.tsn_replay.specs.Openings.{AreEnds}
use Rattle.tsn_replay.proofs.Spans.{cycle-pos, span_octet}
use Rattle.tsn_replay.proofs.openings.Openings.span_at.Goals as goal

pub nonzero_rem-phase : goal.nonzero_rem-phase
nonzero_rem-phase c =
    let pos = cycle-pos c.self.inside.entries.items c.self.invariant.0 in
    omega arith

pub entry_at-index-requires : goal.entry_at-index-requires
entry_at-index-requires c =
    let pos = cycle-pos c.self.inside.entries.items c.self.invariant.0 in
    let size : c.self.inside.cycle ≡ cycle_of c.args.self.now.entries = c.self.invariant.1 ∙ ap (λ (g : LinkGates). cycle_of g.entries) c.self.view_is in
    let below : c.args.at % c.self.inside.cycle < c.self.inside.cycle = mod-lt c.args.at (omega arith) in
    omega arith

pub overflow_add-result : goal.overflow_add-result
overflow_add-result c =
    let entries : c.self.inside.entries.items ≡ c.args.self.now.entries = ap (λ (g : LinkGates). g.entries) c.self.view_is in
    let formed = subst IsGateList entries c.self.invariant.0 in
    let are = subst (λ es. AreEnds es c.self.inside.ends.items) entries c.self.invariant.2 in
    let at = c.entry_at-index.ensures in
    let value = get_or_default c.self.inside.ends.items c.entry_at-index.result c.index-2.result.now 0 (let within = at.within in omega arith) ∙ are.each c.entry_at-index.result at.within in
    let more = cycle_of_more c.args.self.now.entries c.entry_at-index.result (record { interval = 0; octet = 0 }) at.within in
    let less = cycle_of_part c.args.self.now.entries c.entry_at-index.result (record { interval = 0; octet = 0 }) at.within in
    omega arith

pub returns-clause-near : goal.returns-clause-near
returns-clause-near c =
    let entries : c.self.inside.entries.items ≡ c.args.self.now.entries = ap (λ (g : LinkGates). g.entries) c.self.view_is in
    let formed = subst IsGateList entries c.self.invariant.0 in
    let are = subst (λ es. AreEnds es c.self.inside.ends.items) entries c.self.invariant.2 in
    let at = c.entry_at-index.ensures in
    let value = get_or_default c.self.inside.ends.items c.entry_at-index.result c.index-2.result.now 0 (let within = at.within in omega arith) ∙ are.each c.entry_at-index.result at.within in
    let more = cycle_of_more c.args.self.now.entries c.entry_at-index.result (record { interval = 0; octet = 0 }) at.within in
    let less = cycle_of_part c.args.self.now.entries c.entry_at-index.result (record { interval = 0; octet = 0 }) at.within in
    omega arith

pub returns-clause-octet : goal.returns-clause-octet
returns-clause-octet c u since until =
    let entries : c.self.inside.entries.items ≡ c.args.self.now.entries = ap (λ (g : LinkGates). g.entries) c.self.view_is in
    let size : c.self.inside.cycle ≡ cycle_of c.args.self.now.entries = c.self.invariant.1 ∙ ap cycle_of entries in
    let are = subst (λ es. AreEnds es c.self.inside.ends.items) entries c.self.invariant.2 in
    let at = c.entry_at-index.ensures in
    let value = get_or_default c.self.inside.ends.items c.entry_at-index.result c.index-2.result.now 0 (let within = at.within in omega arith) ∙ are.each c.entry_at-index.result at.within in
    let item : c.index.result.now ≡ get_or c.args.self.now.entries c.entry_at-index.result c.index.result.now = c.index.ensures ∙ ap (λ es. get_or es c.entry_at-index.result c.index.result.now) entries in
    let more = cycle_of_more c.args.self.now.entries c.entry_at-index.result c.index.result.now at.within in
    let long : c.index.result.now.interval ≡ (get_or c.args.self.now.entries c.entry_at-index.result c.index.result.now).interval = ap (λ (e : GateEntry). e.interval) item in
    let phase : c.args.at % c.self.inside.cycle ≡ c.args.at % cycle_of c.args.self.now.entries = ap (λ n. c.args.at % n) size in
    span_octet c.args.self.now.entries c.entry_at-index.result c.index.result.now c.args.at u at.within item (omega arith) (omega arith) since (omega arith)

pub overflow_sub-result : goal.overflow_sub-result
overflow_sub-result c = grind (arith, common_steps) steps 2000000
