use Rattle.std.proofs.Common.{◌≡◌, ◌-◌, List, [], ◌∷◌, ◌++◌, length, take, Option, Result, Ok, Err, None, Some, sym, ap, ◌∙◌, subst, arith}
use Rattle.std.proofs.lemmas.Option.{slice_get_within, get_or_from_slice_get}
use Rattle.std.proofs.lemmas.Grind.{common_steps}
use Rattle.tsn_model.specs.declared.Arc.{Arc}
use Rattle.tsn_model.specs.declared.Decision.{Decision}
use Rattle.tsn_model.specs.Arcs.{arcs_of}
use Rattle.tsn_model.specs.Certificate.{decided}
use Rattle.tsn_diff.specs.Answers.{Refutes}
use Rattle.tsn_diff.specs.Stack.{Stack}
use Rattle.std.specs.Prelude.{Contains, IfNone, IfOk, IfSome, MatchOption, OnErr, OnSome}
use Rattle.tsn_branch.specs.Releases.{releases_of}
use Rattle.tsn_branch.specs.Descent.{Position, Stands}
use Rattle.tsn_conflict.specs.Path.{Fits}
use Rattle.tsn_conflict.proofs.Paths.{by_last}
use Rattle.tsn_branch.proofs.Positions.{Puts, leads_down, refutes_down}
use Rattle.tsn_branch.proofs.descent.Descent.lead.Goals as goal

-- what is known of each of the answers
of_each : {V E : Type 0} (A : Type 0) (B : V → Type 0) (none none' : Type 0) (some : V → Type 0) (some' : Type 0) (result : Result (Option V) E)
    → IfOk result (λ o. IfNone o none) → IfOk result (λ o. IfNone o none') → IfOk result (λ o. IfSome o some) → IfOk result (λ o. OnSome o some')
    → (none → none' → A) → ((v : V) → some v → some' → B v) → IfOk result (λ o. MatchOption o A B)
of_each A B none none' some some' (Ok None) n n' s s' at_none at_some = at_none n n'
of_each A B none none' some some' (Ok (Some v)) n n' s s' at_none at_some = at_some v s s'
of_each A B none none' some some' (Err e) n n' s s' at_none at_some = tt

-- what is known of an error
of_error : {V E : Type 0} (P Q : Type 0) (result : Result V E) → OnErr result P → (P → Q) → OnErr result Q
of_error P Q (Ok v) known on = tt
of_error P Q (Err e) known on = on known

pub arc-arc-requires : goal.arc-arc-requires
arc-arc-requires c =
    let triples = c.args.conflicts.now.triples in
    let path = c.path.result.now in
    let last = c.in-Some.decision.now in
    let there = sym c.in-Some.ensures.value in
    let within = slice_get_within path (length path - 1) last there in
    let at = get_or_from_slice_get path (length path - 1) last last there in
    let here = c.path.ensures.value ∙ ap (λ (position : Position). position.path) c.self.view_is in
    subst (λ (d : Decision). Contains triples d.triple) at (subst (Fits triples) (sym here) c.requires.fits (length path - 1) last (omega arith))

pub returns-clause-err : goal.returns-clause-err
returns-clause-err c =
    let at : Stack → Position = λ stack. record { path = c.self.inside.node; stack = stack; splits = c.self.inside.splits.items; found = c.self.inside.found } in
    of_error _ _ c.push.result c.push.ensures.err
    (λ same. subst (λ stack. Stands c.args.timing.now (at stack)) (sym same) (subst (Stands c.args.timing.now) (sym c.self.view_is) c.requires.stands))

pub returns-clause-led : goal.returns-clause-led
returns-clause-led c =
    let network = c.args.timing.now in
    let path = c.path.result.now in
    let last = c.in-Some.decision.now in
    let there = sym c.in-Some.ensures.value in
    let within = slice_get_within path (length path - 1) last there in
    let at = sym (get_or_from_slice_get path (length path - 1) last last there) in
    let whole = by_last path last (omega arith) at in
    let front : List Decision = take (length path - 1) path in
    let here : Stands network (record { path = c.self.inside.node; stack = c.self.inside.stack; splits = c.self.inside.splits.items; found = c.self.inside.found }) =
    subst (Stands network) (sym c.self.view_is) c.requires.stands in
    let node : c.self.inside.node ≡ decided front last.triple last.side = sym c.path.ensures.value ∙ whole in
    let arc = c.arc-arc.ensures.value network c.requires.conflicts in
    let there_is = ap (λ (position : Position). position.path) c.self.view_is in
    of_each _ _ _ _ _ _ c.push.result c.push.ensures.arcs c.push.ensures.raised c.push.ensures.closed c.push.ensures.refused
    (λ arcs rises.
    leads_down network front last.triple last.side c.self.inside.node c.self.inside.stack c.push.new.self c.self.inside.splits.items c.self.inside.found node
    here.releases c.push.ensures.releases here.arcs
    (subst (λ (a : Arc). Puts a c.self.inside.stack c.push.new.self) arc
    (record { arcs = arcs; rises = rises; solved_before = c.push.ensures.solved_before; solved = c.push.ensures.solved }))
    here.split_above)
    (λ chain closed left. (
      record {
        releases = c.push.ensures.releases ∙ here.releases;
        arcs = ap (λ (stack : Stack). stack.least.arcs) left ∙ here.arcs;
        split_above = here.split_above;
      },
      subst (λ p. Refutes (length (releases_of network)) (arcs_of network p) chain.items) there_is
          (refutes_down network front last.triple last.side c.self.inside.node c.self.inside.stack chain.items node here.releases here.arcs
          (subst (λ (a : Arc). Refutes (length c.self.inside.stack.least.releases) (c.self.inside.stack.least.arcs ++ a ∷ []) chain.items) arc closed)),
    ))

pub same-self : goal.same-self
same-self c = grind (arith, common_steps) steps 2000000

pub returns-in_default-clause-path : goal.returns-in_default-clause-path
returns-in_default-clause-path c = grind (arith, common_steps) steps 2000000

pub returns-in_default-clause-led : goal.returns-in_default-clause-led
returns-in_default-clause-led c = grind (arith, common_steps) steps 2000000

pub returns-in_default-clause-err : goal.returns-in_default-clause-err
returns-in_default-clause-err c = grind (arith, common_steps) steps 2000000

pub push-requires : goal.push-requires
push-requires c = grind (arith, common_steps) steps 2000000
