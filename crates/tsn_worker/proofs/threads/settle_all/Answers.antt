use Rattle.std.proofs.Common.{◌≡◌, ℕ, [], ◌∷◌, ◌++◌, length, Some, refl, sym, ap, ◌∙◌, subst, arith, length-append}
use Rattle.std.specs.Prelude.{All}
use Rattle.std.proofs.lemmas.List.{length-map}
use Rattle.std.proofs.lemmas.List.Elements.{All-pop}
use Rattle.tsn_incumbent.specs.Teller.{Known, IsEven}
use Rattle.tsn_worker.specs.declared.worker.Member.{Member}
use Rattle.tsn_worker.proofs.Bags.{fresh_length, fresh_even, all_under, written, come_back}
use Rattle.tsn_worker.proofs.threads.settle_all.Goals as goal

pub unreachable-requires : goal.unreachable-requires
unreachable-requires g c =
    let long = ap length c.requires.fresh ∙ fresh_length g.K.Named.names 0 g.K.Named.names.race.tellers in
    omega (arith, long, c.in_default.ensures.cases.0, c.requires.tellers)

pub settle_first-requires-clause-even : goal.settle_first-requires-clause-even
settle_first-requires-clause-even g c =
    let names = g.K.Named.names in
    let all = sym c.requires.fresh ∙ c.in-Some.ensures.items in
    let even = subst (All IsEven) all (fresh_even names 0 names.race.tellers) in
    subst IsEven (sym c.new-caller.ensures) (All-pop IsEven (c.pop.new.self.items ++ c.in-Some.last ∷ []) c.pop.new.self.items (Some c.in-Some.last) refl even).1

pub team_of-requires : goal.team_of-requires
team_of-requires g c =
    let names = g.K.Named.names in
    let long = ap length c.requires.fresh ∙ fresh_length names 0 names.race.tellers in
    let whole = ap length c.in-Some.ensures.items in
    let more = length-append c.pop.new.self.items (c.in-Some.last ∷ []) in
    let kept : length c.deal.new.bags ≡ c.args.bags.len = c.deal.auto.bags ∙ c.as_mut_slice.ensures.len in
    let bags = ap length (written c.args.bags.items c.deal.new.bags c.args.bags.len kept) in
    let there : length c.args.bags.items ≡ c.args.bags.len = ap length (sym c.as_mut_slice.ensures.value) ∙ c.as_mut_slice.ensures.len in
    omega (arith, long, whole, more, bags, kept, there, c.requires.tellers)

pub run-requires-clause-some : goal.run-requires-clause-some
run-requires-clause-some g c κs within =
    let names = g.K.Named.names in
    let f : Member g.row.K.Denot g.row.B.Denot → Known = λ m. m.settler.teller in
    let long = ap length c.requires.fresh ∙ fresh_length names 0 names.race.tellers in
    let whole = ap length c.in-Some.ensures.items in
    let more = length-append c.pop.new.self.items (c.in-Some.last ∷ []) in
    let team = ap length c.in-Ok-team_of.ensures in
    let mapped = length-map c.in-Ok-team_of.members.items f in
    let slice = ap length c.as_mut_slice-2.ensures.value in
    omega (arith, long, whole, more, team, mapped, slice, c.requires.tellers, c.requires.some)

pub run-requires-clause-even : goal.run-requires-clause-even
run-requires-clause-even g c κs within =
    let names = g.K.Named.names in
    let f : Member g.row.K.Denot g.row.B.Denot → Known = λ m. m.settler.teller in
    let all = sym c.requires.fresh ∙ c.in-Some.ensures.items in
    let even = subst (All IsEven) all (fresh_even names 0 names.race.tellers) in
    let front = (All-pop IsEven (c.pop.new.self.items ++ c.in-Some.last ∷ []) c.pop.new.self.items (Some c.in-Some.last) refl even).0 in
    subst (All (λ (m : Member g.row.K.Denot g.row.B.Denot). IsEven m.settler.teller)) (sym c.as_mut_slice-2.ensures.value) (all_under IsEven f c.in-Ok-team_of.members.items (subst (All IsEven) (sym c.in-Ok-team_of.ensures) front))

pub returns : goal.returns
returns g c =
    let names = g.K.Named.names in
    let f : Member g.row.K.Denot g.row.B.Denot → Known = λ m. m.settler.teller in
    let all = sym c.requires.fresh ∙ c.in-Some.ensures.items in
    let number : Known → ℕ = λ t. t.standing.number in
    come_back names names.race.tellers c.pop.new.self.items c.in-Some.last c.into_teller.result f c.in-Ok-team_of.members.items c.as_mut_slice-2.result.now c.run.new.members c.in-Ok-team_of.members.len c.in_ok-tellers_of.field-0.items
    all c.in-Ok-team_of.ensures c.as_mut_slice-2.ensures.value c.run.auto.members c.as_mut_slice-2.ensures.len c.run.ensures.even c.run.ensures.numbers
    (subst IsEven (sym c.into_teller.ensures) c.settle_first.ensures.even) (ap number c.into_teller.ensures ∙ c.settle_first.ensures.number ∙ ap number c.new-caller.ensures) c.in_ok-tellers_of.ensures
