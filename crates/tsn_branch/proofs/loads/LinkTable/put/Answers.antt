use Rattle.std.proofs.Common.{◌≡◌, ◌+◌, [], ◌∷◌, ◌++◌, ℤ, pos, ◌-ℤ◌, vec_len, ◌∙◌, sym, ap, refl, arith, to_z, of_z, w64, eqb-true, rules, FitsSigned}
use Rattle.std.proofs.lemmas.Bool.{eqb-false}
use Rattle.std.specs.Int.{int_min}
use Rattle.std.proofs.lemmas.Int.{ints, to_z-of_z}
use Rattle.std.proofs.lemmas.Result.{err_from_is_err_and}
use Rattle.tsn_model.specs.Timing.{separation, start_on, arrival}
use Rattle.tsn_model.proofs.Routes.{hop_on_found, hop_on_link}
use Rattle.tsn_branch.specs.Loads.{link_in}
use Rattle.tsn_branch.proofs.Loading.{link_taken}
use Rattle.tsn_branch.proofs.loads.LinkTable.put.Goals as goal
use Rattle.tsn_branch.proofs.loads.LinkTable.put.Goals.{then-is_empty, else-is_empty}

pub start-start-requires-clause-hop : goal.start-start-requires-clause-hop
start-start-requires-clause-hop c = (hop_on_found c.args.timing.now c.args.stream c.args.self.now.link c.args.hop c.requires.hop).1

pub separation-work-requires-clause-hop : goal.separation-work-requires-clause-hop
separation-work-requires-clause-hop c = (hop_on_found c.args.timing.now c.args.stream c.args.self.now.link c.args.hop c.requires.hop).1

pub overflow_add-self : goal.overflow_add-self
overflow_add-self c =
    let short = c.requires.short in
    let one = c.separation-work.ensures.bound in
    omega arith

pub returns-clause-put : goal.returns-clause-put
returns-clause-put c =
    λ streams is.
    let network = c.args.timing.now in
    let link = c.args.self.now.link in
    let stream = c.args.stream in
    let found = hop_on_found network stream link c.args.hop c.requires.hop in
    let same_link = hop_on_link network stream link c.args.hop c.requires.hop in
    let begins : c.start-start.result ≡ start_on network stream link = c.start-start.ensures.value ∙ found.2 in
    let works : c.separation-work.result ≡ separation network stream link = c.separation-work.ensures.value ∙ ap (separation network stream) same_link in
    let ends = c.arrival.ensures.value in
    let short_begin = c.start-start.ensures.bound in
    let short_work = c.separation-work.ensures.bound in
    let short_end = c.arrival.ensures.bound in
    let fits_tail : FitsSigned w64 c.args.self.now.tail = search rules in
    let counted = c.args.self.now.users.ok.0 in
    let tail : ℤ = pos (arrival network stream) -ℤ pos (start_on network stream link + separation network stream link) in
    let computed : to_z w64 (of_z w64 (to_z w64 c.arrival.result -ℤ to_z w64 (c.start-start.result + c.separation-work.result))) ≡ tail = omega (arith, ints) in
    let kept : to_z w64 (of_z w64 c.args.self.now.tail) ≡ c.args.self.now.tail = to_z-of_z w64 c.args.self.now.tail fits_tail in
    let users = c.in_ok-push.ensures.items ∙ ap (λ s. c.args.self.now.users.items ++ record { stream = stream; start = s } ∷ []) begins in
    elim c.if-is_empty.branch [
      | then-is_empty w ↦
          let empty : vec_len c.args.self.now.users ≡ 0 = eqb-true _ _ (sym w.if-is_empty.ensures) in
          link_taken network link (link_in c.args.self.now) _ streams stream is refl users (ap (λ n. c.args.self.now.work + n) works)
          (λ none. w.least-is ∙ computed) (λ some. absurd (omega (arith, some)))
      | else-is_empty w ↦
          let some : vec_len c.args.self.now.users ≡ 0 → ⊥ = eqb-false _ _ (sym w.if-is_empty.ensures) in
          link_taken network link (link_in c.args.self.now) _ streams stream is refl users (ap (λ n. c.args.self.now.work + n) works)
          (λ none. absurd (some (omega (arith, none)))) (λ _. w.least-is ∙ to_z-of_z w64 w.min-least.result (omega (arith, ints)) ∙ w.min-least.ensures.value ∙ (λ k. int_min (kept k) (computed k)))
    ]

pub returns-in_err-push-clause-put : goal.returns-in_err-push-clause-put
returns-in_err-push-clause-put c =
    let p = err_from_is_err_and c.from_residual.result c.from_residual.ensures.1 in
    rw p.1 tt

pub returns-in_err-push-clause-short : goal.returns-in_err-push-clause-short
returns-in_err-push-clause-short c =
    let p = err_from_is_err_and c.from_residual.result c.from_residual.ensures.1 in
    rw p.1 tt
