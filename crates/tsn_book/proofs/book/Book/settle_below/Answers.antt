use Rattle.std.proofs.Common.{◌≡◌, ◌≢◌, ℕ, ◌≤◌, ◌∷◌, [], List, drop, length, sym, ap, ◌∙◌, subst, arith}
use Rattle.std.specs.List.{slice_index_or}
use Rattle.std.proofs.lemmas.List.{nil_from_length}
use Rattle.std.proofs.lemmas.Grind.{common_steps}
use Rattle.tsn_model.specs.declared.Decision.{Decision}
use Rattle.tsn_model.specs.Search.{Event, Outcome}
use Rattle.tsn_model.specs.Walk.{path_made}
use Rattle.tsn_conflict.specs.declared.outcome.Look.{Look}
use Rattle.tsn_conflict.specs.Outcome.{outcome_of}
use Rattle.tsn_conflict.specs.Right.{HasProof, SplitsUndecided}
use Rattle.tsn_book.specs.Book.{Progress, IsFault, IsLawful}
use Rattle.tsn_book.proofs.Below.{none_below, refused_first, first_below, first_refused, first_waits}
use Rattle.tsn_book.proofs.Ledgers.{ledger_lawful, same_progress, progress_by}
use Rattle.tsn_book.proofs.book.Book.settle_below.Goals as goal

pub returns-then-len-eq0-clause-all : goal.returns-then-len-eq0-clause-all
returns-then-len-eq0-clause-all c =
    (none_below c.args.self.now c.args.teller c.args.from.now c.args.looks (nil_from_length c.args.looks (omega (arith, c.len.ensures, c.if-len-eq0.true)))).0

pub returns-then-len-eq0-clause-from : goal.returns-then-len-eq0-clause-from
returns-then-len-eq0-clause-from c =
    (none_below c.args.self.now c.args.teller c.args.from.now c.args.looks (nil_from_length c.args.looks (omega (arith, c.len.ensures, c.if-len-eq0.true)))).1

-- there is a first look
some_looks : (looks : List Look) (count : ℕ) → count ≡ length looks → (count ≡ 0 → ⊥) → looks ≢ []
some_looks looks count is some none = some (is ∙ ap length none)

pub returns-in-Err-clause-some : goal.returns-in-Err-clause-some
returns-in-Err-clause-some c =
    let faults : (outcome : Outcome) → IsFault c.args.self.now.network c.args.self.now.limit c.args.self.now.history
    (record { path = c.args.from.now; outcome = outcome }) c.in-Err.fault = λ outcome.
    subst (λ (path : List Decision). IsFault c.args.self.now.network c.args.self.now.limit c.args.self.now.history (record { path = path; outcome = outcome })
    c.in-Err.fault) c.path.ensures.value (c.in-Err.ensures outcome) in
    (refused_first c.args.self.now c.args.teller c.args.from.now c.args.looks c.in-Err.fault
    (some_looks c.args.looks c.len.result c.len.ensures c.if-len-eq0.false) faults).0

pub returns-in-Err-clause-fault : goal.returns-in-Err-clause-fault
returns-in-Err-clause-fault c =
    let faults : (outcome : Outcome) → IsFault c.args.self.now.network c.args.self.now.limit c.args.self.now.history
    (record { path = c.args.from.now; outcome = outcome }) c.in-Err.fault = λ outcome.
    subst (λ (path : List Decision). IsFault c.args.self.now.network c.args.self.now.limit c.args.self.now.history (record { path = path; outcome = outcome })
    c.in-Err.fault) c.path.ensures.value (c.in-Err.ensures outcome) in
    (refused_first c.args.self.now c.args.teller c.args.from.now c.args.looks c.in-Err.fault
    (some_looks c.args.looks c.len.result c.len.ensures c.if-len-eq0.false) faults).1

-- the first look, where the looks came back
first_look : (looks back : List Look) (read : Look) (count : ℕ) → count ≡ length looks → (count ≡ 0 → ⊥) → read ≡ slice_index_or back 0 read → back ≡ looks
    → looks ≡ read ∷ drop 1 looks
first_look looks back read count is some at same =
    let more : 1 ≤ length looks = omega (arith, is, some) in
    first_waits looks read more ∙ ap (λ (look : Look). look ∷ drop 1 looks) (sym (at ∙ ap (λ (ls : List Look). slice_index_or ls 0 read) same))

-- the first look has its proof, where the walk stands
first_fits : (c : goal.After-get) → let book = progress_by c.self.inside.ledger c.bring.new.self.items in
    let path = path_made book.history c.in-Ok.place in
    HasProof book.network path (outcome_of c.get.result.now) × SplitsUndecided book.network path (outcome_of c.get.result.now)
first_fits c =
    let network = c.args.self.now.network in
    let outcome = outcome_of c.get.result.now in
    let same = same_progress c.self.inside.ledger c.bring.new.self.items c.bring.ensures.items ∙ c.self.view_is in
    let first = first_look c.args.looks c.in-Err-bring.looks c.get.result.now c.len.result c.len.ensures c.if-len-eq0.false c.get.ensures
    c.in-Err-bring.ensures.returned in
    subst (λ (p : Progress). let path = path_made p.history c.in-Ok.place in HasProof p.network path outcome × SplitsUndecided p.network path outcome)
    (sym same)
    (subst (λ (path : List Decision). HasProof network path outcome × SplitsUndecided network path outcome) (sym (c.in-Ok.ensures.is ∙ c.path.ensures.value))
    (first_below (λ (event : Event). HasProof network event.path event.outcome × SplitsUndecided network event.path event.outcome)
    c.args.from.now c.args.looks c.get.result.now first c.requires.proofs))

pub fault_at-fault-requires-clause-proof : goal.fault_at-fault-requires-clause-proof
fault_at-fault-requires-clause-proof c = (first_fits c).0

pub fault_at-fault-requires-clause-undecided : goal.fault_at-fault-requires-clause-undecided
fault_at-fault-requires-clause-undecided c = (first_fits c).1

-- the fault, where the walk stands
fault_now : (c : goal.After-drop-looks-inside-in-Err-bring) → let book = progress_by c.self.inside.ledger c.bring.new.self.items in
    IsFault book.network book.limit book.history (record { path = c.args.from.now; outcome = outcome_of c.get.result.now }) c.fault_at-fault.result
fault_now c =
    let book = progress_by c.self.inside.ledger c.bring.new.self.items in
    let same = same_progress c.self.inside.ledger c.bring.new.self.items c.bring.ensures.items ∙ c.self.view_is in
    let path = ap (λ (p : Progress). path_made p.history c.in-Ok.place) same ∙ c.in-Ok.ensures.is ∙ c.path.ensures.value in
    subst (λ (path : List Decision). IsFault book.network book.limit book.history (record { path = path; outcome = outcome_of c.get.result.now })
    c.fault_at-fault.result) path c.fault_at-fault.ensures

pub returns-in-Err-bring-clause-some : goal.returns-in-Err-bring-clause-some
returns-in-Err-bring-clause-some c =
    let now = progress_by c.self.inside.ledger c.bring.new.self.items in
    let same = same_progress c.self.inside.ledger c.bring.new.self.items c.bring.ensures.items ∙ c.self.view_is in
    let first = first_look c.args.looks c.in-Err-bring.looks c.get.result.now c.len.result c.len.ensures c.if-len-eq0.false c.get.ensures
    c.in-Err-bring.ensures.returned in
    (first_refused c.args.self.now now c.args.teller c.args.from.now c.args.looks c.get.result.now c.fault_at-fault.result first same (fault_now c)).0

pub returns-in-Err-bring-clause-fault : goal.returns-in-Err-bring-clause-fault
returns-in-Err-bring-clause-fault c =
    let now = progress_by c.self.inside.ledger c.bring.new.self.items in
    let same = same_progress c.self.inside.ledger c.bring.new.self.items c.bring.ensures.items ∙ c.self.view_is in
    let first = first_look c.args.looks c.in-Err-bring.looks c.get.result.now c.len.result c.len.ensures c.if-len-eq0.false c.get.ensures
    c.in-Err-bring.ensures.returned in
    (first_refused c.args.self.now now c.args.teller c.args.from.now c.args.looks c.get.result.now c.fault_at-fault.result first same (fault_now c)).1

pub returns-in-Err-bring-clause-lawful : goal.returns-in-Err-bring-clause-lawful
returns-in-Err-bring-clause-lawful c =
    subst IsLawful (sym (same_progress c.self.inside.ledger c.bring.new.self.items c.bring.ensures.items))
    (ledger_lawful c.self.inside.ledger c.self.invariant.agrees)

pub returns-clause-lawful : goal.returns-clause-lawful
returns-clause-lawful c =
    let ledger = c.settle_waiting-settled.new.self in
    subst IsLawful (sym (same_progress ledger c.dismiss.new.self.items c.dismiss.ensures.items)) (ledger_lawful ledger c.settle_waiting-settled.ensures.agrees)

pub bring-requires : goal.bring-requires
bring-requires c = grind (arith, common_steps) steps 2000000
