use Rattle.std.proofs.Common.{◌≡◌, ◌≤◌, ◌++◌, [], min, fold, sym, ap, ◌∙◌, subst, arith}
use Rattle.tsn_model.specs.Gates.{cycle_of}
use Rattle.tsn_chart.specs.declared.rest.Run.{Run}
use Rattle.tsn_chart.specs.Rest.{IsLongestOpen, go_on}
use Rattle.tsn_chart.proofs.Runs.{Tracks, HasLongest, Tracks-nil, Tracks-fold}
use Rattle.tsn_chart.proofs.Longest.{IsLongestOpen-twice}
use Rattle.tsn_chart.proofs.rest.longest_open.Goals as goal

begun : Run
begun = record { current = 0; longest = 0 }

pub go_through-twice-requires : goal.go_through-twice-requires
unfolding begun
go_through-twice-requires c =
    let entries = c.args.list.now.entries in
    let list = c.entries.ensures.list in
    let tracked : Tracks entries (fold go_on begun entries) = Tracks-fold [] entries begun list.positive Tracks-nil in
    let once : c.go_through-once.result ≡ fold go_on begun entries = c.go_through-once.ensures ∙ ap (λ xs. fold go_on begun xs) c.entries.ensures.entries in
    let fits : c.go_through-once.result.current ≤ cycle_of entries = subst (λ (r : Run). r.current ≤ cycle_of entries) (sym once) tracked.current.fits in
    let short : cycle_of entries ≤ 1000000000 = list.short in
    omega (arith, ap cycle_of c.entries-2.ensures.entries)

pub returns : goal.returns
unfolding begun
returns c =
    let entries = c.args.list.now.entries in
    let list = c.entries.ensures.list in
    let tracked : Tracks entries (fold go_on begun entries) = Tracks-fold [] entries begun list.positive Tracks-nil in
    let once : c.go_through-once.result ≡ fold go_on begun entries = c.go_through-once.ensures ∙ ap (λ xs. fold go_on begun xs) c.entries.ensures.entries in
    let twice : c.go_through-twice.result ≡ fold go_on (fold go_on begun entries) entries =
    c.go_through-twice.ensures ∙ (ap (λ xs. fold go_on c.go_through-once.result xs) c.entries-2.ensures.entries ∙ ap (λ r. fold go_on r entries) once) in
    let both : Tracks (entries ++ entries) (fold go_on (fold go_on begun entries) entries) = Tracks-fold entries entries (fold go_on begun entries) list.positive tracked in
    let has : HasLongest (entries ++ entries) c.go_through-twice.result.longest = subst (λ (r : Run). HasLongest (entries ++ entries) r.longest) (sym twice) both.longest in
    let whole = c.cycle-cycle.ensures.value in
    let some = c.cycle-cycle.ensures.some in
    subst (λ n. IsLongestOpen entries n) (sym (c.min.ensures ∙ ap (λ n. min c.go_through-twice.result.longest n) whole))
    (IsLongestOpen-twice entries c.go_through-twice.result.longest (omega arith) has)
