use Rattle.std.proofs.Common.{◌≤◌, ℕ, List, arith}
use Rattle.std.proofs.lemmas.List.Sums.{sum_by-le-sum_by}
use Rattle.std.proofs.lemmas.Bool.Decides.{nat_tests}
use Rattle.tsn_model.specs.declared.GateEntry.{GateEntry}
use Rattle.tsn_model.specs.Gates.{cycle_of}
use Rattle.tsn_chart.specs.Shares.{time_in, time_of}
use Rattle.tsn_chart.proofs.link.time_of.Goals as goal

time_in-le : (octet : ℕ) (entry : GateEntry) → time_in octet entry ≤ entry.interval
time_in-le octet entry = grind (arith, nat_tests)

time_of-le : (octet : ℕ) (entries : List GateEntry) → time_of octet entries ≤ cycle_of entries
unfolding time_of cycle_of
time_of-le octet entries = sum_by-le-sum_by (time_in octet) (λ (e : GateEntry). e.interval) entries (λ e. time_in-le octet e)

pub time_in_all-requires : goal.time_in_all-requires
time_in_all-requires c =
    let short = rw (← c.entries.ensures.entries) at c.entries.ensures.list.short in
    omega (arith, time_of-le c.args.octet c.entries.result.now)
