-- What is kept of a run while it goes on.
use Rattle.std.proofs.Common.{arith, ◌≡◌, ℕ, List, [], ◌∷◌, ◌++◌, Bool, true, false, IsTrue, Contains, true≢false, refl, sym, ap, subst}
use Rattle.tsn_model.specs.Network.{Network}
use Rattle.tsn_model.specs.Bridge.{Passage, BackgroundStart, BridgeRun, StartedAt}
use Rattle.tsn_replay.specs.declared.trace.Row.{Row}
use Rattle.tsn_replay.specs.Rows.{AreRows}
use Rattle.tsn_replay.specs.Progress.{Setting, AreStarts}
use Rattle.tsn_replay.specs.Records.{IsRecord, IsReplayed, noted}
use Rattle.tsn_replay.proofs.PassageStarts.{with_passage}
use Rattle.tsn_replay.proofs.BackgroundStarts.{with_background}

pub record_started : (keeps : Bool) (run starts : BridgeRun) (passage : Passage) (time : ℕ) → IsRecord keeps run starts → (trace : BridgeRun) → trace ≡ with_passage starts passage time → IsRecord keeps (with_passage run passage time) trace
record_started keeps run starts passage time is trace trace_is = grind (arith, with_passage)

noted_is : (keeps : Bool) (run starts : BridgeRun) (begun : BackgroundStart) → IsRecord keeps run starts → IsRecord keeps (with_background run begun) (noted keeps starts begun)
noted_is true run starts begun is = record { scheduled = is.scheduled; background = λ kept. ap (λ all. all ++ begun ∷ []) (is.background kept) }
noted_is false run starts begun is = record { scheduled = is.scheduled; background = λ kept. absurd (false_kept kept) } where
  false_kept : IsTrue false → ⊥
  false_kept kept = true≢false (sym kept)

pub record_sent : (keeps : Bool) (run starts : BridgeRun) (begun : BackgroundStart) → IsRecord keeps run starts → (trace : BridgeRun) → trace ≡ noted keeps starts begun → IsRecord keeps (with_background run begun) trace
record_sent keeps run starts begun is trace trace_is = subst (IsRecord keeps (with_background run begun)) (sym trace_is) (noted_is keeps run starts begun is)

-- ---- the rows

-- a passage starts in the run when it does by what is kept
module _ (keeps : Bool) (run starts : BridgeRun) (is : IsRecord keeps run starts) where
  pub started_kept : (passage : Passage) (t : ℕ) → StartedAt starts passage t → StartedAt run passage t
  started_kept passage t = subst (λ all. Contains all (record { passage = passage; time = t })) is.scheduled

  started_made : (passage : Passage) (t : ℕ) → StartedAt run passage t → StartedAt starts passage t
  started_made passage t = subst (λ all. Contains all (record { passage = passage; time = t })) (sym is.scheduled)

  rows_made : (network : Network) (offsets : List ℕ) (cycles : ℕ) (rows : List Row) → AreRows network offsets cycles starts rows → AreRows network offsets cycles run rows
  rows_made network offsets cycles rows are = record {
    passages = are.passages;
    right = λ k d below.
        let row = are.right k d below in
        record { planned_at = row.planned_at; started = λ t. let kept = row.started t in (λ at. started_kept _ t (kept.0 at), λ at. kept.1 (started_made _ t at)) };
  }

pub replayed_from : (setting : Setting) (starts : BridgeRun) (rows : List Row) → AreStarts setting starts → AreRows setting.network setting.offsets setting.cycles starts rows
    → IsReplayed setting.keeps setting.slack setting.network setting.offsets setting.gates setting.cycles setting.background
    (record { run = starts; rows = rows })
replayed_from setting starts rows are filled = record {
  made = are.made;
  records = are.records;
  ready = are.ready;
  early = are.early;
  exact = are.exact;
  fed = are.fed;
  rows = rows_made setting.keeps are.made starts are.records setting.network setting.offsets setting.cycles rows filled;
}

-- where all starts are kept, they are the run
pub all_kept : (run starts : BridgeRun) → IsRecord true run starts → run ≡ starts
all_kept run starts is = λ i. record { scheduled = sym is.scheduled i; background = sym (is.background refl) i }
