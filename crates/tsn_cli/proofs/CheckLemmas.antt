-- A file that is taken isn't refused.
use Rattle.std.proofs.Common.{rules, true, false, ◌≡◌, inl, inr, ℕ, List, [], ◌∷◌, Option, Some, Result, Ok, Err, refl, sym, ap, ◌∙◌}
use Rattle.std.proofs.lemmas.Option.{none-some, same_Some}
use Rattle.tsn_net.specs.File.{States, HasFault}
use Rattle.tsn_model.specs.declared.fault.NetFault.{NetFault}
use Rattle.tsn_timing.specs.Problem.{NamedNetwork}
use Rattle.tsn_net.specs.Conditions.{fault_of}
use Rattle.tsn_cert.specs.declared.fault.FileFault.{FileFault}
use Rattle.tsn_cert.specs.declared.fault.FileFault.TheVariants.{NotJson, WrongShape, NumberTooLarge, Memory}
use Rattle.tsn_cert.specs.Fault.{FaultGiven}
use Rattle.tsn_cert.specs.declared.plan.Plan.{Plan}
use Rattle.tsn_cert.specs.Plan.{plan_in}
use Rattle.tsn_outcome.specs.Run.{GoesOn, Output}
use Rattle.tsn_cli.specs.Refusal.{RefusesPlan}
use Rattle.tsn_cli.specs.Check.{CheckAnswers}

stated_has_no_fault : (file : List ℕ) (problem : NamedNetwork) (fault : NetFault) → States file problem → HasFault file fault → ⊥
stated_has_no_fault file problem fault (d, spells, clear, made) (inl (is, none)) = none d spells
stated_has_no_fault file problem fault (d, (top, utf8, parsed, is), clear, made) (inr (e, (other, utf8e, parsede, ise), faulty)) =
    let same : e ≡ d = (rw (same_Some _ _ (sym parsede ∙ parsed)) at ise) ∙ sym is in
    none-some _ (sym clear ∙ ap fault_of (sym same) ∙ faulty)

-- to a network file that states a network `check` answers nothing
pub goes_on_after_network : (file : List ℕ) (problem : NamedNetwork) → States file problem → GoesOn CheckAnswers (file ∷ [])
goes_on_after_network file problem stated output (fault, has, line) = stated_has_no_fault file problem fault stated has

-- nor does it to a plan file that states a plan
pub plan_not_refused : (file : List ℕ) (stated : Plan) (output : Output) → plan_in file ≡ Ok stated → RefusesPlan file output → ⊥
plan_not_refused file stated output is (fault, refused, line) = cc

-- what a reader refused for another cause than memory is refused for that cause
pub fault_is : {A : Type 0} (fault : FileFault) (expected : Result A FileFault) → FaultGiven fault expected → (fault ≡ Memory → false ≡ true) → expected ≡ Err fault
fault_is fault expected given not_memory = search rules
