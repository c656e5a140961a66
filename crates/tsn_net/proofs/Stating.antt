-- What a file states, and that it states one problem alone.
use Rattle.std.proofs.Common.{◌≡◌, ◌⊎◌, ℕ, List, Some, None, Result, Ok, Err, inl, inr, sym, ap, ◌∙◌}
use Rattle.std.specs.Prelude.{IfOk, IfErr}
use Rattle.std.proofs.lemmas.Option.{none-some, same_Some}
use Rattle.toml.specs.Data.{Members, table}
use Rattle.tsn_net.specs.Document.{Document, document_of}
use Rattle.tsn_net.specs.Problem.{problem_of}
use Rattle.tsn_timing.specs.Problem.{NamedNetwork}
use Rattle.tsn_net.specs.Conditions.{fault_of}
use Rattle.tsn_net.specs.declared.read.Refused.{Refused}
use Rattle.tsn_net.specs.File.{Spells, States, HasFault, IsFaultless, out_of_memory}

-- it is the text of one document alone
spelled_once : (file : List ℕ) (d e : Document) → Spells file d → Spells file e → d ≡ e
spelled_once file d e first second =
    let tops = same_Some _ _ (sym first.2 ∙ second.2) in
    first.3 ∙ ap (λ (top : Members). document_of (table top)) tops ∙ sym second.3

pub stated_once : (file : List ℕ) (problem other : NamedNetwork) → States file problem → States file other → problem ≡ other
stated_once file problem other first second = first.3 ∙ ap problem_of (spelled_once file first.0 second.0 first.1 second.1) ∙ sym second.3

-- what is answered of the document is so of the file that spells it
module _ (file : List ℕ) (d : Document) (spelled : Spells file d) where
  pub file_states : (r : Result NamedNetwork Refused) → IfOk r (λ problem. (fault_of d ≡ None) × (problem ≡ problem_of d)) → IfOk r (States file)
  file_states (Ok problem) h = (d, spelled, h.0, h.1)
  file_states (Err refused) h = tt

  abbrev pub IsRefusal : Refused → Type 0
  IsRefusal refused = (refused.fault ≡ out_of_memory) ⊎ (fault_of d ≡ Some refused.fault)

  refusal : (refused : Refused) → IsRefusal refused → (refused.fault ≡ out_of_memory) ⊎ HasFault file refused.fault
  refusal refused (inl memory) = inl memory
  refusal refused (inr fault) = inr (inr (d, spelled, fault))

  pub file_refused : (r : Result NamedNetwork Refused) → IfErr r IsRefusal → IfErr r (λ refused. (refused.fault ≡ out_of_memory) ⊎ HasFault file refused.fault)
  file_refused (Ok problem) h = tt
  file_refused (Err refused) h = refusal refused h

  no_fault : (refused : Refused) → IsFaultless file → IsRefusal refused → refused.fault ≡ out_of_memory
  no_fault refused faultless (inl memory) = memory
  no_fault refused faultless (inr fault) =
      let same = spelled_once file faultless.0 d faultless.1 spelled in
      absurd (none-some refused.fault (sym faultless.2 ∙ ap fault_of same ∙ fault))

  pub file_accepted : (r : Result NamedNetwork Refused) → IsFaultless file → IfErr r IsRefusal → IfErr r (λ refused. refused.fault ≡ out_of_memory)
  file_accepted (Ok problem) faultless h = tt
  file_accepted (Err refused) faultless h = no_fault refused faultless h
