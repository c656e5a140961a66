-- The output of a run that searches, in which no read failed: the texts of its two files, and a line.
--     line_alone, printed            what such a run has to print
--     certificate_of, written_in     the certificate that is to be written, if any
--     cert_bytes, written_bytes      its text, where one is written
--     HasForm, HasFormIfAny          a tree whose nodes have a form in a file
--     IsCut                          what is printed where memory is refused for a node of a tree, or for an argument
--     IsPrinted, IsShown             what a run of `plan` prints, and one of `prove`
--     Knows                          what is told as a value is the run's output
--     ComesPrinted                   how far a run of `plan` has come
use Rattle.std.specs.Global.{Global}
use Rattle.std.specs.Prelude.{◌≡◌, ◌⊎◌, ℕ, List, [], ◌∷◌, take, codes, string_bytes, String, Option, None, Some, IfOk, IfSome, Result, Ok, Err}
use Rattle.tsn_cli.specs.declared.run_output.RunOutput.{RunOutput}
use Rattle.tsn_cli.specs.declared.run_output.Written.{Written}
use Rattle.tsn_cli.specs.declared.run_output.Written.TheVariants.{Spelled, Argued}
use Rattle.tsn_device.specs.declared.device.ReadFault.{ReadFault}
use Rattle.tsn_cert.specs.declared.certificate.Certificate.{Certificate}
use Rattle.tsn_cert.specs.declared.certificate.Certificate.TheVariants.{Tree, Argument}
use Rattle.tsn_cert.specs.Laws.{AreInGrammar}
use Rattle.tsn_cert.specs.Certificate.{certificate_text}
use Rattle.tsn_outcome.specs.declared.outcome.Outcome.{Outcome}
use Rattle.tsn_outcome.specs.Run.{Command, IsOutput, Output, SourceRun, readings_of}
use Rattle.tsn_outcome.specs.Said.{line_of, status_of}
use Rattle.tsn_outcome.specs.Outcome.{ComesOver, outcome_of}

-- the line of an outcome, with nothing in the other texts
abbrev pub line_alone : Outcome → Output
line_alone outcome = record { status = status_of outcome; texts = [] ∷ [] ∷ line_of outcome ∷ [] }

-- what such a run has to print, by the text of what goes to its second file
abbrev pub printed : {S : Type 0} → (S → List ℕ) → Result (RunOutput S) ReadFault → Output
printed text (Ok output) = record {
  status = status_of output.answer.outcome;
  texts = string_bytes output.first ∷ text output.second ∷ line_of output.answer.outcome ∷ [];
}
printed text (Err fault) = line_alone (outcome_of (Err fault))

-- the certificate that is to be written
abbrev pub certificate_of : Written → Certificate
certificate_of (Spelled cert) = Tree cert
certificate_of (Argued argument) = Argument argument

-- the same, if any is
abbrev pub written_in : Option Written → Option Certificate
written_in None = None
written_in (Some written) = Some (certificate_of written)

-- the text of a certificate, where one is written
abbrev pub cert_bytes : Option Certificate → List ℕ
cert_bytes None = []
cert_bytes (Some certificate) = certificate_text certificate

abbrev pub written_bytes : Option Written → List ℕ
written_bytes written = cert_bytes (written_in written)

-- the grammar of files has the nodes of a tree
abbrev pub HasForm : Certificate → Type 0
HasForm (Tree cert) = AreInGrammar cert.nodes
HasForm (Argument argument) = Unit {0}

-- the same of a certificate that is written, if any is
abbrev pub HasFormIfAny : Option Certificate → Type 0
HasFormIfAny None = Unit {0}
HasFormIfAny (Some certificate) = HasForm certificate

-- the plan, a beginning of the certificate, and the line that says that memory was refused
abbrev pub IsCut : List ℕ → Option Certificate → Output → Type 0
IsCut plan None output = ⊥
IsCut plan (Some certificate) output =
    (n : ℕ) × (output ≡ record { status = 7; texts = plan ∷ take n (certificate_text certificate) ∷ codes "no memory\n" ∷ [] })

-- what a run of `plan` prints: that, with a certificate that has a form in a file; or as much of it as there is memory for
abbrev pub IsPrinted : Result (RunOutput (Option Written)) ReadFault → Output → Type 0
IsPrinted (Ok output) shown =
    ((shown ≡ printed written_bytes (Ok output)) × HasFormIfAny (written_in output.second))
    ⊎ IsCut (string_bytes output.first) (written_in output.second) shown
IsPrinted (Err fault) shown = shown ≡ printed written_bytes (Err fault)

-- and one of `prove`
abbrev pub IsShown : Result (RunOutput (String Global)) ReadFault → Output → Type 0
IsShown outcome shown = shown ≡ printed string_bytes outcome

-- where the outcome has such a value, what is printed is the output of a run that answers it
abbrev pub Knows : {S X : Type 0} → (S → List ℕ) → (Outcome → Option X) → (X → Command) → List SourceRun → Result (RunOutput S) ReadFault → Type 0
Knows text value told sources outcome =
    IfOk outcome (λ output. IfSome (value output.answer.outcome) (λ x. IsOutput (told x) (readings_of sources) (printed text (Ok output))))

-- how far a run of `plan` has come with this: whatever is printed of it is its output
abbrev pub ComesPrinted : Command → List SourceRun → Result (RunOutput (Option Written)) ReadFault → Type 0
ComesPrinted command sources (Ok output) = (shown : Output) → IsPrinted (Ok output) shown → ComesOver (λ o. shown) command sources (Ok output)
ComesPrinted command sources (Err fault) = ComesOver (printed written_bytes) command sources (Err fault)
