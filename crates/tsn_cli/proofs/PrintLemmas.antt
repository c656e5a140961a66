-- What a run of `plan` prints is what it has to print.
use Rattle.std.proofs.Common.{◌≡◌, ◌⊎◌, ℕ, true, false, List, [], ◌∷◌, take, codes, string_bytes, Option, None, Some, IsSome, Result, Ok, Err, OnOk, OnErr, is_err, inl, inr, refl, All, arith}
use Rattle.std.specs.Io.KnownBytes.{Appends}
use Rattle.std.proofs.lemmas.List.Elements.{All-nil, All-cons}
use Rattle.tsn_device.specs.declared.device.ReadFault.{ReadFault}
use Rattle.tsn_device.specs.declared.device.ReadFault.TheVariants.{Broken, TooLong, Memory}
use Rattle.tsn_cli.specs.declared.run_output.Written.{Written}
use Rattle.tsn_cli.specs.declared.run_output.RunOutput.{RunOutput}
use Rattle.tsn_outcome.specs.declared.outcome.Outcome.{Outcome}
use Rattle.tsn_outcome.specs.declared.outcome.Outcome.TheVariants as ends
use Rattle.tsn_outcome.specs.Run.{Output, IsUnwritten, SinkRun, writing_of}
use Rattle.tsn_outcome.specs.Said.{line_of, status_of}
use Rattle.tsn_outcome.specs.Outcome.{IsWrittenAs, line_taken, outcome_of}
use Rattle.tsn_cli.specs.Pieces.{IsCounted}
use Rattle.tsn_cli.specs.RunOutput.{HasFormIfAny, IsCut, IsPrinted, written_bytes, written_in}
use Rattle.tsn_outcome.proofs.RunLemmas.{Appends-nothing, Keeps-same, never_both}

-- what holds of an error, and of what is none
pub of_err : {A E : Type 0} {P : Type 0} (result : Result A E) → is_err result ≡ true → OnErr result P → P
of_err (Ok a) fails holds = cc
of_err (Err e) fails holds = holds

pub of_ok : {A E : Type 0} {P : Type 0} (result : Result A E) → is_err result ≡ false → OnOk result P → P
of_ok (Ok a) works holds = holds
of_ok (Err e) works holds = cc

-- The plan, and nothing of the certificate, are those of a run in which memory is refused, where there is a certificate; and else of one that is done.
abbrev early_outcome : Outcome → Option Written → Outcome
early_outcome outcome None = outcome
early_outcome outcome (Some written) = ends.NoMemory

abbrev early_of : Outcome → List ℕ → Option Written → Output
early_of outcome plan cert =
    record { status = status_of (early_outcome outcome cert); texts = plan ∷ [] ∷ line_of (early_outcome outcome cert) ∷ [] }

abbrev pub early : RunOutput (Option Written) → Output
early output = early_of output.answer.outcome (string_bytes output.first) output.second

early_is : (outcome : Outcome) (plan : List ℕ) (cert : Option Written)
    → ((early_of outcome plan cert ≡ record { status = status_of outcome; texts = plan ∷ written_bytes cert ∷ line_of outcome ∷ [] })
    × HasFormIfAny (written_in cert)) ⊎ IsCut plan (written_in cert) (early_of outcome plan cert)
early_is outcome plan None = inl (refl, tt)
early_is outcome plan (Some cert) = inr (0, refl)

pub is_early : (output : RunOutput (Option Written)) → IsPrinted (Ok output) (early output)
is_early output = early_is output.answer.outcome (string_bytes output.first) output.second

-- the plan, so many bytes of the certificate, and the line
abbrev cut : List ℕ → Option Written → ℕ → Output
cut plan cert n = record { status = 7; texts = plan ∷ take n (written_bytes cert) ∷ codes "no memory\n" ∷ [] }

is_cut : (plan : List ℕ) (cert : Option Written) (n : ℕ) → IsSome cert → IsCut plan (written_in cert) (cut plan cert n)
is_cut plan None n some = cc
is_cut plan (Some cert) n some = (n, refl)

-- how a run ends whose certificate wasn't written whole
pub cert_failed : (output : RunOutput (Option Written)) (plan cert : SinkRun) (fault : ReadFault) (n : ℕ) → IsSome output.second
    → Appends plan.writing.before plan.writing.after (string_bytes output.first) → plan.writes.after ≡ plan.writes.before
    → Appends cert.writing.before cert.writing.after (take n (written_bytes output.second))
    → IsCounted {A = Unit {0}} cert.writes.before cert.writes.after (Err fault)
    → IsWrittenAs IsPrinted (Ok output) (plan ∷ cert ∷ line_taken (line_of (outcome_of (Err fault))) ∷ []) (status_of (outcome_of (Err fault)))
cert_failed output plan cert TooLong n some whole kept part counted = absurd (counted.2 refl)
cert_failed output plan cert Memory n some whole kept part counted =
    let same : cert.writes.after ≡ cert.writes.before = counted.1 (λ is. cc) in
    record {
      whole = λ done. (cut (string_bytes output.first) output.second n, inr (is_cut _ _ n some), refl, (whole, (part, (refl, tt))), (kept, (same, refl)));
      unread = λ broken. absurd (never_both broken);
      device = λ device unbroken. absurd (omega (arith, device));
      beginning = λ failed. absurd (failed (omega (arith, kept, same)));
    }
cert_failed output plan cert Broken n some whole kept part counted = record {
  whole = λ done. absurd (done refl);
  unread = λ broken. absurd (never_both broken);
  device = λ device unbroken. omega (arith, kept, counted.0 refl);
  beginning = λ failed.
      (never_both, (cut (string_bytes output.first) output.second n, inr (is_cut _ _ n some), inr (whole, inr (part, inl (0, Appends-nothing (Some []), All-nil IsUnwritten)))));
}

-- a sink that was left alone
one_unwritten : (taken : Option (List ℕ)) → All IsUnwritten (writing_of taken taken ∷ [])
one_unwritten taken = All-cons IsUnwritten _ [] (Keeps-same taken) (All-nil IsUnwritten)

pub two_unwritten : (taken other : Option (List ℕ)) → All IsUnwritten (writing_of taken taken ∷ writing_of other other ∷ [])
two_unwritten taken other = All-cons IsUnwritten _ (writing_of other other ∷ []) (Keeps-same taken) (one_unwritten other)
