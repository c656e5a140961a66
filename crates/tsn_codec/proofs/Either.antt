-- What a file holds that is no tree.
use Rattle.std.proofs.Common.{◌≡◌, Option, Some, None, Ok, Err, refl, ap}
use Rattle.std.specs.Prelude.{option_and_then, option_map}
use Rattle.serde_json.specs.Data.{Data}
use Rattle.tsn_cert.specs.Fault.{named, answer, FaultGiven}
use Rattle.tsn_cert.specs.declared.fault.FileFault.{FileFault}
use Rattle.tsn_cert.specs.declared.fault.FileFault.TheVariants.{NotJson, WrongShape, NumberTooLarge, Memory}
use Rattle.tsn_cert.specs.Cert.{cert_of}
use Rattle.tsn_cert.specs.Argument.{argument_of}
use Rattle.tsn_cert.specs.Certificate.{certificate_of, certificate_fits, tree_or}
use Rattle.tsn_cert.specs.declared.certificate.Certificate.TheVariants as kind
use Rattle.tsn_codec.proofs.JsonLemmas.{answer_fault}

named_none : {A : Type 0} (o : Option A) → named WrongShape o ≡ Err WrongShape → o ≡ None
named_none None e = refl
named_none (Some x) e = cc

-- a value that is no tree is an argument or nothing
no_tree : (d : Data) → named WrongShape (cert_of d) ≡ Err WrongShape → certificate_of d ≡ option_map kind.Argument (argument_of d)
no_tree d e = ap (λ o. tree_or o (argument_of d)) (named_none (cert_of d) e)

pub behind_none : {A B : Type 0} (o : Option A) → option_and_then {U = B} (λ x. None) o ≡ None
behind_none None = refl
behind_none (Some x) = refl

-- a fault of a part is one of the whole
pub fault_kept : {A B : Type 0} (e : FileFault) (o : Option A) (w : Option B) → (o ≡ None → w ≡ None) → FaultGiven e (named WrongShape o)
    → FaultGiven e (named WrongShape w)
fault_kept Memory o w h f = tt
fault_kept WrongShape None w h f = ap (named WrongShape) (h refl)
fault_kept WrongShape (Some x) w h f = cc
fault_kept NotJson None w h f = cc
fault_kept NotJson (Some x) w h f = cc
fault_kept NumberTooLarge None w h f = cc
fault_kept NumberTooLarge (Some x) w h f = cc

pub other_fault : (o : Option Data) (d : Data) (e : FileFault) → named NotJson o ≡ Ok d → named WrongShape (cert_of d) ≡ Err WrongShape
    → FaultGiven e (named WrongShape (argument_of d)) → FaultGiven e (answer certificate_of certificate_fits o)
other_fault o d e is none h =
    answer_fault certificate_of certificate_fits o d e is
    (rw (no_tree d none) (fault_kept e (argument_of d) (option_map kind.Argument (argument_of d)) (λ none. ap (option_map kind.Argument) none) h))
