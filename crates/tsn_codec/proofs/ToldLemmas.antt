-- What is told of a refused file is so.
use Rattle.std.proofs.Common.{◌≡◌, ℕ, List, Bool, true, false, Option, Some, None, Result, Ok, Err, IfErr, codes, refl, sym, ap, ◌∙◌, subst, inl, inr}
use Rattle.std.proofs.lemmas.Bool.{eqb-true}
use Rattle.std.specs.Prelude.{option_and_then, option_map, unwrap_or, ◌==◌, if◌then◌else◌}
use Rattle.serde_json.specs.Data.{Data, Members, null}
use Rattle.serde_json.specs.Find.{as_object, get}
use Rattle.tsn_cert.specs.Json.{value_of, when, whole_number, is_object_of, member_count}
use Rattle.tsn_cert.specs.Fault.{named, shaped, answer, FaultGiven}
use Rattle.tsn_cert.specs.Told.{code_of, Tells}
use Rattle.tsn_cert.specs.declared.fault.FileFault.{FileFault}
use Rattle.tsn_cert.specs.declared.fault.FileFault.TheVariants as fault
use Rattle.tsn_cert.specs.Cert.{cert_of, cert_fits}
use Rattle.tsn_cert.specs.Argument.{argument_of, argument_of_values, argument_format, argument_fits, steps_in, goal_of}
use Rattle.tsn_cert.specs.Certificate.{certificate_of, certificate_fits, certificate_in, tree_or}
use Rattle.tsn_cert.specs.declared.cert.Cert.{Cert}
use Rattle.tsn_cert.specs.declared.argument.Argument.{Argument}
use Rattle.tsn_cert.specs.declared.certificate.Certificate.{Certificate}
use Rattle.tsn_cert.specs.declared.certificate.Certificate.TheVariants as kind
use Rattle.tsn_cert.specs.declared.refused.Excess.{Excess}
use Rattle.tsn_cert.specs.declared.refused.Misfit.{Misfit}
use Rattle.tsn_cert.specs.declared.refused.Refused.{Refused}
use Rattle.tsn_cert.specs.declared.refused.Refused.TheVariants.{NotJson, WrongShape, NumberTooLarge, Memory}
use Rattle.tsn_codec.specs.Matter.{IsWhy, IsToldOf, IsToldOfCertificate, IsTreeExcess, IsArgumentExcess, IsOfArgument, IsArgumentMisfit, IsTreeMisfit, IsMisfit}
use Rattle.tsn_codec.proofs.JsonLemmas.{named_ok}
use Rattle.tsn_codec.proofs.Plain.{followed}
use Rattle.tsn_codec.proofs.Misfits.{why_up}

module _ {A : Type 0} (grammar : Data → Option A) (IsOther : Data → Misfit → Type 0) (Exceeds : A → Excess → Type 0) (bytes : List ℕ) where
  pub misfit_told : (d : Data) (r : Refused) → named fault.NotJson (value_of bytes) ≡ Ok d → IsWhy (IsOther d) r → IsToldOf grammar IsOther Exceeds bytes r
  misfit_told d (NotJson e) is h = tt
  misfit_told d (WrongShape m) is h = (d, named_ok fault.NotJson (value_of bytes) d is, h)
  misfit_told d (NumberTooLarge e) is h = absurd h
  misfit_told d Memory is h = tt

-- what is above its limit in what is said is told
pub large_told : {A B : Type 0} (grammar : Data → Option A) (IsOther : Data → Misfit → Type 0) (Exceeds : A → Excess → Type 0) (bytes : List ℕ) (d : Data)
    (said : A) (r : Result B Refused) → named fault.NotJson (value_of bytes) ≡ Ok d → named fault.WrongShape (grammar d) ≡ Ok said
    → IfErr r (λ refused. (e : Excess) × (refused ≡ NumberTooLarge e) × Exceeds said e) → IfErr r (IsToldOf grammar IsOther Exceeds bytes)
large_told grammar IsOther Exceeds bytes d said (Ok x) is read h = h
large_told grammar IsOther Exceeds bytes d said (Err r) is read h =
    subst (IsToldOf grammar IsOther Exceeds bytes) (sym h.1)
    (d, said, named_ok fault.NotJson (value_of bytes) d is, named_ok fault.WrongShape (grammar d) said read, h.2)

four_not_three : (o : Option Members) → unwrap_or (option_map (λ ms. member_count ms == 4) o) false ≡ true
    → unwrap_or (option_map (λ ms. member_count ms == 3) o) false ≡ false
four_not_three None h = refl
four_not_three (Some ms) h = ap (λ n. n == 3) (eqb-true (member_count ms) 4 h)

when_some : {A : Type 0} (b : Bool) (o : Option A) (x : A) → when b o ≡ Some x → b ≡ true
when_some true o x h = refl
when_some false o x h = absurd (cc)

when_off : {A : Type 0} (b : Bool) (o : Option A) → b ≡ false → when b o ≡ None
when_off true o e = absurd (cc)
when_off false o e = refl

-- an argument is no tree
argument_alone : (d : Data) (a : Argument) → argument_of d ≡ Some a → cert_of d ≡ None
argument_alone d a h =
    let four : is_object_of 4 d ≡ true = when_some (is_object_of 4 d) _ a h in
    let three : is_object_of 3 d ≡ false = four_not_three (as_object d) four in
    when_off (is_object_of 3 d) _ three

pub tree_said : (d : Data) (cert : Cert) → cert_of d ≡ Some cert → certificate_of d ≡ Some (kind.Tree cert)
tree_said d cert h = ap (λ o. tree_or o (argument_of d)) h

pub argument_is_said : (d : Data) (a : Argument) → argument_of d ≡ Some a → certificate_of d ≡ Some (kind.Argument a)
argument_is_said d a h = ap (λ o. tree_or o (argument_of d)) (argument_alone d a h) ∙ ap (option_map kind.Argument) h

-- one of either kind, where its numbers are within their limits
within_if : {A B : Type 0} (f : A → B) (fits : Bool) (x y : A) → (if fits then Ok x else Err fault.NumberTooLarge) ≡ Ok y
    → (if fits then Ok (f x) else Err fault.NumberTooLarge) ≡ Ok (f y)
within_if f true x y e = let same : x ≡ y = cc in ap (λ x. Ok (f x)) same
within_if f false x y e = absurd (cc)

above_if : {A B : Type 0} (f : A → B) (fits : Bool) (x : A) (e : FileFault) → FaultGiven e (if fits then Ok x else Err fault.NumberTooLarge)
    → FaultGiven e (if fits then Ok (f x) else Err fault.NumberTooLarge)
above_if f fits x fault.Memory h = tt
above_if f true x fault.NotJson h = absurd (cc)
above_if f true x fault.WrongShape h = absurd (cc)
above_if f true x fault.NumberTooLarge h = absurd (cc)
above_if f false x fault.NotJson h = absurd (cc)
above_if f false x fault.WrongShape h = absurd (cc)
above_if f false x fault.NumberTooLarge h = refl

pub tree_fits : (cert found : Cert) → shaped cert_fits (Some cert) ≡ Ok found → shaped certificate_fits (Some (kind.Tree cert)) ≡ Ok (kind.Tree found)
tree_fits cert found e = within_if kind.Tree (cert_fits cert) cert found e

pub tree_large : (cert : Cert) (r : Refused) → FaultGiven (code_of r) (shaped cert_fits (Some cert))
    → FaultGiven (code_of r) (shaped certificate_fits (Some (kind.Tree cert)))
tree_large cert r h = above_if kind.Tree (cert_fits cert) cert (code_of r) h

pub argument_within : (a found : Argument) → shaped argument_fits (Some a) ≡ Ok found
    → shaped certificate_fits (Some (kind.Argument a)) ≡ Ok (kind.Argument found)
argument_within a found e = within_if kind.Argument (argument_fits a) a found e

pub argument_large : (a : Argument) (r : Refused) → FaultGiven (code_of r) (shaped argument_fits (Some a))
    → FaultGiven (code_of r) (shaped certificate_fits (Some (kind.Argument a)))
argument_large a r h = above_if kind.Argument (argument_fits a) a (code_of r) h

-- what a file of one says
pub tree_answered : (bytes : List ℕ) (cert : Cert) (r : Result Certificate Refused) → option_and_then cert_of (value_of bytes) ≡ Some cert
    → Tells (λ c. c) r (shaped certificate_fits (Some (kind.Tree cert))) → Tells (λ c. c) r (certificate_in bytes)
tree_answered bytes cert r said h =
    let p = followed cert_of (value_of bytes) cert said in
    let is : certificate_in bytes ≡ shaped certificate_fits (Some (kind.Tree cert)) =
    ap (answer certificate_of certificate_fits) p.1 ∙ ap (shaped certificate_fits) (tree_said p.0 cert p.2) in
    subst (Tells (λ c. c) r) (sym is) h

pub argument_answered : (bytes : List ℕ) (a : Argument) (r : Result Certificate Refused) → option_and_then argument_of (value_of bytes) ≡ Some a
    → Tells (λ c. c) r (shaped certificate_fits (Some (kind.Argument a))) → Tells (λ c. c) r (certificate_in bytes)
argument_answered bytes a r said h =
    let p = followed argument_of (value_of bytes) a said in
    let is : certificate_in bytes ≡ shaped certificate_fits (Some (kind.Argument a)) =
    ap (answer certificate_of certificate_fits) p.1 ∙ ap (shaped certificate_fits) (argument_is_said p.0 a p.2) in
    subst (Tells (λ c. c) r) (sym is) h

pub tree_limited : (bytes : List ℕ) (cert : Cert) (r : Result Certificate Refused) → option_and_then cert_of (value_of bytes) ≡ Some cert
    → IfErr r (λ refused. (e : Excess) × (refused ≡ NumberTooLarge e) × IsTreeExcess cert e) → IfErr r (IsToldOfCertificate bytes)
tree_limited bytes cert (Ok c) said h = h
tree_limited bytes cert (Err r) said h =
    let p = followed cert_of (value_of bytes) cert said in
    subst (IsToldOfCertificate bytes) (sym h.1) (p.0, kind.Tree cert, p.1, tree_said p.0 cert p.2, h.2)

pub argument_limited : (bytes : List ℕ) (a : Argument) (r : Result Certificate Refused) → option_and_then argument_of (value_of bytes) ≡ Some a
    → IfErr r (λ refused. (e : Excess) × (refused ≡ NumberTooLarge e) × IsArgumentExcess a e) → IfErr r (IsToldOfCertificate bytes)
argument_limited bytes a (Ok c) said h = h
argument_limited bytes a (Err r) said h =
    let p = followed argument_of (value_of bytes) a said in
    subst (IsToldOfCertificate bytes) (sym h.1) (p.0, kind.Argument a, p.1, argument_is_said p.0 a p.2, h.2)

pub read_said : {A : Type 0} (grammar : Data → Option A) (bytes : List ℕ) (d : Data) (x : A) → named fault.NotJson (value_of bytes) ≡ Ok d
    → named fault.WrongShape (grammar d) ≡ Ok x → option_and_then grammar (value_of bytes) ≡ Some x
read_said grammar bytes d x is said =
    ap (option_and_then grammar) (named_ok fault.NotJson (value_of bytes) d is) ∙ named_ok fault.WrongShape (grammar d) x said

-- ---- which kind's misfit is told

pub as_tree : (d : Data) (m : Misfit) → (IsOfArgument d → ⊥) → IsTreeMisfit d m → IsMisfit d m
as_tree d m other h = inr (other, h)

pub as_argument : (d : Data) → IsOfArgument d → (r : Refused) → IsWhy (IsArgumentMisfit d) r → IsWhy (IsMisfit d) r
as_argument d is r h = why_up (λ m h. inl (is, h)) r h

when_there : {A : Type 0} (b : Bool) (o : Option A) (x : A) → when b o ≡ Some x → o ≡ Some x
when_there true o x h = h
when_there false o x h = absurd (cc)

-- what says an argument tells that it is one
of_argument : (d : Data) (a : Argument) → argument_of d ≡ Some a → IsOfArgument d
of_argument d a h =
    let inside = when_there (is_object_of 4 d) _ a h in
    let f = followed (λ format. option_and_then (λ goal. option_and_then (λ steps. option_and_then (λ target. argument_of_values format goal steps target)
    (get (codes "target") d)) (get (codes "steps") d)) (get (codes "goal") d)) (get (codes "format") d) a inside in
    let g = followed (λ goal. option_and_then (λ steps. option_and_then (λ target. argument_of_values f.0 goal steps target)
    (get (codes "target") d)) (get (codes "steps") d)) (get (codes "goal") d) a f.2 in
    let s = followed (λ steps. option_and_then (λ target. argument_of_values f.0 g.0 steps target) (get (codes "target") d)) (get (codes "steps") d) a g.2 in
    let t = followed (λ target. argument_of_values f.0 g.0 s.0 target) (get (codes "target") d) a s.2 in
    let n = followed (λ k. when (k == argument_format) (option_and_then (λ g. option_and_then (λ ss. option_and_then (λ t.
    Some (record { goal = g; target = t; steps = ss })) (whole_number t.0)) (steps_in s.0)) (goal_of g.0))) (whole_number f.0) a t.2 in
    let three : n.0 ≡ argument_format = eqb-true n.0 argument_format (when_some (n.0 == argument_format) _ a n.2) in
    ap (λ o. whole_number (unwrap_or o null)) f.1 ∙ n.1 ∙ ap Some three

no_argument_at : (d : Data) → (IsOfArgument d → ⊥) → (o : Option Argument) → argument_of d ≡ o → named fault.WrongShape o ≡ Err fault.WrongShape
no_argument_at d other None e = refl
no_argument_at d other (Some a) e = absurd (other (of_argument d a e))

pub not_argument : (d : Data) → (IsOfArgument d → ⊥) → named fault.WrongShape (argument_of d) ≡ Err fault.WrongShape
not_argument d other = no_argument_at d other (argument_of d) refl

pub argument_why : (d : Data) → IsOfArgument d → (r : Result Argument Refused) → IfErr r (IsWhy (IsArgumentMisfit d)) → IfErr r (IsWhy (IsMisfit d))
argument_why d is (Ok a) h = h
argument_why d is (Err r) h = as_argument d is r h
