-- What is read, and told, of the values at the keys of an object.
use Rattle.std.proofs.Common.{◌≡◌, ◌≢◌, ℕ, List, Bool, true, false, Option, Some, None, Ok, Err, codes, refl, sym, ap, ◌∙◌, subst, string_bytes, String, Global}
use Rattle.std.specs.Prelude.{option_and_then, is_some, is_none, unwrap_or, ◌==◌}
use Rattle.serde_json.specs.Data.{Data, null, boolean, number, string, array, object}
use Rattle.serde_json.specs.Find.{get}
use Rattle.tsn_model.specs.Certificate.{Node}
use Rattle.tsn_cert.specs.Json.{when, whole_number, is_object_of}
use Rattle.tsn_cert.specs.Fault.{named, FaultGiven}
use Rattle.tsn_cert.specs.Told.{code_of}
use Rattle.tsn_cert.specs.declared.fault.FileFault.TheVariants as fault
use Rattle.tsn_cert.specs.Cert.{format_of, nodes_of, are_of, cert_of}
use Rattle.tsn_cert.specs.declared.cert.Cert.{Cert}
use Rattle.tsn_cert.specs.declared.cert.Format.{Format}
use Rattle.tsn_cert.specs.Argument.{goal_of, steps_in, argument_of, argument_format}
use Rattle.tsn_cert.specs.declared.argument.Goal.{Goal}
use Rattle.tsn_cert.specs.declared.step.Step.{Step}
use Rattle.tsn_cert.specs.declared.refused.Key.{Key}
use Rattle.tsn_cert.specs.declared.refused.Key.TheVariants as key
use Rattle.tsn_cert.specs.declared.refused.Misfit.{Misfit}
use Rattle.tsn_cert.specs.declared.refused.Misfit.TheVariants as misfit
use Rattle.tsn_cert.specs.declared.refused.Refused.{Refused}
use Rattle.tsn_cert.specs.declared.refused.Refused.TheVariants.{NotJson, WrongShape, NumberTooLarge, Memory}
use Rattle.tsn_codec.specs.Matter.{IsWhy, IsUnknown, IsObject, HasJust, IsRead, IsOfTree, IsOfArgument, IsNodesMisfit, IsTreeMisfit, IsStepsMisfit, IsArgumentMisfit, at, absent_key, other_name, tree_keys, argument_keys}
use Rattle.tsn_codec.specs.Places.{nodes_in}
use Rattle.tsn_codec.proofs.Either.{behind_none, fault_kept}
use Rattle.tsn_codec.proofs.JsonLemmas.{named_ok}
use Rattle.tsn_codec.proofs.Misfits.{why_up, nodes_up, steps_up}
use Rattle.tsn_codec.proofs.Objects.{cert_at, argument_at}

-- where nothing is read, and this is why
pub none_given : {A : Type 0} (P : Misfit → Type 0) (r : Refused) (o : Option A) → o ≡ None → IsWhy P r → FaultGiven (code_of r) (named fault.WrongShape o)
none_given P (NotJson e) o none h = absurd h
none_given P (WrongShape m) o none h = ap (named fault.WrongShape) none
none_given P (NumberTooLarge e) o none h = absurd h
none_given P Memory o none h = tt

none_named : {A : Type 0} (o : Option A) → named fault.WrongShape o ≡ Err fault.WrongShape → o ≡ None
none_named None e = refl
none_named (Some x) e = cc

pub none_read : {A : Type 0} (o : Option A) (r : Refused) (m : Misfit) → r ≡ WrongShape m → FaultGiven (code_of r) (named fault.WrongShape o) → o ≡ None
none_read o r m is h = none_named o (subst (λ r. FaultGiven (code_of r) (named fault.WrongShape o)) is h)

unknown_is : (keys : List Key) (d : Data) (P : Misfit → Type 0)
    → ((name : String Global) → other_name keys d ≡ Some (string_bytes name) → P (misfit.Unknown name))
    → (m : Misfit) → IsUnknown keys d m → P m
unknown_is keys d P f misfit.NoObject h = absurd h
unknown_is keys d P f misfit.OtherFormat h = absurd h
unknown_is keys d P f (misfit.Missing k) h = absurd h
unknown_is keys d P f (misfit.Unknown name) h = f name h
unknown_is keys d P f misfit.OneNull h = absurd h
unknown_is keys d P f misfit.OtherGoal h = absurd h
unknown_is keys d P f (misfit.NoNumber k) h = absurd h
unknown_is keys d P f (misfit.NoArray k) h = absurd h
unknown_is keys d P f (misfit.NoOffset n) h = absurd h
unknown_is keys d P f (misfit.NoNode n format) h = absurd h
unknown_is keys d P f (misfit.NoStep n) h = absurd h
unknown_is keys d P f (misfit.NoPart n it) h = absurd h

-- what has a member is an object
pub has_members : (k : List ℕ) (d x : Data) → get k d ≡ Some x → IsObject d
has_members k null x e = absurd (cc)
has_members k (boolean b) x e = absurd (cc)
has_members k (number n) x e = absurd (cc)
has_members k (string s) x e = absurd (cc)
has_members k (array ds) x e = absurd (cc)
has_members k (object ms) x e = refl

when_off : {A : Type 0} (b : Bool) (o : Option A) → b ≡ false → when b o ≡ None
when_off true o e = absurd (cc)
when_off false o e = refl

when_gone : {A : Type 0} (b : Bool) (o : Option A) → o ≡ None → when b o ≡ None
when_gone true o e = e
when_gone false o e = refl

behind_two : {A B C : Type 0} (o : Option A) (p : Option B) → option_and_then (λ x. option_and_then {U = C} (λ y. None) p) o ≡ None
behind_two None p = refl
behind_two (Some x) p = behind_none p

-- ---- trees

pub tree_other_count : (d : Data) → is_object_of 3 d ≡ false → cert_of d ≡ None
tree_other_count d e = when_off (is_object_of 3 d) _ e

pub tree_no_format : (d : Data) → get (codes "format") d ≡ None → cert_of d ≡ None
tree_no_format d e = when_gone (is_object_of 3 d) _ (rw e refl)

pub tree_format_told : (d : Data) → IsObject d → get (codes "format") d ≡ None → IsTreeMisfit d (misfit.Missing key.Format)
tree_format_told d is e = (is, rw e refl)

-- the format is there
format_there : (o : Option Data) → is_some (format_of (unwrap_or o null)) ≡ true → is_none o ≡ false
format_there None h = absurd (cc)
format_there (Some f) h = refl

pub tree_no_nodes : (d : Data) → get (codes "nodes") d ≡ None → cert_of d ≡ None
tree_no_nodes d e = when_gone (is_object_of 3 d) _ (rw e (behind_none (get (codes "format") d)))

pub tree_nodes_told : (d : Data) → IsOfTree d → get (codes "nodes") d ≡ None → IsTreeMisfit d (misfit.Missing key.Nodes)
tree_nodes_told d of e =
    let there : is_none (get (codes "format") d) ≡ false = format_there (get (codes "format") d) of in
    (of, rw (there, e) refl)

pub tree_no_target : (d : Data) → get (codes "target") d ≡ None → cert_of d ≡ None
tree_no_target d e = when_gone (is_object_of 3 d) _ (rw e (behind_two (get (codes "format") d) (get (codes "nodes") d)))

pub tree_target_told : (d n : Data) → IsOfTree d → get (codes "nodes") d ≡ Some n → get (codes "target") d ≡ None → IsTreeMisfit d (misfit.Missing key.Target)
tree_target_told d n of nodes e =
    let there : is_none (get (codes "format") d) ≡ false = format_there (get (codes "format") d) of in
    (of, rw (there, nodes, e) refl)

pub tree_all : (d n t : Data) → IsOfTree d → get (codes "nodes") d ≡ Some n → get (codes "target") d ≡ Some t → absent_key tree_keys d ≡ None
tree_all d n t of nodes target =
    let there : is_none (get (codes "format") d) ≡ false = format_there (get (codes "format") d) of in
    rw (there, nodes, target) refl

pub tree_unknown : (d : Data) → IsOfTree d → absent_key tree_keys d ≡ None → (r : Refused) → IsWhy (IsUnknown tree_keys d) r → IsWhy (IsTreeMisfit d) r
tree_unknown d of all r h = why_up (unknown_is tree_keys d (IsTreeMisfit d) (λ name other. (of, all, other))) r h

-- an object with the three keys, of this format, and what stands at the two others
abbrev pub Tree : Data → Format → Data → Data → Type 0
Tree d format n t =
    (format_of (at key.Format d) ≡ Some format) × HasJust tree_keys d × (get (codes "nodes") d ≡ Some n) × (get (codes "target") d ≡ Some t)

abbrev with_nodes : Format → List Node → ℕ → Option Cert
with_nodes format ns k = Some (record { format = format; target = k; nodes = ns })

tree_read : (d : Data) (format : Format) (n t : Data) → Tree d format n t
    → cert_of d ≡ option_and_then (λ ns. option_and_then (λ k. with_nodes format ns k) (whole_number t)) (nodes_in format n)
tree_read d format n t is = by_format (get (codes "format") d) refl
  where
    kept_if : (b : Bool) (ns : List Node) (k : Option ℕ)
        → option_and_then (λ k. when b (with_nodes format ns k)) k
        ≡ option_and_then (λ ns. option_and_then (λ k. with_nodes format ns k) k) (when b (Some ns))
    kept_if true ns k = refl
    kept_if false ns k = behind_none k

    kept : (ns : Option (List Node)) (k : Option ℕ)
        → option_and_then (λ ns. option_and_then (λ k. cert_at format ns k) k) ns
        ≡ option_and_then (λ ns. option_and_then (λ k. with_nodes format ns k) k)
        (option_and_then (λ ns. when (are_of format ns) (Some ns)) ns)
    kept None k = refl
    kept (Some ns) k = kept_if (are_of format ns) ns k

    by_format : (o : Option Data) → get (codes "format") d ≡ o
        → cert_of d ≡ option_and_then (λ ns. option_and_then (λ k. with_nodes format ns k) (whole_number t)) (nodes_in format n)
    by_format None e =
        let bad : None ≡ Some format = sym (ap (λ o. format_of (unwrap_or o null)) e) ∙ is.0 in
        absurd (cc)
    by_format (Some f) e =
        let read : format_of f ≡ Some format = sym (ap (λ o. format_of (unwrap_or o null)) e) ∙ is.0 in
        let three : is_object_of 3 d ≡ true = is.1.1 in
        rw (three, e, is.2, is.3, read) (kept (nodes_of n) (whole_number t))

pub tree_made : (d : Data) (format : Format) (n t : Data) (k : ℕ) (ns : List Node) → Tree d format n t
    → named fault.WrongShape (whole_number t) ≡ Ok k → named fault.WrongShape (nodes_in format n) ≡ Ok ns
    → named fault.WrongShape (cert_of d) ≡ Ok (record { format = format; target = k; nodes = ns })
tree_made d format n t k ns is target nodes =
    ap (named fault.WrongShape) (
    tree_read d format n t is
    ∙ ap (λ o. option_and_then (λ ns. option_and_then (λ k. with_nodes format ns k) (whole_number t)) o)
    (named_ok fault.WrongShape (nodes_in format n) ns nodes)
    ∙ ap (λ o. option_and_then (λ k. with_nodes format ns k) o) (named_ok fault.WrongShape (whole_number t) k target)
    )

pub tree_no_number : (d : Data) (format : Format) (n t : Data) → Tree d format n t → whole_number t ≡ None → cert_of d ≡ None
tree_no_number d format n t is none =
    tree_read d format n t is
    ∙ ap (λ k. option_and_then (λ ns. option_and_then (λ k. with_nodes format ns k) k) (nodes_in format n)) none
    ∙ behind_none (nodes_in format n)

of_tree : (d : Data) (format : Format) (n t : Data) → Tree d format n t → IsOfTree d
of_tree d format n t is = ap is_some is.0

pub tree_number_told : (d : Data) (format : Format) (n t : Data) → Tree d format n t → whole_number t ≡ None → IsTreeMisfit d (misfit.NoNumber key.Target)
tree_number_told d format n t is none = (of_tree d format n t is, is.1, ap (λ o. whole_number (unwrap_or o null)) is.3 ∙ none)

pub tree_fault : (d : Data) (format : Format) (n t : Data) (r : Refused) → Tree d format n t
    → FaultGiven (code_of r) (named fault.WrongShape (nodes_in format n)) → FaultGiven (code_of r) (named fault.WrongShape (cert_of d))
tree_fault d format n t r is f =
    fault_kept (code_of r) (nodes_in format n) (cert_of d) (
    λ none. tree_read d format n t is
    ∙ ap (λ o. option_and_then (λ ns. option_and_then (λ k. with_nodes format ns k) (whole_number t)) o) none
    ) f

pub tree_why : (d : Data) (format : Format) (n t : Data) (k : ℕ) (r : Refused) → Tree d format n t → named fault.WrongShape (whole_number t) ≡ Ok k
    → IsWhy (IsNodesMisfit format n) r → IsWhy (IsTreeMisfit d) r
tree_why d format n t k r is read h =
    let target : IsRead (whole_number (at key.Target d)) =
    ap (λ o. is_some (whole_number (unwrap_or o null))) is.3 ∙ ap is_some (named_ok fault.WrongShape (whole_number t) k read) in
    let same : n ≡ at key.Nodes d = sym (ap (λ o. unwrap_or o null) is.2) in
    why_up (λ m g. nodes_up d format (is.0, is.1, target) m (subst (λ v. IsNodesMisfit format v m) same g)) r h

-- ---- arguments

pub argument_other_count : (d : Data) → is_object_of 4 d ≡ false → argument_of d ≡ None
argument_other_count d e = when_off (is_object_of 4 d) _ e

pub argument_no_format : (d : Data) → get (codes "format") d ≡ None → argument_of d ≡ None
argument_no_format d e = when_gone (is_object_of 4 d) _ (rw e refl)

pub argument_format_told : (d : Data) → IsObject d → get (codes "format") d ≡ None → IsArgumentMisfit d (misfit.Missing key.Format)
argument_format_told d is e = (is, rw e refl)

behind_three : {A B C D : Type 0} (o : Option A) (p : Option B) (q : Option C)
    → option_and_then (λ x. option_and_then (λ y. option_and_then {U = D} (λ z. None) q) p) o ≡ None
behind_three None p q = refl
behind_three (Some x) p q = behind_two p q

pub argument_no_number : (d f : Data) → get (codes "format") d ≡ Some f → whole_number f ≡ None → argument_of d ≡ None
argument_no_number d f e none =
    when_gone (is_object_of 4 d) _ (rw (e, none) (behind_three (get (codes "goal") d) (get (codes "steps") d) (get (codes "target") d)))

pub argument_number_told : (d f : Data) → get (codes "format") d ≡ Some f → whole_number f ≡ None → IsArgumentMisfit d (misfit.NoNumber key.Format)
argument_number_told d f e none = (ap is_some e, ap (λ o. whole_number (unwrap_or o null)) e ∙ none)

pub argument_other_format : (d f : Data) (k : ℕ) → get (codes "format") d ≡ Some f → whole_number f ≡ Some k → (k == argument_format) ≡ false
    → argument_of d ≡ None
argument_other_format d f k e read other =
    when_gone (is_object_of 4 d) _ (rw (e, read, other) (behind_three (get (codes "goal") d) (get (codes "steps") d) (get (codes "target") d)))

pub argument_other_told : (d f : Data) (k : ℕ) → get (codes "format") d ≡ Some f → whole_number f ≡ Some k → k ≢ argument_format
    → IsArgumentMisfit d misfit.OtherFormat
argument_other_told d f k e read other = (k, ap (λ o. whole_number (unwrap_or o null)) e ∙ read, other)

pub of_argument_at : (d f : Data) (k : ℕ) → get (codes "format") d ≡ Some f → whole_number f ≡ Some k → k ≡ argument_format → IsOfArgument d
of_argument_at d f k e read three = ap (λ o. whole_number (unwrap_or o null)) e ∙ read ∙ ap Some three

number_there : (o : Option Data) (k : ℕ) → whole_number (unwrap_or o null) ≡ Some k → is_none o ≡ false
number_there None k h = absurd (cc)
number_there (Some f) k h = refl

pub argument_no_goal : (d : Data) → get (codes "goal") d ≡ None → argument_of d ≡ None
argument_no_goal d e = when_gone (is_object_of 4 d) _ (rw e (behind_none (get (codes "format") d)))

pub argument_goal_told : (d : Data) → IsOfArgument d → get (codes "goal") d ≡ None → IsArgumentMisfit d (misfit.Missing key.Goal)
argument_goal_told d of e =
    let there : is_none (get (codes "format") d) ≡ false = number_there (get (codes "format") d) argument_format of in
    (of, rw (there, e) refl)

pub argument_no_steps : (d : Data) → get (codes "steps") d ≡ None → argument_of d ≡ None
argument_no_steps d e = when_gone (is_object_of 4 d) _ (rw e (behind_two (get (codes "format") d) (get (codes "goal") d)))

pub argument_steps_told : (d g : Data) → IsOfArgument d → get (codes "goal") d ≡ Some g → get (codes "steps") d ≡ None
    → IsArgumentMisfit d (misfit.Missing key.Steps)
argument_steps_told d g of goal e =
    let there : is_none (get (codes "format") d) ≡ false = number_there (get (codes "format") d) argument_format of in
    (of, rw (there, goal, e) refl)

pub argument_no_target : (d : Data) → get (codes "target") d ≡ None → argument_of d ≡ None
argument_no_target d e =
    when_gone (is_object_of 4 d) _ (rw e (behind_three (get (codes "format") d) (get (codes "goal") d) (get (codes "steps") d)))

pub argument_target_told : (d g s : Data) → IsOfArgument d → get (codes "goal") d ≡ Some g → get (codes "steps") d ≡ Some s → get (codes "target") d ≡ None
    → IsArgumentMisfit d (misfit.Missing key.Target)
argument_target_told d g s of goal steps e =
    let there : is_none (get (codes "format") d) ≡ false = number_there (get (codes "format") d) argument_format of in
    (of, rw (there, goal, steps, e) refl)

pub argument_all : (d g s t : Data) → IsOfArgument d → get (codes "goal") d ≡ Some g → get (codes "steps") d ≡ Some s → get (codes "target") d ≡ Some t
    → absent_key argument_keys d ≡ None
argument_all d g s t of goal steps target =
    let there : is_none (get (codes "format") d) ≡ false = number_there (get (codes "format") d) argument_format of in
    rw (there, goal, steps, target) refl

pub argument_unknown : (d : Data) → IsOfArgument d → absent_key argument_keys d ≡ None → (r : Refused) → IsWhy (IsUnknown argument_keys d) r
    → IsWhy (IsArgumentMisfit d) r
argument_unknown d of all r h = why_up (unknown_is argument_keys d (IsArgumentMisfit d) (λ name other. (of, all, other))) r h

-- an object with the four keys that tells that it is an argument, and what stands at the three others
abbrev pub Parts : Data → Data → Data → Data → Type 0
Parts d g s t =
    IsOfArgument d × HasJust argument_keys d × (get (codes "goal") d ≡ Some g) × (get (codes "steps") d ≡ Some s) × (get (codes "target") d ≡ Some t)

argument_read : (d g s t : Data) → Parts d g s t
    → argument_of d ≡ option_and_then (λ a. option_and_then (λ b. option_and_then (λ c. argument_at a b c) (whole_number t)) (steps_in s)) (goal_of g)
argument_read d g s t is = by_format (get (codes "format") d) refl
  where
    by_format : (o : Option Data) → get (codes "format") d ≡ o
        → argument_of d ≡ option_and_then (λ a. option_and_then (λ b. option_and_then (λ c. argument_at a b c) (whole_number t)) (steps_in s)) (goal_of g)
    by_format None e =
        let bad : None ≡ Some argument_format = sym (ap (λ o. whole_number (unwrap_or o null)) e) ∙ is.0 in
        absurd (cc)
    by_format (Some f) e =
        let read : whole_number f ≡ Some argument_format = sym (ap (λ o. whole_number (unwrap_or o null)) e) ∙ is.0 in
        let four : is_object_of 4 d ≡ true = is.1.1 in
        rw (four, e, is.2, is.3, is.4, read) refl

pub argument_made : (d g s t : Data) (goal : Goal) (steps : List Step) (k : ℕ) → Parts d g s t → named fault.WrongShape (goal_of g) ≡ Ok goal
    → named fault.WrongShape (whole_number t) ≡ Ok k → named fault.WrongShape (steps_in s) ≡ Ok steps
    → named fault.WrongShape (argument_of d) ≡ Ok (record { goal = goal; target = k; steps = steps })
argument_made d g s t goal steps k is aim target all =
    ap (named fault.WrongShape) (
    argument_read d g s t is
    ∙ ap (λ o. option_and_then (λ a. option_and_then (λ b. option_and_then (λ c. argument_at a b c) (whole_number t)) (steps_in s)) o)
    (named_ok fault.WrongShape (goal_of g) goal aim)
    ∙ ap (λ o. option_and_then (λ b. option_and_then (λ c. argument_at goal b c) (whole_number t)) o) (named_ok fault.WrongShape (steps_in s) steps all)
    ∙ ap (λ o. option_and_then (λ c. argument_at goal steps c) o) (named_ok fault.WrongShape (whole_number t) k target)
    )

pub argument_other_goal : (d g s t : Data) → Parts d g s t → goal_of g ≡ None → argument_of d ≡ None
argument_other_goal d g s t is none =
    argument_read d g s t is
    ∙ ap (λ o. option_and_then (λ a. option_and_then (λ b. option_and_then (λ c. argument_at a b c) (whole_number t)) (steps_in s)) o) none

pub argument_other_goal_told : (d g s t : Data) → Parts d g s t → goal_of g ≡ None → IsArgumentMisfit d misfit.OtherGoal
argument_other_goal_told d g s t is none = (is.0, is.1, ap (λ o. goal_of (unwrap_or o null)) is.2 ∙ none)

pub argument_no_time : (d g s t : Data) → Parts d g s t → whole_number t ≡ None → argument_of d ≡ None
argument_no_time d g s t is none =
    argument_read d g s t is
    ∙ ap (λ k. option_and_then (λ a. option_and_then (λ b. option_and_then (λ c. argument_at a b c) k) (steps_in s)) (goal_of g)) none
    ∙ behind_two (goal_of g) (steps_in s)

goal_read : (d g s t : Data) (goal : Goal) → Parts d g s t → named fault.WrongShape (goal_of g) ≡ Ok goal → IsRead (goal_of (at key.Goal d))
goal_read d g s t goal is aim =
    ap (λ o. is_some (goal_of (unwrap_or o null))) is.2 ∙ ap is_some (named_ok fault.WrongShape (goal_of g) goal aim)

pub argument_time_told : (d g s t : Data) (goal : Goal) → Parts d g s t → named fault.WrongShape (goal_of g) ≡ Ok goal → whole_number t ≡ None
    → IsArgumentMisfit d (misfit.NoNumber key.Target)
argument_time_told d g s t goal is aim none =
    (is.0, is.1, goal_read d g s t goal is aim, ap (λ o. whole_number (unwrap_or o null)) is.4 ∙ none)

pub argument_fault : (d g s t : Data) (r : Refused) → Parts d g s t → FaultGiven (code_of r) (named fault.WrongShape (steps_in s))
    → FaultGiven (code_of r) (named fault.WrongShape (argument_of d))
argument_fault d g s t r is f =
    fault_kept (code_of r) (steps_in s) (argument_of d) (
    λ none. argument_read d g s t is
    ∙ ap (λ o. option_and_then (λ a. option_and_then (λ b. option_and_then (λ c. argument_at a b c) (whole_number t)) o) (goal_of g)) none
    ∙ behind_none (goal_of g)
    ) f

pub argument_why : (d g s t : Data) (goal : Goal) (k : ℕ) (r : Refused) → Parts d g s t → named fault.WrongShape (goal_of g) ≡ Ok goal
    → named fault.WrongShape (whole_number t) ≡ Ok k → IsWhy (IsStepsMisfit s) r → IsWhy (IsArgumentMisfit d) r
argument_why d g s t goal k r is aim read h =
    let target : IsRead (whole_number (at key.Target d)) =
    ap (λ o. is_some (whole_number (unwrap_or o null))) is.4 ∙ ap is_some (named_ok fault.WrongShape (whole_number t) k read) in
    let same : s ≡ at key.Steps d = sym (ap (λ o. unwrap_or o null) is.3) in
    why_up (λ m p. steps_up d (is.0, is.1, goal_read d g s t goal is aim, target) m (subst (λ v. IsStepsMisfit v m) same p)) r h
