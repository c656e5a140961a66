-- Files in written form whose list is of another form are no certificates.
use Rattle.std.proofs.Common.{◌≡◌, ◌≤◌, ℕ, List, [], ◌∷◌, map, Bool, true, false, not, Option, Some, None, codes, Err, refl, sym, ap, ap₂, ◌∙◌, subst, lit≤, inl, inr}
use Rattle.std.specs.Prelude.{option_and_then, option_map, is_some, ◌==◌}
use Rattle.std.specs.List.{position_or_len}
use Rattle.json.specs.Token.{Token, begin_object}
use Rattle.json.specs.Lex.{tokens}
use Rattle.json.specs.Json.{read_key, value, if_last, skip_value}
use Rattle.json.proofs.Grammar.{read_key_is}
use Rattle.serde_json.specs.Data.{Data, object, no_members}
use Rattle.serde_json.specs.Read.{of_json, read}
use Rattle.tsn_cert.specs.Form.{Form, number}
use Rattle.tsn_cert.specs.Says.{Says, value_read}
use Rattle.tsn_cert.specs.Cert.{format_form, format_numbered, node_form, cert_of, format_of, nodes_of}
use Rattle.tsn_cert.specs.Node.{tree_node}
use Rattle.tsn_cert.specs.Argument.{goal_form, steps_form, argument_of, steps_in, goal_of, argument_format}
use Rattle.tsn_cert.specs.declared.cert.Format.{Format}
use Rattle.tsn_cert.specs.declared.argument.Goal.{Goal}
use Rattle.tsn_cert.specs.Json.{when, whole_number, value_of}
use Rattle.tsn_cert.specs.Fault.{answer, shaped}
use Rattle.tsn_cert.specs.Certificate.{certificate_of, certificate_fits, certificate_in, tree_or}
use Rattle.tsn_cert.specs.declared.fault.FileFault.TheVariants.{WrongShape}
use Rattle.tsn_cert.proofs.Says.{number_says, said_spelled}
use Rattle.tsn_cert.proofs.SpelledLemmas.{converted_some}
use Rattle.tsn_codec.specs.CertSays.{format_says, node_element}
use Rattle.tsn_cert.proofs.ArgumentSays.{goal_says, steps_says}
use Rattle.tsn_codec.specs.Written.{ArePlain, HasAs, HasAt, BeginsTree, BeginsArgument, EndsWithTarget, StopsNodes, ArgumentStops, IsNoCertificate}
use Rattle.tsn_cert.specs.declared.refused.Misfit.{Misfit}
use Rattle.tsn_cert.specs.declared.refused.Misfit.TheVariants as misfit
use Rattle.tsn_codec.specs.Matter.{is_of, IsTreeMisfit, IsMisfit}
use Rattle.tsn_codec.proofs.Nodes.{stops_nodes, no_nodes}
use Rattle.tsn_codec.proofs.Misfits.{steps_up}
use Rattle.tsn_codec.proofs.Steps.{steps_misfit, steps_none}
use Rattle.tsn_codec.proofs.Objects.{put_all, object_spelled, cert_at, argument_at}
use Rattle.tsn_codec.proofs.Pairs.{both_same}
use Rattle.tsn_codec.proofs.Lists.{stops_value, stops_said, says_of, says_none}
use Rattle.tsn_codec.proofs.Plain.{plain_skipped}

-- ---- one place

behind_key : (k : List ℕ) (a b : List Token) (o : Option (Option (List ℕ) × List Token)) → o ≡ Some (Some k, a) → o ≡ Some (Some k, b) → a ≡ b
behind_key k a b o e f = (both_same (Some k, a) (Some k, b) (sym e ∙ f)).1

behind_part : {A : Type 0} (x y : A) (a b : List Token) (o : Option (A × List Token)) → o ≡ Some (x, a) → o ≡ Some (y, b) → a ≡ b
behind_part x y a b o e f = (both_same (x, a) (y, b) (sym e ∙ f)).1

behind_brace : (a b ts : List Token) → ts ≡ begin_object ∷ a → ts ≡ begin_object ∷ b → a ≡ b
behind_brace a b ts e f = let both : begin_object ∷ a ≡ begin_object ∷ b = sym e ∙ f in cc

as_at : {A : Type 0} (k : List ℕ) (form : Form A) (x : A) (ts r : List Token) → HasAs k form x ts r → HasAt k form ts r
as_at k form x ts r h = (h.0, x, h.1, h.2)

has_same : {A : Type 0} (k : List ℕ) (form : Form A) (ts us r s : List Token) → ts ≡ us → HasAt k form ts r → HasAt k form us s → r ≡ s
has_same k form ts us r s e h g =
    let at : h.0 ≡ g.0 = behind_key k h.0 g.0 (read_key us) (sym (ap read_key e) ∙ h.2) g.2 in
    behind_part h.1 g.1 r s (form.taken g.0) (sym (ap form.taken at) ∙ h.3) g.3

tree_same : (f g : Format) (ts r s : List Token) → BeginsTree f ts r → BeginsTree g ts s → r ≡ s
tree_same f g ts r s h i =
    let next = has_same (codes "format") format_form h.0 i.0 h.1 i.1 (behind_brace h.0 i.0 ts h.2 i.2)
    (as_at (codes "format") format_form f h.0 h.1 h.3) (as_at (codes "format") format_form g i.0 i.1 i.3) in
    behind_key (codes "nodes") r s (read_key i.1) (sym (ap read_key next) ∙ h.4) i.4

argument_same : (ts r s : List Token) → BeginsArgument ts r → BeginsArgument ts s → r ≡ s
argument_same ts r s h g =
    let next = has_same (codes "format") number h.0 g.0 h.1 g.1 (behind_brace h.0 g.0 ts h.3 g.3)
    (as_at (codes "format") number argument_format h.0 h.1 h.4) (as_at (codes "format") number argument_format g.0 g.1 g.4) in
    let last = has_same (codes "goal") goal_form h.1 g.1 h.2 g.2 next h.5 g.5 in
    behind_key (codes "steps") r s (read_key g.2) (sym (ap read_key last) ∙ h.6) g.6

-- ---- the value of the file

-- what stands at a key
abbrev Member : {A : Type 0} → List ℕ → Form A → A → List Token → List Token → Type 0
Member k form x ts rest =
    (at : List Token) × (d : Data) × (read_key ts ≡ Some (Some k, at)) × (value_read 126 at ≡ Some (d, rest)) × ArePlain rest × (form.said d ≡ Some x)

skipped : (at rest : List Token) (d : Data) → value_read 126 at ≡ Some (d, rest) → skip_value 126 at ≡ Some rest
skipped at rest d e = let j = converted_some of_json (value 126 at) d rest e in ap (option_map (λ p. p.1)) j.1

member_at : {A : Type 0} (least : ℕ) (k : List ℕ) (form : Form A) → Says least form → least ≤ 126 → (ts rest : List Token) → (h : HasAt k form ts rest)
    → ArePlain ts → Member k form h.1 ts rest
member_at least k form says deep ts rest h plain =
    let behind : ArePlain h.0 = subst ArePlain (read_key_is ts (Some k) h.0 h.2) plain in
    let d = said_spelled least form says 126 deep h.0 h.1 rest h.3 in
    (h.0, d.0, h.2, d.1, (plain_skipped 126 h.0 rest (skipped h.0 rest d.0 d.1) behind).2, d.2)

read_spelled : (text : List ℕ) (d : Data) → value_read 127 (tokens text) ≡ Some (d, []) → read text ≡ Some d
read_spelled text d e =
    let j = converted_some of_json (value 127 (tokens text)) d [] e in
    ap (λ o. option_and_then of_json (option_and_then (λ p. if_last p.0 p.1) o)) j.1 ∙ j.2

-- ---- what it says

cert_none : (f n t : Data) → nodes_of n ≡ None
    → cert_of (object (put_all ((codes "format", f) ∷ (codes "nodes", n) ∷ (codes "target", t) ∷ []) no_members)) ≡ None
cert_none f n t none = by_format (format_of f)
  where
    by_format : (o : Option Format) → option_and_then (λ a. option_and_then (λ b. option_and_then (λ c. cert_at a b c) (whole_number t)) (nodes_of n)) o ≡ None
    by_format None = refl
    by_format (Some a) = ap (λ o. option_and_then (λ b. option_and_then (λ c. cert_at a b c) (whole_number t)) o) none

no_argument : (f n t : Data)
    → argument_of (object (put_all ((codes "format", f) ∷ (codes "nodes", n) ∷ (codes "target", t) ∷ []) no_members)) ≡ None
no_argument f n t = refl

no_cert : (f g s t : Data)
    → cert_of (object (put_all ((codes "format", f) ∷ (codes "goal", g) ∷ (codes "steps", s) ∷ (codes "target", t) ∷ []) no_members)) ≡ None
no_cert f g s t = refl

argument_none : (f g s t : Data) → steps_in s ≡ None
    → argument_of (object (put_all ((codes "format", f) ∷ (codes "goal", g) ∷ (codes "steps", s) ∷ (codes "target", t) ∷ []) no_members)) ≡ None
argument_none f g s t none = by_format (whole_number f)
  where
    by_goal : (o : Option Goal) → option_and_then (λ a. option_and_then (λ b. option_and_then (λ c. argument_at a b c) (whole_number t)) (steps_in s)) o ≡ None
    by_goal None = refl
    by_goal (Some a) = ap (λ o. option_and_then (λ b. option_and_then (λ c. argument_at a b c) (whole_number t)) o) none

    at_format : (b : Bool)
        → when b (option_and_then (λ a. option_and_then (λ b. option_and_then (λ c. argument_at a b c) (whole_number t)) (steps_in s)) (goal_of g)) ≡ None
    at_format true = by_goal (goal_of g)
    at_format false = refl

    by_format : (o : Option ℕ)
        → option_and_then (λ k. when (k == argument_format) (option_and_then (λ a. option_and_then (λ b. option_and_then (λ c. argument_at a b c)
        (whole_number t)) (steps_in s)) (goal_of g))) o ≡ None
    by_format None = refl
    by_format (Some k) = at_format (k == argument_format)

no_tree_format : (d : Data) (format : Format) → format_of d ≡ Some format → whole_number d ≡ Some argument_format → ⊥
no_tree_format d format e is =
    let none : None ≡ Some format = ap (option_and_then format_numbered) (sym is) ∙ e in
    absurd (cc)

-- a tree's file whose nodes are of another form
pub tree_refused : (text : List ℕ) (m : Misfit) → ArePlain (tokens text) → StopsNodes (tokens text) m
    → (format : Format) × (ts : List Token) × BeginsTree format (tokens text) ts × EndsWithTarget ts → IsNoCertificate text m
unfolding member_at as_at
tree_refused text m plain h other =
    let format = h.0 in
    let ts = h.1 in
    let b : BeginsTree h.0 (tokens text) h.1 = h.4 in
    let same : other.1 ≡ h.1 = tree_same other.0 h.0 (tokens text) other.1 h.1 other.2 h.4 in
    let e : EndsWithTarget h.1 = subst EndsWithTarget same other.3 in
    let inner : ArePlain b.0 = subst ArePlain b.2 plain in
    let f = member_at 0 (codes "format") format_form format_says (lit≤ tt) b.0 b.1 (as_at (codes "format") format_form h.0 b.0 b.1 b.3) inner in
    let behind : ArePlain h.1 = subst ArePlain (read_key_is b.1 (Some (codes "nodes")) h.1 b.4) f.4 in
    let n = plain_skipped 126 h.1 e.0 e.2 behind in
    let t = member_at 0 (codes "target") number number_says (lit≤ tt) e.0 e.1 e.3 n.2 in
    let members = (codes "format", f.1) ∷ (codes "nodes", n.0) ∷ (codes "target", t.1) ∷ [] in
    let spelled = object_spelled 126 (tokens text) b.0 members [] b.2
    (f.0, b.1, f.2, f.3, (h.1, e.0, b.4, n.1, (t.0, e.1, t.2, t.3, e.4))) in
    let stopped = stops_value 8 node_form node_element 126 (lit≤ tt) (map tree_node h.3) h.1 h.2 n.0 e.0 n.1 h.5 h.6 in
    let first = no_nodes h.0 n.0 h.3 stopped.0 stopped.1 (stops_nodes h.0 (map tree_node h.3) stopped.0 stopped.2) in
    let d = object (put_all members no_members) in
    let why : IsTreeMisfit d (misfit.NoNode (position_or_len (λ node. not (is_of h.0 (tree_node node))) h.3) h.0) =
    (h.0, f.5, (refl, refl), ap is_some t.5, (refl, first)) in (
      d,
      read_spelled text d spelled,
      cert_none f.1 n.0 t.1 (stops_said node_form (map tree_node h.3) n.0 stopped.0 stopped.1 stopped.2),
      no_argument f.1 n.0 t.1,
      subst (IsMisfit d) (sym h.7) (inr (no_tree_format f.1 h.0 f.5, why)),
    )

-- an argument's file whose steps are of another form
pub argument_refused : (text : List ℕ) (m : Misfit) → ArePlain (tokens text) → ArgumentStops (tokens text) m
    → (ts : List Token) × BeginsArgument (tokens text) ts × EndsWithTarget ts → IsNoCertificate text m
unfolding as_at member_at argument_same
argument_refused text m plain h other =
    let b : BeginsArgument (tokens text) h.0 = h.1 in
    let same : other.0 ≡ h.0 = argument_same (tokens text) other.0 h.0 other.1 h.1 in
    let e : EndsWithTarget h.0 = subst EndsWithTarget same other.2 in
    let inner : ArePlain b.0 = subst ArePlain b.3 plain in
    let f = member_at 0 (codes "format") number number_says (lit≤ tt) b.0 b.1 (as_at (codes "format") number argument_format b.0 b.1 b.4) inner in
    let g = member_at 0 (codes "goal") goal_form goal_says (lit≤ tt) b.1 b.2 b.5 f.4 in
    let behind : ArePlain h.0 = subst ArePlain (read_key_is b.2 (Some (codes "steps")) h.0 b.6) g.4 in
    let s = plain_skipped 126 h.0 e.0 e.2 behind in
    let t = member_at 0 (codes "target") number number_says (lit≤ tt) e.0 e.1 e.3 s.2 in
    let members = (codes "format", f.1) ∷ (codes "goal", g.1) ∷ (codes "steps", s.0) ∷ (codes "target", t.1) ∷ [] in
    let spelled = object_spelled 126 (tokens text) b.0 members [] b.3
    (f.0, b.1, f.2, f.3, (g.0, b.2, g.2, g.3, (h.0, e.0, b.6, s.1, (t.0, e.1, t.2, t.3, e.4)))) in
    let why = steps_misfit 126 (lit≤ tt) m h.0 s.0 e.0 s.1 h.2 in
    let none = says_none (steps_in s.0) e.0 (says_of 6 steps_form steps_says 126 (lit≤ tt) h.0 s.0 e.0 s.1 ∙ steps_none m h.0 h.2) in
    let d = object (put_all members no_members) in (
      d,
      read_spelled text d spelled,
      no_cert f.1 g.1 s.0 t.1,
      argument_none f.1 g.1 s.0 t.1 none,
      inl (f.5, steps_up d (f.5, (refl, refl), ap is_some g.5, ap is_some t.5) m why),
    )

pub no_certificate : (text bytes : List ℕ) (m : Misfit) → read text ≡ value_of bytes → IsNoCertificate text m
    → (certificate_in bytes ≡ Err WrongShape) × ((d : Data) × (value_of bytes ≡ Some d) × IsMisfit d m)
no_certificate text bytes m same none =
    let value : value_of bytes ≡ Some none.0 = sym same ∙ none.1 in
    (ap (answer certificate_of certificate_fits) value ∙ ap (shaped certificate_fits) (ap₂ tree_or none.2 none.3), (none.0, value, none.4))
