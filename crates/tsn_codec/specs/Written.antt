-- Files whose keys stand in the order in which they are written.
use Rattle.std.specs.Prelude.{◌≡◌, ℕ, ◌∷◌, [], List, map, Bool, true, not, Some, None, is_some, codes}
use Rattle.std.specs.List.{list_all, position_or_len}
use Rattle.json.specs.Token.{Token, begin_object}
use Rattle.json.specs.Token as token
use Rattle.json.specs.Json.{read_key, skip_value}
use Rattle.serde_json.specs.Data.{Data}
use Rattle.serde_json.specs.Read.{number_of, read}
use Rattle.tsn_cert.specs.Form.{Form, number, after_begin_array}
use Rattle.tsn_cert.specs.Cert.{format_form, node_form, cert_of}
use Rattle.tsn_cert.specs.Node.{tree_node}
use Rattle.tsn_cert.specs.Argument.{goal_form, argument_format, argument_of}
use Rattle.tsn_cert.specs.declared.cert.Format.{Format}
use Rattle.tsn_cert.specs.declared.cert.Node.{Node}
use Rattle.tsn_cert.specs.declared.refused.Misfit.{Misfit}
use Rattle.tsn_cert.specs.declared.refused.Misfit.TheVariants as misfit
use Rattle.tsn_codec.specs.Lists.{Stops}
use Rattle.tsn_codec.specs.Matter.{is_of, IsMisfit}
use Rattle.tsn_codec.specs.Steps.{StopsSteps}

-- ---- numbers

-- a number that `serde_json` reads, or no number
abbrev pub is_plain : Token → Bool
is_plain (token.begin_object) = true
is_plain (token.end_object) = true
is_plain (token.begin_array) = true
is_plain (token.end_array) = true
is_plain (token.key s) = true
is_plain (token.string s) = true
is_plain (token.number s) = is_some (number_of s)
is_plain (token.boolean b) = true
is_plain (token.null) = true
is_plain (token.bad) = true

abbrev pub ArePlain : List Token → Type 0
ArePlain ts = list_all is_plain ts ≡ true

-- ---- keys in order

-- a key, and a value of this form at it
abbrev pub HasAt : {A : Type 0} → List ℕ → Form A → List Token → List Token → Type 0
HasAt {A} key form ts rest = (at : List Token) × (x : A) × (read_key ts ≡ Some (Some key, at)) × (form.taken at ≡ Some (x, rest))

-- a key, and a value at it that says this
abbrev pub HasAs : {A : Type 0} → List ℕ → Form A → A → List Token → List Token → Type 0
HasAs key form x ts rest = (at : List Token) × (read_key ts ≡ Some (Some key, at)) × (form.taken at ≡ Some (x, rest))

-- what stands before the nodes of a tree of this format
abbrev pub BeginsTree : Format → List Token → List Token → Type 0
BeginsTree format ts rest =
    (inner next : List Token) × (ts ≡ begin_object ∷ inner) × HasAs (codes "format") format_form format inner next
    × (read_key next ≡ Some (Some (codes "nodes"), rest))

-- what stands before the steps of an argument
abbrev pub BeginsArgument : List Token → List Token → Type 0
BeginsArgument ts rest =
    (inner next last : List Token) × (ts ≡ begin_object ∷ inner) × HasAs (codes "format") number argument_format inner next
    × HasAt (codes "goal") goal_form next last × (read_key last ≡ Some (Some (codes "steps"), rest))

-- a value, and a target at the end of the object
abbrev pub PassesTarget : List Token → List Token → Type 0
PassesTarget ts rest = (next end : List Token) × (skip_value 126 ts ≡ Some next) × HasAt (codes "target") number next end × (read_key end ≡ Some (None, rest))

abbrev pub EndsWithTarget : List Token → Type 0
EndsWithTarget ts = PassesTarget ts []

-- the nodes of a tree stop at one of another form, which is told
abbrev pub StopsNodes : List Token → Misfit → Type 0
StopsNodes ts m =
    (format : Format) × (rest inner : List Token) × (nodes : List Node) × BeginsTree format ts rest × (after_begin_array rest ≡ Some inner)
    × Stops node_form.taken (map tree_node nodes) inner × (m ≡ misfit.NoNode (position_or_len (λ node. not (is_of format (tree_node node))) nodes) format)

-- the steps of an argument stop at something of another form, which is told
abbrev pub ArgumentStops : List Token → Misfit → Type 0
ArgumentStops ts m = (rest : List Token) × BeginsArgument ts rest × StopsSteps m rest

-- the text is the value of no certificate, and this is why
abbrev pub IsNoCertificate : List ℕ → Misfit → Type 0
IsNoCertificate text m = (d : Data) × (read text ≡ Some d) × (cert_of d ≡ None) × (argument_of d ≡ None) × IsMisfit d m
