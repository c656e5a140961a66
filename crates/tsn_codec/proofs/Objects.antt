-- What the members of an object spell, one after another, and what a file of such members says.
use Rattle.std.proofs.Common.{◌≡◌, ◌<◌, ◌≤◌, ◌-◌, ℕ, suc, List, [], ◌∷◌, length, true, Option, Some, None, codes, refl, ap, ◌∙◌, arith}
use Rattle.std.specs.Prelude.{option_and_then, ◌==◌}
use Rattle.json.specs.Token.{Token, begin_object}
use Rattle.json.specs.Json as json
use Rattle.json.specs.Json.{Parse, parse_map, read_key, members, value}
use Rattle.json.proofs.Grammar.{members_end, members_more, read_key-shorter}
use Rattle.serde_json.specs.Data.{Data, Members, object, no_members, put}
use Rattle.serde_json.specs.Read.{of_json, of_members, converted}
use Rattle.tsn_model.specs.Certificate.{Node}
use Rattle.tsn_cert.specs.Spelled.{Spells}
use Rattle.tsn_cert.specs.Json.{when, whole_number}
use Rattle.tsn_cert.specs.Cert.{format_of, nodes_of, are_of, cert_of}
use Rattle.tsn_cert.specs.declared.cert.Cert.{Cert}
use Rattle.tsn_cert.specs.declared.cert.Format.{Format}
use Rattle.tsn_cert.specs.Argument.{goal_of, steps_in, argument_format, argument_of}
use Rattle.tsn_cert.specs.declared.step.Step.{Step}
use Rattle.tsn_cert.specs.declared.argument.Goal.{Goal}
use Rattle.tsn_cert.specs.declared.argument.Argument.{Argument}
use Rattle.tsn_cert.proofs.SpelledLemmas.{converted_some, converted-object, spelled-shorter}

-- the tokens begin with these members, where the object ends then
abbrev pub SpellsMembers : ℕ → List Token → List (List ℕ × Data) → List Token → Type 0
SpellsMembers depth ts [] rest = read_key ts ≡ Some (None, rest)
SpellsMembers depth ts (m ∷ ms) rest =
    (at next : List Token) × (read_key ts ≡ Some (Some m.0, at)) × Spells depth at m.1 next × SpellsMembers depth next ms rest

-- the members, each put to those before it
abbrev pub put_all : List (List ℕ × Data) → Members → Members
put_all [] old = old
put_all (m ∷ ms) old = put_all ms (put m.0 m.1 old)

with_member : (k : List ℕ) (j : json.Json) (d : Data) (old : Members) → of_json j ≡ Some d → (o : Option (json.Members × List Token))
    → converted (λ ms. of_members ms old) (parse_map (json.member k j) o) ≡ converted (λ ms. of_members ms (put k d old)) o
with_member k j d old e None = refl
with_member k j d old e (Some p) = rw e

member_read : (p : Parse json.Json) (old : Members) (n : ℕ) (k : List ℕ) (ts s r : List Token) (d : Data)
    → 0 < n → read_key ts ≡ Some (Some k, s) → converted of_json (p s) ≡ Some (d, r)
    → converted (λ ms. of_members ms old) (members p n ts) ≡ converted (λ ms. of_members ms (put k d old)) (members p (n - 1) r)
member_read p old n k ts s r d some key e =
    let j = converted_some of_json (p s) d r e in
    ap (converted (λ ms. of_members ms old)) (members_more p n k ts s r j.0 some key j.1) ∙ with_member k j.0 d old j.2 _

members_read : (depth n : ℕ) (ts : List Token) (ms : List (List ℕ × Data)) (rest : List Token) (old : Members) → length ts ≤ n
    → SpellsMembers depth ts ms rest → converted (λ js. of_members js old) (members (value depth) n ts) ≡ Some (put_all ms old, rest)
members_read depth n ts [] rest old enough h =
    ap (converted (λ js. of_members js old)) (members_end (value depth) n ts rest enough h)
members_read depth n ts (m ∷ ms) rest old enough h =
    let key = read_key-shorter ts (Some m.0) h.0 h.2 in
    let less = spelled-shorter depth h.0 m.1 h.1 h.3 in
    member_read (value depth) old n m.0 ts h.0 h.1 m.1 (omega arith) h.2 h.3
    ∙ members_read depth (n - 1) h.1 ms rest (put m.0 m.1 old) (omega arith) h.4

pub object_spelled : (depth : ℕ) (first ts : List Token) (ms : List (List ℕ × Data)) (rest : List Token) → first ≡ begin_object ∷ ts
    → SpellsMembers depth ts ms rest → Spells (suc depth) first (object (put_all ms no_members)) rest
unfolding value
object_spelled depth first ts ms rest is h =
    ap (λ x. converted of_json (value (suc depth) x)) is ∙ converted-object (members (value depth) (length ts) ts)
    ∙ ap (parse_map object) (members_read depth (length ts) ts ms rest no_members (omega arith) h)

-- ---- the members of files

abbrev pub cert_at : Format → List Node → ℕ → Option Cert
cert_at format nodes target = when (are_of format nodes) (Some (record { format = format; target = target; nodes = nodes }))

-- a tree's file says it
pub cert_said : (f n t : Data) (format : Format) (nodes : List Node) (target : ℕ) → format_of f ≡ Some format → nodes_of n ≡ Some nodes
    → whole_number t ≡ Some target → are_of format nodes ≡ true
    → cert_of (object (put_all ((codes "format", f) ∷ (codes "nodes", n) ∷ (codes "target", t) ∷ []) no_members))
    ≡ Some (record { format = format; target = target; nodes = nodes })
cert_said f n t format nodes target first second third of =
    ap (λ o. option_and_then (λ a. option_and_then (λ b. option_and_then (λ c. cert_at a b c) (whole_number t)) (nodes_of n)) o) first
    ∙ ap (λ o. option_and_then (λ b. option_and_then (λ c. cert_at format b c) (whole_number t)) o) second
    ∙ ap (λ o. option_and_then (λ c. cert_at format nodes c) o) third
    ∙ ap (λ b. when b (Some (record { format = format; target = target; nodes = nodes }))) of

abbrev pub argument_at : Goal → List Step → ℕ → Option Argument
argument_at goal steps target = Some (record { goal = goal; target = target; steps = steps })

-- an argument's file says it
pub argument_said : (f g s t : Data) (goal : Goal) (steps : List Step) (target : ℕ) → whole_number f ≡ Some argument_format → goal_of g ≡ Some goal
    → steps_in s ≡ Some steps → whole_number t ≡ Some target
    → argument_of (object (put_all ((codes "format", f) ∷ (codes "goal", g) ∷ (codes "steps", s) ∷ (codes "target", t) ∷ []) no_members))
    ≡ Some (record { goal = goal; target = target; steps = steps })
argument_said f g s t goal steps target first second third fourth =
    ap (λ o. option_and_then (λ k. when (k == argument_format) (option_and_then (λ a. option_and_then (λ b. option_and_then (λ c. argument_at a b c)
    (whole_number t)) (steps_in s)) (goal_of g))) o) first
    ∙ ap (λ o. option_and_then (λ a. option_and_then (λ b. option_and_then (λ c. argument_at a b c) (whole_number t)) (steps_in s)) o) second
    ∙ ap (λ o. option_and_then (λ b. option_and_then (λ c. argument_at goal b c) (whole_number t)) o) third
    ∙ ap (λ o. option_and_then (λ c. argument_at goal steps c) o) fourth
