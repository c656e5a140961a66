-- What a file says whose keys stand in the order in which they are written.
use Rattle.std.proofs.Common.{◌≡◌, ℕ, List, [], ◌∷◌, true, Some, None, Result, Ok, Err, IfOk, codes, sym, ap, ◌∙◌, lit≤}
use Rattle.json.specs.Token.{Token, begin_object}
use Rattle.json.specs.Json.{read_key}
use Rattle.serde_json.specs.Data.{Data, object, no_members}
use Rattle.tsn_model.specs.Certificate.{Node}
use Rattle.tsn_cert.specs.Form.{number}
use Rattle.tsn_cert.specs.Spelled.{Spells}
use Rattle.tsn_cert.specs.Cert.{format_form, nodes_form, are_of, cert_of}
use Rattle.tsn_cert.specs.Argument.{goal_form, steps_form, argument_format, argument_of}
use Rattle.tsn_cert.specs.declared.cert.Cert.{Cert}
use Rattle.tsn_cert.specs.declared.cert.Format.{Format}
use Rattle.tsn_cert.specs.declared.argument.Goal.{Goal}
use Rattle.tsn_cert.specs.declared.step.Step.{Step}
use Rattle.tsn_cert.proofs.ArgumentSays.{goal_says, steps_says}
use Rattle.tsn_cert.proofs.Says.{number_says, said_spelled}
use Rattle.tsn_codec.specs.CertSays.{format_says, nodes_says}
use Rattle.tsn_codec.specs.Written.{HasAs, BeginsTree, BeginsArgument}
use Rattle.tsn_codec.specs.declared.tokens.Unread.{Unread}
use Rattle.tsn_codec.proofs.Objects.{put_all, object_spelled, cert_said, argument_said}

-- a target, and the end of the object
abbrev pub EndsAs : ℕ → List Token → List Token → Type 0
EndsAs target ts rest = (end : List Token) × HasAs (codes "target") number target ts end × (read_key end ≡ Some (None, rest))

-- what stands before the steps of an argument of this goal
abbrev pub BeginsAs : Goal → List Token → List Token → Type 0
BeginsAs goal ts rest =
    (inner next last : List Token) × (ts ≡ begin_object ∷ inner) × HasAs (codes "format") number argument_format inner next
    × HasAs (codes "goal") goal_form goal next last × (read_key last ≡ Some (Some (codes "steps"), rest))

pub begins_argument : (goal : Goal) (ts rest : List Token) → BeginsAs goal ts rest → BeginsArgument ts rest
begins_argument goal ts rest h = (h.0, h.1, h.2, h.3, h.4, (h.5.0, goal, h.5.1, h.5.2), h.6)

pub tree_taken : (r : Result Cert Unread) (ts at next rest : List Token) (format : Format) (nodes : List Node) (target : ℕ)
    → BeginsTree format ts at → nodes_form.taken at ≡ Some (nodes, next) → EndsAs target next rest
    → IfOk r (λ cert. (cert ≡ record { format = format; target = target; nodes = nodes }) × (are_of format nodes ≡ true))
    → IfOk r (λ cert. (d : Data) × Spells 127 ts d rest × (cert_of d ≡ Some cert))
tree_taken (Err e) ts at next rest format nodes target b taken e' h = tt
tree_taken (Ok cert) ts at next rest format nodes target b taken e h =
    let first = said_spelled 0 format_form format_says 126 (lit≤ tt) b.3.0 format b.1 b.3.2 in
    let second = said_spelled 5 nodes_form nodes_says 126 (lit≤ tt) at nodes next taken in
    let third = said_spelled 0 number number_says 126 (lit≤ tt) e.1.0 target e.0 e.1.2 in
    let members = (codes "format", first.0) ∷ (codes "nodes", second.0) ∷ (codes "target", third.0) ∷ [] in (
      object (put_all members no_members),
      object_spelled 126 ts b.0 members rest b.2
          (b.3.0, b.1, b.3.1, first.1, (at, next, b.4, second.1, (e.1.0, e.0, e.1.1, third.1, e.2))),
      cert_said first.0 second.0 third.0 format nodes target first.2 second.2 third.2 h.1 ∙ ap Some (sym h.0),
    )

pub argument_taken : (ts at next rest : List Token) (goal : Goal) (steps : List Step) (target : ℕ)
    → BeginsAs goal ts at → steps_form.taken at ≡ Some (steps, next) → EndsAs target next rest
    → (d : Data) × Spells 127 ts d rest × (argument_of d ≡ Some (record { goal = goal; target = target; steps = steps }))
argument_taken ts at next rest goal steps target b taken e =
    let first = said_spelled 0 number number_says 126 (lit≤ tt) b.4.0 argument_format b.1 b.4.2 in
    let second = said_spelled 0 goal_form goal_says 126 (lit≤ tt) b.5.0 goal b.2 b.5.2 in
    let third = said_spelled 6 steps_form steps_says 126 (lit≤ tt) at steps next taken in
    let fourth = said_spelled 0 number number_says 126 (lit≤ tt) e.1.0 target e.0 e.1.2 in
    let members = (codes "format", first.0) ∷ (codes "goal", second.0) ∷ (codes "steps", third.0) ∷ (codes "target", fourth.0) ∷ [] in (
      object (put_all members no_members),
      object_spelled 126 ts b.0 members rest b.3
          (b.4.0, b.1, b.4.1, first.1, (b.5.0, b.2, b.5.1, second.1, (at, next, b.6, third.1, (e.1.0, e.0, e.1.1, fourth.1, e.2)))),
      argument_said first.0 second.0 third.0 fourth.0 goal steps target first.2 second.2 third.2 fourth.2,
    )
