use Rattle.std.proofs.Common.{Bool, String, Global, not, string_bytes, sym, ap, ◌∙◌}
use Rattle.std.specs.List.{list_any}
use Rattle.std.specs.Str.{bytes_eq}
use Rattle.tsn_model.proofs.Rest.{find_here, find_later}
use Rattle.tsn_cert.specs.Told.{key_name}
use Rattle.tsn_codec.proofs.document.key_outside.Goals as goal

pub returns-then-not-is_among-clause-found : goal.returns-then-not-is_among-clause-found
returns-then-not-is_among-clause-found c =
    let test : String Global → Bool = λ name. not (list_any (λ k. bytes_eq (key_name k) (string_bytes name)) c.args.keys.now) in
    let among = ap (λ name. list_any (λ k. bytes_eq (key_name k) name) c.args.keys.now) (sym c.as_str.ensures.value) ∙ sym c.is_among.ensures in
    find_here test _ _ _ c.in-Some.ensures.steps _ (ap not (among ∙ c.if-not-is_among.true)) c.loop-name.invariant

pub loop-name-preserved : goal.loop-name-preserved
loop-name-preserved c =
    let test : String Global → Bool = λ name. not (list_any (λ k. bytes_eq (key_name k) (string_bytes name)) c.args.keys.now) in
    let among = ap (λ name. list_any (λ k. bytes_eq (key_name k) name) c.args.keys.now) (sym c.as_str.ensures.value) ∙ sym c.is_among.ensures in
    find_later test _ _ _ c.in-Some.ensures.steps _ (ap not (among ∙ c.if-not-is_among.false)) c.loop-name.invariant
