use Rattle.std.proofs.Common.{sym, ap, ◌∙◌}
use Rattle.json.specs.Json.{parse_map}
use Rattle.tsn_cert.specs.Move.{frames_form}
use Rattle.tsn_cert.specs.declared.motion.Move.TheVariants as form
use Rattle.tsn_codec.proofs.Elements.{fault_up}
use Rattle.tsn_codec.proofs.Rows.{part_with, part_twice}
use Rattle.tsn_codec.proofs.argument.motion.pack.Goals as goal

pub returns-in-Ok : goal.returns-in-Ok
returns-in-Ok c =
    let taken = frames_form.taken c.index.new.self in
    rw c.in_ok-link.ensures
    (sym (part_twice (λ p. form.Pack p.0 p.1) (λ frames. (c.in_ok-link.link, frames)) taken) ∙ part_with (form.Pack c.in_ok-link.link) taken
    ∙ ap (parse_map (form.Pack c.in_ok-link.link)) c.in-Ok.ensures)

pub returns-in-Err : goal.returns-in-Err
returns-in-Err c =
    let taken = frames_form.taken c.index.new.self in
    rw c.in_ok-link.ensures (fault_up c.in-Err.error _ _ (
    λ none. sym (part_twice (λ p. form.Pack p.0 p.1) (λ frames. (c.in_ok-link.link, frames)) taken) ∙ part_with (form.Pack c.in_ok-link.link) taken
    ∙ ap (parse_map (form.Pack c.in_ok-link.link)) none
    ) c.in-Err.ensures)
