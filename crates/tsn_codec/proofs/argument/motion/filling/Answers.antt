use Rattle.std.proofs.Common.{ℕ, Option, ap, ◌∙◌}
use Rattle.json.specs.Json.{parse_map}
use Rattle.tsn_model.specs.declared.Frame.{Frame}
use Rattle.tsn_cert.specs.Form.{number}
use Rattle.tsn_cert.specs.Move.{edge_form}
use Rattle.tsn_cert.specs.declared.motion.Filling.{Filling}
use Rattle.tsn_codec.proofs.Elements.{fault_up}
use Rattle.tsn_codec.proofs.Rows.{parts_with}
use Rattle.tsn_codec.proofs.argument.motion.filling.Goals as goal

pub returns-in-Ok : goal.returns-in-Ok
returns-in-Ok c =
    let made : Option Frame × Option Frame × ℕ → Filling = λ r.
    record { link = c.in_ok-link.link; frame = c.in_ok-frame.frame; others = c.in_ok-others.others; before = r.0; after = r.1; bound = r.2 } in
    rw (c.in_ok-link.ensures, c.in_ok-frame.ensures, c.in_ok-others.ensures)
    (parts_with made edge_form.taken edge_form.taken number.taken c.frames.new.tokens ∙ ap (parse_map made) c.in-Ok.ensures)

pub returns-in-Err : goal.returns-in-Err
returns-in-Err c =
    let made : Option Frame × Option Frame × ℕ → Filling = λ r.
    record { link = c.in_ok-link.link; frame = c.in_ok-frame.frame; others = c.in_ok-others.others; before = r.0; after = r.1; bound = r.2 } in
    rw (c.in_ok-link.ensures, c.in_ok-frame.ensures, c.in_ok-others.ensures)
    (fault_up c.in-Err.error _ _ (λ none. parts_with made edge_form.taken edge_form.taken number.taken c.frames.new.tokens ∙ ap (parse_map made) none)
    c.in-Err.ensures)
