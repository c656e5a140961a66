use Rattle.std.proofs.Common.{List, ap, ◌∙◌}
use Rattle.json.specs.Json.{parse_map}
use Rattle.tsn_model.specs.declared.Frame.{Frame}
use Rattle.tsn_cert.specs.Move.{fixed_form}
use Rattle.tsn_cert.specs.declared.motion.Wasting.{Wasting}
use Rattle.tsn_codec.proofs.Elements.{fault_up}
use Rattle.tsn_codec.proofs.Rows.{part_with}
use Rattle.tsn_codec.proofs.argument.motion.wasting.Goals as goal

pub returns-in-Ok : goal.returns-in-Ok
returns-in-Ok c =
    let made : List Frame → Wasting = λ fixed. record { link = c.in_ok-link.link; frames = c.in_ok-frames.frames; fixed = fixed } in
    rw (c.in_ok-link.ensures, c.in_ok-frames.ensures) (part_with made (fixed_form.taken c.frames.new.tokens) ∙ ap (parse_map made) c.in-Ok.ensures)

pub returns-in-Err : goal.returns-in-Err
returns-in-Err c =
    let made : List Frame → Wasting = λ fixed. record { link = c.in_ok-link.link; frames = c.in_ok-frames.frames; fixed = fixed } in
    rw (c.in_ok-link.ensures, c.in_ok-frames.ensures)
    (fault_up c.in-Err.error _ _ (λ none. part_with made (fixed_form.taken c.frames.new.tokens) ∙ ap (parse_map made) none) c.in-Err.ensures)
