use Rattle.tsn_codec.proofs.argument.misfit_behind.Goals as goal

pub returns-in-Err-WrongShape : goal.returns-in-Err-WrongShape
returns-in-Err-WrongShape c = λ ts begins.
    let stops = rw c.in-Err-WrongShape.field-0-is at c.in-Err-WrongShape.ensures in
    (c.args.tokens.now, begins, stops)
