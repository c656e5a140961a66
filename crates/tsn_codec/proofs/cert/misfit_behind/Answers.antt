use Rattle.tsn_codec.proofs.cert.misfit_behind.Goals as goal

pub returns-in-Err-Behind : goal.returns-in-Err-Behind
returns-in-Err-Behind c = λ ts begins.
    let taken = rw c.in-Err-Behind.field-0-is at c.in-Err-Behind.ensures in
    let told = rw c.deref.ensures.value at c.no_node.ensures in
    (c.args.format, c.args.tokens.now, taken.0, c.in-Err-Behind.nodes.items, begins, taken.1, taken.2, told)
