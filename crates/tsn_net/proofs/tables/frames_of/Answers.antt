use Rattle.std.proofs.Common.{sym, ◌∙◌}
use Rattle.toml.specs.View.{view}
use Rattle.tsn_net.proofs.Frames.{few_of}
use Rattle.tsn_net.proofs.tables.frames_of.Goals as goal

pub returns-then-has_burst-clause-few : goal.returns-then-has_burst-clause-few
returns-then-has_burst-clause-few c =
    let stream = view c.args.stream.now in
    let few = few_of c.args.cycle stream c.requires.short (sym c.has_burst.ensures ∙ c.if-has_burst.true) in
    rw (c.turns_at.ensures, c.number_or.ensures) few
