use Rattle.tsn_model.proofs.Lines.{line_starts, line_ends, line_starts_on, line_arrives, line_spans}
use Rattle.tsn_laws.proofs.definitions.lines_stay.Goals as goal

pub returns : goal.returns
returns c = λ network i line.
    ((λ k below. (line_starts network i line k below, line_ends network i line k below)), line_starts_on network i line, line_arrives network i line, line_spans network i line)
