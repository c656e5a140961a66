use Rattle.tsn_model.proofs.Lines.{line_route, connected_line}
use Rattle.tsn_laws.proofs.definitions.lines_are_routes.Goals as goal

pub returns : goal.returns
returns c = λ network route. (λ line. (line_route network route line, line.links_connect), λ both. connected_line network route both.0 both.1)
