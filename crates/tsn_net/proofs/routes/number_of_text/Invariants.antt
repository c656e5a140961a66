use Rattle.std.proofs.Common.{◌≡◌, drop, position}
use Rattle.std.specs.List.{position_from}
use Rattle.std.specs.Str.{bytes_eq}
use Rattle.tsn_net.specs.DocumentView.{texts_view}
use Rattle.tsn_net.proofs.routes.number_of_text.Given as goal

-- the number of the text among the rest, counted from there, is that among all
abbrev pub invariant-loop-k : goal.invariant-loop-k
invariant-loop-k l = position_from (bytes_eq l.wanted) l.k (texts_view (drop l.k l.texts)) ≡ position (bytes_eq l.wanted) (texts_view l.texts)
