use Rattle.std.proofs.Common.{◌≡◌, drop, not}
use Rattle.std.specs.List.{find}
use Rattle.tsn_net.specs.DocumentView.{texts_view}
use Rattle.tsn_net.specs.Conditions.{is_name}
use Rattle.tsn_net.proofs.tables.no_name_in.Given as goal

-- the first of the rest that fails is that of all
abbrev pub invariant-loop-value : goal.invariant-loop-value
invariant-loop-value l =
    find (λ n. not (is_name n)) (texts_view (drop l.value-index l.texts))
    ≡ find (λ n. not (is_name n)) (texts_view l.texts)
