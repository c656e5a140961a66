use Rattle.std.proofs.Common.{◌≡◌, drop, not}
use Rattle.std.specs.List.{find}
use Rattle.std.specs.Str.{bytes_eq}
use Rattle.tsn_net.specs.DocumentView.{routes_view}
use Rattle.tsn_net.specs.Conditions.{begin_of}
use Rattle.tsn_net.proofs.steps.other_talker.Given as goal

-- the first of the rest that begins elsewhere is that of all
abbrev pub invariant-loop-route : goal.invariant-loop-route
invariant-loop-route l =
    find (λ route. not (bytes_eq (begin_of route) l.talker)) (routes_view (drop l.route-index l.routes))
    ≡ find (λ route. not (bytes_eq (begin_of route) l.talker)) (routes_view l.routes)
