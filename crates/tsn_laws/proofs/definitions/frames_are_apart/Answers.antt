use Rattle.tsn_model.proofs.Routes.{keeps_too}
use Rattle.tsn_model.proofs.Orders.{different_apart}
use Rattle.tsn_laws.proofs.definitions.frames_are_apart.Goals as goal

pub returns : goal.returns
returns c = λ network offsets valid first second link t different first_on second_on in_first in_second.
    different_apart network offsets first second link valid different first_on second_on t (keeps_too network offsets first.stream first.shift link t in_first)
    (keeps_too network offsets second.stream second.shift link t in_second)
