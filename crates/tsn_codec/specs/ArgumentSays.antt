-- What an element of a list of an argument says of a value is what it says of the tokens that spell it.
use Rattle.std.proofs.Common.{lit≤}
use Rattle.tsn_cert.specs.Argument.{step_form}
use Rattle.tsn_cert.specs.Fact.{fact_form}
use Rattle.tsn_cert.specs.Move.{frame_form, move_form}
use Rattle.tsn_cert.specs.Order.{order_form}
use Rattle.tsn_cert.specs.Says.{Says}
use Rattle.tsn_cert.proofs.ArgumentSays.{order_says, frame_says, fact_says, move_says, step_says}
use Rattle.tsn_cert.proofs.Says.{deeper_says}

pub order_element : Says 8 order_form
order_element = deeper_says 1 8 order_form (lit≤ tt) order_says

pub frame_element : Says 8 frame_form
frame_element = deeper_says 1 8 frame_form (lit≤ tt) frame_says

pub fact_element : Says 8 fact_form
fact_element = deeper_says 1 8 fact_form (lit≤ tt) fact_says

pub move_element : Says 8 move_form
move_element = deeper_says 3 8 move_form (lit≤ tt) move_says

pub step_element : Says 8 step_form
step_element = deeper_says 5 8 step_form (lit≤ tt) step_says
