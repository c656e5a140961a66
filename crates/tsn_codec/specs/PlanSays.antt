-- What a number says of a value is what it says of the token that spells it.
use Rattle.std.proofs.Common.{lit≤}
use Rattle.tsn_cert.specs.Form.{number}
use Rattle.tsn_cert.specs.Says.{Says}
use Rattle.tsn_cert.proofs.Says.{number_says, deeper_says}

-- what lists have
pub number_element : Says 8 number
number_element = deeper_says 0 8 number (lit≤ tt) number_says
