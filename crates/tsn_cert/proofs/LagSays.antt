-- Lags, shifts and chains say the same of a value and of the tokens that spell it.
use Rattle.std.specs.Prelude.{pos}
use Rattle.tsn_cert.specs.Form.{number, signed, next, over, elements_row}
use Rattle.tsn_cert.specs.Cert.{chain_row, chain_form, lag, lag_row, shift}
use Rattle.tsn_cert.specs.Says.{Says, Follows}
use Rattle.tsn_cert.proofs.Says.{number_says, signed_says, made_says, next_follows, over_follows, or_follows, checked_follows, elements_follows, array_says}

lag_says : Says 0 lag
lag_says = made_says 0 _ signed signed_says

pub lag_follows : Follows 0 lag_row
lag_follows = or_follows 0 (pos 0) (next lag over) (next_follows 0 lag over lag_says (λ z. over_follows 0 z))

pub shift_says : Says 0 shift
shift_says = made_says 0 _ number number_says

chain_follows : Follows 0 chain_row
chain_follows = checked_follows 0 _ (elements_row number) (elements_follows 0 number number_says)

pub chain_says : Says 1 chain_form
chain_says = array_says 0 chain_row chain_follows
