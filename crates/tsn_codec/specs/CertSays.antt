-- What a certificate's parts say of a value is what they say of the tokens that spell it.
use Rattle.std.proofs.Common.{lit≤}
use Rattle.tsn_model.specs.Certificate.{split_node}
use Rattle.tsn_cert.specs.Form.{number, over}
use Rattle.tsn_cert.specs.Cert.{chain_form, reason_row, lag_row, shift, triple_row, cycle_row, first_entry_row, later_entry_row, entry_form, entries_form, load_row, chains_form, tie_row, tie_load_row, node_rows, node_form, nodes_form, format_form, format_numbered}
use Rattle.tsn_cert.specs.Says.{Says, Follows}
use Rattle.tsn_cert.proofs.Says.{number_says, made_says, next_follows, over_follows, either_follows, becomes_follows, array_says, deeper_says, deeper_follows, few_says, list_says, one_says}
use Rattle.tsn_cert.proofs.LagSays.{lag_follows, shift_says, chain_says}

reason_follows : Follows 1 reason_row
reason_follows = next_follows 1 number _ (deeper_says 0 1 number (lit≤ tt) number_says)
    (λ i. next_follows 1 chain_form _ chain_says (λ c. over_follows 1 (i, c)))

triple_follows : Follows 0 triple_row
triple_follows = next_follows 0 number _ number_says
    (λ i. next_follows 0 number _ number_says (λ j. next_follows 0 number _ number_says (λ l. becomes_follows 0 _ lag_row lag_follows)))

cycle_follows : Follows 1 cycle_row
cycle_follows = next_follows 1 chain_form over chain_says (λ c. over_follows 1 c)

entry_says : Says 2 entry_form
entry_says =
    array_says 1 _ (next_follows 1 number _ (deeper_says 0 1 number (lit≤ tt) number_says) (λ i. either_follows 1 (first_entry_row i) (later_entry_row i)
    (next_follows 1 chain_form _ chain_says (λ c. over_follows 1 _))
    (next_follows 1 shift _ (deeper_says 0 1 shift (lit≤ tt) shift_says) (λ s. next_follows 1 chain_form _ chain_says (λ c. over_follows 1 _)))))

entries_says : Says 3 entries_form
entries_says = few_says 2 1 128 entry_form entry_says

chains_says : Says 2 chains_form
chains_says = few_says 1 1 128 chain_form chain_says

load_follows : Follows 3 load_row
load_follows = next_follows 3 number _ (deeper_says 0 3 number (lit≤ tt) number_says)
    (λ l. next_follows 3 entries_form _ entries_says (λ es. over_follows 3 (l, es)))

tie_follows : Follows 2 tie_row
tie_follows =
    next_follows 2 number _ (deeper_says 0 2 number (lit≤ tt) number_says)
    (λ i. next_follows 2 chain_form _ (deeper_says 1 2 chain_form (lit≤ tt) chain_says) (λ c.
    next_follows 2 chains_form _ chains_says (λ cs. over_follows 2 (i, c, cs))))

tie_load_follows : Follows 3 tie_load_row
tie_load_follows =
    next_follows 3 number _ (deeper_says 0 3 number (lit≤ tt) number_says) (λ l. next_follows 3 entries_form _ entries_says (λ es.
    next_follows 3 chains_form _ (deeper_says 2 3 chains_form (lit≤ tt) chains_says) (λ cs. over_follows 3 (l, es, cs))))

node_says : Says 4 node_form
node_says =
    one_says 3 node_rows (
      becomes_follows 3 split_node triple_row (deeper_follows 0 3 triple_row (lit≤ tt) triple_follows),
      (
        becomes_follows 3 _ reason_row (deeper_follows 1 3 reason_row (lit≤ tt) reason_follows),
        (
          becomes_follows 3 _ reason_row (deeper_follows 1 3 reason_row (lit≤ tt) reason_follows),
          (
            becomes_follows 3 _ cycle_row (deeper_follows 1 3 cycle_row (lit≤ tt) cycle_follows),
            (
              becomes_follows 3 _ load_row load_follows,
              (
                becomes_follows 3 _ load_row load_follows,
                (becomes_follows 3 _ tie_row (deeper_follows 2 3 tie_row (lit≤ tt) tie_follows), (becomes_follows 3 _ tie_load_row tie_load_follows, tt)),
              ),
            ),
          ),
        ),
      ),
    )

pub nodes_says : Says 5 nodes_form
nodes_says = list_says 4 node_form node_says

pub format_says : Says 0 format_form
format_says = made_says 0 format_numbered number number_says

-- ---- what lists have

pub chain_element : Says 8 chain_form
chain_element = deeper_says 1 8 chain_form (lit≤ tt) chain_says

pub entry_element : Says 8 entry_form
entry_element = deeper_says 2 8 entry_form (lit≤ tt) entry_says

pub node_element : Says 8 node_form
node_element = deeper_says 4 8 node_form (lit≤ tt) node_says
