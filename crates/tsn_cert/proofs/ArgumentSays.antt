-- What an argument's parts say of a value is what they say of the tokens that spell it.
use Rattle.std.proofs.Common.{Some, None, lit≤, rules}
use Rattle.tsn_cert.specs.Argument.{step_form, steps_form, goal_form, goal_named}
use Rattle.tsn_cert.specs.Cert.{first_frame, lag_row, shift}
use Rattle.tsn_cert.specs.Fact.{bound_row, fact_form, facts, clause_form}
use Rattle.tsn_cert.specs.Form.{number, text, made, becomes, array, over, over_or, number_row}
use Rattle.tsn_cert.specs.Move.{later_row, frame_form, frames_form, edge_form, fixed_form, filling_row, wasting_row, placing_row, pack_row, round_row, follow_row, motions, move_form, moves_form}
use Rattle.tsn_cert.specs.Order.{order_row, order_form, orders_form}
use Rattle.tsn_cert.specs.declared.motion.Move.TheVariants as form
use Rattle.tsn_cert.specs.Says.{Says, Follows}
use Rattle.tsn_cert.proofs.LagSays.{lag_follows, shift_says}
use Rattle.tsn_cert.proofs.Says.{EachFollows, number_says, text_says, made_says, either_says, next_follows, over_follows, or_follows, becomes_follows, array_says, deeper_says, deeper_follows, few_says, list_says, one_says}

order_follows : Follows 0 order_row
order_follows = next_follows 0 number _ number_says
    (λ i. next_follows 0 number _ number_says (λ j. next_follows 0 number _ number_says (λ l. becomes_follows 0 _ lag_row lag_follows)))

pub order_says : Says 1 order_form
order_says = array_says 0 order_row order_follows

bound_follows : Follows 0 bound_row
bound_follows = next_follows 0 number _ number_says (λ i. next_follows 0 number _ number_says (λ v. over_follows 0 (i, v)))

number_follows : Follows 0 number_row
number_follows = next_follows 0 number over number_says (λ n. over_follows 0 n)

facts_follow : EachFollows 0 facts
facts_follow = search (rules, becomes_follows, bound_follows, order_follows, number_follows)

pub fact_says : Says 1 fact_form
fact_says = one_says 0 facts facts_follow

later_follows : Follows 0 later_row
later_follows = next_follows 0 number _ number_says (λ i. next_follows 0 shift _ shift_says (λ s. over_follows 0 (record { stream = i; shift = s })))

pub frame_says : Says 1 frame_form
frame_says =
    either_says 1 (made (λ i. Some (first_frame i)) number) (array later_row) (deeper_says 0 1 _ (lit≤ tt) (made_says 0 _ number number_says))
    (array_says 0 later_row later_follows)

edge_says : Says 1 edge_form
edge_says =
    either_says 1 (made (λ i. Some (Some (first_frame i))) number) (array (over_or None (becomes Some later_row)))
    (deeper_says 0 1 _ (lit≤ tt) (made_says 0 _ number number_says))
    (array_says 0 (over_or None (becomes Some later_row)) (or_follows 0 None (becomes Some later_row) (becomes_follows 0 Some later_row later_follows)))

frames_says : Says 2 frames_form
frames_says = few_says 1 1 65536 frame_form frame_says

orders_says : Says 2 orders_form
orders_says = few_says 1 1 128 order_form order_says

deep_number : Says 2 number
deep_number = deeper_says 0 2 number (lit≤ tt) number_says

placing_follows : Follows 2 placing_row
placing_follows =
    next_follows 2 number _ deep_number (λ l. next_follows 2 frame_form _ (deeper_says 1 2 frame_form (lit≤ tt) frame_says) (λ f.
    next_follows 2 frames_form _ frames_says (λ os. next_follows 2 frames_form _ frames_says (λ ss. over_follows 2 _))))

deep_order : Follows 2 order_row
deep_order = deeper_follows 0 2 order_row (lit≤ tt) order_follows

deep_only : Follows 2 number_row
deep_only = deeper_follows 0 2 number_row (lit≤ tt) number_follows

pack_follows : Follows 2 pack_row
pack_follows = next_follows 2 number _ deep_number (λ l. next_follows 2 frames_form _ frames_says (λ fs. over_follows 2 (l, fs)))

round_follows : Follows 2 round_row
round_follows = next_follows 2 orders_form over orders_says (λ os. over_follows 2 os)

follow_follows : Follows 2 follow_row
follow_follows =
    let order = deeper_says 1 2 order_form (lit≤ tt) order_says in
    next_follows 2 order_form _ order (λ k. next_follows 2 order_form _ order (λ w. over_follows 2 (k, w)))

filling_follows : Follows 2 filling_row
filling_follows =
    let edge = deeper_says 1 2 edge_form (lit≤ tt) edge_says in
    next_follows 2 number _ deep_number (λ l. next_follows 2 frame_form _ (deeper_says 1 2 frame_form (lit≤ tt) frame_says) (λ f.
    next_follows 2 frames_form _ frames_says (λ os. next_follows 2 edge_form _ edge (λ b. next_follows 2 edge_form _ edge (λ a.
    next_follows 2 number _ deep_number (λ v. over_follows 2 _))))))

wasting_follows : Follows 2 wasting_row
wasting_follows =
    next_follows 2 number _ deep_number (λ l. next_follows 2 frames_form _ frames_says (λ fs.
    next_follows 2 fixed_form _ (list_says 1 frame_form frame_says) (λ cs. over_follows 2 _)))

motions_follow : EachFollows 2 motions
motions_follow = (
  becomes_follows 2 form.Go order_row deep_order,
  (
    becomes_follows 2 form.Turn order_row deep_order,
    (
      becomes_follows 2 form.Use number_row deep_only,
      (
        becomes_follows 2 form.Arrive number_row deep_only,
        (
          becomes_follows 2 form.Last placing_row placing_follows,
          (
            becomes_follows 2 form.First placing_row placing_follows,
            (
              becomes_follows 2 _ pack_row pack_follows,
              (
                becomes_follows 2 form.Round round_row round_follows,
                (
                  becomes_follows 2 _ follow_row follow_follows,
                  (
                    becomes_follows 2 form.Fill filling_row filling_follows,
                    (
                      becomes_follows 2 form.FillBack filling_row filling_follows,
                      (
                        becomes_follows 2 form.Waste wasting_row wasting_follows,
                        tt,
                      ),
                    ),
                  ),
                ),
              ),
            ),
          ),
        ),
      ),
    ),
  ),
)

pub move_says : Says 3 move_form
move_says = one_says 2 motions motions_follow

pub step_says : Says 5 step_form
step_says =
    array_says 4 _ (next_follows 4 clause_form _ (deeper_says 2 4 clause_form (lit≤ tt) (list_says 1 fact_form fact_says)) (λ fs.
    next_follows 4 moves_form _ (list_says 3 move_form move_says) (λ ms. over_follows 4 _)))

pub steps_says : Says 6 steps_form
steps_says = list_says 5 step_form step_says

pub goal_says : Says 0 goal_form
goal_says = made_says 0 goal_named text text_says
