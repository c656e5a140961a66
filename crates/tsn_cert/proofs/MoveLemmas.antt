-- Moves that are printed are read again.
use Rattle.std.proofs.Common.{◌≡◌, ◌≤◌, ℕ, List, [], ◌∷◌, length, Bool, true, false, Option, Some, None, refl, sym, ap, ◌∙◌, arith, lit≤}
use Rattle.std.proofs.lemmas.Bool.Decides.{nat_tests}
use Rattle.std.proofs.lemmas.Bool.{eqb-true}
use Rattle.std.specs.Prelude.{option_and_then, option_map, nat_le, ◌&&◌, ◌==◌, if◌then◌else◌}
use Rattle.std.specs.List.{list_all}
use Rattle.json.proofs.Printed.Utf8.{are_ascii}
use Rattle.tsn_model.specs.declared.Frame.{Frame}
use Rattle.tsn_cert.specs.Json.{when, number_value, array_value, worded_value}
use Rattle.tsn_cert.specs.Form.{made}
use Rattle.tsn_cert.specs.Cert.{shift, frame_fits, max_number}
use Rattle.tsn_cert.specs.Order.{order_in, order_value, orders_of, orders_value, order_fits}
use Rattle.tsn_cert.specs.Move.{frame_in, frame_value, frames_of, frames_value, edge_in, edge_value, edge_fits, filling_parts, filling_items, filling_fits, fixed_in, wasting_parts, wasting_items, wasting_fits, placing_parts, placing_items, placing_fits, move_in, move_value, moves_value, move_fits}
use Rattle.tsn_cert.specs.declared.order.Order.{Order}
use Rattle.tsn_cert.specs.declared.motion.Placing.{Placing}
use Rattle.tsn_cert.specs.declared.motion.Filling.{Filling}
use Rattle.tsn_cert.specs.declared.motion.Wasting.{Wasting}
use Rattle.tsn_cert.specs.declared.motion.Move.{Move}
use Rattle.tsn_cert.specs.declared.motion.Move.TheVariants as form
use Rattle.tsn_cert.proofs.JsonLemmas.{each-printed, few_kept}
use Rattle.tsn_cert.proofs.OrderLemmas.{order_written, listed_order_written}
use Rattle.tsn_cert.proofs.Values.{IsWritten, AreWritten, deeper, within, both, one, array_written, word_written, list_written, number_written, time_written}

-- ---- frames

frame_written_if : (b : Bool) (f : Frame)
    → IsWritten 1 (frame_fits f) (if b then number_value f.stream else array_value (number_value f.stream ∷ number_value f.shift ∷ []))
frame_written_if true f = within _ (number_written f.stream)
frame_written_if false f = array_written (both (one (number_written f.stream)) (one (number_written f.shift)))

frame_written : (f : Frame) → IsWritten 1 (frame_fits f) (frame_value f)
frame_written f = frame_written_if (f.shift == 0) f

frames_written : (frames : List Frame) → IsWritten 2 (list_all frame_fits frames) (frames_value frames)
frames_written frames = list_written frame_fits frame_value frame_written frames

frame_back_if : (b : Bool) (f : Frame) → (f.shift == 0) ≡ b
    → frame_in (if b then number_value f.stream else array_value (number_value f.stream ∷ number_value f.shift ∷ [])) ≡ Some f
frame_back_if true f is = ap (λ s. Some (record { stream = f.stream; shift = s })) (sym (eqb-true f.shift 0 is))
frame_back_if false f is =
    let written : nat_le 1 f.shift ≡ true = grind (arith, nat_tests, is) in
    ap (λ b. option_and_then (λ (s : ℕ). Some (record { stream = f.stream; shift = s })) (when b (Some f.shift))) written

pub frame_back : (f : Frame) → frame_in (frame_value f) ≡ Some f
frame_back f = frame_back_if (f.shift == 0) f refl

pub frames_back : (frames : List Frame) → 1 ≤ length frames → length frames ≤ 65536 → frames_of (frames_value frames) ≡ Some frames
frames_back frames some most =
    ap (λ o. option_and_then (λ (xs : List Frame). when (nat_le 1 (length xs) && nat_le (length xs) 65536) (Some xs)) o)
    (each-printed frame_in frame_value frame_back frames)
    ∙ few_kept 65536 frames some most

-- ---- placings

placing_written : (p : Placing) → AreWritten 2 (placing_fits p) (placing_items p)
placing_written p =
    both (both (both (one (number_written p.link)) (one (deeper (lit≤ tt) (frame_written p.frame)))) (one (frames_written p.others)))
    (one (frames_written p.some))

pub placing_back : (p : Placing) → frames_of (frames_value p.others) ≡ Some p.others → frames_of (frames_value p.some) ≡ Some p.some
    → placing_parts (placing_items p) ≡ Some p
placing_back p others some =
    let rest = frames_of (frames_value p.some) in
    ap (λ o. option_and_then (λ f. option_and_then (λ os. option_and_then (λ ss. Some (record { link = p.link; frame = f; others = os; some = ss })) rest)
    (frames_of (frames_value p.others))) o) (frame_back p.frame)
    ∙ ap (λ o. option_and_then (λ os. option_and_then (λ ss. Some (record { link = p.link; frame = p.frame; others = os; some = ss })) rest) o) others
    ∙ ap (λ o. option_and_then (λ ss. Some (record { link = p.link; frame = p.frame; others = p.others; some = ss })) o) some

-- ---- rooms

edge_written : (e : Option Frame) → IsWritten 1 (edge_fits e) (edge_value e)
edge_written None = record { shallow = omega arith; no_float = refl; plain = λ h. tt }
edge_written (Some f) = frame_written f

edge_back_if : (b : Bool) (f : Frame) → (f.shift == 0) ≡ b
    → edge_in (if b then number_value f.stream else array_value (number_value f.stream ∷ number_value f.shift ∷ [])) ≡ Some (Some f)
edge_back_if true f is = ap (λ s. Some (Some (record { stream = f.stream; shift = s }))) (sym (eqb-true f.shift 0 is))
edge_back_if false f is =
    let written : nat_le 1 f.shift ≡ true = grind (arith, nat_tests, is) in
    ap (λ b. option_map {U = Option Frame} Some (option_and_then (λ (s : ℕ). Some (record { stream = f.stream; shift = s })) (when b (Some f.shift)))) written

pub edge_back : (e : Option Frame) → edge_in (edge_value e) ≡ Some e
edge_back None = refl
edge_back (Some f) = edge_back_if (f.shift == 0) f refl

filling_written : (p : Filling) → AreWritten 2 (filling_fits p) (filling_items p)
filling_written p =
    both (both (both (both (both (one (number_written p.link)) (one (deeper (lit≤ tt) (frame_written p.frame)))) (one (frames_written p.others)))
    (one (deeper (lit≤ tt) (edge_written p.before)))) (one (deeper (lit≤ tt) (edge_written p.after)))) (one (time_written p.bound))

pub filling_back : (p : Filling) → frames_of (frames_value p.others) ≡ Some p.others → filling_parts (filling_items p) ≡ Some p
filling_back p others =
    let before = edge_in (edge_value p.before) in
    let after = edge_in (edge_value p.after) in
    let filling : Frame → List Frame → Option Frame → Option Frame → Option Filling =
    λ f os b a. Some (record { link = p.link; frame = f; others = os; before = b; after = a; bound = p.bound }) in
    ap (λ o. option_and_then (λ f. option_and_then (λ os. option_and_then (λ b. option_and_then (λ a. filling f os b a) after) before)
    (frames_of (frames_value p.others))) o) (frame_back p.frame)
    ∙ ap (λ o. option_and_then (λ os. option_and_then (λ b. option_and_then (λ a. filling p.frame os b a) after) before) o) others
    ∙ ap (λ o. option_and_then (λ b. option_and_then (λ a. filling p.frame p.others b a) after) o) (edge_back p.before)
    ∙ ap (λ o. option_and_then (λ a. filling p.frame p.others p.before a) o) (edge_back p.after)

wasting_written : (p : Wasting) → AreWritten 2 (wasting_fits p) (wasting_items p)
wasting_written p = both (both (one (number_written p.link)) (one (frames_written p.frames))) (one (frames_written p.fixed))

pub fixed_back : (frames : List Frame) → fixed_in (frames_value frames) ≡ Some frames
fixed_back frames = each-printed frame_in frame_value frame_back frames

pub wasting_back : (p : Wasting) → frames_of (frames_value p.frames) ≡ Some p.frames → wasting_parts (wasting_items p) ≡ Some p
wasting_back p frames =
    ap (λ o. option_and_then (λ fs. option_and_then (λ cs. Some (record { link = p.link; frames = fs; fixed = cs })) (fixed_in (frames_value p.fixed))) o)
    frames
    ∙ ap (λ o. option_and_then (λ cs. Some (record { link = p.link; frames = p.frames; fixed = cs })) o) (fixed_back p.fixed)

-- ---- moves

-- a word and a number
number_move : (word : List ℕ) (n : ℕ) → are_ascii word ≡ true → IsWritten 3 (nat_le n max_number) (worded_value word (number_value n ∷ []))
number_move word n ascii = word_written word ascii (one (number_written n))

move_written : (m : Move) → IsWritten 3 (move_fits m) (move_value m)
move_written (form.Go order) = word_written _ refl (order_written order)
move_written (form.Turn order) = word_written _ refl (order_written order)
move_written (form.Last placing) = word_written _ refl (placing_written placing)
move_written (form.First placing) = word_written _ refl (placing_written placing)
move_written (form.Pack link frames) = word_written _ refl (both (one (number_written link)) (one (frames_written frames)))
move_written (form.Round orders) = word_written _ refl (one (list_written order_fits order_value (listed_order_written {deep = 0}) orders))
move_written (form.Follow known weaker) =
    word_written _ refl (both (one (listed_order_written {deep = 1} known)) (one (listed_order_written {deep = 1} weaker)))
move_written (form.Fill filling) = word_written _ refl (filling_written filling)
move_written (form.FillBack filling) = word_written _ refl (filling_written filling)
move_written (form.Waste wasting) = word_written _ refl (wasting_written wasting)
move_written _ = number_move _ _ refl

pub moves_written : (moves : List Move) → IsWritten 4 (list_all move_fits moves) (moves_value moves)
moves_written moves = list_written move_fits move_value move_written moves

pub go_back : (o : Order) → order_in (order_value o) ≡ Some o → move_in (move_value (form.Go o)) ≡ Some (form.Go o)
go_back o back = ap (option_map form.Go) back

pub turn_back : (o : Order) → order_in (order_value o) ≡ Some o → move_in (move_value (form.Turn o)) ≡ Some (form.Turn o)
turn_back o back = ap (option_map form.Turn) back

pub last_back : (p : Placing) → placing_parts (placing_items p) ≡ Some p → move_in (move_value (form.Last p)) ≡ Some (form.Last p)
last_back p back = ap (option_map form.Last) back

pub first_back : (p : Placing) → placing_parts (placing_items p) ≡ Some p → move_in (move_value (form.First p)) ≡ Some (form.First p)
first_back p back = ap (option_map form.First) back

pub pack_back : (link : ℕ) (frames : List Frame) → frames_of (frames_value frames) ≡ Some frames
    → move_in (move_value (form.Pack link frames)) ≡ Some (form.Pack link frames)
pack_back link frames back = ap (λ o. option_map (λ (p : ℕ × List Frame). form.Pack p.0 p.1) (option_and_then (λ (fs : List Frame). Some (link, fs)) o)) back

pub round_back : (orders : List Order) → orders_of (orders_value orders) ≡ Some orders → move_in (move_value (form.Round orders)) ≡ Some (form.Round orders)
round_back orders back = ap (λ o. option_map form.Round (option_and_then (λ (os : List Order). Some os) o)) back

pub follow_back : (known weaker : Order) → order_in (order_value known) ≡ Some known → order_in (order_value weaker) ≡ Some weaker
    → move_in (move_value (form.Follow known weaker)) ≡ Some (form.Follow known weaker)
follow_back known weaker first second =
    let made : Option (Order × Order) → Option Move = option_map (λ (p : Order × Order). form.Follow p.0 p.1) in
    ap (λ o. made (option_and_then (λ (k : Order). option_and_then (λ (w : Order). Some (k, w)) (order_in (order_value weaker))) o)) first
    ∙ ap (λ o. made (option_and_then (λ (w : Order). Some (known, w)) o)) second

-- where lists have one

pub fill_moved : (p : Filling) → filling_parts (filling_items p) ≡ Some p → move_in (move_value (form.Fill p)) ≡ Some (form.Fill p)
fill_moved p back = ap (option_map form.Fill) back

pub fill_back_moved : (p : Filling) → filling_parts (filling_items p) ≡ Some p → move_in (move_value (form.FillBack p)) ≡ Some (form.FillBack p)
fill_back_moved p back = ap (option_map form.FillBack) back

pub waste_moved : (p : Wasting) → wasting_parts (wasting_items p) ≡ Some p → move_in (move_value (form.Waste p)) ≡ Some (form.Waste p)
waste_moved p back = ap (option_map form.Waste) back
