-- Moves in the file of an argument.
--     motions, moves_form            the grammar
--     move_fits                      the limits
--     move_value, moves_value        the printed form
--     move_of                        what they mean
use Rattle.serde_json.specs.Data.{Data}
use Rattle.std.specs.List.{list_all}
use Rattle.std.specs.Prelude.{ℕ, List, [], ◌∷◌, map, Bool, true, if◌then◌else◌, ◌&&◌, ◌==◌, nat_le, codes, Option, Some, None}
use Rattle.tsn_cert.specs.Cert.{shift, first_frame, max_number, frame_fits}
use Rattle.tsn_cert.specs.Form.{Form, Row, number, made, becomes, either, array, next, over, over_or, one_of, list, few, number_row}
use Rattle.tsn_cert.specs.Json.{number_value, array_value, worded_value}
use Rattle.tsn_cert.specs.Plan.{max_time}
use Rattle.tsn_cert.specs.Order.{order_row, order_form, orders_form, order_fits, order_items, order_value, orders_value, decision_of}
use Rattle.tsn_cert.specs.declared.motion.Move.TheVariants as form
use Rattle.tsn_cert.specs.declared.motion.Move.{Move}
use Rattle.tsn_cert.specs.declared.motion.Placing.{Placing}
use Rattle.tsn_cert.specs.declared.motion.Filling.{Filling}
use Rattle.tsn_cert.specs.declared.motion.Wasting.{Wasting}
use Rattle.tsn_cert.specs.declared.order.Order.{Order}
use Rattle.tsn_model.specs.Argument as model
use Rattle.tsn_model.specs.declared.Frame.{Frame}

-- ---- frames

-- a stream and a shift
abbrev pub later_row : Row Frame
later_row = next number (λ i. next shift (λ s. over (record { stream = i; shift = s })))

-- a stream, whose shift is 0, or a stream and a shift
abbrev pub frame_form : Form Frame
frame_form = either (made (λ i. Some (first_frame i)) number) (array later_row)

abbrev pub frame_in : Data → Option Frame
frame_in = frame_form.said

-- the most frames of a move
abbrev pub max_frames : ℕ
max_frames = 65536

-- an array of 1 to 1,024 frames
abbrev pub frames_form : Form (List Frame)
frames_form = few 1 max_frames frame_form

abbrev pub frames_of : Data → Option (List Frame)
frames_of = frames_form.said

abbrev pub frame_value : Frame → Data
frame_value f = if f.shift == 0 then number_value f.stream else array_value (number_value f.stream ∷ number_value f.shift ∷ [])

abbrev pub frames_value : List Frame → Data
frames_value frames = array_value (map frame_value frames)

-- ---- placings

-- a link, a frame, others and some of these
abbrev pub placing_row : Row Placing
placing_row = next number (λ l. next frame_form (λ f. next frames_form (λ os. next frames_form (λ ss. over (record { link = l; frame = f; others = os; some = ss })))))

abbrev pub placing_parts : List Data → Option Placing
placing_parts = placing_row.parts

abbrev pub placing_fits : Placing → Bool
placing_fits p = nat_le p.link max_number && frame_fits p.frame && list_all frame_fits p.others && list_all frame_fits p.some

abbrev pub placing_items : Placing → List Data
placing_items p = number_value p.link ∷ frame_value p.frame ∷ frames_value p.others ∷ frames_value p.some ∷ []

-- ---- rooms

-- an empty array, for that of all the frames, or a frame
abbrev pub edge_form : Form (Option Frame)
edge_form = either (made (λ i. Some (Some (first_frame i))) number) (array (over_or None (becomes Some later_row)))

abbrev pub edge_in : Data → Option (Option Frame)
edge_in = edge_form.said

abbrev pub edge_fits : Option Frame → Bool
edge_fits None = true
edge_fits (Some f) = frame_fits f

abbrev pub edge_value : Option Frame → Data
edge_value None = array_value []
edge_value (Some f) = frame_value f

abbrev pub edge_of : Option Frame → model.Edge
edge_of None = model.outermost
edge_of (Some f) = model.beside f

-- a link, a frame, others, where the room begins and ends, and a time
abbrev pub filling_row : Row Filling
filling_row =
    next number (λ l. next frame_form (λ f. next frames_form (λ os. next edge_form (λ b. next edge_form (λ a. next number (λ v. over (
    record { link = l; frame = f; others = os; before = b; after = a; bound = v }
    )))))))

abbrev pub filling_parts : List Data → Option Filling
filling_parts = filling_row.parts

abbrev pub filling_fits : Filling → Bool
filling_fits p =
    nat_le p.link max_number && frame_fits p.frame && list_all frame_fits p.others && edge_fits p.before && edge_fits p.after && nat_le p.bound max_time

abbrev pub filling_items : Filling → List Data
filling_items p =
    number_value p.link ∷ frame_value p.frame ∷ frames_value p.others ∷ edge_value p.before ∷ edge_value p.after ∷ number_value p.bound ∷ []

-- any number of frames
abbrev pub fixed_form : Form (List Frame)
fixed_form = list frame_form

abbrev pub fixed_in : Data → Option (List Frame)
fixed_in = fixed_form.said

-- a link, frames, and those of them that can't move
abbrev pub wasting_row : Row Wasting
wasting_row = next number (λ l. next frames_form (λ fs. next fixed_form (λ cs. over (record { link = l; frames = fs; fixed = cs }))))

abbrev pub wasting_parts : List Data → Option Wasting
wasting_parts = wasting_row.parts

abbrev pub wasting_fits : Wasting → Bool
wasting_fits p = nat_le p.link max_number && list_all frame_fits p.frames && list_all frame_fits p.fixed

abbrev pub wasting_items : Wasting → List Data
wasting_items p = number_value p.link ∷ frames_value p.frames ∷ frames_value p.fixed ∷ []

-- ---- moves

-- a link and frames
abbrev pub pack_row : Row (ℕ × List Frame)
pack_row = next number (λ l. next frames_form (λ fs. over (l, fs)))

-- orders alone
abbrev pub round_row : Row (List Order)
round_row = next orders_form over

-- two orders
abbrev pub follow_row : Row (Order × Order)
follow_row = next order_form (λ k. next order_form (λ w. over (k, w)))

-- the moves: a word, and what stands behind it
abbrev pub motions : List (List ℕ × Row Move)
motions =
    (codes "go", becomes form.Go order_row)
    ∷ (codes "turn", becomes form.Turn order_row)
    ∷ (codes "use", becomes form.Use number_row)
    ∷ (codes "arrive", becomes form.Arrive number_row)
    ∷ (codes "last", becomes form.Last placing_row)
    ∷ (codes "first", becomes form.First placing_row)
    ∷ (codes "pack", becomes (λ p. form.Pack p.0 p.1) pack_row)
    ∷ (codes "round", becomes form.Round round_row)
    ∷ (codes "follow", becomes (λ p. form.Follow p.0 p.1) follow_row)
    ∷ (codes "fill", becomes form.Fill filling_row)
    ∷ (codes "fill_back", becomes form.FillBack filling_row)
    ∷ (codes "waste", becomes form.Waste wasting_row)
    ∷ []

abbrev pub move_form : Form Move
move_form = one_of motions

abbrev pub move_in : Data → Option Move
move_in = move_form.said

abbrev pub moves_form : Form (List Move)
moves_form = list move_form

abbrev pub moves_in : Data → Option (List Move)
moves_in = moves_form.said

abbrev pub move_fits : Move → Bool
move_fits (form.Go order) = order_fits order
move_fits (form.Turn order) = order_fits order
move_fits (form.Use number) = nat_le number max_number
move_fits (form.Arrive stream) = nat_le stream max_number
move_fits (form.Last placing) = placing_fits placing
move_fits (form.First placing) = placing_fits placing
move_fits (form.Pack link frames) = nat_le link max_number && list_all frame_fits frames
move_fits (form.Round orders) = list_all order_fits orders
move_fits (form.Follow known weaker) = order_fits known && order_fits weaker
move_fits (form.Fill filling) = filling_fits filling
move_fits (form.FillBack filling) = filling_fits filling
move_fits (form.Waste wasting) = wasting_fits wasting

abbrev pub move_value : Move → Data
move_value (form.Go order) = worded_value (codes "go") (order_items order)
move_value (form.Turn order) = worded_value (codes "turn") (order_items order)
move_value (form.Use number) = worded_value (codes "use") (number_value number ∷ [])
move_value (form.Arrive stream) = worded_value (codes "arrive") (number_value stream ∷ [])
move_value (form.Last placing) = worded_value (codes "last") (placing_items placing)
move_value (form.First placing) = worded_value (codes "first") (placing_items placing)
move_value (form.Pack link frames) = worded_value (codes "pack") (number_value link ∷ frames_value frames ∷ [])
move_value (form.Round orders) = worded_value (codes "round") (orders_value orders ∷ [])
move_value (form.Follow known weaker) = worded_value (codes "follow") (order_value known ∷ order_value weaker ∷ [])
move_value (form.Fill filling) = worded_value (codes "fill") (filling_items filling)
move_value (form.FillBack filling) = worded_value (codes "fill_back") (filling_items filling)
move_value (form.Waste wasting) = worded_value (codes "waste") (wasting_items wasting)

abbrev pub moves_value : List Move → Data
moves_value moves = array_value (map move_value moves)

abbrev pub move_of : Move → model.Move
move_of (form.Go order) = model.go (decision_of order)
move_of (form.Turn order) = model.turn (decision_of order)
move_of (form.Use k) = model.apply k
move_of (form.Arrive i) = model.arrive i
move_of (form.Last placing) = model.put_last placing.link placing.frame placing.others placing.some
move_of (form.First placing) = model.put_first placing.link placing.frame placing.others placing.some
move_of (form.Pack link frames) = model.pack link frames
move_of (form.Round orders) = model.round (map decision_of orders)
move_of (form.Follow known weaker) = model.follow (decision_of known) (decision_of weaker)
move_of (form.Fill f) = model.fill f.link f.frame f.others (edge_of f.before) (edge_of f.after) f.bound
move_of (form.FillBack f) = model.fill_back f.link f.frame f.others (edge_of f.before) (edge_of f.after) f.bound
move_of (form.Waste w) = model.waste w.link w.frames w.fixed
