-- How many frames a stream sends, and how many all do.
use Rattle.std.proofs.Common.{◌≡◌, ◌∙◌, ◌+◌, ◌≤◌, ◌<◌, ◌*◌, ℕ, zero, suc, ℤ, pos, true, List, [], ◌∷◌, length, get_or, map, Option, Some, None, refl, ap, ap₂, sym, arith}
use Rattle.std.specs.Prelude.{◌/◌, ◌%◌, sum_by, unwrap_or, option_and_then}
use Rattle.std.specs.Option.{option_map_or}
use Rattle.std.proofs.Math.Nat.{mod-add-div', mul-mod_right, div-le_self}
use Rattle.std.proofs.lemmas.Nat.{mul-le}
use Rattle.std.proofs.lemmas.List.Sums.{sum_by-cons}
use Rattle.toml.specs.Data.{Data, table, no_members, get, as_integer}
use Rattle.toml.specs.View.{view}
use Rattle.toml.specs.declared.value.Value.{Value}
use Rattle.tsn_model.specs.Network.{Stream}
use Rattle.tsn_net.specs.declared.schema.Key.TheVariants as key
use Rattle.tsn_net.specs.Schema.{name_of}
use Rattle.tsn_net.specs.Document.{integer_or, unsigned, number_or}
use Rattle.tsn_net.specs.Conditions.{has_period, has_burst, turns_at, frames_of}
use Rattle.tsn_net.proofs.Found.{within}

-- a number that is within bounds, whichever of two stands where there is none
pub either_within : (low high : ℕ) (found : Option ℤ) (cycle : ℕ) (one : ℤ) → (low ≤ cycle) × (cycle ≤ high)
    → (low ≤ unsigned (unwrap_or found one)) × (unsigned (unwrap_or found one) ≤ high)
    → (low ≤ option_map_or unsigned found cycle) × (option_map_or unsigned found cycle ≤ high)
either_within low high None cycle one absent there = absent
either_within low high (Some found) cycle one absent there = there

pub burst_within : (stream : Data) → has_burst stream ≡ true → (1 ≤ number_or 1 key.Frames stream) × (number_or 1 key.Frames stream ≤ 16)
burst_within stream has =
    either_within 1 16 (option_and_then as_integer (get (name_of key.Frames) stream)) 1 (pos 1) (omega arith, omega arith)
    (within 1 16 (integer_or (pos 1) key.Frames stream) has)

-- few frames, where the cycle is short
pub few_of : (cycle : ℕ) (stream : Data) → cycle ≤ 1000000000 → has_burst stream ≡ true → turns_at cycle stream * number_or 1 key.Frames stream ≤ 16000000000
few_of cycle stream short burst =
    let turns = div-le_self cycle (number_or cycle key.Period stream) in
    mul-le (turns_at cycle stream) (number_or 1 key.Frames stream) 1000000000 16 (omega (arith, turns, short)) (burst_within stream burst).1

-- ---- periods that divide the cycle

some_factor : (a b c : ℕ) → a * b ≡ c → 1 ≤ c → 1 ≤ a
some_factor zero b c is some = absurd (omega (arith, is, some))
some_factor (suc a) b c is some = omega arith

pub whole_turns : (cycle period : ℕ) → 1 ≤ cycle → cycle % period ≡ 0 → (1 ≤ cycle / period) × (cycle % (cycle / period) ≡ 0)
whole_turns cycle period some divides =
    let parts = mod-add-div' cycle period in
    let product : cycle / period * period ≡ cycle = omega (arith, parts, divides) in
    (some_factor (cycle / period) period cycle product some, ap (λ n. n % (cycle / period)) (sym product) ∙ mul-mod_right (cycle / period) period)

-- ---- how many frames there are

pub count_mapped : (read : Data → Stream) (frames : Data → ℕ) (xs : List Data) → ((i : ℕ) → i < length xs
    → frames (get_or xs i (table no_members)) ≡ (read (get_or xs i (table no_members))).turns * (read (get_or xs i (table no_members))).burst)
    → sum_by (λ (stream : Stream). stream.turns * stream.burst) (map read xs) ≡ sum_by frames xs
count_mapped read frames [] same = refl
count_mapped read frames (x ∷ xs) same =
    sum_by-cons (λ (stream : Stream). stream.turns * stream.burst) (read x) (map read xs)
    ∙ ap₂ (λ a b. a + b) (sym (same 0 (omega arith))) (count_mapped read frames xs (λ i below. same (suc i) (omega (arith, below))))
    ∙ sym (sum_by-cons frames x xs)

pub frames_counted : (cycle : ℕ) (stream : Data) → has_period stream ≡ true → has_burst stream ≡ true
    → frames_of cycle stream ≡ turns_at cycle stream * number_or 1 key.Frames stream
frames_counted cycle stream period burst = rw (period, burst) refl

-- the frames of values
pub frames_seen : (cycle : ℕ) (vs : List Value) → sum_by (frames_of cycle) (map view vs) ≡ sum_by (λ (v : Value). frames_of cycle (view v)) vs
frames_seen cycle [] = refl
frames_seen cycle (v ∷ vs) =
    sum_by-cons (frames_of cycle) (view v) (map view vs) ∙ ap (λ n. frames_of cycle (view v) + n) (frames_seen cycle vs)
    ∙ sym (sum_by-cons (λ (w : Value). frames_of cycle (view w)) v vs)
