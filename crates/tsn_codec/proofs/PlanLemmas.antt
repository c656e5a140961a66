-- A printed plan is read again.
use Rattle.std.proofs.Common.{◌≡◌, ℕ, List, map, true, Some, Ok, refl, ap, ◌∙◌, arith, lit≤}
use Rattle.std.specs.Prelude.{option_and_then, nat_le}
use Rattle.std.proofs.lemmas.Bool.{and_parts}
use Rattle.serde_json.specs.Read.{max_depth}
use Rattle.tsn_cert.specs.Json.{value_of, number_value, array_value, all_within}
use Rattle.tsn_cert.specs.Fault.{shaped, answer}
use Rattle.tsn_cert.specs.Plan.{max_time, plan_of, plan_fits, plan_in, plan_value}
use Rattle.tsn_cert.specs.declared.plan.Plan.{Plan}
use Rattle.tsn_cert.specs.declared.plan.Plan.TheVariants as plan
use Rattle.tsn_cert.proofs.JsonLemmas.{numbers-array_value}
use Rattle.tsn_cert.proofs.Values.{IsWritten, read_again, list_written, time_written}
use Rattle.tsn_cert.specs.Laws.{PlanTextIsRead}

plan_of-plan_value : (p : Plan) → plan_of (plan_value p) ≡ Some p
plan_of-plan_value plan.None = refl
plan_of-plan_value (plan.Schedule flowspan offsets) =
    ap (λ o. option_and_then (λ os. Some (plan.Schedule flowspan os)) o) (numbers-array_value offsets)

pub plan_written : (p : Plan) → IsWritten max_depth (plan_fits p) (plan_value p)
plan_written plan.None = record { shallow = lit≤ tt; no_float = refl; plain = λ h. ((refl, tt, (refl, tt, tt)), refl) }
plan_written (plan.Schedule flowspan offsets) =
    let times : IsWritten 1 (all_within max_time offsets) (array_value (map number_value offsets)) =
    list_written (λ n. nat_le n max_time) number_value time_written offsets in
    let time : IsWritten 0 (nat_le flowspan max_time) _ = time_written flowspan in
    let low = times.shallow in
    let none = times.no_float in
    record {
      shallow = omega (arith, low);
      no_float = rw none refl;
      plain = λ h.
          let parts = and_parts (nat_le flowspan max_time) (all_within max_time offsets) h in
          ((refl, time.plain parts.0, (refl, times.plain parts.1, tt)), refl);
    }

pub plan_in-printed : (s : List ℕ) (p : Plan) → value_of s ≡ Some (plan_value p) → plan_fits p ≡ true → plan_in s ≡ Ok p
plan_in-printed s p e fits =
    ap (answer plan_of plan_fits) e ∙ ap (shaped plan_fits) (plan_of-plan_value p) ∙ rw fits refl

pub plan_text_read : PlanTextIsRead
plan_text_read p fits = plan_in-printed _ p (read_again (plan_written p) fits) fits
