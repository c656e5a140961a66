-- The state while offsets are capped by the plan's, one stream at a time.
use Rattle.std.proofs.Common.{◌≡◌, ℕ, suc, ◌+◌, ◌<◌, ◌≤◌, List, ◌++◌, length, take, drop, get_or, set, ℤ, pos, ◌≤ℤ◌, ◌<ℤ◌, refl, sym, ap, ◌∙◌, subst, arith}
use Rattle.std.specs.Int.{int_min}
use Rattle.tsn_model.specs.Network.{stream_count}
use Rattle.tsn_model.specs.Argument as model
use Rattle.tsn_model.specs.Argument.{until, learned, low_at, high_at, capped}
use Rattle.tsn_argue.specs.State.{view_of, base_of, IsSound, Becomes}
use Rattle.tsn_argue.specs.Steps.{capped_view}
use Rattle.tsn_argue.specs.declared.view.View.{View}
use Rattle.tsn_argue.proofs.Capping.{cap_on, cap_last, cap_done}

-- what is capped so far, with the rest capped as by definition, is the whole
abbrev pub rest : ℕ → List ℕ → model.View → List ℤ
rest s plan view = take s view.high ++ capped (drop s plan) (drop s view.low) (drop s view.high)

pub record Capped (old now : View) (plan : List ℕ) (s : ℕ) : Type 0 where
  pub sound : IsSound now
  pub network : now.timing.now ≡ old.timing.now
  pub base : base_of now ≡ base_of old
  pub low : (view_of now).low ≡ (view_of old).low
  pub orders : (view_of now).orders ≡ (view_of old).orders
  pub done_low : (view_of now).done_low ≡ (view_of old).done_low
  pub done_high : (view_of now).done_high ≡ (view_of old).done_high
  pub high : rest s plan (view_of now) ≡ capped plan (view_of old).low (view_of old).high

pub cap_begin : (old : View) (plan : List ℕ) → IsSound old → Capped old old plan 0
cap_begin old plan sound = record { sound = sound; network = refl; base = refl; low = refl; orders = refl; done_low = refl; done_high = refl; high = refl }

module _ (old now new : View) (plan : List ℕ) (s : ℕ) (v : ℤ) where
  -- the view with one offset capped
  lowered : Becomes now new (learned (view_of now) (until s v))
      → view_of new ≡ record (view_of now) { high = set (view_of now).high s (int_min v (high_at (view_of now) s)) }
  unfolding learned
  lowered become = become.view

  inside : length plan ≡ stream_count old.timing.now → s < length plan → Capped old now plan s
      → (s < length (view_of now).low) × (s < length (view_of now).high)
  inside count below so =
      let lows : length (view_of now).low ≡ stream_count old.timing.now = so.sound.view.lows ∙ ap stream_count so.network in
      let highs : length (view_of now).high ≡ stream_count old.timing.now = so.sound.view.highs ∙ ap stream_count so.network in
      (omega arith, omega arith)

  pub cap_more : length plan ≡ stream_count old.timing.now → s < length plan → Capped old now plan s → v ≡ pos (get_or plan s 0)
      → Becomes now new (learned (view_of now) (until s v))
      → v ≤ℤ low_at (view_of new) s → Capped old new plan (s + 1)
  cap_more count below so is become reached =
      let view = lowered become in
      let within = inside count below so in
      let least : pos (get_or plan s 0) ≤ℤ get_or (view_of now).low s (pos 0) =
      subst (λ x. x ≤ℤ get_or (view_of now).low s (pos 0)) is (subst (λ (w : model.View). v ≤ℤ low_at w s) view reached) in
      let next : suc s ≡ s + 1 = omega arith in
      record {
        sound = become.sound;
        network = become.network ∙ so.network;
        base = become.base ∙ so.base;
        low = ap (λ (w : model.View). w.low) view ∙ so.low;
        orders = ap (λ (w : model.View). w.orders) view ∙ so.orders;
        done_low = ap (λ (w : model.View). w.done_low) view ∙ so.done_low;
        done_high = ap (λ (w : model.View). w.done_high) view ∙ so.done_high;
        high =
            ap (λ n. rest n plan (view_of new)) (sym next) ∙ ap (rest (suc s) plan) view
            ∙ ap (λ x. rest (suc s) plan (record (view_of now) { high = set (view_of now).high s (int_min x (high_at (view_of now) s)) })) is
            ∙ cap_on s plan (view_of now).low (view_of now).high below within.0 within.1 least ∙ so.high;
      }

  pub cap_stop : length plan ≡ stream_count old.timing.now → s < length plan → Capped old now plan s → v ≡ pos (get_or plan s 0)
      → Becomes now new (learned (view_of now) (until s v))
      → low_at (view_of new) s <ℤ v → Becomes old new (capped_view plan (view_of old))
  cap_stop count below so is become short =
      let view = lowered become in
      let within = inside count below so in
      let least : get_or (view_of now).low s (pos 0) <ℤ pos (get_or plan s 0) =
      subst (λ x. get_or (view_of now).low s (pos 0) <ℤ x) is (subst (λ (w : model.View). low_at w s <ℤ v) view short) in
      let high : (view_of new).high ≡ capped plan (view_of old).low (view_of old).high =
      ap (λ (w : model.View). w.high) view ∙ ap (λ x. set (view_of now).high s (int_min x (high_at (view_of now) s))) is
      ∙ cap_last s plan (view_of now).low (view_of now).high below within.0 within.1 least ∙ so.high in
      let low = ap (λ (w : model.View). w.low) view ∙ so.low in
      let orders = ap (λ (w : model.View). w.orders) view ∙ so.orders in
      let done_low = ap (λ (w : model.View). w.done_low) view ∙ so.done_low in
      let done_high = ap (λ (w : model.View). w.done_high) view ∙ so.done_high in
      record {
        sound = become.sound;
        network = become.network ∙ so.network;
        base = become.base ∙ so.base;
        view = λ k. record { low = low k; high = high k; orders = orders k; done_low = done_low k; done_high = done_high k };
      }

pub cap_end : (old now : View) (plan : List ℕ) (s : ℕ) → length plan ≡ stream_count old.timing.now → length plan ≤ s → s ≤ length plan → Capped old now plan s
    → Becomes old now (capped_view plan (view_of old))
cap_end old now plan s count past within so =
    let lows : length (view_of now).low ≡ s = so.sound.view.lows ∙ ap stream_count so.network ∙ (omega arith) in
    let highs : length (view_of now).high ≡ s = so.sound.view.highs ∙ ap stream_count so.network ∙ (omega arith) in
    let high : (view_of now).high ≡ capped plan (view_of old).low (view_of old).high =
    sym (cap_done s plan (view_of now).low (view_of now).high (omega arith) lows highs) ∙ so.high in
    record {
      sound = so.sound;
      network = so.network;
      base = so.base;
      view = λ k. record { low = so.low k; high = high k; orders = so.orders k; done_low = so.done_low k; done_high = so.done_high k };
    }
