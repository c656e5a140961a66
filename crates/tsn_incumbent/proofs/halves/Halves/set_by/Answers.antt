use Rattle.std.proofs.Common.{rules, ap, sym, ◌∙◌, false, true}
use Rattle.atomic_table.specs.Table.{Me}
use Rattle.tsn_incumbent.specs.declared.share.Share.{Share}
use Rattle.tsn_incumbent.specs.Halves.{Half, half_of}
use Rattle.tsn_incumbent.proofs.Sharing.{pairs, parts, sets, badge_part}
use Rattle.tsn_incumbent.proofs.halves.Halves.set_by.Goals as goal

pub join_seat-requires : goal.join_seat-requires
join_seat-requires g c =
    let one = ap (λ (b : _). b.views) (sym c.replace-one.ensures.value) ∙ c.into_seat-pair.ensures.2 in
    let other = ap (λ (b : _). b.views) (sym c.replace-other.ensures.value) ∙ c.into_seat.ensures.2 in
    let first = ap (λ (h : Half). h.is_second) c.first.view_is ∙ c.requires.first.1 in
    let second = ap (λ (h : Half). h.is_second) c.second.view_is ∙ c.requires.second.1 in
    let number_one = ap (λ vs. (half_of c.first.inside.badge.table_id vs).number) (sym one) ∙ ap (λ (h : Half). h.number) c.first.view_is in
    let number_other = ap (λ vs. (half_of c.second.inside.badge.table_id vs).number) (sym other) ∙ ap (λ (h : Half). h.number) c.second.view_is in (
      search rules,
      search rules,
      search rules,
      search rules,
      pairs _ _ _ _ (badge_part _ _ _ one c.first.invariant false first) (badge_part _ _ _ other c.second.invariant true second) (number_one ∙ c.requires.number ∙ sym number_other),
    )

pub load-requires : goal.load-requires
load-requires g c =
    let after = c.join_seat.ensures.2 in
    (search rules, search rules, sets _ _ _ _ (ap (λ (me : Me (Unit {0}) Share). me.0.part) after) (ap (λ (me : Me (Unit {0}) Share). me.1) after ∙ c.into_seat-pair.ensures.3))

pub split_seat-other-requires : goal.split_seat-other-requires
split_seat-other-requires g c = (search rules, search rules, parts _ _ (ap (λ (me : Me (Unit {0}) Share). me.0.part) c.load.ensures.2.0))
