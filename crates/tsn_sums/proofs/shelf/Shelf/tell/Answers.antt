use Rattle.std.proofs.Common.{◌≡◌, ℕ, ◌%◌, ◌^◌, ◌≤◌, ◌<◌, List, sym, ◌∙◌, subst, arith}
use Rattle.tsn_model.specs.Argument.{staged}
use Rattle.tsn_sums.specs.Sums.{key_of, work_of, IsUnit, AreLow, AreSmall}
use Rattle.tsn_sums.proofs.Placing.{staged_works, staged_low}
use Rattle.tsn_sums.proofs.shelf.Shelf.tell.Goals as goal

staged_unit : (unit idle most : ℕ) (rows : List (ℕ × ℕ)) → IsUnit unit rows → IsUnit unit (staged key_of work_of idle most rows)
staged_unit unit idle most rows is = record {
  some = is.some;
  each = staged_works key_of work_of idle (λ n. (unit ≤ n) × (n % unit ≡ 0)) most rows is.each;
}

staged_small : (idle most : ℕ) (rows : List (ℕ × ℕ)) → AreLow rows → most < 2 ^ 40 → AreSmall (staged key_of work_of idle most rows)
staged_small idle most rows low small = λ k d below.
    let work = staged_works key_of work_of idle (λ n. n < 2 ^ 32) most rows low k d below in
    let key = staged_low key_of work_of idle most most rows (omega arith) k d below in
    omega (arith, work, key)

pub tell-requires-clause-unit : goal.tell-requires-clause-unit
tell-requires-clause-unit c =
    subst (IsUnit c.args.unit) (sym (c.list.ensures ∙ c.stage.ensures)) (staged_unit c.args.unit c.args.idle c.args.most c.args.self.now.rows c.requires.unit)

pub tell-requires-clause-small : goal.tell-requires-clause-small
tell-requires-clause-small c =
    subst AreSmall (sym (c.list.ensures ∙ c.stage.ensures)) (staged_small c.args.idle c.args.most c.args.self.now.rows c.requires.low c.requires.most)

pub returns-clause-unit : goal.returns-clause-unit
returns-clause-unit c =
    subst (IsUnit c.args.unit) (sym c.stage.ensures) (staged_unit c.args.unit c.args.idle c.args.most c.args.self.now.rows c.requires.unit)
