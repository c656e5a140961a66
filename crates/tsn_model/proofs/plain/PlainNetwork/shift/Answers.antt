use Rattle.std.proofs.Common.{◌≡◌, ◌*◌, ap, subst, arith}
use Rattle.tsn_model.specs.Network.{IsWellFormed, period_of}
use Rattle.tsn_model.specs.Timing.{pace}
use Rattle.tsn_model.proofs.Limits.{turn-le, shift-le}
use Rattle.tsn_model.proofs.plain.PlainNetwork.shift.Goals as goal

pub overflow_mul-result : goal.overflow_mul-result
overflow_mul-result c =
    let same : c.args.turn * c.period.result ≡ c.args.turn * period_of c.args.self.now c.args.i = ap (λ p. c.args.turn * p) c.period.ensures.value in
    let below = turn-le c.args.self.now (subst IsWellFormed c.self.view_is c.self.invariant) c.args.i c.args.turn c.requires.turn in
    omega arith

pub overflow_mul-result-2 : goal.overflow_mul-result-2
overflow_mul-result-2 c =
    let same : c.args.place * c.pace.result ≡ c.args.place * pace c.args.self.now c.args.i = ap (λ p. c.args.place * p) c.pace.ensures.value in
    let below = shift-le c.args.self.now
    (subst IsWellFormed c.self.view_is c.self.invariant) c.args.i c.args.turn c.args.place c.requires.stream c.requires.turn c.requires.place in
    omega arith

pub overflow_add-result : goal.overflow_add-result
overflow_add-result c =
    let turn : c.args.turn * c.period.result ≡ c.args.turn * period_of c.args.self.now c.args.i = ap (λ p. c.args.turn * p) c.period.ensures.value in
    let place : c.args.place * c.pace.result ≡ c.args.place * pace c.args.self.now c.args.i = ap (λ p. c.args.place * p) c.pace.ensures.value in
    let below = shift-le c.args.self.now
    (subst IsWellFormed c.self.view_is c.self.invariant) c.args.i c.args.turn c.args.place c.requires.stream c.requires.turn c.requires.place in
    omega arith

pub returns-clause-bound : goal.returns-clause-bound
returns-clause-bound c =
    let turn : c.args.turn * c.period.result ≡ c.args.turn * period_of c.args.self.now c.args.i = ap (λ p. c.args.turn * p) c.period.ensures.value in
    let place : c.args.place * c.pace.result ≡ c.args.place * pace c.args.self.now c.args.i = ap (λ p. c.args.place * p) c.pace.ensures.value in
    let below = shift-le c.args.self.now
    (subst IsWellFormed c.self.view_is c.self.invariant) c.args.i c.args.turn c.args.place c.requires.stream c.requires.turn c.requires.place in
    omega arith
