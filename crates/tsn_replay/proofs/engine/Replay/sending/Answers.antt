use Rattle.std.proofs.Common.{◌∙◌, sym, arith}
use Rattle.tsn_replay.specs.Progress.{setting_of}
use Rattle.tsn_replay.proofs.Sendings.{octets_few, until_few, is_sending}
use Rattle.tsn_replay.proofs.engine.Replay.sending.Goals as goal

pub overflow_add-duration : goal.overflow_add-duration
overflow_add-duration c =
    let few = octets_few (setting_of c.args.self.now) c.args.state.now c.requires.setting c.requires.state c.args.number c.requires.first c.args.port c.requires.port c.requires.order
    c.index-self-number.result c.link-link.result c.link-link.ensures c.in-Some.waiting (sym c.waiting.ensures ∙ c.in-Some.is) in
    omega arith

pub overflow_mul-duration : goal.overflow_mul-duration
overflow_mul-duration c =
    let few = until_few (setting_of c.args.self.now) c.args.state.now c.requires.setting c.requires.state c.args.number c.requires.first c.args.port c.requires.port c.requires.order
    c.index-self-number.result c.link-link.result c.link-link.ensures c.in-Some.waiting (sym c.waiting.ensures ∙ c.in-Some.is) c.rate.result c.rate.ensures.value c.rate.ensures.some c.rate.ensures.limit in
    omega arith

pub overflow_add-result : goal.overflow_add-result
overflow_add-result c =
    let few = until_few (setting_of c.args.self.now) c.args.state.now c.requires.setting c.requires.state c.args.number c.requires.first c.args.port c.requires.port c.requires.order
    c.index-self-number.result c.link-link.result c.link-link.ensures c.in-Some.waiting (sym c.waiting.ensures ∙ c.in-Some.is) c.rate.result c.rate.ensures.value c.rate.ensures.some c.rate.ensures.limit in
    omega arith

pub returns : goal.returns
returns c =
    is_sending (setting_of c.args.self.now) c.args.state.now c.requires.setting c.requires.state c.args.number c.requires.first c.args.port c.requires.port c.requires.order
    c.index-self-number.result c.link-link.result c.link-link.ensures c.in-Some.waiting (sym c.waiting.ensures ∙ c.in-Some.is) c.rate.result c.rate.ensures.value c.rate.ensures.some c.rate.ensures.limit
