use Rattle.std.proofs.Common.{◌∙◌, ap, sym}
use Rattle.std.specs.List.{list_any}
use Rattle.tsn_model.specs.Search.{decision_eq}
use Rattle.tsn_model.specs.Argument.{contradicts}
use Rattle.tsn_argue.specs.News.{news_of}
use Rattle.tsn_argue.specs.State.{view_of}
use Rattle.tsn_argue.proofs.FirstView.{among}
use Rattle.tsn_argue.proofs.view.View.contradicts.Goals as goal

pub returns-in-Order : goal.returns-in-Order
unfolding contradicts
returns-in-Order c =
    let list = c.args.self.now.orders.view in
    among list c.turned.result c.has.result c.has.ensures
    ∙ ap (λ t. list_any (decision_eq t) list) c.turned.ensures
    ∙ ap (λ news. contradicts (view_of c.args.self.now) (news_of news)) (sym c.in-Order.is)
