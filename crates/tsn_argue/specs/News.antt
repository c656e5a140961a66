-- Facts as a view learns them.
use Rattle.std.specs.Prelude.{◌≤ℤ◌, Contains}
use Rattle.tsn_model.specs.Argument as model
use Rattle.tsn_model.specs.Argument.{from, until, order, done_from, done_until, View, low_at, high_at}
use Rattle.tsn_argue.specs.declared.news.News.{News}
use Rattle.tsn_argue.specs.declared.news.News.TheVariants.{From, Until, Order, DoneFrom, DoneUntil}

-- the fact that the news are
abbrev pub news_of : News → model.Fact
news_of (From i v) = model.from i v
news_of (Until i v) = model.until i v
news_of (Order decision) = model.order decision
news_of (DoneFrom v) = model.done_from v
news_of (DoneUntil v) = model.done_until v

-- the view has the decision, or its numbers leave no other
abbrev pub Knows : View → model.Fact → Type 0
Knows view (from i v) = v ≤ℤ low_at view i
Knows view (until i v) = high_at view i ≤ℤ v
Knows view (order decision) = Contains view.orders decision
Knows view (done_from v) = v ≤ℤ view.done_low
Knows view (done_until v) = view.done_high ≤ℤ v
