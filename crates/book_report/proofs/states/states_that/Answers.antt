use Rattle.book_report.proofs.states.states_that.Goals as goal
use Rattle.std.proofs.Common.{rules, tests, arith}
use Rattle.std.proofs.lemmas.Iterator.{YieldsList-from_range, items_from_collect}
use Rattle.std.proofs.lemmas.Iterator.Consumers.{YieldsList-from_filter}

pub returns : goal.returns
returns g c =
    λ passes told.
    items_from_collect _ c.collect.ensures.ran
    (YieldsList-from_filter _ passes (YieldsList-from_range 0 _ _ c.filter.ensures.source (omega arith)) c.filter.ensures.closure
    (λ x r q k. search (rules, tests, told)))
