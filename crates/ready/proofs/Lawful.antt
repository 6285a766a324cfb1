-- The laws of every lawful book, from the table that it has. Assumes nothing.
use Rattle.std.proofs.Common.{◌<◌}
use Rattle.std.specs.Cmp.{both_ways}
use Rattle.book.specs.Machines.{Machine, Lawful, selecting}
use Rattle.book.specs.Tables.{Fits}
use Rattle.book.proofs.Tables.{tables_decide_item, tables_decide_acceptance}
use Rattle.book.proofs.Earliest.{items_are_one_of_three, too_early_is_wrong}
use Rattle.book.proofs.SomeAnswer.{some_answer}
use Rattle.book.proofs.Watch.{some_watch_answer}
use Rattle.ready.specs.Pairs.{Rel}
use Rattle.ready.specs.Rounds.{RowsLead, Finding, OrderIsFree}
use Rattle.ready.specs.Laws.{DecidesAcceptance, DecidesItems, TableExists, TestsExist, ItemsDecided, AlwaysAnswerable, AnswersExist, VerdictsExist}
use Rattle.ready.proofs.Existence.{pairs_exist}
use Rattle.ready.proofs.Relations.{fits, rows_lead}

pub decides_acceptance : (m : Machine) (r : Rel) → Lawful m → 0 < m.width → Fits m r → DecidesAcceptance m r
decides_acceptance m r law some fit = tables_decide_acceptance m r law some fit

pub decides_items : (m : Machine) (r : Rel) → Lawful m → 0 < m.width → Fits m r → DecidesItems m r
decides_items m r law some fit k marks = tables_decide_item (selecting m k) r law marks some fit

pub table_exists : TableExists
table_exists m law = let a = pairs_exist m law in (a.0, fits m a.0 a.1)

pub tests_exist : TestsExist
tests_exist m law some =
    let a = table_exists m law in
    (a.0, a.1, decides_acceptance m a.0 law some a.1, decides_items m a.0 law some a.1)

pub items_decided : ItemsDecided
items_decided m law marks h i sound =
    let a = table_exists m.shape law in
    (λ opened. items_are_one_of_three.2 m a.0 law marks a.1 h i sound opened, λ early. too_early_is_wrong.2 m a.0 law marks a.1 h i sound early)

pub answers_exist : AnswersExist
answers_exist m law marks = let a = table_exists m.shape law in some_answer m a.0 law marks a.1

pub always_answerable : (m : Machine) → Lawful m → AlwaysAnswerable m
always_answerable m law k marks = answers_exist (selecting m k) law marks

pub verdicts_exist : VerdictsExist
verdicts_exist m law = let a = table_exists m law in some_watch_answer m a.0 law a.1

pub order_is_free : OrderIsFree
order_is_free m law = (
  (λ first r end. lead r end),
  λ first r other s end last q p.
      both_ways (r q p) (s q p)
      (λ a. (lead s last q p).1 ((lead r end q p).0 a))
      (λ a. (lead r end q p).1 ((lead s last q p).0 a)),
)
  where
    lead : {first : Rel} (r : Rel) → Finding m first r r → RowsLead m r
    lead r end = rows_lead m law r end.found end.answered
