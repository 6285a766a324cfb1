-- What each step of a search keeps.
use Rattle.std.specs.Prelude.{◌≡◌}
use Rattle.ready.specs.declared.rounds.Search.{Search}
use Rattle.ready.specs.Pairs.{lies}
use Rattle.ready.specs.Rounds.{Grown}

-- the search goes on: of the same book, with no more pairs that were asked about by earlier rounds, and with all its pairs
pub record Onward {B : Type 0} {book : _} (s s' : Search B book) : Type 0 where
  pub same_book : s'.book ≡ s.book
  pub same_asked : s'.asked ≡ s.asked
  pub growing : Grown (lies s.table.rows) (lies s'.table.rows)
