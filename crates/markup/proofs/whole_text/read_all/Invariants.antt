-- The loop of `read_all` in src/whole_text.rt: what it keeps, and what falls with each turn.
use Rattle.markup.proofs.whole_text.read_all.Given as goal
use Rattle.markup.specs.Grammar.{Tag}
use Rattle.markup.specs.Reading.{giving, reading}
use Rattle.markup.specs.Tokens.{remaining}
use Rattle.markup.specs.Whole.{AllShown}
use Rattle.std.proofs.Common.{◌≡◌, List, length, vec_items}

abbrev pub invariant-loop-tags : goal.invariant-loop-tags
invariant-loop-tags l =
    (l.reader.cursor.text.now ≡ l.text)
    × ((ts : List Tag) × AllShown l.text ts (vec_items l.tags) × (reading l.text ≡ giving ts (remaining l.reader)))

abbrev pub decreases-loop-tags : goal.decreases-loop-tags
decreases-loop-tags l = length (remaining l.reader).given
