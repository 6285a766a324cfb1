-- Where the items of a catalogue lie.
use Rattle.std.specs.Prelude.{ℕ, suc, cond, List, [], ◌∷◌, reverse, length, ◌==◌}
use Rattle.book.specs.declared.event.Event.{Event}
use Rattle.book.specs.declared.event.Event.TheVariants.{Open, Close, End}
use Rattle.book.specs.Machines.{others}

-- The tags from the top down to item i, its own last: those of the items that are open when it opens. Here the tags ts
-- are open already, the innermost first, and n items were opened. (An item that is not there has no tags.)
abbrev pub tags_to_from : List ℕ → ℕ → ℕ → List Event → List ℕ
tags_to_from ts n i [] = []
tags_to_from ts n i (Open t ∷ c) = cond (suc n == i) (reverse (t ∷ ts)) (tags_to_from (t ∷ ts) (suc n) i c)
tags_to_from ts n i (Close t ∷ c) = tags_to_from (others ts) n i c
tags_to_from ts n i (End ∷ c) = tags_to_from ts n i c

abbrev pub tags_to : ℕ → List Event → List ℕ
tags_to i c = tags_to_from [] 0 i c

-- how deep item i lies: a top item has depth 1
abbrev pub depth_of : ℕ → List Event → ℕ
depth_of i c = length (tags_to i c)
