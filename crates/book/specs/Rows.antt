-- Rows of whole items, and which states they lead to.
use Rattle.std.specs.Prelude.{◌≡◌, ℕ, Bool, true, ◌&&◌, List, [], ◌∷◌, ◌++◌, nat_lt}
use Rattle.book.specs.Limits.{tags}
use Rattle.book.specs.declared.event.Event.{Event}
use Rattle.book.specs.declared.event.Event.TheVariants.{Open, Close}
use Rattle.book.specs.Machines.{Machine}

-- a row of whole items: none, or an item with its tag and the row inside it, and the row that follows it
pub data Forest : Type 0 where
  none : Forest
  item : ℕ → Forest → Forest → Forest

-- each tag is one of the 32
abbrev pub tagged : Forest → Bool
tagged none = true
tagged (item t inside next) = nat_lt t tags && tagged inside && tagged next

-- the events of a row
abbrev pub events : Forest → List Event
events none = []
events (item t inside next) = Open t ∷ (events inside ++ (Close t ∷ events next))

-- the state behind a row that is begun in state q
abbrev pub through : Machine → Forest → ℕ → ℕ
through m none q = q
through m (item t inside next) q = through m next (m.back q (through m inside (m.enter q t)) t)

-- some row of whole items leads from q to p: all tags, any depth, the empty row included
abbrev pub Reach : Machine → ℕ → ℕ → Type 0
Reach m q p = (f : Forest) × (tagged f ≡ true) × (through m f q ≡ p)
