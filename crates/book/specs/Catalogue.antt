-- A catalogue as events: items that nest, each with a tag from 0 to 31, and the end when none is open.
use Rattle.std.specs.Prelude.{◌≡◌, ℕ, suc, cond, List, [], ◌∷◌, ◌++◌, ◌==◌, nat_lt}
use Rattle.book.specs.Limits.{tags}
use Rattle.book.specs.declared.event.Event.{Event}
use Rattle.book.specs.declared.event.Event.TheVariants.{Open, Close, End}

-- what event after event makes of s
abbrev pub follow : {S : Type 0} → (S → Event → S) → S → List Event → S
follow f s [] = s
follow f s (e ∷ es) = follow f (f s e) es

-- what events come to: the tags of the items that they leave open, the innermost first; the end; or a broken rule
pub data Nest : Type 0 where
  within : List ℕ → Nest
  over : Nest
  broken : Nest

abbrev pub after : Nest → Event → Nest
after (within ts) (Open t) = cond (nat_lt t tags) (within (t ∷ ts)) broken
after (within []) (Close t) = broken
after (within (u ∷ ts)) (Close t) = cond (u == t) (within ts) broken
after (within []) End = over
after (within (u ∷ ts)) End = broken
after over e = broken
after broken e = broken

abbrev pub nest : List Event → Nest
nest h = follow after (within []) h

-- a whole catalogue: its items nest, and its end is the last event
abbrev pub Catalogue : List Event → Type 0
Catalogue c = nest c ≡ over

-- no rule is broken so far
abbrev pub Sound : List Event → Type 0
Sound h = nest h ≡ broken → ⊥

-- e finishes the catalogue that h begins: any tags, any depth, any length
abbrev pub Ending : List Event → List Event → Type 0
Ending h e = Catalogue (h ++ e)

-- how many items were opened: items are numbered from 1 by their opens
abbrev pub count : ℕ → Event → ℕ
count n (Open t) = suc n
count n (Close t) = n
count n End = n

abbrev pub opened : List Event → ℕ
opened h = follow count 0 h
