-- Runs as a scan and a watch keep them: level by level, each with what it leaves possible.
use Rattle.std.specs.Prelude.{◌≡◌, ℕ, ◌<◌, Bool, cond, not, ◌&&◌, List, [], ◌∷◌, map, nat_lt}
use Rattle.book.specs.declared.event.Event.{Event}
use Rattle.book.specs.declared.event.Event.TheVariants.{Open, Close, End}
use Rattle.book.specs.Catalogue.{Nest, within, over, broken}
use Rattle.book.specs.Machines.{Machine, Selecting, Stand}
use Rattle.book.specs.Tables.{some_below, possible}

-- Levels and tracks -----------------------------------------------------------------------------------------------

-- one level of a run: its state, and whether from a state at this level some way on ends with the answer b
pub record Level : Type 0 where
  pub state : ℕ
  pub can : Bool → ℕ → Bool

-- a run: its innermost level, and those under it, the inner ones first
pub record Track : Type 0 where
  pub top : Level
  pub under : List Level

abbrev pub level : ℕ → (Bool → ℕ → Bool) → Level
level q can = record { state = q; can = can }

abbrev pub track : Level → List Level → Track
track l ls = record { top = l; under = ls }

-- does a run that ends in state q have the answer b?
abbrev pub answers : Machine → Bool → ℕ → Bool
answers m b q = cond b (m.accepts q) (not (m.accepts q))

-- the states from which a row of whole items leads to one that passes
abbrev pub widened : (ℕ → ℕ → Bool) → Machine → (ℕ → Bool) → ℕ → Bool
widened reach m passes q = nat_lt q m.width && some_below m.width (λ p. reach q p && passes p)

-- what is possible inside an item of tag t, from the level around it
abbrev pub inside : (ℕ → ℕ → Bool) → Machine → ℕ → Level → Bool → ℕ → Bool
inside reach m t l b = widened reach m (λ p. l.can b (m.back l.state p t))

-- Events ----------------------------------------------------------------------------------------------------------

-- before any event
abbrev pub first : (ℕ → ℕ → Bool) → Machine → Track
first reach m = track (level m.start (λ b. widened reach m (answers m b))) []

-- an item of tag t is entered, in state q
abbrev pub entered : (ℕ → ℕ → Bool) → Machine → ℕ → ℕ → Track → Track
entered reach m t q x = track (level q (inside reach m t x.top)) (x.top ∷ x.under)

-- the same by mark: the track of the item itself, from the base run
abbrev pub marked : (ℕ → ℕ → Bool) → Selecting → ℕ → Track → Track
marked reach m t x = entered reach m.shape t (m.mark x.top.state t) x

-- an item of tag t is left, whose level is l, for the levels under it
abbrev pub left : Machine → ℕ → Level → List Level → Track
left m t l [] = track l []
left m t l (k ∷ ks) = track (level (m.back k.state l.state t) k.can) ks

abbrev pub moved : (ℕ → ℕ → Bool) → Machine → Event → Track → Track
moved reach m (Open t) x = entered reach m t (m.enter x.top.state t) x
moved reach m (Close t) x = left m t x.top x.under
moved reach m End x = x

-- after the event e, can the answer still be b? after an end the state alone says
abbrev pub may : Machine → Event → Bool → Track → Bool
may m (Open t) b x = x.top.can b x.top.state
may m (Close t) b x = x.top.can b x.top.state
may m End b x = answers m b x.top.state

-- A track is right ------------------------------------------------------------------------------------------------

abbrev pub state_of : Level → ℕ
state_of l = l.state

-- inside items with the tags ts, and with the states ss set aside, the level has what is possible
abbrev pub Cached : (ℕ → ℕ → Bool) → Machine → List ℕ → List ℕ → Level → Type 0
Cached reach m ts ss l = (b : Bool) (q : ℕ) → q < m.width → l.can b q ≡ possible reach m b ts ss q

-- so has each level under it
abbrev pub Layered : (ℕ → ℕ → Bool) → Machine → List ℕ → Level → List Level → Type 0
Layered reach m [] l ls = Cached reach m [] (map state_of ls) l
Layered reach m (t ∷ ts) l [] = ⊥
Layered reach m (t ∷ ts) l (k ∷ ls) = Cached reach m (t ∷ ts) (map state_of (k ∷ ls)) l × Layered reach m ts k ls

-- the track is the run that stands at c
abbrev pub Follows : (ℕ → ℕ → Bool) → Machine → Nest → Track → Stand → Type 0
Follows reach m (within ts) x c = (x.top.state ≡ c.state) × (map state_of x.under ≡ c.aside) × Layered reach m ts x.top x.under
Follows reach m over x c = x.top.state ≡ c.state
Follows reach m broken x c = ⊥
