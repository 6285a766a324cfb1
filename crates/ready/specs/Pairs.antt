-- The pairs of states that a table holds, as a row of sets, a set for each state.
use Rattle.std.specs.Prelude.{◌≡◌, ℕ, ◌+◌, ◌/◌, ◌<◌, Bool, true, ◌&&◌, ◌||◌, List, [], replicate, nat_lt, slice_index_or}
use Rattle.book.specs.Limits.{most_states}
use Rattle.ready.specs.declared.state_set.StateSet.{StateSet}
use Rattle.ready.specs.Sets.{has}

-- the set with no state
abbrev pub empty_set : StateSet
empty_set = record { words = replicate ((most_states + 63) / 64) 0 }

-- what a row past the last is read as
abbrev pub nothing : StateSet
nothing = record { words = [] }

-- p lies in the row of q
unfoldable pub lies : List StateSet → ℕ → ℕ → Bool
lies rows q p = has (slice_index_or rows q nothing).words p

-- a relation on states, as a table holds one
abbrev pub Rel : Type 0
Rel = ℕ → ℕ → Bool

-- r with the pair of from and to: each state below the width that leads to from leads on to what to leads to
abbrev pub joined : Rel → ℕ → ℕ → ℕ → Rel
joined r width from to q p = r q p || (nat_lt q width && (r q from && r to p))

-- each pair of s at the states below the width is one of r
abbrev pub Covering : ℕ → Rel → Rel → Type 0
Covering width r s = (q p : ℕ) → q < width → s q p ≡ true → r q p ≡ true
