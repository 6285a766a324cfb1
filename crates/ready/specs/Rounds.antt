-- Making ready finds pairs of states in rounds. The order in which it finds them is free; this is what holds of it,
-- whatever the order: Finding, below.
use Rattle.std.specs.Prelude.{◌≡◌, ℕ, ◌<◌, true, false, ◌&&◌, ◌↔◌, List, [], ◌==◌, nat_lt, slice_index, slice_index_or}
use Rattle.book.specs.Limits.{tags}
use Rattle.book.specs.Machines.{Machine, Lawful}
use Rattle.book.specs.Rows.{Reach}
use Rattle.ready.specs.Pairs.{Rel}

-- What is wanted: just the pairs of a state of the book and a state that some row of whole items leads to from it.
abbrev pub RowsLead : Machine → Rel → Type 0
RowsLead m r = (q p : ℕ) → (r q p ≡ true) ↔ ((q < m.width) × Reach m q p)

-- the answers to enter, a row of them for each state
abbrev pub Entries : Machine → List (List ℕ) → Type 0
Entries m to = (q t : ℕ) → q < m.width → t < tags → slice_index (slice_index_or to q []) t ≡ m.enter q t

-- each pair of r is one of s
abbrev pub Grown : Rel → Rel → Type 0
Grown r s = (q p : ℕ) → r q p ≡ true → s q p ≡ true

-- each pair is one of those wanted; each state of the book has itself; pairs that meet give a pair
pub record Found (m : Machine) (r : Rel) : Type 0 where
  pub sound : (q p : ℕ) → r q p ≡ true → (q < m.width) × Reach m q p
  pub reflexive : (q : ℕ) → q < m.width → r q q ≡ true
  pub transitive : (q s p : ℕ) → r q s ≡ true → r s p ≡ true → r q p ≡ true

-- an item with tag t from q has been asked about, for each inner state of `inside`, and the answer is in r
abbrev pub Answers : Machine → Rel → ℕ → ℕ → (ℕ → Type 0) → Type 0
Answers m r q t inside = (p : ℕ) → p < m.width → inside p → r q (m.back q p t) ≡ true

-- the same for the inner states that are in fresh and not in asked
abbrev pub FreshAnswers : Machine → Rel → Rel → Rel → ℕ → ℕ → Type 0
FreshAnswers m fresh asked r q t = Answers m r q t (λ p. (fresh (m.enter q t) p ≡ true) × (asked (m.enter q t) p ≡ false))

-- the same for each state and tag, where the inner states come from a relation
abbrev pub Answered : Machine → Rel → Rel → Type 0
Answered m r asked = (q t : ℕ) → q < m.width → t < tags → Answers m r q t (λ p. asked (m.enter q t) p ≡ true)

-- A free search for pairs, that began with the pairs `first`, has found r, and has asked about each item whose inner
-- row is a pair of `asked`.
pub record Finding (m : Machine) (first asked r : Rel) : Type 0 where
  pub found : Found m r
  pub growing : Grown first r
  pub answered : Answered m r asked

-- what a search may begin with: each state of the book with itself
abbrev pub each_itself : Machine → Rel
each_itself m q p = nat_lt q m.width && p == q

-- The order is free: a search that has asked about each of its pairs has found what is wanted, and so the same as any
-- other search, whatever each began with and in whatever order it went.
abbrev pub OrderIsFree : Type 0
OrderIsFree = (m : Machine) → Lawful m →
    ((first r : Rel) → Finding m first r r → RowsLead m r)
    × ((first r other s : Rel) → Finding m first r r → Finding m other s s → (q p : ℕ) → r q p ≡ s q p)
