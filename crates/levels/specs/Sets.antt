-- Two sets of states, one for each answer that a whole catalogue can have.
use Rattle.std.specs.Prelude.{◌≡◌, ℕ, ◌<◌, Bool, true, cond, ◌&&◌, nat_lt}
use Rattle.book.specs.Machines.{Machine}
use Rattle.ready.specs.declared.ready.Ready.{Ready}
use Rattle.ready.specs.Sets.{has}
use Rattle.ready.specs.Pairs.{lies, empty_set}
use Rattle.levels.specs.declared.sets.Sets.{Sets}

-- the pairs of states in a ready book's table
abbrev pub reach_of : {B : Type 0} {book : _} → Ready B book → ℕ → ℕ → Bool
reach_of r = lies r.reach.rows

-- all answers of its book
abbrev pub machine_of : {B : Type 0} {book : _} → Ready B book → Machine
machine_of {book = book} r = book.machine r.book

-- q is in the set for the answer b
abbrev pub passes : Sets → Bool → ℕ → Bool
passes s b q = cond b (has s.accepted.words q) (has s.refused.words q)

abbrev pub none : Sets
none = record { accepted = empty_set; refused = empty_set }

-- the sets of the states below the width, where each state belongs to the two, that for yes first, as is said of it
abbrev pub Filled : ℕ → (ℕ → (Bool × Bool) → Type 0) → Sets → Type 0
Filled width Belongs s = (f : Bool → ℕ → Bool) → ((q : ℕ) (a : Bool × Bool) → q < width → Belongs q a → (b : Bool) → cond b a.0 a.1 ≡ f b q) →
    (b : Bool) (q : ℕ) → passes s b q ≡ (nat_lt q width && f b q)

-- from the state q inside an item of tag t, opened in the state s, its close leads to a state that passes
abbrev pub closing : Machine → ℕ → ℕ → (ℕ → Bool) → ℕ → Bool
closing m s t pass q = nat_lt q m.width && pass (m.back s q t)

-- only states below the width are in the sets
abbrev pub Below : ℕ → Sets → Type 0
Below width s = (b : Bool) (q : ℕ) → passes s b q ≡ true → q < width
