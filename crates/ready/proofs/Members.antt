-- A set that is filled state by state, and a set that is told state by state. Assumes nothing.
use Rattle.std.proofs.Common.{◌≡◌, ℕ, ◌<◌, Bool, true, ◌↔◌, List}
use Rattle.book.specs.Limits.{most_states}
use Rattle.ready.specs.Sets.{has}

-- the numbers below i have been tested, and R is what is known of a test's answer
pub record Filled (set : List ℕ) (i : ℕ) (R : ℕ → Bool → Type 0) : Type 0 where
  pub within : (q : ℕ) → has set q ≡ true → q < i
  pub tested : (q : ℕ) → q < i → q < most_states → R q (has set q)

-- a set of some numbers below n, told by what decides each of them
pub members_below : (set : List ℕ) (n : ℕ) (P : ℕ → Type 0) → ((q : ℕ) → has set q ≡ true → q < n) → ((q : ℕ) → q < n → (has set q ≡ true) ↔ P q)
    → (q : ℕ) → (has set q ≡ true) ↔ ((q < n) × P q)
members_below set n P within decided q = (
  (λ a. (within q a, (decided q (within q a)).0 a)),
  λ a. (decided q a.0).1 a.1,
)
