-- The members of a set that is kept in words of 64 bits, and how two sets lie to each other.
use Rattle.std.specs.Prelude.{◌≡◌, ℕ, ◌/◌, ◌%◌, Bool, true, false, List, ◌==◌, slice_index}
use Rattle.std.specs.Int.{bit_at}

-- q is a member
abbrev pub has : List ℕ → ℕ → Bool
has words q = bit_at (slice_index words (q / 64)) (q % 64) == 1

-- each member of a is one of b
abbrev pub Part : List ℕ → List ℕ → Type 0
Part a b = (q : ℕ) → has a q ≡ true → has b q ≡ true

-- some member of a is none of b
unfoldable pub Beyond : List ℕ → List ℕ → Type 0
Beyond a b = (q : ℕ) × (has a q ≡ true) × (has b q ≡ false)

-- a and b have a member in common
abbrev pub Meeting : List ℕ → List ℕ → Type 0
Meeting a b = (q : ℕ) × (has a q ≡ true) × (has b q ≡ true)
