-- Lists of items by their numbers, and how many items are of a kind.
use Rattle.std.specs.Prelude.{◌≡◌, ℕ, ◌<◌, ◌⊎◌, ◌↔◌, List, [], ◌∷◌, length}

abbrev pub In : ℕ → List ℕ → Type 0
In i [] = ⊥
In i (x ∷ xs) = (i ≡ x) ⊎ In i xs

-- each is in the list once
abbrev pub Once : List ℕ → Type 0
Once [] = Unit {0}
Once (x ∷ xs) = (In x xs → ⊥) × Once xs

-- by rising number, all above low
abbrev pub Rising : ℕ → List ℕ → Type 0
Rising low [] = Unit {0}
Rising low (x ∷ xs) = (low < x) × Rising x xs

-- xs are the items of a kind, by rising number
abbrev pub Lists : (ℕ → Type 0) → List ℕ → Type 0
Lists Kind xs = Rising 0 xs × ((i : ℕ) → In i xs ↔ Kind i)

-- the items of a kind are n
abbrev pub Counts : (ℕ → Type 0) → ℕ → Type 0
Counts Kind n = (xs : List ℕ) × Lists Kind xs × (length xs ≡ n)
