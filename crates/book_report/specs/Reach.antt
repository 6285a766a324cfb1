-- What is printed of where a book's states lead.
use Rattle.std.specs.Prelude.{◌≡◌, ℕ, Bool, true, ◌↔◌, List, [], ◌∷◌, ◌++◌, codes, decimal, filter}
use Rattle.std.specs.List.{flat_map, range_with_len}
use Rattle.book.specs.Machines.{Machine}
use Rattle.ready.specs.Dead.{Useless}
use Rattle.ready.specs.Rounds.{RowsLead}

-- whatever a test answers of a state is what `passes` says of it
abbrev pub Computes : (ℕ → Bool → Type 0) → (ℕ → Bool) → Type 0
Computes post passes = (k : ℕ) (b : Bool) → post k b → b ≡ passes k

-- the states below the width that pass a test
abbrev pub states_that : (ℕ → Bool) → ℕ → List ℕ
states_that test width = filter test (range_with_len 0 width)

-- states, each behind a space
abbrev pub state_words : List ℕ → List ℕ
state_words ks = flat_map (λ k. codes " " ++ decimal k) ks

-- or the word none, where there are none
abbrev pub words_or_none : List ℕ → List ℕ
words_or_none [] = codes " none"
words_or_none (k ∷ ks) = state_words (k ∷ ks)

-- a label and the states that pass a test, or the word none
abbrev pub states_line : List ℕ → (ℕ → Bool) → ℕ → List ℕ
states_line label test width = label ++ (words_or_none (states_that test width) ++ codes "\n")

-- a state, and the states below the width that rows lead to
abbrev pub row_line : (ℕ → Bool) → ℕ → ℕ → List ℕ
row_line row width state = codes "state " ++ (decimal state ++ (codes " leads to" ++ (state_words (states_that row width) ++ codes "\n")))

-- for each state its line
abbrev pub row_lines : (ℕ → ℕ → Bool) → ℕ → List ℕ
row_lines reach width = flat_map (λ k. row_line (reach k) width k) (range_with_len 0 width)

abbrev pub useless_line : (ℕ → Bool) → ℕ → List ℕ
useless_line useless width = states_line (codes "never accepting") useless width

-- for each state the states that some row of whole items leads to, and the states from which no way on is accepted
pub record Shown (m : Machine) (before behind : List ℕ) : Type 0 where
  pub reach : ℕ → ℕ → Bool
  pub rows : RowsLead m reach
  pub useless : ℕ → Bool
  pub never : (q : ℕ) → (useless q ≡ true) ↔ Useless m q
  pub printed : behind ≡ before ++ (row_lines reach m.width ++ useless_line useless m.width)
