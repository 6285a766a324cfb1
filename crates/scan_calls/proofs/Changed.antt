-- Rows of cells that are changed cell by cell. Assumes nothing.
use Rattle.std.proofs.Common.{◌≡◌, ℕ, suc, ◌+◌, ◌-◌, ◌<◌, ◌≤◌, ◌≢◌, ◌⊎◌, List, [], ◌∷◌, ◌++◌, length, take, drop, set, sym, ap, ◌∙◌, subst, inl, inr, arith, length-append, get_or-set_other, get_or-set_same}
use lib.Seq.{take-append-le}
use borrow.Rule.Slice.PartMut.{put_mid}
use Rattle.std.proofs.lemmas.List.{drop-take, set_at}
use Rattle.std.proofs.lemmas.Bool.{cases_eq}
use Rattle.cells.specs.declared.cell.Cell.{Cell}
use Rattle.cells.specs.Cells.{no_cell, cell_at}

-- One cell more ---------------------------------------------------------------------------------------------------

-- the cell y is written at place k
module _ (cells : List Cell) (k : ℕ) (y : Cell) where
  -- what held of each cell before place k, and holds of y, holds of each up to it
  pub set_more : k < length cells → (P : ℕ → Cell → Type 0) → ((j : ℕ) → j < k → P j (cell_at cells j)) → P k y → (j : ℕ) → j < k + 1 → P j (cell_at (set cells k y) j)
  set_more place P so_far new j below = go (cases_eq j k)
    where
      go : (j ≡ k) ⊎ (j ≡ k → ⊥) → P j (cell_at (set cells k y) j)
      go (inl z) = subst (λ (i : ℕ). P i (cell_at (set cells k y) i)) (sym z) (subst (P k) (sym (get_or-set_same cells k y no_cell place)) new)
      go (inr ne) = let other : j ≢ k = ne in subst (P j) (sym (get_or-set_other cells k j y no_cell ne)) (so_far j (omega arith))

  -- the cells behind place k are as they were
  pub set_behind : (first : ℕ → Cell) → ((j : ℕ) → k ≤ j → cell_at cells j ≡ first j) → (j : ℕ) → k + 1 ≤ j → cell_at (set cells k y) j ≡ first j
  set_behind first rest j le = let ne : j ≢ k = omega arith in get_or-set_other cells k j y no_cell ne ∙ rest j (omega arith)

-- One row more ----------------------------------------------------------------------------------------------------

-- a row that was written as the first behind the others
pub split_set : (rows outer inner : List (List Cell)) (e : ℕ) (row : List Cell) → rows ≡ outer ++ inner → length outer ≡ e → e < length rows → outer ++ set inner 0 row ≡ set rows e row
split_set rows outer [] e row are long lt = absurd (let a = ap length are in let b = length-append outer [] in omega arith)
split_set rows outer (y ∷ ys) e row are long lt = sym (set_at outer y ys row e long) ∙ ap (λ (r : List (List Cell)). set r e row) (sym are)

-- The cells after the first ---------------------------------------------------------------------------------------

pub mid_taken : (n : ℕ) (xs : List Cell) → 1 ≤ n → take (n - 1) (drop 1 xs) ≡ drop 1 (take n xs)
mid_taken n xs le = let e : 1 + (n - 1) ≡ n = omega arith in sym (drop-take 1 (n - 1) xs) ∙ ap (λ (k : ℕ). drop 1 (take k xs)) e

pub mid_put : (n k : ℕ) (xs ys : List Cell) → 1 ≤ length xs → k ≤ length ys → drop 1 (take (k + 1) (put_mid 1 n xs ys)) ≡ take k ys
mid_put n k [] ys le lt = absurd (omega arith)
mid_put n k (x ∷ xs) ys le lt =
    let e : k + 1 ≡ suc k = omega arith in
    ap (λ (j : ℕ). drop 1 (take j (put_mid 1 n (x ∷ xs) ys))) e ∙ take-append-le k ys _ lt
