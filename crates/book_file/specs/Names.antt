-- What a book file's names say: which tag a name has, and which name a tag has.
use Rattle.std.specs.Prelude.{◌≡◌, ℕ, zero, suc, ◌-◌, ◌<◌, ◌≤◌, if◌then◌else◌, List, [], ◌∷◌, length, take, drop, Some, None, Option, ◌==◌, ◌≢◌, slice_index_or}
use Rattle.std.specs.Borrow.{Bor}
use Rattle.std.specs.Option.{option_map}
use Rattle.std.specs.Str.{bytes_eq}
use Rattle.book_file.specs.declared.names.Names.{Names}
use Rattle.book_file.specs.declared.names.Words.{Words}

-- so many names, each behind its length
abbrev pub unpacked : ℕ → List ℕ → List (List ℕ)
unpacked zero bs = []
unpacked (suc count) [] = []
unpacked (suc count) (n ∷ bs) = take n bs ∷ unpacked count (drop n bs)

-- the names of the tags 1, 2, and so on
abbrev pub listed : Names → List (List ℕ)
listed n = unpacked n.count n.packed.now

-- those that are still to come
abbrev pub words_left : Words → List (List ℕ)
words_left w = listed w.0

-- of names that begin with that of a tag, the lowest tag with the same bytes, else 0
abbrev pub lowest : ℕ → List (List ℕ) → List ℕ → ℕ
lowest tag [] name = 0
lowest tag (w ∷ ws) name = if bytes_eq w name then tag else lowest (suc tag) ws name

abbrev pub tag_of : List (List ℕ) → List ℕ → ℕ
tag_of names name = lowest 1 names name

-- In words: a tag above 0 has this name and no lower one has it; 0 is answered where no tag has it.
pub record LowestTag (names : List (List ℕ)) (name : List ℕ) (tag : ℕ) : Type 0 where
  pub listed : tag ≤ length names
  pub same : 0 < tag → slice_index_or names (tag - 1) [] ≡ name
  pub lower : (k : ℕ) → k < length names → (0 < tag → k < tag - 1) → slice_index_or names k [] ≢ name

-- of names that begin with that of a tag, the name of another tag
abbrev pub named : ℕ → List (List ℕ) → ℕ → Option (List ℕ)
named first [] tag = None
named first (w ∷ ws) tag = if first == tag then Some w else named (suc first) ws tag

abbrev pub name_of : List (List ℕ) → ℕ → Option (List ℕ)
name_of names tag = named 1 names tag

abbrev pub spelt : Option (Bor (List ℕ)) → Option (List ℕ)
spelt name = option_map (λ r. r.now) name
