-- Right names by their parts: the first byte, the others, the length.
use Rattle.std.proofs.Common.{◌≡◌, ℕ, ◌≤◌, true, ◌&&◌, leb, List, ◌∷◌, length}
use Rattle.markup.specs.Grammar.{Name, name}
use Rattle.name_bytes.specs.Names.{all, name_byte, name_limit, name_start, right_name}
use Rattle.std.proofs.lemmas.Bool.{and_from, and_parts, le-leb, leb-true}

parts : (n : Name) → ((name_start n.first && all name_byte n.others) ≡ true) × (leb (length (name n)) name_limit ≡ true)
parts n = and_parts (name_start n.first && all name_byte n.others) (leb (length (name n)) name_limit) n.right

pub starts : (n : Name) → name_start n.first ≡ true
starts n = (and_parts (name_start n.first) (all name_byte n.others) (parts n).0).0

pub goes_on : (n : Name) → all name_byte n.others ≡ true
goes_on n = (and_parts (name_start n.first) (all name_byte n.others) (parts n).0).1

pub short : (n : Name) → length (name n) ≤ name_limit
short n = leb-true (length (name n)) name_limit (parts n).1

pub right_name_from : (b : ℕ) (bs : List ℕ) → name_start b ≡ true → all name_byte bs ≡ true → length (b ∷ bs) ≤ name_limit → right_name (b ∷ bs) ≡ true
right_name_from b bs s g l =
    and_from (name_start b && all name_byte bs) (leb (length (b ∷ bs)) name_limit) (and_from (name_start b) (all name_byte bs) s g) (le-leb (length (b ∷ bs)) name_limit l)
