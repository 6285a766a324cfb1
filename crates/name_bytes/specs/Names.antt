-- Names: which bytes they begin and go on with, and how long they may be.
-- Numbers in brackets are those of XML 1.0's productions, of which this is the ASCII part.
use Rattle.std.specs.Prelude.{ℕ, ◌==◌, nat_le, length, Bool, ◌&&◌, ◌||◌, false, true, List, [], ◌∷◌}

-- the bytes from one to another, both included
abbrev pub between : ℕ → ℕ → ℕ → Bool
between low high b = nat_le low b && nat_le b high

-- each byte of a list has the property
abbrev pub all : (ℕ → Bool) → List ℕ → Bool
all p [] = true
all p (b ∷ bs) = p b && all p bs

-- [4] `:`, `_`, a letter
abbrev pub name_start : ℕ → Bool
name_start b = (b == 58) || (b == 95) || between 65 90 b || between 97 122 b

-- [4a] also `-`, `.`, a digit
abbrev pub name_byte : ℕ → Bool
name_byte b = name_start b || (b == 45) || (b == 46) || between 48 57 b

-- the most bytes of a name
abbrev pub name_limit : ℕ
name_limit = 64

-- [5] a right name: 1 to 64 bytes, the first one that begins a name, the others ones that it goes on with
abbrev pub right_name : List ℕ → Bool
right_name [] = false
right_name (b ∷ bs) = name_start b && all name_byte bs && nat_le (length (b ∷ bs)) name_limit
