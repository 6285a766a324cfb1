-- The law of readings: which tags a text gives, and how it ends. It speaks of right texts (specs/Grammar) and of what can still
-- become one; how a reader finds the tags is no part of it.
use Rattle.std.specs.Prelude.{◌≡◌, ℕ, true, ◌⊎◌, ◌↔◌, List, [], ◌∷◌, ◌++◌, length, codes, ◌≢◌}
use Rattle.name_bytes.specs.Names.{name_byte, name_limit}
use Rattle.markup.specs.Grammar.{white, Space, Name, name, Reference, reference, Char, chars, Quote, sign, Opening, opening, Attribute, attributes, Tag, Right, Viable}
use Rattle.markup.specs.Reading.{Reading, finish, failed, reading}

-- ## Where a byte stands

-- u is a right text and then w
abbrev pub RightThen : List ℕ → List ℕ → Type 0
RightThen u w = (v : List ℕ) × (ts : List Tag) × Right v ts × (u ≡ v ++ w)

-- behind u a name may begin: behind `<` or `</`, or behind white space in a start tag
abbrev pub NameMayBegin : List ℕ → Type 0
NameMayBegin u =
    RightThen u (codes "<") ⊎ (RightThen u (codes "</")
    ⊎ ((n : Name) × (ats : List Attribute) × (x : ℕ) × (white x ≡ true) × (s : Space) × RightThen u (60 ∷ (name n ++ (attributes ats ++ (x ∷ s.bytes))))))

-- behind u a reference may begin: in text, or in a value
abbrev pub ReferenceMayBegin : List ℕ → Type 0
ReferenceMayBegin u =
    ((ts : List Tag) × Right u ts)
    ⊎ ((n : Name) × (ats : List Attribute) × (o : Opening) × (q : Quote) × (cs : List (Char (sign q))) × RightThen u (60 ∷ (name n ++ (attributes ats ++ (opening o ++ (sign q ∷ chars cs))))))

-- ## Why a byte is refused

-- the byte b behind u makes `<?`, or `<!` that no comment follows, of the `<` at the place p
abbrev pub OtherForm : List ℕ → ℕ → ℕ → Type 0
OtherForm u b p =
    (v : List ℕ) × (ts : List Tag) × Right v ts × (length v ≡ p)
    × (((u ≡ v ++ codes "<") × (b ≡ 63)) ⊎ (((u ≡ v ++ codes "<!") × (b ≢ 45)) ⊎ ((u ≡ v ++ codes "<!-") × (b ≢ 45))))

-- the byte b behind u fits none of the five references, where u has the beginning y of one behind the `&` at the place p
abbrev pub BreaksReference : List ℕ → ℕ → ℕ → Type 0
BreaksReference u b p =
    (v : List ℕ) × ReferenceMayBegin v × (length v ≡ p)
    × (y : List ℕ) × (u ≡ v ++ (38 ∷ y))
    × (r : Reference) × (x : ℕ) × (z : List ℕ) × (reference r ≡ (38 ∷ y) ++ (x ∷ z))
    × ((r' : Reference) (z' : List ℕ) → reference r' ≢ (38 ∷ y) ++ (b ∷ z'))

-- the byte b behind u is the 65th of a name
abbrev pub ExceedsName : List ℕ → ℕ → Type 0
ExceedsName u b = (v : List ℕ) × NameMayBegin v × (n : Name) × (u ≡ v ++ name n) × (length (name n) ≡ name_limit) × (name_byte b ≡ true)

-- the number and the place of the fault that the byte b behind u is: 22 where it is none of the others
pub data FaultOf (u : List ℕ) (b : ℕ) : ℕ → ℕ → Type 0 where
  other_form : {p : ℕ} → OtherForm u b p → FaultOf u b 23 p
  broken_reference : {p : ℕ} → BreaksReference u b p → FaultOf u b 25 p
  long_name : ExceedsName u b → FaultOf u b 24 (length u)
  other_byte : ((p : ℕ) → OtherForm u b p → ⊥) → ((p : ℕ) → BreaksReference u b p → ⊥) → (ExceedsName u b → ⊥) → FaultOf u b 22 (length u)

-- ## Readings

-- the tags that are given before a fault behind u: those of the longest right beginning of u
abbrev pub TagsRead : List ℕ → List Tag → Type 0
TagsRead u ts =
    ((v w : List ℕ) × (v ++ w ≡ u) × Right v ts)
    × ((v w : List ℕ) (ts' : List Tag) → v ++ w ≡ u → Right v ts' → (more : List Tag) × (ts ≡ ts' ++ more))

-- A right text is read to its end. A viable text that is not right is cut off at its length. Any other text is refused for the
-- first byte with which it is no longer viable.
pub data Reads (s : List ℕ) : Reading → Type 0 where
  right : {ts : List Tag} → Right s ts → Reads s (record { given = ts; ended = finish })
  cut : {ts : List Tag} → Viable s → ((ts' : List Tag) → Right s ts' → ⊥) → TagsRead s ts → Reads s (record { given = ts; ended = failed 21 (length s) })
  refused : {ts : List Tag} {n p : ℕ} (u : List ℕ) (b : ℕ) (rest : List ℕ) → s ≡ u ++ (b ∷ rest) → Viable u → (Viable (u ++ (b ∷ [])) → ⊥) → FaultOf u b n p → TagsRead u ts →
      Reads s (record { given = ts; ended = failed n p })

-- each text has exactly one reading, and it is the one found byte by byte (specs/Reading)
abbrev pub OneReading : Type 0
OneReading = (s : List ℕ) (r : Reading) → Reads s r ↔ (r ≡ reading s)
