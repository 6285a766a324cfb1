-- The right texts, a part of XML 1.0 over bytes, as trees and their spelling. Each production of XML 1.0 that is taken over
-- stands quoted with its number. Wider than XML: a text is a row of pieces with no outermost one and no nesting, bytes from 128
-- up are not looked at, `]]>` may stand in text, and attribute names are not compared.
use Rattle.std.specs.Prelude.{◌≡◌, ℕ, ◌+◌, Bool, true, false, not, ◌&&◌, ◌||◌, List, [], ◌∷◌, ◌++◌, length, codes, ◌==◌, nat_le}
use Rattle.name_bytes.specs.Names.{all, right_name}

-- ## Bytes

-- [3] S ::= (#x20 | #x9 | #xD | #xA)+
abbrev pub white : ℕ → Bool
white b = b == 32 || b == 9 || b == 10 || b == 13

-- [2] Char ::= #x9 | #xA | #xD | [#x20-..], with every byte from 128 up
abbrev pub allowed : ℕ → Bool
allowed b = nat_le 32 b || white b

-- [^<&]
abbrev pub data_byte : ℕ → Bool
data_byte b = allowed b && not (b == 60) && not (b == 38)

-- what stands for itself in text, which `<` ends, or in a value, which its quote ends: [^<&], [^<&"] or [^<&']
abbrev pub plain : ℕ → ℕ → Bool
plain stop b = data_byte b && not (b == stop)

-- ## Space and names

-- S?
pub record Space : Type 0 where
  pub bytes : List ℕ
  pub blank : all white bytes ≡ true

-- [5] Name ::= NameStartChar (NameChar)*, of at most 64 bytes, by its first byte and the others
pub record Name : Type 0 where
  pub first : ℕ
  pub others : List ℕ
  pub right : right_name (first ∷ others) ≡ true

abbrev pub name : Name → List ℕ
name n = n.first ∷ n.others

-- ## References, text and values

-- [68] EntityRef ::= '&' Name ';' for the five names that need no declaration
pub data Reference : Type 0 where
  amp : Reference
  lt : Reference
  gt : Reference
  quot : Reference
  apos : Reference

abbrev pub reference : Reference → List ℕ
reference amp = codes "&amp;"
reference lt = codes "&lt;"
reference gt = codes "&gt;"
reference quot = codes "&quot;"
reference apos = codes "&apos;"

-- one of [14] CharData ::= [^<&]* and of references, or of ([^<&"] | Reference)* in a value
pub data Char (stop : ℕ) : Type 0 where
  itself : (b : ℕ) → plain stop b ≡ true → Char stop
  referred : Reference → Char stop

abbrev pub char : {stop : ℕ} → Char stop → List ℕ
char (itself b ok) = b ∷ []
char (referred r) = reference r

abbrev pub chars : {stop : ℕ} → List (Char stop) → List ℕ
chars [] = []
chars (c ∷ cs) = char c ++ chars cs

-- the two signs of [10] AttValue ::= '"' ([^<&"] | Reference)* '"' | "'" ([^<&'] | Reference)* "'"
pub data Quote : Type 0 where
  single : Quote
  double : Quote

abbrev pub sign : Quote → ℕ
sign single = 39
sign double = 34

-- ## Attributes

-- S Name Eq: an attribute with the white space before it, up to its value. [25] Eq ::= S? '=' S?
pub record Opening : Type 0 where
  pub apart : ℕ
  pub is_white : white apart ≡ true
  pub space : Space
  pub named : Name
  pub before : Space
  pub behind : Space

abbrev pub opening : Opening → List ℕ
opening o = o.apart ∷ (o.space.bytes ++ (name o.named ++ (o.before.bytes ++ (61 ∷ o.behind.bytes))))

-- S [41] Attribute ::= Name Eq AttValue
pub record Attribute : Type 0 where
  pub opened : Opening
  pub quote : Quote
  pub value : List (Char (sign quote))

abbrev pub attribute : Attribute → List ℕ
attribute a = opening a.opened ++ (sign a.quote ∷ (chars a.value ++ (sign a.quote ∷ [])))

-- (S Attribute)*
abbrev pub attributes : List Attribute → List ℕ
attributes [] = []
attributes (a ∷ ats) = attribute a ++ attributes ats

-- ## Pieces

-- one of the inside of [15] Comment ::= '<!--' ((Char - '-') | ('-' (Char - '-')))* '-->'
pub data Remark : Type 0 where
  byte : (b : ℕ) → (b == 45) ≡ false → allowed b ≡ true → Remark
  hyphen : (b : ℕ) → (b == 45) ≡ false → allowed b ≡ true → Remark

abbrev pub remark : Remark → List ℕ
remark (byte b n ok) = b ∷ []
remark (hyphen b n ok) = 45 ∷ (b ∷ [])

abbrev pub remarks : List Remark → List ℕ
remarks [] = []
remarks (c ∷ cs) = remark c ++ remarks cs

-- one of [43] content, where an element is its start tag and its end tag, which need not fit one another
pub data Piece : Type 0 where
  -- a byte of text or a reference
  content : Char 60 → Piece
  -- [15]
  comment : List Remark → Piece
  -- [40] STag ::= '<' Name (S Attribute)* S? '>'
  starting : Name → List Attribute → Space → Piece
  -- [44] EmptyElemTag ::= '<' Name (S Attribute)* S? '/>'
  empty : Name → List Attribute → Space → Piece
  -- [42] ETag ::= '</' Name S? '>'
  ending : Name → Space → Piece

abbrev pub piece : Piece → List ℕ
piece (content c) = char c
piece (comment cs) = codes "<!--" ++ (remarks cs ++ codes "-->")
piece (starting n ats s) = 60 ∷ (name n ++ (attributes ats ++ (s.bytes ++ codes ">")))
piece (empty n ats s) = 60 ∷ (name n ++ (attributes ats ++ (s.bytes ++ codes "/>")))
piece (ending n s) = 60 ∷ (47 ∷ (name n ++ (s.bytes ++ codes ">")))

-- a text: any row of pieces, even none
abbrev pub markup : List Piece → List ℕ
markup [] = []
markup (x ∷ xs) = piece x ++ markup xs

-- ## Tags, right texts and viable ones

-- A tag: the place of its `<`, and the part of the text that is its name, by where it starts and how long it is.
pub data Tag : Type 0 where
  opens : ℕ → ℕ → ℕ → Tag
  closes : ℕ → ℕ → ℕ → Tag

-- the tags of a piece that stands at the place p
abbrev pub tag : ℕ → Piece → List Tag
tag p (content c) = []
tag p (comment cs) = []
tag p (starting n ats s) = opens p (p + 1) (length (name n)) ∷ []
tag p (empty n ats s) = opens p (p + 1) (length (name n)) ∷ (closes p (p + 1) (length (name n)) ∷ [])
tag p (ending n s) = closes p (p + 2) (length (name n)) ∷ []

abbrev pub tags : ℕ → List Piece → List Tag
tags p [] = []
tags p (x ∷ xs) = tag p x ++ tags (p + length (piece x)) xs

-- the text is right: it is spelled by some row of pieces; and its tags are those of the row
abbrev pub Right : List ℕ → List Tag → Type 0
Right text ts = (xs : List Piece) × (markup xs ≡ text) × (tags 0 xs ≡ ts)

-- something can be written behind the text that makes it right
abbrev pub Viable : List ℕ → Type 0
Viable text = (rest : List ℕ) × (ts : List Tag) × Right (text ++ rest) ts
