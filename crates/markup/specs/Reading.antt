-- Reading byte by byte: where a reader stands, and what the next byte does.
use Rattle.std.specs.Prelude.{ℕ, suc, ◌+◌, cond, List, [], ◌∷◌, ◌++◌, ◌==◌, nat_lt}
use Rattle.name_bytes.specs.Names.{name_start, name_byte, name_limit}
use Rattle.markup.specs.Grammar.{white, allowed, plain, Quote, single, double, sign, Tag, opens, closes}

-- In text, or in a value of the start tag at a place with a name of so many bytes.
pub data Where : Type 0 where
  text : Where
  value : ℕ → ℕ → Quote → Where

-- the byte that ends it
abbrev pub stop_of : Where → ℕ
stop_of text = 60
stop_of (value at k q) = sign q

-- Where a reader stands in a text. The first number of a mode is the place of the `&` or of the tag's `<`; in a tag with a name
-- the next is how many bytes the name has.
pub data Mode : Type 0 where
  in_content : Where → Mode
  -- behind `&`, behind `&a`, and where a byte and then others have yet to come of a reference
  ampersand : ℕ → Where → Mode
  ampersand_a : ℕ → Where → Mode
  awaiting : ℕ → Where → ℕ → List ℕ → Mode
  -- behind `<`, `<!`, `<!-`
  angle : ℕ → Mode
  bang : ℕ → Mode
  bang_hyphen : ℕ → Mode
  -- in a comment, behind one hyphen of it, behind two
  in_comment : Mode
  one_hyphen : Mode
  two_hyphens : Mode
  -- in a start tag: in its name, behind white space, in an attribute's name (its bytes last), behind that name, behind `=`,
  -- behind a value, behind `/`
  naming : ℕ → ℕ → Mode
  spaced : ℕ → ℕ → Mode
  naming_attribute : ℕ → ℕ → ℕ → Mode
  attribute_named : ℕ → ℕ → Mode
  equals : ℕ → ℕ → Mode
  valued : ℕ → ℕ → Mode
  slashed : ℕ → ℕ → Mode
  -- in an end tag: behind `</`, in its name, behind white space
  slash : ℕ → Mode
  naming_end : ℕ → ℕ → Mode
  end_spaced : ℕ → ℕ → Mode

-- What a byte does: the reading goes on in a mode, with tags that are now given; or it stops, with a number and a place.
pub data Step : Type 0 where
  go : Mode → List Tag → Step
  stop : ℕ → ℕ → Step

abbrev pub on : Mode → Step
on m = go m []

abbrev pub in_text : Mode
in_text = in_content text

-- behind the white space, name or value of a start tag: its end
abbrev pub shut : ℕ → ℕ → ℕ → ℕ → Step
shut at k p b = cond (b == 47) (on (slashed at k)) (cond (b == 62) (go in_text (opens at (at + 1) k ∷ [])) (stop 22 p))

abbrev pub behind : ℕ → ℕ → ℕ → ℕ → Step
behind at k p b = cond (white b) (on (spaced at k)) (shut at k p b)

abbrev pub end_shut : ℕ → ℕ → ℕ → ℕ → Step
end_shut at k p b = cond (white b) (on (end_spaced at k)) (cond (b == 62) (go in_text (closes at (at + 2) k ∷ [])) (stop 22 p))

abbrev pub leave : Where → ℕ → ℕ → Step
leave text p b = cond (b == 60) (on (angle p)) (stop 22 p)
leave (value at k q) p b = cond (b == sign q) (on (valued at k)) (stop 22 p)

abbrev pub equal : ℕ → ℕ → ℕ → ℕ → Step
equal at k p b = cond (b == 61) (on (equals at k)) (stop 22 p)

-- the byte b at the place p
abbrev pub next : ℕ → Mode → ℕ → Step
next p (in_content w) b = cond (plain (stop_of w) b) (on (in_content w)) (cond (b == 38) (on (ampersand p w)) (leave w p b))
next p (ampersand at w) b =
    cond (b == 97) (on (ampersand_a at w))
    (cond (b == 108) (on (awaiting at w 116 (59 ∷ [])))
    (cond (b == 103) (on (awaiting at w 116 (59 ∷ [])))
    (cond (b == 113) (on (awaiting at w 117 (111 ∷ (116 ∷ (59 ∷ []))))) (stop 25 at))))
next p (ampersand_a at w) b = cond (b == 109) (on (awaiting at w 112 (59 ∷ []))) (cond (b == 112) (on (awaiting at w 111 (115 ∷ (59 ∷ [])))) (stop 25 at))
next p (awaiting at w x []) b = cond (b == x) (on (in_content w)) (stop 25 at)
next p (awaiting at w x (y ∷ ys)) b = cond (b == x) (on (awaiting at w y ys)) (stop 25 at)
next p (angle at) b =
    cond (name_start b) (on (naming at 1)) (cond (b == 47) (on (slash at)) (cond (b == 33) (on (bang at)) (cond (b == 63) (stop 23 at) (stop 22 p))))
next p (bang at) b = cond (b == 45) (on (bang_hyphen at)) (stop 23 at)
next p (bang_hyphen at) b = cond (b == 45) (on in_comment) (stop 23 at)
next p in_comment b = cond (b == 45) (on one_hyphen) (cond (allowed b) (on in_comment) (stop 22 p))
next p one_hyphen b = cond (b == 45) (on two_hyphens) (cond (allowed b) (on in_comment) (stop 22 p))
next p two_hyphens b = cond (b == 62) (on in_text) (stop 22 p)
next p (naming at k) b = cond (name_byte b) (cond (nat_lt k name_limit) (on (naming at (suc k))) (stop 24 p)) (behind at k p b)
next p (spaced at k) b = cond (white b) (on (spaced at k)) (cond (name_start b) (on (naming_attribute at k 1)) (shut at k p b))
next p (naming_attribute at k j) b =
    cond (name_byte b) (cond (nat_lt j name_limit) (on (naming_attribute at k (suc j))) (stop 24 p)) (cond (white b) (on (attribute_named at k)) (equal at k p b))
next p (attribute_named at k) b = cond (white b) (on (attribute_named at k)) (equal at k p b)
next p (equals at k) b =
    cond (white b) (on (equals at k)) (cond (b == 34) (on (in_content (value at k double))) (cond (b == 39) (on (in_content (value at k single))) (stop 22 p)))
next p (valued at k) b = behind at k p b
next p (slashed at k) b = cond (b == 62) (go in_text (opens at (at + 1) k ∷ (closes at (at + 1) k ∷ []))) (stop 22 p)
next p (slash at) b = cond (name_start b) (on (naming_end at 1)) (stop 22 p)
next p (naming_end at k) b = cond (name_byte b) (cond (nat_lt k name_limit) (on (naming_end at (suc k))) (stop 24 p)) (end_shut at k p b)
next p (end_spaced at k) b = end_shut at k p b

-- How a reading ends: by the finish, or by a fault with its number and place.
pub data Ending : Type 0 where
  finish : Ending
  failed : ℕ → ℕ → Ending

pub record Reading : Type 0 where
  pub given : List Tag
  pub ended : Ending

-- tags, and then a reading
abbrev pub giving : List Tag → Reading → Reading
giving ts r = record { given = ts ++ r.given; ended = r.ended }

-- where the text ends at the place p: right only in text
abbrev pub over : Mode → ℕ → Ending
over (in_content text) p = finish
over (in_content (value at k q)) p = failed 21 p
over (ampersand at w) p = failed 21 p
over (ampersand_a at w) p = failed 21 p
over (awaiting at w x xs) p = failed 21 p
over (angle at) p = failed 21 p
over (bang at) p = failed 21 p
over (bang_hyphen at) p = failed 21 p
over in_comment p = failed 21 p
over one_hyphen p = failed 21 p
over two_hyphens p = failed 21 p
over (naming at k) p = failed 21 p
over (spaced at k) p = failed 21 p
over (naming_attribute at k j) p = failed 21 p
over (attribute_named at k) p = failed 21 p
over (equals at k) p = failed 21 p
over (valued at k) p = failed 21 p
over (slashed at k) p = failed 21 p
over (slash at) p = failed 21 p
over (naming_end at k) p = failed 21 p
over (end_spaced at k) p = failed 21 p

abbrev pub carried : Step → (Mode → Reading) → Reading
carried (go m ts) f = giving ts (f m)
carried (stop n at) f = record { given = []; ended = failed n at }

-- the text from the place p on, read in a mode
abbrev pub read : ℕ → Mode → List ℕ → Reading
read p m [] = record { given = []; ended = over m p }
read p m (b ∷ bs) = carried (next p m b) (λ m'. read (suc p) m' bs)

-- a whole text
abbrev pub reading : List ℕ → Reading
reading s = read 0 (in_content text) s
