-- What each step of the reader owes, as equations of the reading (specs/Reading): from a cursor and a mode it comes to another
-- cursor and mode, or ends with a fault.
use Rattle.std.specs.Prelude.{◌≡◌, ℕ, ◌+◌, ◌-◌, ◌<◌, ◌≤◌, Bool, true, false, List, [], ◌∷◌, length, drop, Ok, Err, Result, Some, None, Option, ◌⊎◌, ◌==◌, slice_index}
use Rattle.markup.specs.declared.fault.ReaderFault.{ReaderFault}
use Rattle.markup.specs.declared.fault.ReaderFault.TheVariants.{CutOff}
use Rattle.markup.specs.declared.cursor.Cursor.{Cursor}
use Rattle.markup.specs.declared.tag.TagKind.{TagKind}
use Rattle.markup.specs.declared.tag.TagKind.TheVariants.{Start, Empty, End}
use Rattle.markup.specs.declared.tag.TagPlaces.{TagPlaces}
use Rattle.name_bytes.specs.Names.{name_byte, name_limit}
use Rattle.markup.specs.Grammar.{plain, sign, Tag, opens, closes}
use Rattle.markup.specs.Reading.{Where, stop_of, Mode, in_content, in_text, awaiting, equals, valued, naming, naming_attribute, shut, slash, carried, giving, stop, on, next, finish, Reading, read}
use Rattle.markup.specs.Faults.{fault_ending}

-- ## Places

-- the rest of the text s, from the place p in a mode
abbrev pub from : List ℕ → ℕ → Mode → Reading
from s p m = read p m (drop p s)

-- the reading that is left at a cursor in a mode
abbrev pub left : Cursor → Mode → Reading
left c m = from c.text.now c.place m

-- a byte stands at the cursor
abbrev pub HasByte : Cursor → Type 0
HasByte c = c.place < length c.text.now

abbrev pub here : Cursor → ℕ
here c = slice_index c.text.now c.place

-- the text ends at the cursor, which is its fault
abbrev pub Cut : Cursor → ReaderFault → Type 0
Cut c f = (length c.text.now ≤ c.place) × (f ≡ CutOff c.place)

-- ## Steps

-- reading on from b in the mode m comes to a in the mode m', with no tag
pub record Goes (b : Cursor) (m : Mode) (a : Cursor) (m' : Mode) : Type 0 where
  pub same_text : a.text.now ≡ b.text.now
  pub onward : b.place ≤ a.place
  pub same : left b m ≡ left a m'

abbrev pub Fails : Cursor → Mode → ReaderFault → Type 0
Fails b m f = left b m ≡ record { given = []; ended = fault_ending f }

-- a way through a part of the text, or its fault
abbrev pub Way : {A : Type 0} → Cursor → Mode → Mode → Result A ReaderFault → Cursor → Type 0
Way b m m' (Ok x) a = Goes b m a m'
Way b m m' (Err f) a = Fails b m f

-- whether the byte x stands at the cursor
abbrev pub IsAt : Cursor → ℕ → Bool → Type 0
IsAt c x true = HasByte c × (here c ≡ x)
IsAt c x false = HasByte c → (here c == x) ≡ false

-- the byte at the cursor, or the text's end
abbrev pub Peeked : Cursor → Result ℕ ReaderFault → Type 0
Peeked c (Ok b) = HasByte c × (here c ≡ b)
Peeked c (Err f) = Cut c f

-- past a byte by the answer of a test; f is the fault of a byte that does not fit
abbrev pub Takes : (ℕ → Bool → Type 0) → ReaderFault → Cursor → Result ℕ ReaderFault → Cursor → Type 0
Takes Answers f b (Ok x) a = HasByte b × (here b ≡ x) × Answers x true × (a.text.now ≡ b.text.now) × (a.place ≡ b.place + 1)
Takes Answers f b (Err e) a = Cut b e ⊎ (HasByte b × Answers (here b) false × (e ≡ f))

-- past all bytes that fit, by the answers of a test
abbrev pub Skipped : (ℕ → Bool → Type 0) → Cursor → Cursor → Type 0
Skipped Answers b a =
    (a.text.now ≡ b.text.now) × (b.place ≤ a.place) × ((k : ℕ) → b.place ≤ k → k < a.place → Answers (slice_index b.text.now k) true)
    × (HasByte a → Answers (here a) false)

-- past the bytes that fit, so many of them at most
abbrev pub SkippedUpTo : ℕ → (ℕ → Bool → Type 0) → Cursor → Cursor → Type 0
SkippedUpTo most Answers b a =
    (a.text.now ≡ b.text.now) × (b.place ≤ a.place) × (a.place ≤ b.place + most) × ((k : ℕ) → b.place ≤ k → k < a.place → Answers (slice_index b.text.now k) true)
    × (a.place < b.place + most → HasByte a → Answers (here a) false)

-- ## Names, references, text and values

-- modes that count the bytes of a name
abbrev pub Naming : (ℕ → Mode) → Type 0
Naming f =
    ((p k b : ℕ) → name_byte b ≡ true → k < name_limit → next p (f k) b ≡ on (f (k + 1)))
    × ((p k b : ℕ) → name_byte b ≡ true → name_limit ≤ k → next p (f k) b ≡ stop 24 p)

-- behind the first byte of a name: to the name's end
abbrev pub Named : {A : Type 0} → Cursor → Result A ReaderFault → Cursor → Type 0
Named b (Ok x) a =
    (a.text.now ≡ b.text.now) × (b.place ≤ a.place) × ((f : ℕ → Mode) → Naming f → left b (f 1) ≡ left a (f (a.place - b.place + 1)))
    × (HasByte a → name_byte (here a) ≡ false)
Named b (Err e) a = (f : ℕ → Mode) → Naming f → Fails b (f 1) e

-- bytes that a reference has yet to have
abbrev pub awaiting_all : ℕ → Where → List ℕ → Mode
awaiting_all at w [] = in_content w
awaiting_all at w (x ∷ xs) = awaiting at w x xs

abbrev pub Awaited : {A : Type 0} → Cursor → ℕ → List ℕ → Result A ReaderFault → Cursor → Type 0
Awaited b at xs r a = (w : Where) → Way b (awaiting_all at w xs) (in_content w) r a

abbrev pub Referred : {A : Type 0} → Cursor → ℕ → (Where → Mode) → Result A ReaderFault → Cursor → Type 0
Referred b at f r a = (w : Where) → Way b (f w) (in_content w) r a

-- text or a value, up to a byte that ends it or is refused
abbrev pub Contents : {A : Type 0} → Cursor → ℕ → Result A ReaderFault → Cursor → Type 0
Contents b sign (Ok x) a =
    ((w : Where) → stop_of w ≡ sign → Goes b (in_content w) a (in_content w))
    × (HasByte a → (plain sign (here a) ≡ false) × ((here a == 38) ≡ false))
Contents b sign (Err f) a = (w : Where) → stop_of w ≡ sign → Fails b (in_content w) f

-- ## Attributes

-- behind `=`; behind the first byte of an attribute's name; both to behind the value, in any start tag
abbrev pub Valued : {A : Type 0} → Cursor → Result A ReaderFault → Cursor → Type 0
Valued b r a = (at k : ℕ) → Way b (equals at k) (valued at k) r a

abbrev pub Attributed : {A : Type 0} → Cursor → Result A ReaderFault → Cursor → Type 0
Attributed b r a = (at k : ℕ) → Way b (naming_attribute at k 1) (valued at k) r a

-- behind a start tag's name: to the byte that ends the tag or is refused
abbrev pub Shuts : Cursor → Result ℕ ReaderFault → Cursor → Type 0
Shuts b (Ok x) a =
    (a.text.now ≡ b.text.now) × (b.place ≤ a.place) × HasByte a × (here a ≡ x)
    × ((at k : ℕ) → left b (valued at k) ≡ carried (shut at k a.place x) (λ m. from a.text.now (a.place + 1) m))
Shuts b (Err f) a = (at k : ℕ) → Fails b (valued at k) f

-- ## Tags

-- the tags of a start, an empty and an end tag, by the place of its `<` and the one behind its name
abbrev pub tags_of : TagKind → ℕ → ℕ → List Tag
tags_of Start at end = opens at (at + 1) (end - (at + 1)) ∷ []
tags_of Empty at end = opens at (at + 1) (end - (at + 1)) ∷ (closes at (at + 1) (end - (at + 1)) ∷ [])
tags_of End at end = closes at (at + 2) (end - (at + 2)) ∷ []

-- how far behind the `<` the name begins
abbrev pub name_offset : TagKind → ℕ
name_offset Start = 1
name_offset Empty = 1
name_offset End = 2

-- reading on from b in a mode gives the tags of t, and then comes to a
pub record Reads (b : Cursor) (m : Mode) (t : TagPlaces) (a : Cursor) : Type 0 where
  pub same_text : a.text.now ≡ b.text.now
  pub onward : b.place < a.place
  pub named : t.at + name_offset t.kind ≤ t.end
  pub ends : t.end ≤ a.place
  pub same : left b m ≡ giving (tags_of t.kind t.at t.end) (left a in_text)

-- what stands behind `<`: a tag, or a comment, which has none
abbrev pub Finds : Cursor → Mode → Result (Option TagPlaces) ReaderFault → Cursor → Type 0
Finds b m (Ok None) a = (b.place < a.place) × Goes b m a in_text
Finds b m (Ok (Some t)) a = Reads b m t a
Finds b m (Err f) a = Fails b m f

-- a start or empty tag behind the first byte of its name, an end tag behind `</`
abbrev pub Opened : Cursor → ℕ → Result TagPlaces ReaderFault → Cursor → Type 0
Opened b at (Ok t) a = b.place ≡ at + 2 → Reads b (naming at 1) t a
Opened b at (Err f) a = Fails b (naming at 1) f

abbrev pub Closed : Cursor → ℕ → Result TagPlaces ReaderFault → Cursor → Type 0
Closed b at (Ok t) a = b.place ≡ at + 2 → Reads b (slash at) t a
Closed b at (Err f) a = Fails b (slash at) f

-- the next tag, or how the text ends
abbrev pub Tagged : Cursor → Result (Option TagPlaces) ReaderFault → Cursor → Type 0
Tagged b (Ok None) a = (a.text.now ≡ b.text.now) × (left b in_text ≡ record { given = []; ended = finish }) × (left a in_text ≡ record { given = []; ended = finish })
Tagged b (Ok (Some t)) a = Reads b in_text t a
Tagged b (Err f) a = Fails b in_text f
