-- What a reader has yet to give, and what one call gives.
use Rattle.std.specs.Prelude.{◌≡◌, ℕ, ◌+◌, ◌-◌, List, [], ◌∷◌, length, take, drop, Ok, Err, Result, Some, None, Option}
use Rattle.markup.specs.Faults.{fault_ending}
use Rattle.markup.specs.Grammar.{closes, opens}
use Rattle.markup.specs.Parts.{left}
use Rattle.markup.specs.Reading.{Reading, finish, giving, in_text}
use Rattle.markup.specs.declared.fault.ReaderFault.{ReaderFault}
use Rattle.markup.specs.declared.reader.Pending.{Pending}
use Rattle.markup.specs.declared.reader.Pending.TheVariants.{Close as PendingClose, Fault}
use Rattle.markup.specs.declared.reader.Reader.{Reader}
use Rattle.markup.specs.declared.token.Token.{Token}
use Rattle.markup.specs.declared.token.Token.TheVariants.{Close, Finish, Open}

-- what comes before the rest of the text is read, and then the rest
abbrev pub pending_then : Option Pending → Reading → Reading
pending_then None r = r
pending_then (Some (PendingClose at end)) r = giving (closes at (at + 1) (end - (at + 1)) ∷ []) r
pending_then (Some (Fault f)) r = record { given = []; ended = fault_ending f }

-- the reading that is left
abbrev pub remaining : Reader → Reading
remaining r = pending_then r.pending (left r.cursor in_text)

-- the part of the text from a place on, so many bytes
abbrev pub part : List ℕ → ℕ → ℕ → List ℕ
part s p k = take k (drop p s)

-- A tag is the first of those left, with its name's part of the text; a finish or a fault is all that is left, and stays so.
abbrev pub Gives : Reader → Result Token ReaderFault → Reader → Type 0
Gives b (Ok (Open name at)) a =
    (remaining b ≡ giving (opens at (at + 1) (length name.now) ∷ []) (remaining a))
    × (name.now ≡ part b.cursor.text.now (at + 1) (length name.now))
Gives b (Ok (Close name at)) a =
    (p : ℕ)
    × (remaining b ≡ giving (closes at p (length name.now) ∷ []) (remaining a))
    × (name.now ≡ part b.cursor.text.now p (length name.now))
Gives b (Ok Finish) a = (remaining b ≡ record { given = []; ended = finish }) × (remaining a ≡ remaining b)
Gives b (Err f) a = (remaining b ≡ record { given = []; ended = fault_ending f }) × (remaining a ≡ remaining b)
