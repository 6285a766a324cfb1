-- Book files, version 1: what they hold, how they are written, and how they are read.
use Rattle.std.specs.Prelude.{◌≡◌, ℕ, zero, suc, ◌+◌, ◌-◌, ◌*◌, Bool, true, if◌then◌else◌, ◌&&◌, List, [], ◌∷◌, ◌++◌, length, take, drop, Some, None, Ok, Err, Option, Result, ◌==◌, nat_le, nat_lt, slice_index}
use Rattle.std.specs.Borrow.{Bor}
use Rattle.name_bytes.specs.Names.{between, name_byte, name_limit, name_start, right_name}
use Rattle.book.specs.Limits.{most_states, tags}
use Rattle.book.specs.declared.fault.BookFault.{BookFault}
use Rattle.book.specs.declared.fault.BookFault.TheVariants.{CutOff, ExtraByte, HeaderNumber, Letters, NameByte, ShortHeader, TableEntry, Version}
use Rattle.book_file.specs.declared.header.Kind.{Kind}
use Rattle.book_file.specs.declared.header.Kind.TheVariants.{Selecting, Shape}
use Rattle.book_file.specs.declared.header.Header.{Header}
use Rattle.book_file.specs.Table.{Table, below, table}

-- Files -----------------------------------------------------------------------------------------------------------

-- What a file holds: its tables, and the names of the tags 1, 2, and so on. A shape file has no entries for mark.
pub record File : Type 0 where
  pub kind : Kind
  pub tables : Table
  pub mark : List ℕ
  pub names : List (List ℕ)

abbrev pub file : Kind → Table → List ℕ → List (List ℕ) → File
file kind tables mark names = record { kind = kind; tables = tables; mark = mark; names = names }

-- how many entries a table for mark has
abbrev pub mark_size : Kind → ℕ → ℕ
mark_size Shape size = 0
mark_size Selecting size = size

-- a table of a size, with entries below a bound
abbrev pub Filled : ℕ → ℕ → List ℕ → Type 0
Filled size bound xs = (length xs ≡ size) × (below bound xs ≡ true)

abbrev pub right_names : List (List ℕ) → Bool
right_names [] = true
right_names (w ∷ ws) = right_name w && right_names ws

-- what a file may hold
pub record Right (f : File) : Type 0 where
  pub states : between 1 most_states f.tables.states ≡ true
  pub trees : between 1 most_states f.tables.trees ≡ true
  pub columns : between 1 tags f.tables.columns ≡ true
  pub start : nat_lt f.tables.start f.tables.states ≡ true
  pub accept : Filled f.tables.states 2 f.tables.accept
  pub enter : Filled (f.tables.states * f.tables.columns) f.tables.states f.tables.enter
  pub mark : Filled (mark_size f.kind (f.tables.states * f.tables.columns)) f.tables.states f.mark
  pub up : Filled (f.tables.states * f.tables.columns) f.tables.trees f.tables.up
  pub side : Filled (f.tables.states * f.tables.trees) f.tables.states f.tables.side
  -- a name for each tag but 0
  pub named : suc (length f.names) ≡ f.tables.columns
  pub names : right_names f.names ≡ true

-- Writing ---------------------------------------------------------------------------------------------------------

abbrev pub kind_byte : Kind → ℕ
kind_byte Shape = 0
kind_byte Selecting = 1

-- each name behind its length
abbrev pub names_bytes : List (List ℕ) → List ℕ
names_bytes [] = []
names_bytes (w ∷ ws) = length w ∷ (w ++ names_bytes ws)

-- the letters SEL, the version, five numbers, the tables, the names
abbrev pub bytes_of : File → List ℕ
bytes_of f =
    83 ∷ 69 ∷ 76 ∷ 1 ∷ 0 ∷ f.tables.states ∷ f.tables.trees ∷ f.tables.columns ∷ kind_byte f.kind ∷ f.tables.start
    ∷ (f.tables.accept ++ (f.tables.enter ++ (f.mark ++ (f.tables.up ++ (f.tables.side ++ names_bytes f.names)))))

-- Reading ---------------------------------------------------------------------------------------------------------

-- go on with what was read, or with the first fault
abbrev pub and_then : {A B : Type 0} → Result A BookFault → (A → Result B BookFault) → Result B BookFault
and_then (Ok a) f = f a
and_then (Err e) f = Err e

-- what is read where a test is passed, or its fault
abbrev pub given : {A : Type 0} → Bool → BookFault → Result A BookFault → Result A BookFault
given test fault r = if test then r else Err fault

-- of bytes from an offset on, the offset of the first that fails a test
abbrev pub first_off : (ℕ → Bool) → ℕ → List ℕ → Option ℕ
first_off test at [] = None
first_off test at (b ∷ bs) = if test b then first_off test (suc at) bs else Some at

abbrev pub unless : {A : Type 0} → Option ℕ → (ℕ → BookFault) → A → Result A BookFault
unless None fault a = Ok a
unless (Some at) fault a = Err (fault at)

abbrev pub kind_of : ℕ → Kind
kind_of zero = Shape
kind_of (suc n) = Selecting

abbrev pub header_of : List ℕ → Header
header_of bs = record { states = slice_index bs 5; trees = slice_index bs 6; columns = slice_index bs 7; kind = kind_of (slice_index bs 8); start = slice_index bs 9 }

-- the kind that a byte of the header stands for
abbrev pub kind_read : ℕ → Result Kind BookFault
kind_read b = given (nat_le b 1) (HeaderNumber 8) (Ok (kind_of b))

-- the header: its length, its letters, its version, and then its numbers from the left
abbrev pub header : List ℕ → Result Header BookFault
header bs =
    if nat_lt (length bs) 10 then Err (ShortHeader (length bs)) else
    given (slice_index bs 0 == 83 && (slice_index bs 1 == 69 && slice_index bs 2 == 76)) Letters
    (given (slice_index bs 3 == 1 && slice_index bs 4 == 0) Version
    (given (between 1 most_states (slice_index bs 5)) (HeaderNumber 5)
    (given (between 1 most_states (slice_index bs 6)) (HeaderNumber 6)
    (given (between 1 tags (slice_index bs 7)) (HeaderNumber 7)
    (given (nat_le (slice_index bs 8) 1) (HeaderNumber 8)
    (given (nat_lt (slice_index bs 9) (slice_index bs 5)) (HeaderNumber 9) (Ok (header_of bs))))))))

-- a table at an offset: its first entry that is not below the bound is a fault
abbrev pub table_at : ℕ → ℕ → List ℕ → Result (List ℕ) BookFault
table_at bound at xs = unless (first_off (λ x. nat_lt x bound) at xs) TableEntry xs

-- a part of the file that was read, as its bytes
abbrev pub parted : Result (Bor (List ℕ)) BookFault → Result (List ℕ) BookFault
parted (Ok r) = Ok r.now
parted (Err e) = Err e

-- what was read where a check passed
abbrev pub passed : {U A : Type 0} → Result U BookFault → A → Result A BookFault
passed (Ok u) a = Ok a
passed (Err e) a = Err e

-- the tables in their order
pub record Rows : Type 0 where
  pub accept : List ℕ
  pub enter : List ℕ
  pub mark : List ℕ
  pub up : List ℕ
  pub side : List ℕ

abbrev pub entries : Header → ℕ
entries h = h.states * h.columns

abbrev pub tables_size : Header → ℕ
tables_size h = h.states + (entries h + (mark_size h.kind (entries h) + (entries h + h.states * h.trees)))

abbrev pub tables_at : Header → ℕ → List ℕ → Result Rows BookFault
tables_at h at bs =
    let at_enter : ℕ = at + h.states in
    let at_mark : ℕ = at_enter + entries h in
    let at_up : ℕ = at_mark + mark_size h.kind (entries h) in
    let at_side : ℕ = at_up + entries h in
    let from_enter : List ℕ = drop h.states bs in
    let from_mark : List ℕ = drop (entries h) from_enter in
    let from_up : List ℕ = drop (mark_size h.kind (entries h)) from_mark in
    let from_side : List ℕ = drop (entries h) from_up in
    and_then (table_at 2 at (take h.states bs)) (λ accept.
    and_then (table_at h.states at_enter (take (entries h) from_enter)) (λ enter.
    and_then (table_at h.states at_mark (take (mark_size h.kind (entries h)) from_mark)) (λ mark.
    and_then (table_at h.trees at_up (take (entries h) from_up)) (λ up.
    and_then (table_at h.states at_side (take (h.states * h.trees) from_side)) (λ side.
    Ok (record { accept = accept; enter = enter; mark = mark; up = up; side = side }))))))

-- the first byte that a name may not have there
abbrev pub misspelt : ℕ → List ℕ → Option ℕ
misspelt at [] = None
misspelt at (b ∷ bs) = if name_start b then first_off name_byte (suc at) bs else Some at

-- a name at an offset of a file of some length: its own length, then whether it is whole, then its bytes
abbrev pub name_at : ℕ → ℕ → List ℕ → Result (List ℕ) BookFault
name_at size at [] = Err (CutOff size)
name_at size at (n ∷ bs) =
    given (between 1 name_limit n) (NameByte at)
    (given (nat_le n (length bs)) (CutOff size) (unless (misspelt (suc at) (take n bs)) NameByte (take n bs)))

-- so many names, and nothing behind them
abbrev pub names_at : ℕ → ℕ → ℕ → List ℕ → Result (List (List ℕ)) BookFault
names_at size zero at [] = Ok []
names_at size zero at (b ∷ bs) = Err (ExtraByte at)
names_at size (suc count) at bs =
    and_then (name_at size at bs) (λ w. and_then (names_at size count (at + suc (length w)) (drop (suc (length w)) bs)) (λ ws. Ok (w ∷ ws)))

abbrev pub file_with : Header → Rows → List (List ℕ) → File
file_with h ts names = file h.kind (table h.states h.trees h.columns h.start ts.accept ts.enter ts.up ts.side) ts.mark names

-- the header, the tables (whole before any of their entries is looked at), the names
abbrev pub reading : List ℕ → Result File BookFault
reading bs =
    and_then (header bs) (λ h.
    if nat_lt (length bs) (10 + tables_size h) then Err (CutOff (length bs)) else
    and_then (tables_at h 10 (drop 10 bs)) (λ ts.
    and_then (names_at (length bs) (h.columns - 1) (10 + tables_size h) (drop (10 + tables_size h) bs)) (λ ws. Ok (file_with h ts ws))))
