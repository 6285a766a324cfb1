-- The number and the place of each fault of a book, and its text.
use Rattle.std.specs.Prelude.{ℕ, List, ◌++◌, codes, decimal, Some, None, Option}
use Rattle.book.specs.declared.fault.BookFault.{BookFault}
use Rattle.book.specs.declared.fault.BookFault.TheVariants.{ShortHeader, Letters, Version, HeaderNumber, CutOff, ExtraByte, TableEntry, NameByte, PathSteps, LevelDepth}

abbrev pub fault_number : BookFault → ℕ
fault_number (ShortHeader n) = 11
fault_number Letters = 12
fault_number Version = 13
fault_number (HeaderNumber p) = 14
fault_number (CutOff n) = 15
fault_number (ExtraByte p) = 16
fault_number (TableEntry p) = 17
fault_number (NameByte p) = 18
fault_number PathSteps = 19
fault_number LevelDepth = 20

-- a file that is too short or cut off is refused at its length, a path or a level shape at no place
abbrev pub fault_place : BookFault → Option ℕ
fault_place (ShortHeader n) = Some n
fault_place Letters = Some 0
fault_place Version = Some 3
fault_place (HeaderNumber p) = Some p
fault_place (CutOff n) = Some n
fault_place (ExtraByte p) = Some p
fault_place (TableEntry p) = Some p
fault_place (NameByte p) = Some p
fault_place PathSteps = None
fault_place LevelDepth = None

-- the number, and the place where there is one
abbrev pub numbered_text : ℕ → Option ℕ → List ℕ
numbered_text n (Some p) = codes "refused " ++ (decimal n ++ (codes " at " ++ decimal p))
numbered_text n None = codes "refused " ++ decimal n

abbrev pub fault_text : BookFault → List ℕ
fault_text f = numbered_text (fault_number f) (fault_place f)
