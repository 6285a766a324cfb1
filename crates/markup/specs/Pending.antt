-- The part of the text that is the name of an empty tag whose close is yet to be given.
use Rattle.std.specs.Prelude.{ℕ, ◌+◌, Option, Some, None}
use Rattle.markup.specs.declared.reader.Pending.{Pending}
use Rattle.markup.specs.declared.reader.Pending.TheVariants.{Close, Fault}

abbrev pub name_from : Option Pending → ℕ
name_from None = 0
name_from (Some (Close at end)) = at + 1
name_from (Some (Fault f)) = 0

abbrev pub name_until : Option Pending → ℕ
name_until None = 0
name_until (Some (Close at end)) = end
name_until (Some (Fault f)) = 0
