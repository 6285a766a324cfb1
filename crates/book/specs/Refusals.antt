-- The number of each refusal of a scan or a watch, and its text.
use Rattle.std.specs.Prelude.{ℕ, List, ◌++◌, codes, decimal}
use Rattle.book.specs.declared.answer.Refusal.{Refusal}
use Rattle.book.specs.declared.answer.Refusal.TheVariants.{NoStates, Ended, ShortList, BadTag, TooDeep, TooMany, HoldFull, NoneOpen, OtherTag, StillOpen}

abbrev pub number : Refusal → ℕ
number NoStates = 1
number Ended = 2
number ShortList = 3
number BadTag = 4
number TooDeep = 5
number TooMany = 6
number HoldFull = 7
number NoneOpen = 8
number OtherTag = 9
number StillOpen = 10

abbrev pub refusal_text : Refusal → List ℕ
refusal_text r = codes "refused " ++ decimal (number r)
