-- A whole text by its tokens: what each shows of the text, and that they are those of the law.
use Rattle.std.specs.Prelude.{◌≡◌, ℕ, List, [], ◌∷◌, Some, None, vec_items, Option}
use Rattle.markup.specs.Faults.{fault_ending}
use Rattle.markup.specs.Grammar.{Tag, closes, opens}
use Rattle.markup.specs.Law.{Reads}
use Rattle.markup.specs.Reading.{Ending, finish}
use Rattle.markup.specs.Tokens.{part}
use Rattle.markup.specs.declared.fault.ReaderFault.{ReaderFault}
use Rattle.markup.specs.declared.token.Token.{Token}
use Rattle.markup.specs.declared.token.Token.TheVariants.{Close, Finish, Open}
use Rattle.markup.specs.declared.whole_text.WholeText.{WholeText}

-- a token shows a tag: an open or a close, the place of the `<`, and the very part of the text that is the name
abbrev pub Shows : List ℕ → Tag → Token → Type 0
Shows s (opens at p k) (Open name at') = (at' ≡ at) × (name.now ≡ part s p k)
Shows s (opens at p k) (Close name at') = ⊥
Shows s (opens at p k) Finish = ⊥
Shows s (closes at p k) (Open name at') = ⊥
Shows s (closes at p k) (Close name at') = (at' ≡ at) × (name.now ≡ part s p k)
Shows s (closes at p k) Finish = ⊥

-- tokens show tags one by one
abbrev pub AllShown : List ℕ → List Tag → List Token → Type 0
AllShown s [] [] = Unit {0}
AllShown s [] (x ∷ xs) = ⊥
AllShown s (t ∷ ts) [] = ⊥
AllShown s (t ∷ ts) (x ∷ xs) = Shows s t x × AllShown s ts xs

-- how a reading with a fault or without one ends
abbrev pub ending : Option ReaderFault → Ending
ending None = finish
ending (Some f) = fault_ending f

-- the tokens show the tags of the text's reading, which ends as the law says
abbrev pub Whole : List ℕ → WholeText → Type 0
Whole s w =
    (ts : List Tag)
    × AllShown s ts (vec_items w.tags)
    × Reads s (record { given = ts; ended = ending w.fault })
