-- What is printed of a text: a line for each tag, indented by its depth, and how the text ends.
use Rattle.std.specs.Prelude.{◌≡◌, ℕ, zero, suc, ◌+◌, ◌-◌, List, [], ◌∷◌, ◌++◌, length, vec_items, codes, decimal}
use Rattle.markup.specs.Grammar.{Tag, closes, opens}
use Rattle.markup.specs.Reading.{Ending, Reading, failed, finish, reading}
use Rattle.markup.specs.Tokens.{part}
use Rattle.markup.specs.Whole.{ending}
use Rattle.markup.specs.declared.fault.ReaderFault.{ReaderFault}
use Rattle.markup.specs.declared.token.Token.{Token}
use Rattle.markup.specs.declared.token.Token.TheVariants.{Close, Finish, Open}
use Rattle.printing.specs.declared.Report.{Report}

-- two spaces for each level
abbrev pub indent : ℕ → List ℕ
indent zero = []
indent (suc d) = 32 ∷ (32 ∷ indent d)

-- the place of the tag's `<`, what the tag does, and its name
abbrev pub line : ℕ → ℕ → List ℕ → List ℕ → List ℕ
line depth at word name = indent depth ++ (decimal at ++ (word ++ (name ++ (10 ∷ []))))

-- A close stands at the depth of its open; one without an open stands at depth 0.
abbrev pub lines : List ℕ → ℕ → List Tag → List ℕ
lines s d [] = []
lines s d (opens at p k ∷ ts) = line d at (codes " open ") (part s p k) ++ lines s (d + 1) ts
lines s d (closes at p k ∷ ts) = line (d - 1) at (codes " close ") (part s p k) ++ lines s (d - 1) ts

abbrev pub last_line : ℕ → Ending → List ℕ
last_line n finish = codes "tags " ++ (decimal n ++ (10 ∷ []))
last_line n (failed k p) = codes "refused " ++ (decimal k ++ (codes " at " ++ (decimal p ++ (10 ∷ []))))

abbrev pub report : List ℕ → Reading → List ℕ
report s r = lines s 0 r.given ++ last_line (length r.given) r.ended

abbrev pub Reports : List ℕ → Report ReaderFault → Type 0
Reports s p = (vec_items p.printed ≡ report s (reading s)) × (ending p.fault ≡ (reading s).ended)

-- The same lines from the tokens, which show their names.
abbrev pub token_line : ℕ → Token → List ℕ
token_line d (Open name at) = line d at (codes " open ") name.now
token_line d (Close name at) = line (d - 1) at (codes " close ") name.now
token_line d Finish = []

abbrev pub depth_after : ℕ → Token → ℕ
depth_after d (Open name at) = d + 1
depth_after d (Close name at) = d - 1
depth_after d Finish = d

abbrev pub token_lines : ℕ → List Token → List ℕ
token_lines d [] = []
token_lines d (x ∷ xs) = token_line d x ++ token_lines (depth_after d x) xs
