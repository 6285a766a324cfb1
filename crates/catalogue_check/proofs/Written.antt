-- The printed bytes: what one addition after another makes, and the lines of tokens that show tags.
use Rattle.std.proofs.Common.{◌≡◌, ℕ, zero, suc, ◌+◌, ◌-◌, ◌*◌, ◌/◌, ◌%◌, List, [], ◌∷◌, ◌++◌, length, sym, refl, ap, ◌∙◌, arith, subst}
use Rattle.std.specs.Fmt.{HasWritten, HasWrittenStyled, IsDefaultSpec, IsPlainFormatter}
use Rattle.std.specs.declared.fmt.Formatter.{Formatter}
use Rattle.std.specs.List.{repeat}
use Rattle.catalogue_check.specs.Lines.{indent, last_line, lines, report, token_lines}
use Rattle.markup.specs.Grammar.{Tag, closes, opens}
use Rattle.markup.specs.Reading.{Ending, Reading, reading}
use Rattle.markup.specs.Whole.{AllShown}
use Rattle.markup.specs.declared.token.Token.{Token}
use Rattle.markup.specs.declared.token.Token.TheVariants.{Close, Finish, Open}

-- levels

twos : (d : ℕ) → repeat d (32 ∷ (32 ∷ [])) ≡ indent d
twos zero = refl
twos (suc d) = ap (λ (z : List ℕ). 32 ∷ (32 ∷ z)) (twos d)

indent_plus : (d e : ℕ) → indent d ++ indent e ≡ indent (d + e)
indent_plus zero e = ap indent (let none : e ≡ 0 + e = omega arith in none)
indent_plus (suc d) e = ap (λ (z : List ℕ). 32 ∷ (32 ∷ z)) (indent_plus d e) ∙ ap indent (let more : suc (d + e) ≡ suc d + e = omega arith in more)

eights : (d : ℕ) → repeat d (indent 8) ≡ indent (d * 8)
eights zero = refl
eights (suc d) = ap (λ (z : List ℕ). indent 8 ++ z) (eights d) ∙ indent_plus 8 (d * 8) ∙ ap indent (let more : 8 + d * 8 ≡ suc d * 8 = omega arith in more)

pub repeat_indent : (d : ℕ) → repeat (d / 8) (indent 8) ++ repeat (d % 8) (32 ∷ (32 ∷ [])) ≡ indent d
repeat_indent d =
    ap (λ (z : List ℕ). z ++ repeat (d % 8) (32 ∷ (32 ∷ []))) (eights (d / 8))
    ∙ ap (λ (z : List ℕ). indent (d / 8 * 8) ++ z) (twos (d % 8))
    ∙ indent_plus (d / 8 * 8) (d % 8)
    ∙ ap indent (let whole : d / 8 * 8 + d % 8 ≡ d = omega arith in whole)

-- a plain formatter writes what it writes whatever its options

pub plainly : {W : Type 0} (took : W → List ℕ → W → Type 0) (f g : Formatter W) (bs : List ℕ) → IsPlainFormatter f → HasWrittenStyled took f bs g → HasWritten took f bs g
plainly took f g bs p h = record { wrote = h.wrote; plain = record { bare = subst IsDefaultSpec (sym h.spec) p.bare; flush = h.flush } }

-- tokens that show tags

pub lines_shown : (s : List ℕ) (d : ℕ) (ts : List Tag) (xs : List Token) → AllShown s ts xs → token_lines d xs ≡ lines s d ts
lines_shown s d [] [] a = refl
lines_shown s d [] (x ∷ xs) a = absurd a
lines_shown s d (t ∷ ts) [] a = absurd a
lines_shown s d (opens at p k ∷ ts) (Open name at' ∷ xs) ((e, f), a) = cc (lines_shown s (d + 1) ts xs a)
lines_shown s d (opens at p k ∷ ts) (Close name at' ∷ xs) (h, a) = absurd h
lines_shown s d (opens at p k ∷ ts) (Finish ∷ xs) (h, a) = absurd h
lines_shown s d (closes at p k ∷ ts) (Open name at' ∷ xs) (h, a) = absurd h
lines_shown s d (closes at p k ∷ ts) (Close name at' ∷ xs) ((e, f), a) = cc (lines_shown s (d - 1) ts xs a)
lines_shown s d (closes at p k ∷ ts) (Finish ∷ xs) (h, a) = absurd h

pub length_shown : (s : List ℕ) (ts : List Tag) (xs : List Token) → AllShown s ts xs → length xs ≡ length ts
length_shown s [] [] a = refl
length_shown s [] (x ∷ xs) a = absurd a
length_shown s (t ∷ ts) [] a = absurd a
length_shown s (t ∷ ts) (x ∷ xs) (h, a) = ap suc (length_shown s ts xs a)

-- the whole print

pub report_shown : (s : List ℕ) (ts : List Tag) (xs : List Token) (e : Ending) (n : ℕ) (out : List ℕ) → AllShown s ts xs → record { given = ts; ended = e } ≡ reading s → n ≡ length xs →
    out ≡ token_lines 0 xs ++ last_line n e → out ≡ report s (reading s)
report_shown s ts xs e n out a r l o =
    o
    ∙ ap (λ (z : List ℕ). z ++ last_line n e) (lines_shown s 0 ts xs a)
    ∙ ap (λ (k : ℕ). lines s 0 ts ++ last_line k e) (l ∙ length_shown s ts xs a)
    ∙ ap (λ (z : Reading). report s z) r
