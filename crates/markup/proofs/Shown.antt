-- Tokens that show the tags of a reading, one more at a time.
use Rattle.std.proofs.Common.{◌≡◌, ℕ, ◌+◌, Bool, true, false, List, [], ◌∷◌, ◌++◌, length, Ok, refl, ap, ◌∙◌}
use Rattle.markup.proofs.RightTexts.{giving_giving}
use Rattle.markup.specs.Grammar.{Tag, closes, opens}
use Rattle.markup.specs.Reading.{Reading, giving}
use Rattle.markup.specs.Tokens.{Gives, remaining}
use Rattle.markup.specs.Whole.{AllShown, Shows}
use Rattle.markup.specs.declared.reader.Reader.{Reader}
use Rattle.markup.specs.declared.token.Token.{Token}
use Rattle.markup.specs.declared.token.Token.TheVariants.{Close, Finish, Open}

-- whether a token is the finish
abbrev pub finishes : Token → Bool
finishes (Open name at) = false
finishes (Close name at) = false
finishes Finish = true

pub all_shown_more : (s : List ℕ) (ts : List Tag) (xs : List Token) (t : Tag) (x : Token) → AllShown s ts xs → Shows s t x → AllShown s (ts ++ (t ∷ [])) (xs ++ (x ∷ []))
all_shown_more s [] [] t x a h = (h, tt)
all_shown_more s [] (y ∷ ys) t x a h = absurd a
all_shown_more s (u ∷ ts) [] t x a h = absurd a
all_shown_more s (u ∷ ts) (y ∷ ys) t x (b, a) h = (b, all_shown_more s ts ys t x a h)

-- what a call gives, where it is a tag
pub gives_tag : (b a : Reader) (x : Token) → Gives b (Ok x) a → finishes x ≡ false → (t : Tag) × Shows b.cursor.text.now t x × (remaining b ≡ giving (t ∷ []) (remaining a))
gives_tag b a (Open name at) (e, n) f = (opens at (at + 1) (length name.now), (refl, n), e)
gives_tag b a (Close name at) (p, e, n) f = (closes at p (length name.now), (refl, n), e)
gives_tag b a Finish g f = cc

-- the first tag of what is left joins those that were given
pub giving_more : (whole : Reading) (ts : List Tag) (t : Tag) (r r' : Reading) → whole ≡ giving ts r → r ≡ giving (t ∷ []) r' → whole ≡ giving (ts ++ (t ∷ [])) r'
giving_more whole ts t r r' e f = e ∙ ap (λ (z : Reading). giving ts z) f ∙ giving_giving ts (t ∷ []) r'
