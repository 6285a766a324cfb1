-- Classes of bytes, and places behind a list of bytes.
use Rattle.std.proofs.Common.{◌≡◌, ℕ, suc, ◌+◌, Bool, true, false, ◌||◌, eqb, ◌⊎◌, List, [], ◌∷◌, ◌++◌, length, sym, refl, ◌∙◌, subst, inl, inr, arith}
use Rattle.std.proofs.lemmas.Bool.{eqb-true, or_cases, and_parts, and_from, cases_Bool, both_ways}
use Rattle.name_bytes.specs.Names.{name_start, name_byte, all}
use Rattle.markup.specs.Grammar.{white}

-- white space is one of four bytes
pub by_white : (P : ℕ → Type 0) → P 32 → P 9 → P 10 → P 13 → (b : ℕ) → white b ≡ true → P b
by_white P p q r s b h = go₃ (or_cases (eqb b 32 || eqb b 9 || eqb b 10) (eqb b 13) h)
  where
    on_eq : (n : ℕ) → P n → eqb b n ≡ true → P b
    on_eq n x e = subst P (sym (eqb-true b n e)) x

    go₁ : (eqb b 32 ≡ true) ⊎ (eqb b 9 ≡ true) → P b
    go₁ (inl e) = on_eq 32 p e
    go₁ (inr e) = on_eq 9 q e

    go₂ : (eqb b 32 || eqb b 9 ≡ true) ⊎ (eqb b 10 ≡ true) → P b
    go₂ (inl e) = go₁ (or_cases (eqb b 32) (eqb b 9) e)
    go₂ (inr e) = on_eq 10 r e

    go₃ : (eqb b 32 || eqb b 9 || eqb b 10 ≡ true) ⊎ (eqb b 13 ≡ true) → P b
    go₃ (inl e) = go₂ (or_cases (eqb b 32 || eqb b 9) (eqb b 10) e)
    go₃ (inr e) = on_eq 13 s e

pub white_no_name_byte : (b : ℕ) → white b ≡ true → name_byte b ≡ false
white_no_name_byte = by_white (λ b. name_byte b ≡ false) refl refl refl refl

pub white_no_start : (b : ℕ) → white b ≡ true → name_start b ≡ false
white_no_start = by_white (λ b. name_start b ≡ false) refl refl refl refl

pub start_no_white : (b : ℕ) → name_start b ≡ true → white b ≡ false
start_no_white b h = go (cases_Bool (white b))
  where
    go : (white b ≡ true) ⊎ (white b ≡ false) → white b ≡ false
    go (inl e) = absurd (both_ways (name_start b) (white_no_start b e) h)
    go (inr e) = e

pub all_append : (c : ℕ → Bool) (xs ys : List ℕ) → all c xs ≡ true → all c ys ≡ true → all c (xs ++ ys) ≡ true
all_append c [] ys h k = k
all_append c (x ∷ xs) ys h k = let q = and_parts (c x) (all c xs) h in and_from (c x) (all c (xs ++ ys)) q.0 (all_append c xs ys q.1 k)

-- the place behind bytes that stand at p
abbrev pub past : ℕ → List ℕ → ℕ
past p [] = p
past p (b ∷ bs) = past (suc p) bs

pub past_length : (p : ℕ) (xs : List ℕ) → past p xs ≡ p + length xs
past_length p [] = omega arith
past_length p (x ∷ xs) = past_length (suc p) xs ∙ omega arith
