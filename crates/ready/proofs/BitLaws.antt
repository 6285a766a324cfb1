-- The members of a set that is kept in words of 64 bits. Assumes nothing.
use Rattle.std.proofs.Common.{◌≡◌, ℕ, zero, suc, ◌+◌, ◌*◌, ◌/◌, ◌%◌, ◌^◌, ◌<◌, ◌≤◌, min, max, Bool, true, false, not, ◌&&◌, ◌↔◌, ◌||◌, eqb, ◌⊎◌, ◌≢◌, List, [], ◌∷◌, length, get_or, set, MatchBool, sym, subst, refl, ap, ◌∙◌, ap₂, inl, inr, mod-lt, zero-lt-suc, arith, get_or-set_other, get_or-set_same}
use lib.Bits.{bit_and, bit_or, and_lt}
use lib.ListN.{get_or-eq_default}
use mir.Syntax.{w64}
use Rattle.std.specs.Int.{bit_at, trailing_zeros}
use Rattle.std.specs.Int.RustNames.{bit_xor}
use Rattle.std.specs.List.{zip, AllWithin, HoldsAt}
use Rattle.std.proofs.lemmas.Nat.Bits.{bit_at-lt, bit_at-zero, bit_at_and, bit_at_or, bit_at_xor, bit_at_set_same, bit_at_set_other, bit_at-trailing_zeros, same_from_bits_below}
use Rattle.std.proofs.lemmas.Slice.Zip.{get_or-zip, length-zip}
use Rattle.std.proofs.lemmas.Bool.{false≢true, and_parts, or_right, cases_lt, both_ways, eqb-true, cases_eq, cases_Bool, eq-eqb, ne_eqb}
use Rattle.ready.specs.Sets.{has, Part, Beyond, Meeting}
use Rattle.ready.proofs.Choices.{each_or_one}

-- a word of the set; none past the end
abbrev word : List ℕ → ℕ → ℕ
word words i = get_or words i 0

-- One set ---------------------------------------------------------------------------------------------------------

-- a row of zeros, told by computation
abbrev zeros : List ℕ → Bool
zeros [] = true
zeros (x ∷ xs) = eqb x 0 && zeros xs

zeros_at : (words : List ℕ) → zeros words ≡ true → (i : ℕ) → word words i ≡ 0
zeros_at [] h i = refl
zeros_at (x ∷ xs) h zero = eqb-true x 0 (and_parts (eqb x 0) (zeros xs) h).0
zeros_at (x ∷ xs) h (suc i) = zeros_at xs (and_parts (eqb x 0) (zeros xs) h).1 i

has_nothing : (words : List ℕ) (q : ℕ) → word words (q / 64) ≡ 0 → has words q ≡ false
has_nothing words q h = ap (λ (x : ℕ). eqb (bit_at x (q % 64)) 1) h ∙ ap (λ (x : ℕ). eqb x 1) (bit_at-zero (q % 64))

pub has_zeros : (words : List ℕ) → zeros words ≡ true → (q : ℕ) → has words q ≡ false
has_zeros words h q = has_nothing words q (zeros_at words h (q / 64))

-- a word past the end has no member
pub has_past : (words : List ℕ) (q : ℕ) → length words ≤ q / 64 → has words q ≡ false
has_past words q h = has_nothing words q (get_or-eq_default words 0 h)

pub or_none : (x : Bool) → (x || false) ≡ x
or_none true = refl
or_none false = refl

-- a bit is set
pub has_insert : (words : List ℕ) (s : ℕ) → s / 64 < length words
    → (q : ℕ) → has (set words (s / 64) (bit_or (word words (s / 64)) ((1 * 2 ^ (s % 64)) % 2 ^ 64))) q ≡ (has words q || eqb q s)
has_insert words s h q = elim (cases_eq (q / 64) (s / 64)) [ inl e ↦ here e (cases_eq (q % 64) (s % 64)) | inr n ↦ there n ]
  where
    new : ℕ
    new = bit_or (word words (s / 64)) ((1 * 2 ^ (s % 64)) % 2 ^ 64)

    goal : Type 0
    goal = has (set words (s / 64) new) q ≡ (has words q || eqb q s)

    fits : s % 64 < 64
    fits = mod-lt s (zero-lt-suc 63)

    other : (q ≡ s → ⊥) → has words q ≡ (has words q || eqb q s)
    other n = sym (or_none (has words q)) ∙ ap (λ y. has words q || y) (sym (ne_eqb q s n))

    here : q / 64 ≡ s / 64 → (q % 64 ≡ s % 64) ⊎ (q % 64 ≡ s % 64 → ⊥) → goal
    here e (inl f) =
        ap₂ (λ (x y : ℕ). eqb (bit_at (word (set words (s / 64) new) x) y) 1) e f
        ∙ ap (λ (x : ℕ). eqb (bit_at x (s % 64)) 1) (get_or-set_same words (s / 64) new 0 h)
        ∙ ap (λ (x : ℕ). eqb x 1) (bit_at_set_same w64 (word words (s / 64)) (s % 64) fits)
        ∙ sym (or_right (has words q) (eqb q s) (eq-eqb q s (omega arith)))
    here e (inr n) =
        ap (λ (x : ℕ). eqb (bit_at (word (set words (s / 64) new) x) (q % 64)) 1) e
        ∙ ap (λ (x : ℕ). eqb (bit_at x (q % 64)) 1) (get_or-set_same words (s / 64) new 0 h)
        ∙ ap (λ (x : ℕ). eqb x 1) (bit_at_set_other w64 (word words (s / 64)) (s % 64) fits (q % 64) n)
        ∙ ap (λ (x : ℕ). eqb (bit_at (word words x) (q % 64)) 1) (sym e)
        ∙ other (λ (f : q ≡ s). n (ap (λ (x : ℕ). x % 64) f))

    there : (q / 64 ≡ s / 64 → ⊥) → goal
    there n =
        ap (λ (x : ℕ). eqb (bit_at x (q % 64)) 1) (get_or-set_other words (s / 64) (q / 64) new 0 n)
        ∙ other (λ (e : q ≡ s). n (ap (λ (x : ℕ). x / 64) e))

-- Two sets --------------------------------------------------------------------------------------------------------

or_test : (a b : ℕ) → a < 2 → b < 2 → eqb (max a b) 1 ≡ (eqb a 1 || eqb b 1)
or_test zero zero ha hb = refl
or_test zero (suc zero) ha hb = refl
or_test zero (suc (suc b)) ha hb = absurd (omega arith)
or_test (suc zero) zero ha hb = refl
or_test (suc zero) (suc zero) ha hb = refl
or_test (suc zero) (suc (suc b)) ha hb = absurd (omega arith)
or_test (suc (suc a)) b ha hb = absurd (omega arith)

-- a union is joined word by word
pub has_union : (a b c : List ℕ) → length b ≡ length a → length c ≡ length a
    → ((i : ℕ) → i < length a → word c i ≡ bit_or (word a i) (word b i))
    → (q : ℕ) → has c q ≡ (has a q || has b q)
has_union a b c lb lc h q = elim (cases_lt (q / 64) (length a)) [ inl lt ↦ inside lt | inr le ↦ outside le ]
  where
    inside : q / 64 < length a → has c q ≡ (has a q || has b q)
    inside lt =
        let x : ℕ = word a (q / 64) in
        let y : ℕ = word b (q / 64) in
        let k : ℕ = q % 64 in
        ap (λ (z : ℕ). eqb (bit_at z k) 1) (h (q / 64) lt) ∙ ap (λ (z : ℕ). eqb z 1) (bit_at_or x y k) ∙ or_test (bit_at x k) (bit_at y k) (bit_at-lt x k) (bit_at-lt y k)

    outside : length a ≤ q / 64 → has c q ≡ (has a q || has b q)
    outside le =
        has_past c q (omega arith) ∙ ap₂ (λ x y. x || y) (sym (has_past a q le)) (sym (has_past b q (omega arith)))

without_test : (a b : ℕ) → a < 2 → b < 2 → eqb ((max a b + b) % 2) 1 ≡ (eqb a 1 && not (eqb b 1))
without_test zero zero ha hb = refl
without_test zero (suc zero) ha hb = refl
without_test zero (suc (suc b)) ha hb = absurd (omega arith)
without_test (suc zero) zero ha hb = refl
without_test (suc zero) (suc zero) ha hb = refl
without_test (suc zero) (suc (suc b)) ha hb = absurd (omega arith)
without_test (suc (suc a)) b ha hb = absurd (omega arith)

-- and so is what a union has more than one of the two
pub has_without : (a b c : List ℕ) → length b ≡ length a → length c ≡ length a
    → ((i : ℕ) → i < length a → word c i ≡ bit_xor (bit_or (word a i) (word b i)) (word b i))
    → (q : ℕ) → has c q ≡ (has a q && not (has b q))
has_without a b c lb lc h q = elim (cases_lt (q / 64) (length a)) [ inl lt ↦ inside lt | inr le ↦ outside le ]
  where
    inside : q / 64 < length a → has c q ≡ (has a q && not (has b q))
    inside lt =
        let x : ℕ = word a (q / 64) in
        let y : ℕ = word b (q / 64) in
        let k : ℕ = q % 64 in
        ap (λ (z : ℕ). eqb (bit_at z k) 1) (h (q / 64) lt) ∙ ap (λ (z : ℕ). eqb z 1) (bit_at_xor (bit_or x y) y k)
        ∙ ap (λ (z : ℕ). eqb ((z + bit_at y k) % 2) 1) (bit_at_or x y k)
        ∙ without_test (bit_at x k) (bit_at y k) (bit_at-lt x k) (bit_at-lt y k)

    outside : length a ≤ q / 64 → has c q ≡ (has a q && not (has b q))
    outside le =
        has_past c q (omega arith) ∙ ap₂ (λ x y. x && not y) (sym (has_past a q le)) (sym (has_past b q (omega arith)))

-- the member at the bit k of the word i
has_at : (words : List ℕ) (i k : ℕ) → k < 64 → has words (i * 64 + k) ≡ eqb (bit_at (word words i) k) 1
has_at words i k h =
    let d : (i * 64 + k) / 64 ≡ i = omega arith in
    let r : (i * 64 + k) % 64 ≡ k = omega arith in
    ap₂ (λ (x y : ℕ). eqb (bit_at (word words x) y) 1) d r

-- each word of a part holds no bit but those of the whole
pub part_from_words : (a b : List ℕ) → ((i : ℕ) → i < length a → bit_and (word a i) (word b i) ≡ word a i) → Part a b
part_from_words a b h q m = elim (cases_lt (q / 64) (length a)) [ inl lt ↦ inside lt | inr le ↦ absurd (both_ways (has a q) (has_past a q le) m) ]
  where
    inside : q / 64 < length a → has b q ≡ true
    inside lt =
        let x : ℕ = word a (q / 64) in
        let y : ℕ = word b (q / 64) in
        let k : ℕ = q % 64 in
        let e : min (bit_at x k) (bit_at y k) ≡ bit_at x k = sym (bit_at_and x y k) ∙ ap (λ (z : ℕ). bit_at z k) (h (q / 64) lt) in
        let one : bit_at x k ≡ 1 = eqb-true (bit_at x k) 1 m in
        let small : bit_at y k < 2 = bit_at-lt y k in
        eq-eqb (bit_at y k) 1 (let p : bit_at y k ≡ 1 = omega arith in p)

pub words_from_part : (a b : List ℕ) → Part a b → (i : ℕ) → word a i < 2 ^ 64 → word b i < 2 ^ 64 → bit_and (word a i) (word b i) ≡ word a i
words_from_part a b part i fa fb = same_from_bits_below 64 (bit_and (word a i) (word b i)) (word a i) (and_lt 64 (word a i) (word b i) fa fb) fa same
  where
    same : (k : ℕ) → k < 64 → bit_at (bit_and (word a i) (word b i)) k ≡ bit_at (word a i) k
    same k lt = bit_at_and (word a i) (word b i) k ∙ go (cases_eq (bit_at (word a i) k) 1)
      where
        go : (bit_at (word a i) k ≡ 1) ⊎ (bit_at (word a i) k ≡ 1 → ⊥) → min (bit_at (word a i) k) (bit_at (word b i) k) ≡ bit_at (word a i) k
        go (inl one) =
            let two : bit_at (word b i) k ≡ 1 = eqb-true (bit_at (word b i) k) 1 (sym (has_at b i k lt) ∙ part (i * 64 + k) (has_at a i k lt ∙ eq-eqb (bit_at (word a i) k) 1 one)) in
            omega arith
        go (inr n) =
            let small : bit_at (word a i) k < 2 = bit_at-lt (word a i) k in
            let none : bit_at (word a i) k ≡ 0 = (let m : bit_at (word a i) k ≢ 1 = n in omega arith) in
            omega arith

-- and a common bit is a common member
pub none_from_words : (a b : List ℕ) → ((i : ℕ) → i < length a → bit_and (word a i) (word b i) ≡ 0) → Meeting a b → ⊥
none_from_words a b h met = elim (cases_lt (q / 64) (length a)) [ inl lt ↦ inside lt | inr le ↦ both_ways (has a q) (has_past a q le) met.1 ]
  where
    q : ℕ
    q = met.0

    inside : q / 64 < length a → ⊥
    inside lt =
        let x : ℕ = word a (q / 64) in
        let y : ℕ = word b (q / 64) in
        let k : ℕ = q % 64 in
        let e : min (bit_at x k) (bit_at y k) ≡ 0 = sym (bit_at_and x y k) ∙ ap (λ (z : ℕ). bit_at z k) (h (q / 64) lt) ∙ bit_at-zero k in
        let one : bit_at x k ≡ 1 = eqb-true (bit_at x k) 1 met.1 in
        let two : bit_at y k ≡ 1 = eqb-true (bit_at y k) 1 met.2 in
        omega arith

pub meeting_from_word : (a b : List ℕ) (i : ℕ) → word a i < 2 ^ 64 → word b i < 2 ^ 64 → bit_and (word a i) (word b i) ≢ 0 → Meeting a b
meeting_from_word a b i fa fb n =
    let x : ℕ = word a i in
    let y : ℕ = word b i in
    let z : ℕ = bit_and x y in
    let k : ℕ = trailing_zeros w64 z in
    let low = bit_at-trailing_zeros w64 z (omega arith) (and_lt 64 x y fa fb) in
    let lt : k < 64 = low.0 in
    let e : min (bit_at x k) (bit_at y k) ≡ 1 = sym (bit_at_and x y k) ∙ low.1 in
    let sx : bit_at x k < 2 = bit_at-lt x k in
    let sy : bit_at y k < 2 = bit_at-lt y k in
    (i * 64 + k, has_at a i k lt ∙ eq-eqb (bit_at x k) 1 (omega arith), has_at b i k lt ∙ eq-eqb (bit_at y k) 1 (omega arith))

-- Two sets, told by a look at each pair of words -------------------------------------------------------------------

module _ (a b : List ℕ) (same : length b ≡ length a) (fa : (i : ℕ) → word a i < 2 ^ 64) (fb : (i : ℕ) → word b i < 2 ^ 64) where
  pair_at : (i : ℕ) → i < length a → get_or (zip a b) i (0, 0) ≡ (word a i, word b i)
  pair_at i lt = get_or-zip a b i (0, 0) lt (omega arith)

  pairs : length (zip a b) ≡ length a
  pairs = length-zip a b ∙ omega arith

  pub part_from_pairs : (r : Bool) → MatchBool r (AllWithin (λ p. bit_and p.0 p.1 ≡ p.0) (zip a b) 0 (length (zip a b)))
      ((k : ℕ) × (k < length (zip a b)) × HoldsAt (λ p. bit_and p.0 p.1 ≢ p.0) (zip a b) k) → (r ≡ true) ↔ Part a b
  part_from_pairs true h = (
    (λ _. part_from_words a b (λ i lt. subst (λ (p : ℕ × ℕ). bit_and p.0 p.1 ≡ p.0) (pair_at i lt) (h i (0, 0) (omega arith) (omega (arith, pairs))))),
    λ _. refl,
  )
  part_from_pairs false h = (
    (λ e. absurd (false≢true e)),
    λ part. absurd (subst (λ (p : ℕ × ℕ). bit_and p.0 p.1 ≢ p.0) (pair_at h.0 (omega (arith, h.1, pairs))) (h.2 (0, 0)) (words_from_part a b part h.0 (fa h.0) (fb h.0))),
  )

  pub meeting_from_pairs : (r : Bool) → MatchBool r ((k : ℕ) × (k < length (zip a b)) × HoldsAt (λ p. bit_and p.0 p.1 ≢ 0) (zip a b) k)
      (AllWithin (λ p. bit_and p.0 p.1 ≡ 0) (zip a b) 0 (length (zip a b))) → (r ≡ true) ↔ Meeting a b
  meeting_from_pairs true h = (
    (λ _. meeting_from_word a b h.0 (fa h.0) (fb h.0) (subst (λ (p : ℕ × ℕ). bit_and p.0 p.1 ≢ 0) (pair_at h.0 (omega (arith, h.1, pairs))) (h.2 (0, 0)))),
    λ _. refl,
  )
  meeting_from_pairs false h = (
    (λ e. absurd (false≢true e)),
    λ met. absurd (none_from_words a b (λ i lt. subst (λ (p : ℕ × ℕ). bit_and p.0 p.1 ≡ 0) (pair_at i lt) (h i (0, 0) (omega arith) (omega (arith, pairs)))) met),
  )

-- a set that is no part of another has a member that the other has not
pub beyond : (a b : List ℕ) → (Part a b → ⊥) → Beyond a b
unfolding Beyond
beyond a b not = elim (each_or_one (64 * length a) _ _ one) [ inl all ↦ absurd (not (whole all)) | inr q ↦ (q.0, q.2.0, q.2.1) ]
  where
    one : (q : ℕ) → (has a q ≡ true → has b q ≡ true) ⊎ ((has a q ≡ true) × (has b q ≡ false))
    one q = elim (cases_Bool (has b q)) [
      | inl y ↦ inl (λ _. y)
      | inr n ↦ elim (cases_Bool (has a q)) [ inl y ↦ inr (y, n) | inr m ↦ inl (λ y. absurd (both_ways (has a q) m y)) ]
    ]

    whole : ((q : ℕ) → q < 64 * length a → has a q ≡ true → has b q ≡ true) → Part a b
    whole all q h = elim (cases_lt q (64 * length a)) [ inl lt ↦ all q lt h | inr le ↦ absurd (both_ways (has a q) (has_past a q (omega arith)) h) ]
