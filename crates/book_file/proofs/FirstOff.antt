-- Looking for the first byte that fails a test.
use Rattle.std.proofs.Common.{◌≡◌, ℕ, suc, ◌+◌, Bool, true, false, not, cond, ◌&&◌, List, [], ◌∷◌, Some, None, Ok, Option, sym, refl, ap, ◌∙◌, arith}
use Rattle.std.specs.Option.{option_map}
use Rattle.std.specs.List.{position, position_from}
use Rattle.std.proofs.lemmas.Bool.{and_from, and_parts, cond-true}
use Rattle.std.proofs.lemmas.Iterator.Adapters.{position_from-zero}
use Rattle.name_bytes.specs.Names.{all}
use Rattle.book.specs.declared.fault.BookFault.{BookFault}
use Rattle.book_file.specs.Files.{first_off, unless}

module _ (test off : ℕ → Bool) (other : (x : ℕ) → off x ≡ not (test x)) where
  searched : (at i : ℕ) (xs : List ℕ) → first_off test (at + i) xs ≡ option_map (λ k. at + k) (position_from off i xs)
  searched at i [] = refl
  searched at i (x ∷ xs) = go (test x) refl (searched at (i + 1) xs)
    where
      go : (b : Bool) → test x ≡ b → first_off test (at + (i + 1)) xs ≡ option_map (λ k. at + k) (position_from off (i + 1) xs) →
          cond (test x) (first_off test (suc (at + i)) xs) (Some (at + i)) ≡ option_map (λ k. at + k) (cond (off x) (Some i) (position_from off (i + 1) xs))
      go true e rest = let next : suc (at + i) ≡ at + (i + 1) = omega arith in rw (other x, e, next) rest
      go false e rest = rw (other x, e) refl

  -- the first that fails is the first at which the opposite test passes
  pub off_at : (at : ℕ) (xs : List ℕ) (place : Option ℕ) → place ≡ position off xs → first_off test at xs ≡ option_map (λ k. at + k) place
  off_at at xs place e =
      let zero : at ≡ at + 0 = omega arith in
      ap (λ n. first_off test n xs) zero ∙ searched at 0 xs ∙ ap (option_map (λ k. at + k)) (sym (e ∙ position_from-zero off xs))

-- nothing fails just if all pass
pub none_all : (test : ℕ → Bool) (at : ℕ) (xs : List ℕ) → first_off test at xs ≡ None → all test xs ≡ true
none_all test at [] h = refl
none_all test at (x ∷ xs) h = go (test x) refl h (none_all test (suc at) xs)
  where
    go : (b : Bool) → test x ≡ b → cond b (first_off test (suc at) xs) (Some at) ≡ None → (first_off test (suc at) xs ≡ None → all test xs ≡ true) → (test x && all test xs) ≡ true
    go true e k rest = and_from (test x) (all test xs) e (rest k)
    go false e k rest = cc

pub all_none : (test : ℕ → Bool) (at : ℕ) (xs : List ℕ) → all test xs ≡ true → first_off test at xs ≡ None
all_none test at [] h = refl
all_none test at (x ∷ xs) h =
    let p = and_parts (test x) (all test xs) h in
    cond-true (test x) (first_off test (suc at) xs) (Some at) p.0 ∙ all_none test (suc at) xs p.1

-- what is read where nothing fails
pub unless_none : {A : Type 0} (o : Option ℕ) (fault : ℕ → BookFault) (a : A) → o ≡ None → unless o fault a ≡ Ok a
unless_none o fault a e = ap (λ x. unless x fault a) e
