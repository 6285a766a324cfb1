-- Lists filled with what passes a test. Assumes nothing.
use Rattle.std.proofs.Common.{◌≡◌, ℕ, ◌+◌, ◌<◌, ◌≤◌, Bool, true, false, cond, not, ◌&&◌, List, [], ◌∷◌, ◌++◌, map, length, get_or, take, drop, set, filter, sym, refl, ap, ◌∙◌, append_assoc, append-nil, arith, length-append}
use lib.ListN.{length-map}
use Rattle.std.proofs.lemmas.List.{map-append, drop_more, set_at}
use Rattle.std.proofs.lemmas.List.Elements.{filter_more}
use Rattle.std.proofs.lemmas.Bool.{both_ways}

module _ {X : Type 0} (p : X → Bool) (xs : List X) (i : ℕ) (d : X) (lt : i < length xs) where
  pub kept_yes : p (get_or xs i d) ≡ true → filter p (take (i + 1) xs) ≡ filter p (take i xs) ++ get_or xs i d ∷ []
  kept_yes e = filter_more p xs i d lt ∙ ap (λ b. filter p (take i xs) ++ cond b (get_or xs i d ∷ []) []) e

  pub kept_no : p (get_or xs i d) ≡ false → filter p (take (i + 1) xs) ≡ filter p (take i xs)
  kept_no e = filter_more p xs i d lt ∙ ap (λ b. filter p (take i xs) ++ cond b (get_or xs i d ∷ []) []) e ∙ append-nil _

-- the first n records of os are filled with what passes p in the first i of xs
pub record Filled {X Y : Type 0} (f : X → Y) (p : X → Bool) (xs : List X) (os ys : List Y) (i n : ℕ) : Type 0 where
  pub behind : n ≤ i
  pub count : n ≡ length (filter p (take i xs))
  pub rows : ys ≡ map f (filter p (take i xs)) ++ drop n os

module _ {X Y : Type 0} (f : X → Y) (p : X → Bool) (xs : List X) (os ys : List Y) (i n : ℕ) (h : Filled f p xs os ys i n) (d : X) (lt : i < length xs) where
  pub filled_no : p (get_or xs i d) ≡ false → Filled f p xs os ys (i + 1) n
  filled_no e = record {
    behind = omega (arith, h.behind);
    count = h.count ∙ ap length (sym (kept_no p xs i d lt e));
    rows = h.rows ∙ ap (λ ws. map f ws ++ drop n os) (sym (kept_no p xs i d lt e));
  }

  pub filled_yes : (e y : Y) → y ≡ f (get_or xs i d) → n < length os → p (get_or xs i d) ≡ true → Filled f p xs os (set ys n y) (i + 1) (n + 1)
  filled_yes e y is room pass =
      let x = get_or xs i d in
      let ws = filter p (take i xs) in
      let grown = kept_yes p xs i d lt pass in
      record {
        behind = omega (arith, h.behind);
        count = ap (λ k. k + 1) h.count ∙ sym (ap length grown ∙ length-append ws (x ∷ []));
        rows = ap (set ys n) is ∙ ap (λ zs. set zs n (f x)) (h.rows ∙ ap (λ r. map f ws ++ r) (drop_more os n e room))
            ∙ set_at (map f ws) (get_or os n e) (drop (n + 1) os) (f x) n (length-map ws f ∙ sym h.count)
            ∙ sym (ap (λ zs. map f zs ++ drop (n + 1) os) grown ∙ ap (λ r. r ++ drop (n + 1) os) (map-append f ws (x ∷ [])) ∙ append_assoc (map f ws) (f x ∷ []) (drop (n + 1) os));
      }

-- what passes one test does not pass the other
pub two_kinds : {X : Type 0} (p q : X → Bool) → ((x : X) → p x ≡ true → q x ≡ true → ⊥) → (xs : List X) → length (filter p xs) + length (filter q xs) ≤ length xs
two_kinds p q apart [] = omega arith
two_kinds p q apart (x ∷ xs) = go (p x) (q x) refl refl (two_kinds p q apart xs)
  where
    go : (a b : Bool) → p x ≡ a → q x ≡ b → length (filter p xs) + length (filter q xs) ≤ length xs
        → length (cond a (x ∷ filter p xs) (filter p xs)) + length (cond b (x ∷ filter q xs) (filter q xs)) ≤ length (x ∷ xs)
    go true true e f ih = absurd (apart x e f)
    go true false e f ih = omega arith
    go false true e f ih = omega arith
    go false false e f ih = omega arith

pub due_or_held : (y n : Bool) → not n ≡ true → (y && n) ≡ true → ⊥
due_or_held y true e f = both_ways false refl e
due_or_held true false e f = both_ways false refl f
due_or_held false false e f = both_ways false refl f
