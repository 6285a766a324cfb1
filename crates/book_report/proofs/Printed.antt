-- Steps of what is printed: the words for states, and what is added for one number of a range after another.
use Rattle.std.proofs.Common.{◌≡◌, ℕ, zero, suc, ◌+◌, ◌<◌, List, [], ◌∷◌, ◌++◌, length, refl, sym, ap, ◌∙◌, add-zero, append-nil, append_assoc, arith}
use Rattle.std.specs.List.{flat_map, range_with_len}
use Rattle.book_report.specs.Reach.{state_words, words_or_none}

pub words_of_some : (ks : List ℕ) → 0 < length ks → words_or_none ks ≡ state_words ks
words_of_some [] h = absurd (omega arith)
words_of_some (k ∷ ks) h = refl

made : (f : ℕ → List ℕ) (a n j : ℕ) → a + n ≡ j → flat_map f (range_with_len a (suc n)) ≡ flat_map f (range_with_len a n) ++ f j
made f a zero j e = append-nil (f a) ∙ ap f (sym (add-zero a) ∙ e)
made f a (suc n) j e =
    let e' : (a + 1) + n ≡ j = omega arith in
    ap (λ z. f a ++ z) (made f (a + 1) n j e') ∙ sym (append_assoc (f a) (flat_map f (range_with_len (a + 1) n)) (f j))

-- n numbers from a on, of which j is the next
pub one_more : (first now then : List ℕ) (f : ℕ → List ℕ) (a n m j : ℕ) → m ≡ suc n → a + n ≡ j → now ≡ first ++ flat_map f (range_with_len a n) → then ≡ now ++ f j →
    then ≡ first ++ flat_map f (range_with_len a m)
one_more first now then f a n m j l e before added =
    added
    ∙ ap (λ p. p ++ f j) before
    ∙ append_assoc first (flat_map f (range_with_len a n)) (f j)
    ∙ ap (λ ls. first ++ ls) (sym (ap (λ k. flat_map f (range_with_len a k)) l ∙ made f a n j e))
