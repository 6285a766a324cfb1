-- A buffer whose filled front grows, read by read.
use Rattle.std.proofs.Common.{◌≡◌, ℕ, ◌+◌, ◌≤◌, Option, List, ◌++◌, length, take, drop, sym, ap, ◌∙◌, subst, le_refl, drop_at, length-take-le}
use Rattle.std.proofs.lemmas.Slice.{take-put_mid_below}
use Rattle.std.specs.Io.KnownBytes.{Consumes}
use Rattle.std.proofs.KnownBytes.{Consumes-trans}
use borrow.Rule.Slice.PartMut.{put_mid, post_of}
use lib.Seq.{take-add, take-append-le}

-- the front, and n bytes of what was read behind it
front_more : (at room n : ℕ) (xs ys : List ℕ) → at ≤ length xs → n ≤ length ys → take (at + n) (put_mid at room xs ys) ≡ take at xs ++ take n ys
front_more at room n xs ys within fits =
    let after = post_of at room xs in
    take-add at n (put_mid at room xs ys) ∙ ap (λ l. l ++ take n (drop at (put_mid at room xs ys))) (take-put_mid_below at room xs ys at (le_refl at) within)
    ∙ ap (λ l. take at xs ++ l) (ap (take n) (drop_at (take at xs) (ys ++ after) at (length-take-le at xs within)) ∙ take-append-le n ys after fits)

-- the bytes of one read more
pub filled_more : (a b c : Option (List ℕ)) (at room n : ℕ) (xs ys : List ℕ) → at ≤ length xs → n ≤ length ys
    → Consumes a b (take at xs) → Consumes b c (take n ys) → Consumes a c (take (at + n) (put_mid at room xs ys))
filled_more a b c at room n xs ys within fits before read =
    subst (Consumes a c) (sym (front_more at room n xs ys within fits)) (Consumes-trans a b c _ _ before read)
