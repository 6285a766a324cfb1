-- Reading the names one after another.
use Rattle.std.proofs.Common.{◌≡◌, ℕ, zero, suc, ◌+◌, ◌-◌, ◌<◌, ◌≤◌, Bool, true, false, cond, nat_le, List, [], ◌∷◌, ◌++◌, length, take, drop, Some, None, Ok, Err, Option, Result, sym, refl, ap, ◌∙◌, arith, leb-true}
use Rattle.std.proofs.lemmas.List.{append_assoc, append-nil, length-take-le}
use Rattle.book.specs.declared.fault.BookFault.{BookFault}
use Rattle.book.specs.declared.fault.BookFault.TheVariants.{CutOff, NameByte}
use Rattle.name_bytes.specs.Names.{between, name_limit}
use Rattle.book_file.specs.Files.{misspelt, name_at, names_at, passed, and_then, unless}
use Rattle.book_file.specs.Names.{unpacked}

abbrev pub Listing : Type 0
Listing = Result (List (List ℕ)) BookFault

-- names that were read, and then those that are read behind them
abbrev pub behind : List (List ℕ) → Listing → Listing
behind ws r = and_then r (λ vs. Ok (ws ++ vs))

pub behind_none : (r : Listing) → r ≡ behind [] r
behind_none (Ok vs) = refl
behind_none (Err e) = refl

behind_more : (ws : List (List ℕ)) (w : List ℕ) (r : Listing) → behind ws (and_then r (λ vs. Ok (w ∷ vs))) ≡ behind (ws ++ w ∷ []) r
behind_more ws w (Ok vs) = ap (λ xs. Ok xs) (sym (append_assoc ws (w ∷ []) vs))
behind_more ws w (Err e) = refl

module _ (size count counter at : ℕ) (bs : List ℕ) (ws : List (List ℕ)) where
  -- a name more
  pub names_more : (w : List ℕ) (at' : ℕ) (bs' : List ℕ) → counter < count → Ok w ≡ name_at size at bs → at' ≡ at + suc (length w) → bs' ≡ drop (suc (length w)) bs →
      behind ws (names_at size (count - counter) at bs) ≡ behind (ws ++ w ∷ []) (names_at size (count - (counter + 1)) at' bs')
  names_more w at' bs' l named p q =
      let more : count - counter ≡ suc (count - (counter + 1)) = omega arith in
      let left : ℕ = count - (counter + 1) in
      ap (λ n. behind ws (names_at size n at bs)) more
      ∙ ap (λ r. behind ws (and_then r (λ v. and_then (names_at size left (at + suc (length v)) (drop (suc (length v)) bs)) (λ vs. Ok (v ∷ vs))))) (sym named)
      ∙ behind_more ws w (names_at size left (at + suc (length w)) (drop (suc (length w)) bs))
      ∙ ap (λ n. behind (ws ++ w ∷ []) (names_at size left n (drop (suc (length w)) bs))) (sym p)
      ∙ ap (λ xs. behind (ws ++ w ∷ []) (names_at size left at' xs)) (sym q)

  -- a fault in the next name
  pub names_stop : (e : BookFault) → counter < count → Err e ≡ name_at size at bs → behind ws (names_at size (count - counter) at bs) ≡ Err e
  names_stop e l named =
      let more : count - counter ≡ suc (count - (counter + 1)) = omega arith in
      let left : ℕ = count - (counter + 1) in
      ap (λ n. behind ws (names_at size n at bs)) more
      ∙ ap (λ r. behind ws (and_then r (λ v. and_then (names_at size left (at + suc (length v)) (drop (suc (length v)) bs)) (λ vs. Ok (v ∷ vs))))) (sym named)

  -- all names are read, and what is left passes or does not
  pub names_finish : {U : Type 0} (r : Result U BookFault) → count ≤ counter → passed r [] ≡ names_at size 0 at bs → behind ws (names_at size (count - counter) at bs) ≡ passed r ws
  names_finish {U} r l e =
      let all : count - counter ≡ 0 = omega arith in
      ap (λ n. behind ws (names_at size n at bs)) all ∙ ap (behind ws) (sym e) ∙ go r
    where
      go : (x : Result U BookFault) → behind ws (passed x []) ≡ passed x ws
      go (Ok u) = ap (λ vs. Ok vs) (append-nil ws)
      go (Err e) = refl

-- What is read is what the bytes unpack to.
pub name_is : (size at n : ℕ) (bs w : List ℕ) → name_at size at (n ∷ bs) ≡ Ok w → (w ≡ take n bs) × (length w ≡ n)
name_is size at n bs w h = go (between 1 name_limit n) (nat_le n (length bs)) (misspelt (suc at) (take n bs)) refl h
  where
    go : (b c : Bool) (o : Option ℕ) → nat_le n (length bs) ≡ c → cond b (cond c (unless o NameByte (take n bs)) (Err (CutOff size))) (Err (NameByte at)) ≡ Ok w → (w ≡ take n bs) × (length w ≡ n)
    go true true None e k =
        let same : w ≡ take n bs = cc in
        (same, ap length same ∙ length-take-le n bs (leb-true n (length bs) e))
    go true true (Some p) e k = cc
    go true false o e k = cc
    go false c o e k = cc

pub names_unpack : (size count at : ℕ) (bs : List ℕ) (ws : List (List ℕ)) → names_at size count at bs ≡ Ok ws → ws ≡ unpacked count bs
names_unpack size zero at [] ws h = let e : ◌≡◌ {A = List (List ℕ)} [] ws = cc in sym e
names_unpack size zero at (b ∷ bs) ws h = cc
names_unpack size (suc count) at [] ws h = cc
names_unpack size (suc count) at (n ∷ bs) ws h = one (name_at size at (n ∷ bs)) refl h (λ a cs vs. names_unpack size count a cs vs)
  where
    two : (w : List ℕ) (r : Listing) → and_then r (λ vs. Ok (w ∷ vs)) ≡ Ok ws → (vs : List (List ℕ)) × (r ≡ Ok vs) × (ws ≡ w ∷ vs)
    two w (Ok vs) k = let e : ◌≡◌ {A = List (List ℕ)} (w ∷ vs) ws = cc in (vs, refl, sym e)
    two w (Err e) k = cc

    one : (r : Result (List ℕ) BookFault) → name_at size at (n ∷ bs) ≡ r →
        and_then r (λ w. and_then (names_at size count (at + suc (length w)) (drop (suc (length w)) (n ∷ bs))) (λ vs. Ok (w ∷ vs))) ≡ Ok ws →
        ((a : ℕ) (cs : List ℕ) (vs : List (List ℕ)) → names_at size count a cs ≡ Ok vs → vs ≡ unpacked count cs) →
        ws ≡ take n bs ∷ unpacked count (drop n bs)
    one (Ok w) e k rest =
        let p = two w (names_at size count (at + suc (length w)) (drop (length w) bs)) k in
        let q = name_is size at n bs w e in
        p.2 ∙ ap (λ v. v ∷ p.0) q.0
        ∙ ap (λ vs. take n bs ∷ vs) (rest (at + suc (length w)) (drop (length w) bs) p.0 p.1 ∙ ap (λ m. unpacked count (drop m bs)) q.1)
    one (Err x) e k rest = cc

pub names_passed : {U : Type 0} (r : Result U BookFault) (size count at : ℕ) (bs : List ℕ) (ws : List (List ℕ)) → names_at size count at bs ≡ passed r ws → passed r (unpacked count bs) ≡ names_at size count at bs
names_passed (Ok u) size count at bs ws e = ap (λ vs. Ok vs) (sym (names_unpack size count at bs ws e)) ∙ sym e
names_passed (Err x) size count at bs ws e = sym e
