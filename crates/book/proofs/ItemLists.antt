-- Lists of items: which are in them, and how many.
use Rattle.std.proofs.Common.{◌≡◌, ℕ, zero, suc, ◌+◌, ◌<◌, ◌≤◌, Bool, true, false, cond, ◌||◌, eqb, ◌≢◌, ◌⊎◌, ◌↔◌, List, [], ◌∷◌, ◌++◌, length, get_or, sym, refl, ap, ◌∙◌, subst, inl, inr, arith}
use mathlib.Core.Bool.{or_assoc}
use Rattle.std.proofs.lemmas.Bool.{cases_eq, eqb-true, eq-eqb, ne_eqb, or_cases, or_left, or_right, cases_Bool, both_ways}
use Rattle.book.specs.declared.event.Event.{Event}
use Rattle.book.specs.Catalogue.{opened}
use Rattle.book.specs.Orders.{Opened}
use Rattle.book.specs.ItemLists.{In, Once, Rising, Lists, Counts}

-- Members ---------------------------------------------------------------------------------------------------------

pub in_left : (i : ℕ) (xs ys : List ℕ) → In i xs → In i (xs ++ ys)
in_left i [] ys h = absurd h
in_left i (x ∷ xs) ys (inl e) = inl e
in_left i (x ∷ xs) ys (inr h) = inr (in_left i xs ys h)

pub in_right : (i : ℕ) (xs ys : List ℕ) → In i ys → In i (xs ++ ys)
in_right i [] ys h = h
in_right i (x ∷ xs) ys h = inr (in_right i xs ys h)

pub in_cases : (i : ℕ) (xs ys : List ℕ) → In i (xs ++ ys) → In i xs ⊎ In i ys
in_cases i [] ys h = inr h
in_cases i (x ∷ xs) ys (inl e) = inl (inl e)
in_cases i (x ∷ xs) ys (inr h) = elim (in_cases i xs ys h) [ inl a ↦ inl (inr a) | inr b ↦ inr b ]

-- the same as a test
abbrev pub mem : List ℕ → ℕ → Bool
mem [] i = false
mem (x ∷ xs) i = eqb i x || mem xs i

pub mem_in : (xs : List ℕ) (i : ℕ) → mem xs i ≡ true → In i xs
mem_in [] i h = cc
mem_in (x ∷ xs) i h = elim (or_cases (eqb i x) (mem xs i) h) [ inl a ↦ inl (eqb-true i x a) | inr b ↦ inr (mem_in xs i b) ]

pub in_mem : (xs : List ℕ) (i : ℕ) → In i xs → mem xs i ≡ true
in_mem [] i h = absurd h
in_mem (x ∷ xs) i (inl e) = or_left (eqb i x) (mem xs i) (eq-eqb i x e)
in_mem (x ∷ xs) i (inr h) = or_right (eqb i x) (mem xs i) (in_mem xs i h)

pub not_in_mem : (xs : List ℕ) (i : ℕ) → (In i xs → ⊥) → mem xs i ≡ false
not_in_mem xs i h = elim (cases_Bool (mem xs i)) [ inl y ↦ absurd (h (mem_in xs i y)) | inr n ↦ n ]

pub in_or_not : (xs : List ℕ) (i : ℕ) → In i xs ⊎ (In i xs → ⊥)
in_or_not xs i = elim (cases_Bool (mem xs i)) [ inl y ↦ inl (mem_in xs i y) | inr n ↦ inr (λ h. both_ways (mem xs i) n (in_mem xs i h)) ]

-- Rising lists ----------------------------------------------------------------------------------------------------

pub rising_above : (low : ℕ) (xs : List ℕ) (i : ℕ) → Rising low xs → In i xs → low < i
rising_above low [] i r h = absurd h
rising_above low (x ∷ xs) i r (inl e) = let a = r.0 in omega arith
rising_above low (x ∷ xs) i r (inr h) = let a = r.0 in let b = rising_above x xs i r.1 h in omega arith

-- rising lists of the same items are the same
pub rising_same : (low low' : ℕ) (xs ys : List ℕ) → Rising low xs → Rising low' ys → ((i : ℕ) → In i xs ↔ In i ys) → xs ≡ ys
rising_same low low' [] [] r s same = refl
rising_same low low' [] (y ∷ ys) r s same = absurd ((same y).1 (inl refl))
rising_same low low' (x ∷ xs) [] r s same = absurd ((same x).0 (inl refl))
rising_same low low' (x ∷ xs) (y ∷ ys) r s same =
    let heads : x ≡ y = first ((same x).0 (inl refl)) ((same y).1 (inl refl)) in
    let rest : xs ≡ ys = rising_same x y xs ys r.1 s.1 (λ i. (λ h. onward i heads ((same i).0 (inr h)) h, λ h. backward i heads ((same i).1 (inr h)) h)) in
    cc
  where
    first : In x (y ∷ ys) → In y (x ∷ xs) → x ≡ y
    first (inl e) b = e
    first (inr a) (inl e) = sym e
    first (inr a) (inr b) = let p = rising_above y ys x s.1 a in let q = rising_above x xs y r.1 b in omega arith

    onward : (i : ℕ) → x ≡ y → In i (y ∷ ys) → In i xs → In i ys
    onward i e (inl f) h = let p = rising_above x xs i r.1 h in absurd (omega arith)
    onward i e (inr a) h = a

    backward : (i : ℕ) → x ≡ y → In i (x ∷ xs) → In i ys → In i xs
    backward i e (inl f) h = let p = rising_above y ys i s.1 h in absurd (omega arith)
    backward i e (inr a) h = a

-- by their places, with any numbers behind them
rising_from : (low : ℕ) (xs zs : List ℕ) (k : ℕ) → Rising low xs → k < length xs → low < get_or (xs ++ zs) k 0
rising_from low [] zs k r lt = absurd (omega arith)
rising_from low (x ∷ xs) zs zero r lt = r.0
rising_from low (x ∷ xs) zs (suc k) r lt = let a = r.0 in let b = rising_from x xs zs k r.1 (omega arith) in omega arith

pub rising_places : (low : ℕ) (xs zs : List ℕ) (j k : ℕ) → Rising low xs → j < k → k < length xs → get_or (xs ++ zs) j 0 < get_or (xs ++ zs) k 0
rising_places low [] zs j k r lt le = absurd (omega arith)
rising_places low (x ∷ xs) zs j zero r lt le = absurd (omega arith)
rising_places low (x ∷ xs) zs zero (suc k) r lt le = rising_from x xs zs k r.1 (omega arith)
rising_places low (x ∷ xs) zs (suc j) (suc k) r lt le = rising_places x xs zs j k r.1 (omega arith) (omega arith)

pub lists_alike : (P Q : ℕ → Type 0) (xs : List ℕ) → ((i : ℕ) → P i ↔ Q i) → Lists P xs → Lists Q xs
lists_alike P Q xs alike l = (l.0, λ i. (λ y. (alike i).0 ((l.1 i).0 y), λ q. (l.1 i).1 ((alike i).1 q)))

pub lists_same : (P : ℕ → Type 0) (xs ys : List ℕ) → Lists P xs → Lists P ys → xs ≡ ys
lists_same P xs ys a b = rising_same 0 0 xs ys a.0 b.0 (λ i. (λ h. (b.1 i).1 ((a.1 i).0 h), λ h. (a.1 i).1 ((b.1 i).0 h)))

pub counts_same : (P : ℕ → Type 0) (m n : ℕ) → Counts P m → Counts P n → m ≡ n
counts_same P m n a b = sym a.2 ∙ ap length (lists_same P a.0 b.0 a.1 b.1) ∙ b.2

-- How many pass a test --------------------------------------------------------------------------------------------

abbrev pub one_if : Bool → ℕ
one_if b = cond b 1 0

-- of the n numbers above low, how many pass
abbrev pub tally : (ℕ → Bool) → ℕ → ℕ → ℕ
tally b low zero = 0
tally b low (suc n) = one_if (b (suc low)) + tally b (suc low) n

pub tally_like : (b c : ℕ → Bool) (low n : ℕ) → ((i : ℕ) → low < i → b i ≡ c i) → tally b low n ≡ tally c low n
tally_like b c low zero same = refl
tally_like b c low (suc n) same =
    let here = ap one_if (same (suc low) (omega arith)) in
    let rest = tally_like b c (suc low) n (λ i h. same i (omega arith)) in
    omega arith

pub tally_rising : (n low : ℕ) (xs : List ℕ) → Rising low xs → ((i : ℕ) → In i xs → i ≤ low + n) → tally (mem xs) low n ≡ length xs
tally_rising zero low [] r within = refl
tally_rising zero low (x ∷ xs) r within = let a = within x (inl refl) in let b = r.0 in absurd (omega arith)
tally_rising (suc n) low [] r within = let rest = tally_rising n (suc low) [] tt (λ i h. absurd h) in omega arith
tally_rising (suc n) low (x ∷ xs) r within = go (tally_rising n (suc low)) (in_or_not (x ∷ []) (suc low))
  where
    go : ((ys : List ℕ) → Rising (suc low) ys → ((i : ℕ) → In i ys → i ≤ suc low + n) → tally (mem ys) (suc low) n ≡ length ys)
        → In (suc low) (x ∷ []) ⊎ (In (suc low) (x ∷ []) → ⊥) → tally (mem (x ∷ xs)) low (suc n) ≡ length (x ∷ xs)
    go more (inl (inl e)) =
        let here = ap one_if (in_mem (x ∷ xs) (suc low) (inl e)) in
        let pass = tally_like (mem (x ∷ xs)) (mem xs) (suc low) n (λ i h. ap (λ (b : Bool). b || mem xs i) (ne_eqb i x (λ q. omega arith))) in
        let rest = more xs (subst (λ (y : ℕ). Rising y xs) (sym e) r.1) (λ i h. let w = within i (inr h) in omega arith) in
        omega arith
    go more (inl (inr e)) = absurd e
    go more (inr ne) =
        let low_x : suc low < x = (let a = r.0 in let b : x ≢ suc low = (λ q. ne (inl (sym q))) in omega arith) in
        let here = ap one_if (not_in_mem (x ∷ xs) (suc low) (λ h. let c = rising_above (suc low) (x ∷ xs) (suc low) (low_x, r.1) h in omega arith)) in
        let rest = more (x ∷ xs) (low_x, r.1) (λ i h. let w = within i h in omega arith) in
        omega arith

-- three tests of which each number passes just one
pub tally_three : (b c d : ℕ → Bool) (low n : ℕ) → ((i : ℕ) → low < i → i ≤ low + n → one_if (b i) + one_if (c i) + one_if (d i) ≡ 1)
    → tally b low n + tally c low n + tally d low n ≡ n
tally_three b c d low zero one = refl
tally_three b c d low (suc n) one =
    let here = one (suc low) (omega arith) (omega arith) in
    let rest = tally_three b c d (suc low) n (λ i h k. one i (omega arith) (omega arith)) in
    omega arith

-- items in one list or in another
pub mem_append : (xs ys : List ℕ) (i : ℕ) → mem (xs ++ ys) i ≡ (mem xs i || mem ys i)
mem_append [] ys i = refl
mem_append (x ∷ xs) ys i = ap (λ (b : Bool). eqb i x || b) (mem_append xs ys i) ∙ sym (or_assoc (eqb i x) (mem xs i) (mem ys i))

one_if_or : (a b : Bool) → (a ≡ true → b ≡ true → ⊥) → one_if (a || b) ≡ one_if a + one_if b
one_if_or true true apart = absurd (apart refl refl)
one_if_or true false apart = refl
one_if_or false true apart = refl
one_if_or false false apart = refl

pub tally_append : (xs ys : List ℕ) (low n : ℕ) → ((i : ℕ) → In i xs → In i ys → ⊥) → tally (mem (xs ++ ys)) low n ≡ tally (mem xs) low n + tally (mem ys) low n
tally_append xs ys low zero apart = refl
tally_append xs ys low (suc n) apart =
    let i : ℕ = suc low in
    let here = ap one_if (mem_append xs ys i) ∙ one_if_or (mem xs i) (mem ys i) (λ a b. apart i (mem_in xs i a) (mem_in ys i b)) in
    let rest = tally_append xs ys (suc low) n apart in
    omega arith

pub tally_none : (low n : ℕ) → tally (mem []) low n ≡ 0
tally_none low zero = refl
tally_none low (suc n) = let r = tally_none (suc low) n in omega arith

-- a list that has each of its numbers once
pub tally_once : (xs : List ℕ) (n : ℕ) → Once xs → ((i : ℕ) → In i xs → (0 < i) × (i ≤ n)) → tally (mem xs) 0 n ≡ length xs
tally_once [] n o among = tally_none 0 n
tally_once (x ∷ xs) n o among =
    let apart : (i : ℕ) → In i (x ∷ []) → In i xs → ⊥ = (λ i a b. elim a [ inl e ↦ o.0 (subst (λ (j : ℕ). In j xs) e b) | inr z ↦ z ]) in
    let here = among x (inl refl) in
    let low = here.0 in
    let high = here.1 in
    let one = tally_rising n 0 (x ∷ []) (low, tt) (λ i a. elim a [ inl e ↦ (let z : i ≤ 0 + n = omega arith in z) | inr z ↦ absurd z ]) in
    let rest = tally_once xs n o.1 (λ i a. among i (inr a)) in
    let both = tally_append (x ∷ []) xs 0 n apart in
    omega arith

-- Lists without repetition ----------------------------------------------------------------------------------------

pub rising_once : (low : ℕ) (xs : List ℕ) → Rising low xs → Once xs
rising_once low [] r = tt
rising_once low (x ∷ xs) r = ((λ a. let b = rising_above x xs x r.1 a in omega arith), rising_once x xs r.1)

pub once_append : (xs ys : List ℕ) → Once xs → Once ys → ((i : ℕ) → In i xs → In i ys → ⊥) → Once (xs ++ ys)
once_append [] ys a b apart = b
once_append (x ∷ xs) ys a b apart = (
  λ y. elim (in_cases x xs ys y) [ inl z ↦ a.0 z | inr z ↦ apart x (inl refl) z ],
  once_append xs ys a.1 b (λ i y z. apart i (inr y) z),
)

-- The items of a kind ---------------------------------------------------------------------------------------------

-- the items of a kind, where each is of it or not
pub picked : (P : ℕ → Type 0) (n low : ℕ) → ((i : ℕ) → low < i → i ≤ low + n → P i ⊎ (P i → ⊥))
    → (xs : List ℕ) × Rising low xs × ((i : ℕ) → In i xs ↔ ((low < i) × (i ≤ low + n) × P i))
picked P zero low dec = ([], tt, λ i. (λ y. absurd y, λ y. let a = y.0 in let b = y.1 in absurd (omega arith)))
picked P (suc n) low dec = go (picked P n (suc low) (λ i lo hi. dec i (omega arith) (omega arith))) (dec (suc low) (omega arith) (omega arith))
  where
    lower : (xs : List ℕ) → Rising (suc low) xs → Rising low xs
    lower [] r = tt
    lower (x ∷ xs) r = ((let a = r.0 in omega arith), r.1)

    go : (xs : List ℕ) × Rising (suc low) xs × ((i : ℕ) → In i xs ↔ ((suc low < i) × (i ≤ suc low + n) × P i)) → P (suc low) ⊎ (P (suc low) → ⊥)
        → (xs : List ℕ) × Rising low xs × ((i : ℕ) → In i xs ↔ ((low < i) × (i ≤ low + suc n) × P i))
    go r (inl p) = (
      suc low ∷ r.0,
      (omega arith, r.1),
      λ i. (
        elim [ inl e ↦ (omega arith, omega arith, subst P (sym e) p) | inr y ↦ (let z = (r.2 i).0 y in ((let a = z.0 in omega arith), (let a = z.1 in omega arith), z.2)) ],
        λ y. elim (cases_eq i (suc low)) [ inl e ↦ inl e | inr ne ↦ inr ((r.2 i).1 ((let a = y.0 in let b : i ≢ suc low = ne in omega arith), (let a = y.1 in omega arith), y.2)) ],
      ),
    )
    go r (inr np) = (
      r.0,
      lower r.0 r.1,
      λ i. (
        λ y. let z = (r.2 i).0 y in ((let a = z.0 in omega arith), (let a = z.1 in omega arith), z.2),
        λ y. elim (cases_eq i (suc low)) [ inl e ↦ absurd (np (subst P e y.2)) | inr ne ↦ (r.2 i).1 ((let a = y.0 in let b : i ≢ suc low = ne in omega arith), (let a = y.1 in omega arith), y.2) ],
      ),
    )

-- a kind of opened items
pub listed : (P : ℕ → Type 0) (h : List Event) → ((i : ℕ) → P i → Opened h i) → ((i : ℕ) → Opened h i → P i ⊎ (P i → ⊥)) → (xs : List ℕ) × Lists P xs
listed P h among dec =
    let r = picked P (opened h) 0 (λ i lo hi. dec i (omega arith, omega arith)) in
    (r.0, (r.1, λ i. (λ y. ((r.2 i).0 y).2, λ p. let o = among i p in (r.2 i).1 ((let a = o.0 in omega arith), (let a = o.1 in omega arith), p))))

-- How many there are ----------------------------------------------------------------------------------------------

one_if_more : (a b : Bool) → (a ≡ true → b ≡ true) → one_if a ≤ one_if b
one_if_more true b more = let e = ap one_if (more refl) in omega arith
one_if_more false b more = omega arith

pub tally_more : (b c : ℕ → Bool) (low n : ℕ) → ((i : ℕ) → b i ≡ true → c i ≡ true) → tally b low n ≤ tally c low n
tally_more b c low zero more = omega arith
tally_more b c low (suc n) more =
    let here = one_if_more (b (suc low)) (c (suc low)) (more (suc low)) in
    let rest = tally_more b c (suc low) n more in
    omega arith

pub tally_most : (b : ℕ → Bool) (low n : ℕ) → tally b low n ≤ n
tally_most b low zero = omega arith
tally_most b low (suc n) =
    let here : one_if (b (suc low)) ≤ 1 = one_if_more (b (suc low)) true (λ y. refl) in
    let rest = tally_most b (suc low) n in
    omega arith

-- of two lists without repetition, one that has all its numbers in the other is no longer
pub once_fewer : (xs ys : List ℕ) (n : ℕ) → Once xs → Once ys → ((i : ℕ) → In i ys → (0 < i) × (i ≤ n)) → ((i : ℕ) → In i xs → In i ys) → length xs ≤ length ys
once_fewer xs ys n o p among sub =
    let a = tally_once xs n o (λ i y. among i (sub i y)) in
    let b = tally_once ys n p among in
    let c = tally_more (mem xs) (mem ys) 0 n (λ i y. in_mem ys i (sub i (mem_in xs i y))) in
    omega arith

pub counts_fewer : (P Q : ℕ → Type 0) (k l n : ℕ) → Counts P k → Counts Q l → ((i : ℕ) → P i → Q i) → ((i : ℕ) → Q i → (0 < i) × (i ≤ n)) → k ≤ l
counts_fewer P Q k l n c d sub among =
    let a = once_fewer c.0 d.0 n (rising_once 0 c.0 c.1.0) (rising_once 0 d.0 d.1.0)
    (λ i y. among i ((d.1.1 i).0 y)) (λ i y. (d.1.1 i).1 (sub i ((c.1.1 i).0 y))) in
    let e = c.2 in
    let f = d.2 in
    omega arith

-- a kind whose items are numbered up to n has at most n
pub counts_most : (P : ℕ → Type 0) (k n : ℕ) → Counts P k → ((i : ℕ) → P i → i ≤ n) → k ≤ n
counts_most P k n c among =
    let a = tally_rising n 0 c.0 c.1.0 (λ i y. let z = among i ((c.1.1 i).0 y) in omega arith) in
    let b = tally_most (mem c.0) 0 n in
    let d = c.2 in
    omega arith
