-- Reading along a list by its index: what the byte at a place does to the reading from there, mode by mode.
use Rattle.std.proofs.Common.{◌≡◌, ℕ, zero, suc, ◌+◌, ◌<◌, ◌≤◌, Bool, true, false, cond, eqb, ltb, ◌||◌, ◌⊎◌, List, [], ◌∷◌, length, get_or, drop, sym, refl, ap, ◌∙◌, inl, inr, add-one, arith, drop-cons}
use Rattle.std.proofs.lemmas.List.{drop_all}
use Rattle.std.proofs.lemmas.Bool.{eq-eqb, eqb-true, ne_eqb, or_cases, cond-true, cond-false, lt-ltb, le-ltb, cases_lt}
use Rattle.markup.specs.Reading.{Where, text, value, stop_of, Mode, ampersand, awaiting, in_content, naming, spaced, shut, naming_attribute, attribute_named, equals, valued, naming_end, end_spaced, Step, stop, on, next, over, Ending, failed, carried, read}
use Rattle.name_bytes.specs.Names.{name_start, name_byte}
use Rattle.markup.specs.Grammar.{plain, white, Quote, single, double, sign}
use Rattle.markup.proofs.ByteClasses.{start_no_white}
use Rattle.markup.specs.Parts.{from, Naming, awaiting_all}

-- ## One byte

pub at_byte : (s : List ℕ) (i : ℕ) (m : Mode) (x : Step) → i < length s → next i m (get_or s i 0) ≡ x → from s i m ≡ carried x (λ m'. from s (i + 1) m')
at_byte s i m x h e =
    ap (λ (z : List ℕ). read i m z) (drop-cons s i 0 h) ∙ ap (λ (z : Step). carried z (λ m'. read (suc i) m' (drop (suc i) s))) e
    ∙ ap (λ (k : ℕ). carried x (λ m'. from s k m')) (sym (add-one i))

pub at_on : (s : List ℕ) (i : ℕ) (m m' : Mode) → i < length s → next i m (get_or s i 0) ≡ on m' → from s i m ≡ from s (i + 1) m'
at_on s i m m' h e = at_byte s i m (on m') h e

pub at_stop : (s : List ℕ) (i n p : ℕ) (m : Mode) → i < length s → next i m (get_or s i 0) ≡ stop n p → from s i m ≡ record { given = []; ended = failed n p }
at_stop s i n p m h e = at_byte s i m (stop n p) h e

pub at_end : (s : List ℕ) (i : ℕ) (m : Mode) → length s ≤ i → from s i m ≡ record { given = []; ended = over m i }
at_end s i m h = ap (λ (z : List ℕ). read i m z) (drop_all i s h)

-- n bytes in a row, each of which leads on
pub runs_on : (f : ℕ → Mode) (s : List ℕ) (p n : ℕ) → ((k : ℕ) → k < n → (p + k < length s) × (next (p + k) (f k) (get_or s (p + k) 0) ≡ on (f (suc k)))) → from s p (f 0) ≡ from s (p + n) (f n)
runs_on f s p zero h = ap (λ (z : ℕ). from s z (f 0)) (let e : p ≡ p + 0 = omega arith in e)
runs_on f s p (suc n) h =
    let g = h n (omega arith) in
    runs_on f s p n (λ k l. h k (omega arith)) ∙ at_on s (p + n) (f n) (f (suc n)) g.0 g.1
    ∙ ap (λ (z : ℕ). from s z (f (suc n))) (let e : p + n + 1 ≡ p + suc n = omega arith in e)

-- ## References: bytes that have yet to come

awaiting_next : (p at : ℕ) (w : Where) (x : ℕ) (xs : List ℕ) (b : ℕ) → next p (awaiting at w x xs) b ≡ cond (eqb b x) (on (awaiting_all at w xs)) (stop 25 at)
awaiting_next p at w x [] b = refl
awaiting_next p at w x (y ∷ ys) b = refl

awaited_at : (at : ℕ) (w : Where) (rest : List ℕ) (j : ℕ) → j < length rest → awaiting_all at w (drop j rest) ≡ awaiting at w (get_or rest j 0) (drop (j + 1) rest)
awaited_at at w rest j h = ap (λ (z : List ℕ). awaiting_all at w z) (drop-cons rest j 0 h) ∙ ap (λ (k : ℕ). awaiting at w (get_or rest j 0) (drop k rest)) (sym (add-one j))

pub awaited_on : (s : List ℕ) (i at : ℕ) (w : Where) (rest : List ℕ) (j : ℕ) → i < length s → j < length rest → get_or s i 0 ≡ get_or rest j 0 →
    from s i (awaiting_all at w (drop j rest)) ≡ from s (i + 1) (awaiting_all at w (drop (j + 1) rest))
awaited_on s i at w rest j h k e =
    ap (λ (m : Mode). from s i m) (awaited_at at w rest j k)
    ∙ at_on s i (awaiting at w (get_or rest j 0) (drop (j + 1) rest)) (awaiting_all at w (drop (j + 1) rest)) h (awaiting_next i at w (get_or rest j 0) (drop (j + 1) rest) (get_or s i 0) ∙ cond-true (eqb (get_or s i 0) (get_or rest j 0)) _ _ (eq-eqb _ _ e))

pub awaited_done : (s : List ℕ) (i at : ℕ) (w : Where) (rest : List ℕ) (j : ℕ) → length rest ≤ j → from s i (awaiting_all at w (drop j rest)) ≡ from s i (in_content w)
awaited_done s i at w rest j h = ap (λ (z : List ℕ). from s i (awaiting_all at w z)) (drop_all j rest h)

-- ## White space

-- a mode that bytes of a class don't change
abbrev pub Stays : (ℕ → Bool) → Mode → Type 0
Stays c m = (p b : ℕ) → c b ≡ true → next p m b ≡ on m

pub white_equals : (at k : ℕ) → Stays white (equals at k)
white_equals at k p b h = cond-true (white b) _ _ h

pub white_named : (at k : ℕ) → Stays white (attribute_named at k)
white_named at k p b h = cond-true (white b) _ _ h

pub white_ended : (at k : ℕ) → Stays white (end_spaced at k)
white_ended at k p b h = cond-true (white b) _ _ h

-- a start tag behind a value: white space leads on, and then stays
abbrev pub spacing : ℕ → ℕ → ℕ → Mode
spacing at k zero = valued at k
spacing at k (suc n) = spaced at k

pub spacing_on : (at k n p b : ℕ) → white b ≡ true → next p (spacing at k n) b ≡ on (spacing at k (suc n))
spacing_on at k zero p b h = cond-true (white b) _ _ h
spacing_on at k (suc n) p b h = cond-true (white b) _ _ h

pub spacing_more : (at k n : ℕ) → 0 < n → spacing at k n ≡ spaced at k
spacing_more at k zero h = absurd (omega arith)
spacing_more at k (suc n) h = refl

-- ## Content

pub stays_plain : (w : Where) (x : ℕ) → stop_of w ≡ x → Stays (plain x) (in_content w)
stays_plain w x e p b h = cond-true (plain (stop_of w) b) _ _ (ap (λ (z : ℕ). plain z b) e ∙ h)

pub amp_on : (p : ℕ) (w : Where) (b : ℕ) → b ≡ 38 → next p (in_content w) b ≡ on (ampersand p w)
amp_on p text b e = ap (λ (z : ℕ). next p (in_content text) z) e
amp_on p (value at k single) b e = ap (λ (z : ℕ). next p (in_content (value at k single)) z) e
amp_on p (value at k double) b e = ap (λ (z : ℕ). next p (in_content (value at k double)) z) e

-- ## Values

pub quote_of : (b : ℕ) → (eqb b 34 || eqb b 39) ≡ true → (q : Quote) × (sign q ≡ b)
quote_of b h = elim (or_cases (eqb b 34) (eqb b 39) h) [ inl e ↦ (double, sym (eqb-true b 34 e)) | inr e ↦ (single, sym (eqb-true b 39 e)) ]

pub quote_on : (p at k b : ℕ) (q : Quote) → sign q ≡ b → next p (equals at k) b ≡ on (in_content (value at k q))
quote_on p at k b single e = ap (λ (z : ℕ). next p (equals at k) z) (sym e)
quote_on p at k b double e = ap (λ (z : ℕ). next p (equals at k) z) (sym e)

pub refuses_equals : (p at k b : ℕ) → white b ≡ false → (eqb b 34 || eqb b 39) ≡ false → next p (equals at k) b ≡ stop 22 p
refuses_equals p at k b h n = let e = or_false (eqb b 34) (eqb b 39) n in cond-false (white b) _ _ h ∙ cond-false (eqb b 34) _ _ e.0 ∙ cond-false (eqb b 39) _ _ e.1
  where
    or_false : (x y : Bool) → (x || y) ≡ false → (x ≡ false) × (y ≡ false)
    or_false true y h = absurd (let z : true ≡ false = h in cc)
    or_false false y h = (refl, h)

pub shuts_value : (p at k : ℕ) (q : Quote) (b : ℕ) → b ≡ sign q → next p (in_content (value at k q)) b ≡ on (valued at k)
shuts_value p at k single b e = ap (λ (z : ℕ). next p (in_content (value at k single)) z) e
shuts_value p at k double b e = ap (λ (z : ℕ). next p (in_content (value at k double)) z) e

pub refuses_value : (p at k : ℕ) (q : Quote) (b : ℕ) → plain (sign q) b ≡ false → eqb b 38 ≡ false → eqb b (sign q) ≡ false → next p (in_content (value at k q)) b ≡ stop 22 p
refuses_value p at k q b h a n = cond-false (plain (sign q) b) _ _ h ∙ cond-false (eqb b 38) _ _ a ∙ cond-false (eqb b (sign q)) _ _ n

pub refuses_named : (p at k b : ℕ) → white b ≡ false → eqb b 61 ≡ false → next p (attribute_named at k) b ≡ stop 22 p
refuses_named p at k b h d = cond-false (white b) _ _ h ∙ cond-false (eqb b 61) _ _ d

pub begins_attribute : (p at k b : ℕ) → name_start b ≡ true → next p (spaced at k) b ≡ on (naming_attribute at k 1)
begins_attribute p at k b h = cond-false (white b) _ _ (start_no_white b h) ∙ cond-true (name_start b) _ _ h

-- a byte that neither white space nor a name's beginning is ends a start tag, or is refused
pub shut_here : (p at k b : ℕ) → white b ≡ false → next p (valued at k) b ≡ shut at k p b
shut_here p at k b w = cond-false (white b) _ _ w

pub shut_spaced : (p at k b : ℕ) → white b ≡ false → name_start b ≡ false → next p (spaced at k) b ≡ shut at k p b
shut_spaced p at k b w n = cond-false (white b) _ _ w ∙ cond-false (name_start b) _ _ n

pub refuses_ended : (p at k b : ℕ) → white b ≡ false → eqb b 62 ≡ false → next p (end_spaced at k) b ≡ stop 22 p
refuses_ended p at k b w n = cond-false (white b) _ _ w ∙ cond-false (eqb b 62) _ _ n

pub refuses_shut : (p at k b : ℕ) → (b ≡ 47 → ⊥) → (b ≡ 62 → ⊥) → shut at k p b ≡ stop 22 p
refuses_shut p at k b n n' = cond-false (eqb b 47) _ _ (ne_eqb _ _ n) ∙ cond-false (eqb b 62) _ _ (ne_eqb _ _ n')

-- ## Names

short_of : (b : Bool) (k : ℕ) (s t u : Step) → b ≡ true → k < 64 → cond b (cond (ltb k 64) s t) u ≡ s
short_of b k s t u h l = cond-true b _ u h ∙ cond-true (ltb k 64) s t (lt-ltb k 64 l)

full_of : (b : Bool) (k : ℕ) (s t u : Step) → b ≡ true → 64 ≤ k → cond b (cond (ltb k 64) s t) u ≡ t
full_of b k s t u h l = cond-true b _ u h ∙ cond-false (ltb k 64) s t (le-ltb k 64 l)

pub naming_start : (at : ℕ) → Naming (naming at)
naming_start at = (λ p k b h l. short_of (name_byte b) k _ _ _ h l ∙ ap (λ z. on (naming at z)) (sym (add-one k)), λ p k b h l. full_of (name_byte b) k _ _ _ h l)

pub naming_ends : (at : ℕ) → Naming (naming_end at)
naming_ends at = (λ p k b h l. short_of (name_byte b) k _ _ _ h l ∙ ap (λ z. on (naming_end at z)) (sym (add-one k)), λ p k b h l. full_of (name_byte b) k _ _ _ h l)

pub naming_attr : (at n : ℕ) → Naming (naming_attribute at n)
naming_attr at n = (λ p k b h l. short_of (name_byte b) k _ _ _ h l ∙ ap (λ z. on (naming_attribute at n z)) (sym (add-one k)), λ p k b h l. full_of (name_byte b) k _ _ _ h l)

-- ## A name's end is as good as white space that has not come, or as a value's end

same_step : (s : List ℕ) (i : ℕ) (m m' : Mode) → over m i ≡ over m' i → (i < length s → next i m (get_or s i 0) ≡ next i m' (get_or s i 0)) → from s i m ≡ from s i m'
same_step s i m m' o h = by (cases_lt i (length s))
  where
    by : (i < length s) ⊎ (length s ≤ i) → from s i m ≡ from s i m'
    by (inl l) = at_byte s i m _ l (h l) ∙ sym (at_byte s i m' _ l refl)
    by (inr l) = at_end s i m l ∙ ap (λ (z : Ending). record { given = []; ended = z }) o ∙ sym (at_end s i m' l)

pub name_ended : (s : List ℕ) (i at k j : ℕ) → (i < length s → name_byte (get_or s i 0) ≡ false) → from s i (naming_attribute at k j) ≡ from s i (attribute_named at k)
name_ended s i at k j h = same_step s i (naming_attribute at k j) (attribute_named at k) refl (λ l. cond-false (name_byte (get_or s i 0)) _ _ (h l))

pub tag_named : (s : List ℕ) (i at k : ℕ) → (i < length s → name_byte (get_or s i 0) ≡ false) → from s i (naming at k) ≡ from s i (valued at k)
tag_named s i at k h = same_step s i (naming at k) (valued at k) refl (λ l. cond-false (name_byte (get_or s i 0)) _ _ (h l))

pub end_named : (s : List ℕ) (i at k : ℕ) → (i < length s → name_byte (get_or s i 0) ≡ false) → from s i (naming_end at k) ≡ from s i (end_spaced at k)
end_named s i at k h = same_step s i (naming_end at k) (end_spaced at k) refl (λ l. cond-false (name_byte (get_or s i 0)) _ _ (h l))
