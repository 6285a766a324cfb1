-- The law of readings: each text has one reading, and it is the one found byte by byte.
use Rattle.std.proofs.Common.{◌≡◌, ℕ, suc, ◌+◌, ◌≤◌, ◌⊎◌, List, [], ◌∷◌, ◌++◌, length, sym, refl, ap, ◌∙◌, subst, inl, inr, append_assoc, append-nil, arith, length-append}
use Rattle.markup.specs.Grammar.{Tag, Right, Viable}
use Rattle.markup.specs.Reading.{Mode, Step, stop, next, Ending, finish, failed, Reading, carried, read, reading}
use Rattle.markup.specs.Law.{FaultOf, other_form, broken_reference, long_name, other_byte, TagsRead, Reads, right, cut, refused}
use Rattle.markup.specs.Law.{OneReading}
use Rattle.markup.proofs.RightTexts.{right_finishes}
use Rattle.markup.proofs.Begun.{Reason, by_form, by_reference, by_name, by_byte_alone}
use Rattle.markup.proofs.Tracked.{Track, Outcome, o_right, o_cut, o_refused, outcome, number, reason_number, viable, tags_read}
use Rattle.markup.proofs.Refused.{other_form_ends, name_ends, reference_ends}

-- a refused byte ends every reading that it stands in
stopped : (m : Mode) (ts : List Tag) (u : List ℕ) (b n p : ℕ) → Track m ts u → next (length u) m b ≡ stop n p → (e : List ℕ) → (reading (u ++ (b ∷ e))).ended ≡ failed n p
stopped m ts u b n p t x e = ap (λ (z : Reading). z.ended) (t (b ∷ e)) ∙ ap (λ (z : Step). (carried z (λ m'. read (suc (length u)) m' e)).ended) x

not_viable : (m : Mode) (ts : List Tag) (u : List ℕ) (b n p : ℕ) → Track m ts u → next (length u) m b ≡ stop n p → 22 ≤ n → Viable (u ++ (b ∷ [])) → ⊥
not_viable m ts u b n p t x l (e, ts', r) =
    let f : 0 ≡ n = sym (ap (λ (z : Reading). number z.ended) (right_finishes _ ts' r)) ∙ ap (λ (z : List ℕ). number (reading z).ended) (append_assoc u (b ∷ []) e) ∙ ap number (stopped m ts u b n p t x e) in
    omega arith

clash : (e : Ending) (n n' p p' : ℕ) → e ≡ failed n p → e ≡ failed n' p' → n ≡ n'
clash e n n' p p' f g = ap number (sym f ∙ g)

fault_of_reason : {u : List ℕ} {b n p : ℕ} → (reading (u ++ (b ∷ []))).ended ≡ failed n p → Reason u b n p → FaultOf u b n p
fault_of_reason e (by_form f) = other_form f
fault_of_reason e (by_reference f) = broken_reference f
fault_of_reason e (by_name f) = long_name f
fault_of_reason {u} {b} e by_byte_alone =
    other_byte (λ p f. let z : 23 ≡ 22 = clash _ 23 22 _ _ (other_form_ends u b p f) e in omega arith)
    (λ p f. let z : 25 ≡ 22 = clash _ 25 22 _ _ (reference_ends u b p f) e in omega arith)
    (λ f. let z : 24 ≡ 22 = clash _ 24 22 _ _ (name_ends u b f).1 e in omega arith)

law_of : {s : List ℕ} {r : Reading} → Outcome s r → reading s ≡ r → Reads s r
law_of (o_right r) e = right r
law_of {s} (o_cut {ts} m g t) e =
    cut (viable m ts s g t) (λ ts' r. let z : 0 ≡ 21 = sym (ap (λ (i : Reading). number i.ended) (right_finishes s ts' r)) ∙ ap (λ (i : Reading). number i.ended) e in omega arith) (tags_read m ts s g t)
law_of {s} (o_refused {ts} {n} {p} u b rest m d g t x c) e =
    refused u b rest d (viable m ts u g t) (not_viable m ts u b n p t x (reason_number c)) (fault_of_reason (stopped m ts u b n p t x []) c) (tags_read m ts u g t)

pub reads : (s : List ℕ) → Reads s (reading s)
reads s = law_of (outcome s) refl

-- only that reading
viable_before : (u w : List ℕ) → Viable (u ++ w) → Viable u
viable_before u w (e, ts, r) = (w ++ e, ts, right_at (append_assoc u w e) r)
  where
    right_at : {a a' : List ℕ} → a ≡ a' → Right a ts → Right a' ts
    right_at f (xs, i, j) = (xs, i ∙ f, j)

viable_at : {a a' : List ℕ} → a ≡ a' → Viable a → Viable a'
viable_at f (e, ts, (xs, i, j)) = (e, ts, (xs, i ∙ ap (λ (z : List ℕ). z ++ e) f, j))

right_viable : (s : List ℕ) (ts : List Tag) → Right s ts → Viable s
right_viable s ts (xs, i, j) = ([], ts, (xs, i ∙ sym (append-nil s), j))

abbrev head : List ℕ → ℕ
head [] = 0
head (x ∷ xs) = x

abbrev rest_of : List ℕ → List ℕ
rest_of [] = []
rest_of (x ∷ xs) = xs

-- two ways to part a list
pub parted : (u u' : List ℕ) (b b' : ℕ) (r r' : List ℕ) → u ++ (b ∷ r) ≡ u' ++ (b' ∷ r') →
    ((u ≡ u') × (b ≡ b')) ⊎ (((w : List ℕ) × (u' ≡ (u ++ (b ∷ [])) ++ w)) ⊎ ((w : List ℕ) × (u ≡ (u' ++ (b' ∷ [])) ++ w)))
parted [] [] b b' r r' e = inl (refl, ap head e)
parted [] (c ∷ u') b b' r r' e = inr (inl (u', ap (λ (z : ℕ). z ∷ u') (sym (ap head e))))
parted (c ∷ u) [] b b' r r' e = inr (inr (u, ap (λ (z : ℕ). z ∷ u) (ap head e)))
parted (c ∷ u) (c' ∷ u') b b' r r' e = more (parted u u' b b' r r' (ap rest_of e))
  where
    h : c ≡ c'
    h = ap head e

    more : ((u ≡ u') × (b ≡ b')) ⊎ (((w : List ℕ) × (u' ≡ (u ++ (b ∷ [])) ++ w)) ⊎ ((w : List ℕ) × (u ≡ (u' ++ (b' ∷ [])) ++ w))) →
        ((c ∷ u ≡ c' ∷ u') × (b ≡ b')) ⊎ (((w : List ℕ) × (c' ∷ u' ≡ ((c ∷ u) ++ (b ∷ [])) ++ w)) ⊎ ((w : List ℕ) × (c ∷ u ≡ ((c' ∷ u') ++ (b' ∷ [])) ++ w)))
    more (inl (x, y)) = inl (cc, y)
    more (inr (inl (w, x))) = inr (inl (w, ap (λ (z : ℕ). z ∷ u') (sym h) ∙ ap (λ (z : List ℕ). c ∷ z) x))
    more (inr (inr (w, x))) = inr (inr (w, ap (λ (z : ℕ). z ∷ u) h ∙ ap (λ (z : List ℕ). c' ∷ z) x))

none_more : {A : Type 0} (xs ys zs : List A) → xs ≡ ys ++ zs → length zs ≡ 0 → xs ≡ ys
none_more xs ys [] e l = e ∙ append-nil ys
none_more xs ys (z ∷ zs) e l = absurd (omega arith)

pub tags_read_one : (u : List ℕ) (ts ts' : List Tag) → TagsRead u ts → TagsRead u ts' → ts ≡ ts'
tags_read_one u ts ts' ((v, w, e, r), f) ((v', w', e', r'), f') =
    let a = f v' w' ts' e' r' in
    let a' = f' v w ts e r in
    let l : length ts ≡ length ts' + length a.0 = ap length a.1 ∙ length-append ts' a.0 in
    let l' : length ts' ≡ length ts + length a'.0 = ap length a'.1 ∙ length-append ts a'.0 in
    none_more ts ts' a.0 a.1 (omega arith)

place : Ending → ℕ
place finish = 0
place (failed n p) = p

same_place : (e : Ending) (n p p' : ℕ) → e ≡ failed n p → e ≡ failed n p' → failed n p ≡ failed n p'
same_place e n p p' f g = sym f ∙ g

pub fault_one : {u : List ℕ} {b n n' p p' : ℕ} → FaultOf u b n p → FaultOf u b n' p' → failed n p ≡ failed n' p'
fault_one {u} {b} (other_form {p} f) (other_form {p = p'} g) = sym (other_form_ends u b p f) ∙ other_form_ends u b p' g
fault_one {u} {b} (other_form {p} f) (broken_reference {p = p'} g) = sym (other_form_ends u b p f) ∙ reference_ends u b p' g
fault_one {u} {b} (other_form {p} f) (long_name g) = absurd (let z : 23 ≡ 24 = clash _ 23 24 _ _ (other_form_ends u b p f) (name_ends u b g).1 in omega arith)
fault_one {u} {b} (other_form {p} f) (other_byte x y z) = absurd (x p f)
fault_one {u} {b} (broken_reference {p} f) (other_form {p = p'} g) = sym (reference_ends u b p f) ∙ other_form_ends u b p' g
fault_one {u} {b} (broken_reference {p} f) (broken_reference {p = p'} g) = sym (reference_ends u b p f) ∙ reference_ends u b p' g
fault_one {u} {b} (broken_reference {p} f) (long_name g) = absurd (let z : 25 ≡ 24 = clash _ 25 24 _ _ (reference_ends u b p f) (name_ends u b g).1 in omega arith)
fault_one {u} {b} (broken_reference {p} f) (other_byte x y z) = absurd (y p f)
fault_one {u} {b} (long_name f) (other_form {p} g) = absurd (let z : 23 ≡ 24 = clash _ 23 24 _ _ (other_form_ends u b p g) (name_ends u b f).1 in omega arith)
fault_one {u} {b} (long_name f) (broken_reference {p} g) = absurd (let z : 25 ≡ 24 = clash _ 25 24 _ _ (reference_ends u b p g) (name_ends u b f).1 in omega arith)
fault_one (long_name f) (long_name g) = refl
fault_one (long_name f) (other_byte x y z) = absurd (z f)
fault_one (other_byte x y z) (other_form {p} g) = absurd (x p g)
fault_one (other_byte x y z) (broken_reference {p} g) = absurd (y p g)
fault_one (other_byte x y z) (long_name g) = absurd (z g)
fault_one (other_byte x y z) (other_byte x' y' z') = refl

abbrev told : List Tag → Ending → Reading
told ts e = record { given = ts; ended = e }

pub reads_one : {s : List ℕ} {r r' : Reading} → Reads s r → Reads s r' → r ≡ r'
reads_one {s} (right {ts} x) (right {ts = ts'} y) = sym (right_finishes s ts x) ∙ right_finishes s ts' y
reads_one {s} (right {ts} x) (cut {ts = ts'} v n m) = absurd (n ts x)
reads_one {s} (right {ts} x) (refused u b rest d v n c m) = absurd (n (viable_before (u ++ (b ∷ [])) rest (viable_at (d ∙ sym (append_assoc u (b ∷ []) rest)) (right_viable s ts x))))
reads_one {s} (cut {ts} v n m) (right {ts = ts'} y) = absurd (n ts' y)
reads_one {s} (cut {ts} v n m) (cut {ts = ts'} v' n' m') = ap (λ (z : List Tag). told z (failed 21 (length s))) (tags_read_one s ts ts' m m')
reads_one {s} (cut {ts} v n m) (refused u b rest d v' n' c m') = absurd (n' (viable_before (u ++ (b ∷ [])) rest (viable_at (d ∙ sym (append_assoc u (b ∷ []) rest)) v)))
reads_one {s} (refused u b rest d v n c m) (right {ts} y) = absurd (n (viable_before (u ++ (b ∷ [])) rest (viable_at (d ∙ sym (append_assoc u (b ∷ []) rest)) (right_viable s ts y))))
reads_one {s} (refused u b rest d v n c m) (cut {ts = ts'} v' n' m') = absurd (n (viable_before (u ++ (b ∷ [])) rest (viable_at (d ∙ sym (append_assoc u (b ∷ []) rest)) v')))
reads_one {s} (refused {ts} {n} {p} u b rest d v o c m) (refused {ts = ts'} {n = n'} {p = p'} u' b' rest' d' v' o' c' m') = by (parted u u' b b' rest rest' (sym d ∙ d'))
  where
    by : ((u ≡ u') × (b ≡ b')) ⊎ (((w : List ℕ) × (u' ≡ (u ++ (b ∷ [])) ++ w)) ⊎ ((w : List ℕ) × (u ≡ (u' ++ (b' ∷ [])) ++ w))) → told ts (failed n p) ≡ told ts' (failed n' p')
    by (inl (e, f)) =
        ap (λ (z : List Tag). told z (failed n p)) (tags_read_one u ts ts' m (subst (λ (z : List ℕ). TagsRead z ts') (sym e) m'))
        ∙ ap (λ (z : Ending). told ts' z) (fault_one c (subst (λ (z : ℕ). FaultOf u z n' p') (sym f) (subst (λ (z : List ℕ). FaultOf z b' n' p') (sym e) c')))
    by (inr (inl (w, e))) = absurd (o (viable_before (u ++ (b ∷ [])) w (viable_at e v')))
    by (inr (inr (w, e))) = absurd (o' (viable_before (u' ++ (b' ∷ [])) w (viable_at e v)))

pub one_reading : OneReading
one_reading s r = (λ x. reads_one x (reads s), λ e. subst (λ (z : Reading). Reads s z) (sym e) (reads s))
