-- What the grammar says of a refused byte fixes how the reading ends.
use Rattle.std.proofs.Common.{◌≡◌, ℕ, suc, ◌+◌, ◌≤◌, Bool, true, cond, eqb, ltb, List, [], ◌∷◌, ◌++◌, length, codes, sym, refl, ap, ◌∙◌, subst, inl, inr, append_assoc, arith, length-append}
use Rattle.std.proofs.lemmas.Bool.{eq-eqb, ne_eqb, cond-true, cond-false, le-ltb}
use Rattle.name_bytes.specs.Names.{name_start, name_byte, all}
use Rattle.markup.specs.Grammar.{white, Name, name, Reference, amp, lt, gt, quot, apos, reference, chars, sign, opening, attributes, Tag}
use Rattle.markup.specs.Reading.{Where, text, value, Mode, in_content, ampersand, ampersand_a, awaiting, angle, bang, bang_hyphen, naming, spaced, naming_attribute, equals, naming_end, slash, Step, stop, in_text, next, failed, Reading, giving, read, reading}
use Rattle.markup.specs.Law.{ReferenceMayBegin, OtherForm, BreaksReference, ExceedsName}
use Rattle.markup.proofs.Names.{goes_on, starts}
use Rattle.markup.proofs.ByteClasses.{start_no_white, past, past_length}
use Rattle.markup.proofs.RightTexts.{step, moved, reads_right, names_start, names_end, names_attribute, stays_spaced, behind_white, reads_tag, reads_opening, past_append, past_opening, spelled_opening, opening_is, opens_quote, reads_chars}

abbrev Ends : List ℕ → ℕ → ℕ → Type 0
Ends s n p = (reading s).ended ≡ failed n p

-- another form
pub other_form_ends : (u : List ℕ) (b p : ℕ) → OtherForm u b p → Ends (u ++ (b ∷ [])) 23 p
other_form_ends u b p (v, ts, r, l, inl (e, f)) =
    ap (λ (z : List ℕ). (reading (z ++ (b ∷ []))).ended) e ∙ ap (λ (z : List ℕ). (reading z).ended) (append_assoc v (codes "<") (b ∷ []))
    ∙ ap (λ (z : Reading). z.ended) (reads_right v ts (60 ∷ (b ∷ [])) r)
    ∙ ap (λ (z : ℕ). (read (length v) in_text (60 ∷ (z ∷ []))).ended) f ∙ ap (λ (z : ℕ). failed 23 z) l
other_form_ends u b p (v, ts, r, l, inr (inl (e, f))) =
    ap (λ (z : List ℕ). (reading (z ++ (b ∷ []))).ended) e ∙ ap (λ (z : List ℕ). (reading z).ended) (append_assoc v (codes "<!") (b ∷ []))
    ∙ ap (λ (z : Reading). z.ended) (reads_right v ts (60 ∷ (33 ∷ (b ∷ []))) r)
    ∙ ap (λ (z : Reading). z.ended) (step (suc (suc (length v))) (bang (length v)) b [] (stop 23 (length v)) (cond-false (eqb b 45) _ _ (ne_eqb b 45 f))) ∙ ap (λ (z : ℕ). failed 23 z) l
other_form_ends u b p (v, ts, r, l, inr (inr (e, f))) =
    ap (λ (z : List ℕ). (reading (z ++ (b ∷ []))).ended) e ∙ ap (λ (z : List ℕ). (reading z).ended) (append_assoc v (codes "<!-") (b ∷ []))
    ∙ ap (λ (z : Reading). z.ended) (reads_right v ts (60 ∷ (33 ∷ (45 ∷ (b ∷ [])))) r)
    ∙ ap (λ (z : Reading). z.ended) (step (suc (suc (suc (length v)))) (bang_hyphen (length v)) b [] (stop 23 (length v)) (cond-false (eqb b 45) _ _ (ne_eqb b 45 f))) ∙ ap (λ (z : ℕ). failed 23 z) l

-- a name's 65th byte
abbrev Naming : (ℕ → Mode) → Type 0
Naming f =
    ((p k : ℕ) (xs rest : List ℕ) → all name_byte xs ≡ true → k + length xs ≤ 64 → read p (f k) (xs ++ rest) ≡ read (past p xs) (f (past k xs)) rest)
    × ((p k b : ℕ) → name_byte b ≡ true → 64 ≤ k → next p (f k) b ≡ stop 24 p)

full : (b : Bool) (k p : ℕ) (s t : Step) → b ≡ true → 64 ≤ k → cond b (cond (ltb k 64) s (stop 24 p)) t ≡ stop 24 p
full b k p s t h l = cond-true b _ t h ∙ cond-false (ltb k 64) s _ (le-ltb k 64 l)

over_full : (f : ℕ → Mode) → Naming f → (n : Name) (b p : ℕ) → length (name n) ≡ 64 → name_byte b ≡ true → (read p (f 1) (n.others ++ (b ∷ []))).ended ≡ failed 24 (past p n.others)
over_full f (g, s) n b p l h =
    let k : past 1 n.others ≡ 1 + length n.others = past_length 1 n.others in
    let l₁ : 1 + length n.others ≤ 64 = omega arith in
    let l₂ : 64 ≤ past 1 n.others = omega arith in
    ap (λ (z : Reading). z.ended) (g p 1 n.others (b ∷ []) (goes_on n) l₁ ∙ step (past p n.others) (f (past 1 n.others)) b [] (stop 24 (past p n.others)) (s (past p n.others) (past 1 n.others) b h l₂))

pub name_ends : (u : List ℕ) (b : ℕ) → ExceedsName u b → (p : ℕ) × Ends (u ++ (b ∷ [])) 24 p
name_ends u b (v, inl (v', ts, r, ev), n, e, l, h) = (
  _,
  ap (λ (z : List ℕ). (reading (z ++ (b ∷ []))).ended) (e ∙ ap (λ (z : List ℕ). z ++ name n) ev ∙ append_assoc v' (codes "<") (name n))
      ∙ ap (λ (z : List ℕ). (reading z).ended) (append_assoc v' (60 ∷ name n) (b ∷ []))
      ∙ ap (λ (z : Reading). z.ended) (reads_right v' ts (60 ∷ (name n ++ (b ∷ []))) r ∙ ap (λ (z : Reading). giving ts z) (moved (suc (length v')) (angle (length v')) (naming (length v') 1) n.first _ (cond-true (name_start n.first) _ _ (starts n))))
      ∙ over_full (naming (length v')) (names_start (length v'), λ p k b h l. full (name_byte b) k p _ _ h l) n b (suc (suc (length v'))) l h,
)
name_ends u b (v, inr (inl (v', ts, r, ev)), n, e, l, h) = (
  _,
  ap (λ (z : List ℕ). (reading (z ++ (b ∷ []))).ended) (e ∙ ap (λ (z : List ℕ). z ++ name n) ev ∙ append_assoc v' (codes "</") (name n))
      ∙ ap (λ (z : List ℕ). (reading z).ended) (append_assoc v' (60 ∷ (47 ∷ name n)) (b ∷ []))
      ∙ ap (λ (z : Reading). z.ended) (reads_right v' ts (60 ∷ (47 ∷ (name n ++ (b ∷ [])))) r ∙ ap (λ (z : Reading). giving ts z) (moved (suc (suc (length v'))) (slash (length v')) (naming_end (length v') 1) n.first _ (cond-true (name_start n.first) _ _ (starts n))))
      ∙ over_full (naming_end (length v')) (names_end (length v'), λ p k b h l. full (name_byte b) k p _ _ h l) n b (suc (suc (suc (length v')))) l h,
)
name_ends u b (v, inr (inr (n₀, ats, x, w, s, (v', ts, r, ev))), n, e, l, h) =
    let q = length v' in
    let rest = name n ++ (b ∷ []) in
    let t = reads_tag n₀ ats q (x ∷ (s.bytes ++ rest)) in
    let p₀ = past (past (suc q) (name n₀)) (attributes ats) in
    let p₁ = past (suc p₀) s.bytes in
    let whole : (60 ∷ (name n₀ ++ (attributes ats ++ (x ∷ s.bytes)))) ++ rest ≡ 60 ∷ (name n₀ ++ (attributes ats ++ (x ∷ (s.bytes ++ rest)))) =
    ap (λ (z : List ℕ). 60 ∷ z) (append_assoc (name n₀) (attributes ats ++ (x ∷ s.bytes)) rest ∙ ap (λ (z : List ℕ). name n₀ ++ z) (append_assoc (attributes ats) (x ∷ s.bytes) rest)) in (
      _,
      ap (λ (z : List ℕ). (reading (z ++ (b ∷ []))).ended) e ∙ ap (λ (z : List ℕ). (reading z).ended) (append_assoc v (name n) (b ∷ []) ∙ ap (λ (z : List ℕ). z ++ rest) ev ∙ append_assoc v' _ rest ∙ ap (λ (z : List ℕ). v' ++ z) whole)
          ∙ ap (λ (z : Reading). z.ended) (reads_right v' ts _ r ∙ ap (λ (z : Reading). giving ts z)
          (t.2
          ∙ moved p₀ t.0 (spaced q (length (name n₀))) x (s.bytes ++ rest) (behind_white t.0 q (length (name n₀)) t.1 p₀ x w)
          ∙ stays_spaced q (length (name n₀)) (suc p₀) s.bytes rest s.blank
          ∙ moved p₁ (spaced q (length (name n₀))) (naming_attribute q (length (name n₀)) 1) n.first (n.others ++ (b ∷ []))
          (cond-false (white n.first) _ _ (start_no_white n.first (starts n)) ∙ cond-true (name_start n.first) _ _ (starts n))))
          ∙ over_full (naming_attribute q (length (name n₀))) (names_attribute q (length (name n₀)), λ p k b h l. full (name_byte b) k p _ _ h l) n b (suc p₁) l h,
    )

-- where a reference may begin
pub refers_at : (v : List ℕ) → ReferenceMayBegin v → (w : Where) × (ts : List Tag) × ((e : List ℕ) → reading (v ++ e) ≡ giving ts (read (length v) (in_content w) e))
refers_at v (inl (ts, r)) = (text, ts, λ e. reads_right v ts e r)
refers_at v (inr (n, ats, o, q, cs, (v', ts, r, ev))) =
    let k = length (name n) in
    let p = length v' in
    let p₀ = past (past (suc p) (name n)) (attributes ats) in
    let p₁ = past_opening p₀ o in
    let tail : List ℕ = 60 ∷ (name n ++ (attributes ats ++ (opening o ++ (sign q ∷ chars cs)))) in
    let place : past (suc p₁) (chars cs) ≡ length v =
    (let z : past p tail ≡ past (suc p₁) (chars cs) = simp past_append in sym z) ∙ past_length p tail ∙ (let z : p + length tail ≡ length (v' ++ tail) = sym (length-append v' tail) in z) ∙ ap length (sym ev) in (
      value p k q,
      ts,
      λ e.
          let whole : tail ++ e ≡ 60 ∷ (name n ++ (attributes ats ++ spelled_opening o (sign q ∷ (chars cs ++ e)))) =
          ap (λ (z : List ℕ). 60 ∷ z) (append_assoc (name n) _ e ∙ ap (λ (z : List ℕ). name n ++ z) (append_assoc (attributes ats) _ e ∙ ap (λ (z : List ℕ). attributes ats ++ z) (append_assoc (opening o) _ e ∙ opening_is o _))) in
          let t = reads_tag n ats p (spelled_opening o (sign q ∷ (chars cs ++ e))) in
          ap (λ (z : List ℕ). reading z) (ap (λ (z : List ℕ). z ++ e) ev ∙ append_assoc v' tail e ∙ ap (λ (z : List ℕ). v' ++ z) whole)
          ∙ reads_right v' ts _ r
          ∙ ap (λ (z : Reading). giving ts z)
          (t.2
          ∙ reads_opening t.0 p k t.1 o p₀ (sign q ∷ (chars cs ++ e))
          ∙ moved p₁ (equals p k) (in_content (value p k q)) (sign q) (chars cs ++ e) (opens_quote p k p₁ q)
          ∙ reads_chars (value p k q) cs (suc p₁) e
          ∙ ap (λ (z : ℕ). read z (in_content (value p k q)) e) place),
    )

-- a reference that goes wrong
abbrev head : List ℕ → ℕ
head [] = 0
head (x ∷ xs) = x

abbrev tail : List ℕ → List ℕ
tail [] = []
tail (x ∷ xs) = xs

along : (y : List ℕ) (p at : ℕ) (w : Where) (x₀ : ℕ) (xs₀ : List ℕ) (x : ℕ) (z : List ℕ) (b : ℕ) → x₀ ∷ xs₀ ≡ y ++ (x ∷ z) → (b ≡ x → ⊥) → (read p (awaiting at w x₀ xs₀) (y ++ (b ∷ []))).ended ≡ failed 25 at
along [] p at w x₀ [] x z b e f = ap (λ (r : Reading). r.ended) (step p (awaiting at w x₀ []) b [] (stop 25 at) (cond-false (eqb b x₀) _ _ (ne_eqb b x₀ (λ g. f (g ∙ ap head e)))))
along [] p at w x₀ (x₁ ∷ xs₁) x z b e f = ap (λ (r : Reading). r.ended) (step p (awaiting at w x₀ (x₁ ∷ xs₁)) b [] (stop 25 at) (cond-false (eqb b x₀) _ _ (ne_eqb b x₀ (λ g. f (g ∙ ap head e)))))
along (c ∷ y) p at w x₀ [] x z b e f = absurd (let g : 0 ≡ length y + suc (length z) = ap length (ap tail e) ∙ length-append y (x ∷ z) in omega arith)
along (c ∷ y) p at w x₀ (x₁ ∷ xs₁) x z b e f =
    ap (λ (r : Reading). r.ended) (moved p (awaiting at w x₀ (x₁ ∷ xs₁)) (awaiting at w x₁ xs₁) c (y ++ (b ∷ [])) (cond-true (eqb c x₀) _ _ (eq-eqb c x₀ (sym (ap head e)))))
    ∙ along y (suc p) at w x₁ xs₁ x z b (ap tail e) f

-- the byte b behind `&` and y
abbrev Wrong : ℕ → Where → List ℕ → ℕ → Type 0
Wrong p w y b = (read (suc p) (ampersand p w) (y ++ (b ∷ []))).ended ≡ failed 25 p

abbrev None : List ℕ → ℕ → Type 0
None y b = (r : Reference) (z : List ℕ) → reference r ≡ (38 ∷ y) ++ (b ∷ z) → ⊥

-- what the byte would have had to be
not_that : (y : List ℕ) (b x : ℕ) (r : Reference) (z : List ℕ) → reference r ≡ (38 ∷ y) ++ (x ∷ z) → None y b → b ≡ x → ⊥
not_that y b x r z e no_one f = no_one r z (e ∙ ap (λ (c : ℕ). (38 ∷ y) ++ (c ∷ z)) (sym f))

wrong_first : (p b : ℕ) (w : Where) → None [] b → Wrong p w [] b
wrong_first p b w no_one =
    ap (λ (r : Reading). r.ended) (step (suc p) (ampersand p w) b [] (stop 25 p)
    (cond-false (eqb b 97) _ _ (ne_eqb b 97 (not_that [] b 97 amp (codes "mp;") refl no_one)) ∙ cond-false (eqb b 108) _ _ (ne_eqb b 108 (not_that [] b 108 lt (codes "t;") refl no_one))
    ∙ cond-false (eqb b 103) _ _ (ne_eqb b 103 (not_that [] b 103 gt (codes "t;") refl no_one)) ∙ cond-false (eqb b 113) _ _ (ne_eqb b 113 (not_that [] b 113 quot (codes "uot;") refl no_one))))

wrong_second : (p b : ℕ) (w : Where) → None (97 ∷ []) b → Wrong p w (97 ∷ []) b
wrong_second p b w no_one =
    ap (λ (r : Reading). r.ended) (step (suc (suc p)) (ampersand_a p w) b [] (stop 25 p)
    (cond-false (eqb b 109) _ _ (ne_eqb b 109 (not_that (97 ∷ []) b 109 amp (codes "p;") refl no_one)) ∙ cond-false (eqb b 112) _ _ (ne_eqb b 112 (not_that (97 ∷ []) b 112 apos (codes "os;") refl no_one))))

wrong : (p : ℕ) (w : Where) (y : List ℕ) (b : ℕ) (r : Reference) (x : ℕ) (z : List ℕ) → reference r ≡ (38 ∷ y) ++ (x ∷ z) → None y b → Wrong p w y b
wrong p w [] b r x z e no_one = wrong_first p b w no_one
wrong p w (c ∷ y) b lt x z e no_one =
    ap (λ (d : ℕ). (read (suc p) (ampersand p w) (d ∷ (y ++ (b ∷ [])))).ended) (sym (ap (λ l. head (tail l)) e)) ∙ along y (suc (suc p)) p w 116 (59 ∷ []) x z b (ap (λ l. tail (tail l)) e) (not_that (c ∷ y) b x lt z e no_one)
wrong p w (c ∷ y) b gt x z e no_one =
    ap (λ (d : ℕ). (read (suc p) (ampersand p w) (d ∷ (y ++ (b ∷ [])))).ended) (sym (ap (λ l. head (tail l)) e)) ∙ along y (suc (suc p)) p w 116 (59 ∷ []) x z b (ap (λ l. tail (tail l)) e) (not_that (c ∷ y) b x gt z e no_one)
wrong p w (c ∷ y) b quot x z e no_one =
    ap (λ (d : ℕ). (read (suc p) (ampersand p w) (d ∷ (y ++ (b ∷ [])))).ended) (sym (ap (λ l. head (tail l)) e)) ∙ along y (suc (suc p)) p w 117 (111 ∷ (116 ∷ (59 ∷ []))) x z b (ap (λ l. tail (tail l)) e) (not_that (c ∷ y) b x quot z e no_one)
wrong p w (c ∷ []) b amp x z e no_one = subst (λ (d : ℕ). Wrong p w (d ∷ []) b) (ap (λ l. head (tail l)) e) (wrong_second p b w (subst (λ (d : ℕ). None (d ∷ []) b) (sym (ap (λ l. head (tail l)) e)) no_one))
wrong p w (c ∷ []) b apos x z e no_one = subst (λ (d : ℕ). Wrong p w (d ∷ []) b) (ap (λ l. head (tail l)) e) (wrong_second p b w (subst (λ (d : ℕ). None (d ∷ []) b) (sym (ap (λ l. head (tail l)) e)) no_one))
wrong p w (c ∷ (d ∷ y)) b amp x z e no_one =
    ap (λ (i : ℕ). (read (suc p) (ampersand p w) (i ∷ (d ∷ (y ++ (b ∷ []))))).ended) (sym (ap (λ l. head (tail l)) e))
    ∙ ap (λ (i : ℕ). (read (suc (suc p)) (ampersand_a p w) (i ∷ (y ++ (b ∷ [])))).ended) (sym (ap (λ l. head (tail (tail l))) e))
    ∙ along y (suc (suc (suc p))) p w 112 (59 ∷ []) x z b (ap (λ l. tail (tail (tail l))) e) (not_that (c ∷ (d ∷ y)) b x amp z e no_one)
wrong p w (c ∷ (d ∷ y)) b apos x z e no_one =
    ap (λ (i : ℕ). (read (suc p) (ampersand p w) (i ∷ (d ∷ (y ++ (b ∷ []))))).ended) (sym (ap (λ l. head (tail l)) e))
    ∙ ap (λ (i : ℕ). (read (suc (suc p)) (ampersand_a p w) (i ∷ (y ++ (b ∷ [])))).ended) (sym (ap (λ l. head (tail (tail l))) e))
    ∙ along y (suc (suc (suc p))) p w 111 (115 ∷ (59 ∷ [])) x z b (ap (λ l. tail (tail (tail l))) e) (not_that (c ∷ (d ∷ y)) b x apos z e no_one)

starts_reference : (w : Where) (p : ℕ) (e : List ℕ) → read p (in_content w) (38 ∷ e) ≡ read (suc p) (ampersand p w) e
starts_reference text p e = refl
starts_reference (value at k q) p e = refl

pub reference_ends : (u : List ℕ) (b p : ℕ) → BreaksReference u b p → Ends (u ++ (b ∷ [])) 25 p
reference_ends u b p (v, rf, l, y, e, r, x, z, er, no_one) =
    let f = refers_at v rf in
    ap (λ (i : List ℕ). (reading (i ++ (b ∷ []))).ended) e ∙ ap (λ (i : List ℕ). (reading i).ended) (append_assoc v (38 ∷ y) (b ∷ []))
    ∙ ap (λ (i : Reading). i.ended) (f.2 ((38 ∷ y) ++ (b ∷ [])) ∙ ap (λ (i : Reading). giving f.1 i) (starts_reference f.0 (length v) (y ++ (b ∷ []))))
    ∙ wrong (length v) f.0 y b r x z er no_one
    ∙ ap (λ (i : ℕ). failed 25 i) l
