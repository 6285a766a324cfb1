-- What a byte does to what has been read.
use Rattle.std.proofs.Common.{◌≡◌, ℕ, suc, ◌+◌, ◌<◌, true, false, eqb, ltb, List, [], ◌∷◌, ◌++◌, length, get_or, codes, sym, refl, ap, ◌∙◌, subst, inl, inr, append_assoc, append-nil, arith, length-append}
use Rattle.std.proofs.lemmas.Bool.{and_from, eqb-true, eqb-false, ltb-true, ltb-false, cond_both}
use Rattle.name_bytes.specs.Names.{name_start, name_byte, all}
use Rattle.markup.specs.Grammar.{white, allowed, plain, Space, Name, name, Reference, amp, lt, gt, quot, apos, reference, Char, itself, referred, char, chars, Quote, single, double, sign, Opening, opening, Attribute, attributes, byte, hyphen, remarks, content, comment, starting, empty, ending, Tag, opens, closes, Right}
use Rattle.markup.specs.Reading.{Where, text, value, stop_of, Mode, in_content, ampersand, ampersand_a, awaiting, angle, bang, bang_hyphen, in_comment, one_hyphen, two_hyphens, naming, spaced, naming_attribute, attribute_named, equals, valued, slashed, slash, naming_end, end_spaced, go, on, in_text, shut, behind, end_shut, leave, equal, next}
use Rattle.markup.specs.Law.{NameMayBegin, ReferenceMayBegin}
use Rattle.markup.proofs.Names.{short}
use Rattle.markup.proofs.Begun.{space_none, space_more, name_one, name_more, chars_more, attributes_more, remarks_more, right_as, right_more, after_more, after_as, Started, started_as, started_more, Content, Sole, Begun, Reason, by_form, by_reference, by_name, by_byte_alone, Holds}

-- the ways of a step
on_holds : (ts : List Tag) (u : List ℕ) (b : ℕ) (m : Mode) → Begun m ts (u ++ (b ∷ [])) → Holds ts u b (on m)
on_holds ts u b m h = subst (λ (z : List Tag). Begun m z (u ++ (b ∷ []))) (sym (append-nil ts)) h

on_byte : (ts : List Tag) (u : List ℕ) (b n : ℕ) (m : Mode) → eqb b n ≡ true → Begun m ts (u ++ (n ∷ [])) → Holds ts u b (on m)
on_byte ts u b n m e h = on_holds ts u b m (subst (λ (z : ℕ). Begun m ts (u ++ (z ∷ []))) (sym (eqb-true b n e)) h)

go_byte : (ts : List Tag) (u : List ℕ) (b n : ℕ) (new : List Tag) → eqb b n ≡ true → Right (u ++ (n ∷ [])) (ts ++ new) → Holds ts u b (go in_text new)
go_byte ts u b n new e h = right_as h (ap (λ (z : ℕ). u ++ (z ∷ [])) (sym (eqb-true b n e))) refl

-- text and values
content_more : (w : Where) (ts : List Tag) (u : List ℕ) (c : Char (stop_of w)) → Content w ts u → Content w ts (u ++ char c)
content_more text ts u c h = right_as (right_more u ts (content c) h) refl (append-nil ts)
content_more (value at k q) ts u c (o, cs, st) = (
  o,
  cs ++ (c ∷ []),
  started_as at k ts _ _ _ (started_more at k ts _ u (char c) st)
      (append_assoc (opening o) (sign q ∷ chars cs) (char c) ∙ ap (λ (z : List ℕ). opening o ++ (sign q ∷ z)) (sym (chars_more cs c))),
)

refers : (w : Where) (ts : List Tag) (v : List ℕ) → Content w ts v → ReferenceMayBegin v
refers text ts v h = inl (ts, h)
refers (value at k q) ts v (o, cs, (n, l, ats, (v', r, l', e))) = inr (n, ats, o, q, cs, (v', ts, r, e))

closed : (at k : ℕ) (q : Quote) (ts : List Tag) (u : List ℕ) → Content (value at k q) ts u → Started at k ts [] (u ++ (sign q ∷ []))
closed at k q ts u (o, cs, (n, l, ats, a)) =
    let b : Attribute = record { opened = o; quote = q; value = cs } in
    let e : attributes (ats ++ (b ∷ [])) ++ [] ≡ attributes ats ++ (opening o ++ (sign q ∷ (chars cs ++ (sign q ∷ [])))) = append-nil _ ∙ attributes_more ats b in
    let f : (attributes ats ++ (opening o ++ (sign q ∷ chars cs))) ++ (sign q ∷ []) ≡ attributes ats ++ (opening o ++ (sign q ∷ (chars cs ++ (sign q ∷ [])))) =
    append_assoc (attributes ats) (opening o ++ (sign q ∷ chars cs)) (sign q ∷ []) ∙ ap (λ (z : List ℕ). attributes ats ++ z) (append_assoc (opening o) (sign q ∷ chars cs) (sign q ∷ [])) in (
      n,
      l,
      ats ++ (b ∷ []),
      after_as at ts _ _ _ (after_more at ts _ u (sign q ∷ []) a)
          (ap (λ (z : List ℕ). 60 ∷ z) (append_assoc (name n) (attributes ats ++ (opening o ++ (sign q ∷ chars cs))) (sign q ∷ []) ∙ ap (λ (z : List ℕ). name n ++ z) (f ∙ sym e))),
    )

-- references
ne : (b n : ℕ) → eqb b n ≡ false → (m : ℕ) → m ≡ n → m ≡ b → ⊥
ne b n h m e f = eqb-false b n h (sym f ∙ e)

none_begins : (b : ℕ) → eqb b 97 ≡ false → eqb b 108 ≡ false → eqb b 103 ≡ false → eqb b 113 ≡ false → (r : Reference) (z : List ℕ) → reference r ≡ 38 ∷ (b ∷ z) → ⊥
none_begins b ha hl hg hq amp z e = ne b 97 ha 97 refl (ap (λ (x : List ℕ). get_or x 1 0) e)
none_begins b ha hl hg hq lt z e = ne b 108 hl 108 refl (ap (λ (x : List ℕ). get_or x 1 0) e)
none_begins b ha hl hg hq gt z e = ne b 103 hg 103 refl (ap (λ (x : List ℕ). get_or x 1 0) e)
none_begins b ha hl hg hq quot z e = ne b 113 hq 113 refl (ap (λ (x : List ℕ). get_or x 1 0) e)
none_begins b ha hl hg hq apos z e = ne b 97 ha 97 refl (ap (λ (x : List ℕ). get_or x 1 0) e)

differ : (i m n : ℕ) (xs ys : List ℕ) → xs ≡ ys → get_or xs i 0 ≡ m → get_or ys i 0 ≡ n → (m ≡ n → ⊥) → ⊥
differ i m n xs ys e f g h = h (sym f ∙ ap (λ (x : List ℕ). get_or x i 0) e ∙ g)

none_begins_a : (b : ℕ) → eqb b 109 ≡ false → eqb b 112 ≡ false → (r : Reference) (z : List ℕ) → reference r ≡ 38 ∷ (97 ∷ (b ∷ z)) → ⊥
none_begins_a b hm hp amp z e = ne b 109 hm 109 refl (ap (λ (x : List ℕ). get_or x 2 0) e)
none_begins_a b hm hp lt z e = differ 1 108 97 _ _ e refl refl (λ x. omega arith)
none_begins_a b hm hp gt z e = differ 1 103 97 _ _ e refl refl (λ x. omega arith)
none_begins_a b hm hp quot z e = differ 1 113 97 _ _ e refl refl (λ x. omega arith)
none_begins_a b hm hp apos z e = ne b 112 hp 112 refl (ap (λ (x : List ℕ). get_or x 2 0) e)

sole_l : Sole lt (codes "&l")
sole_l amp z e = absurd (differ 1 97 108 _ _ e refl refl (λ x. omega arith))
sole_l lt z e = refl
sole_l gt z e = absurd (differ 1 103 108 _ _ e refl refl (λ x. omega arith))
sole_l quot z e = absurd (differ 1 113 108 _ _ e refl refl (λ x. omega arith))
sole_l apos z e = absurd (differ 1 97 108 _ _ e refl refl (λ x. omega arith))

sole_g : Sole gt (codes "&g")
sole_g amp z e = absurd (differ 1 97 103 _ _ e refl refl (λ x. omega arith))
sole_g lt z e = absurd (differ 1 108 103 _ _ e refl refl (λ x. omega arith))
sole_g gt z e = refl
sole_g quot z e = absurd (differ 1 113 103 _ _ e refl refl (λ x. omega arith))
sole_g apos z e = absurd (differ 1 97 103 _ _ e refl refl (λ x. omega arith))

sole_q : Sole quot (codes "&q")
sole_q amp z e = absurd (differ 1 97 113 _ _ e refl refl (λ x. omega arith))
sole_q lt z e = absurd (differ 1 108 113 _ _ e refl refl (λ x. omega arith))
sole_q gt z e = absurd (differ 1 103 113 _ _ e refl refl (λ x. omega arith))
sole_q quot z e = refl
sole_q apos z e = absurd (differ 1 97 113 _ _ e refl refl (λ x. omega arith))

sole_am : Sole amp (codes "&am")
sole_am amp z e = refl
sole_am lt z e = absurd (differ 1 108 97 _ _ e refl refl (λ x. omega arith))
sole_am gt z e = absurd (differ 1 103 97 _ _ e refl refl (λ x. omega arith))
sole_am quot z e = absurd (differ 1 113 97 _ _ e refl refl (λ x. omega arith))
sole_am apos z e = absurd (differ 2 112 109 _ _ e refl refl (λ x. omega arith))

sole_ap : Sole apos (codes "&ap")
sole_ap amp z e = absurd (differ 2 109 112 _ _ e refl refl (λ x. omega arith))
sole_ap lt z e = absurd (differ 1 108 97 _ _ e refl refl (λ x. omega arith))
sole_ap gt z e = absurd (differ 1 103 97 _ _ e refl refl (λ x. omega arith))
sole_ap quot z e = absurd (differ 1 113 97 _ _ e refl refl (λ x. omega arith))
sole_ap apos z e = refl

same_next : (y : List ℕ) (b x : ℕ) (zs xs : List ℕ) → y ++ (b ∷ zs) ≡ y ++ (x ∷ xs) → b ≡ x
same_next [] b x zs xs e = ap (λ (l : List ℕ). get_or l 0 0) e
same_next (c ∷ y) b x zs xs e = same_next y b x zs xs (ap tail e)
  where
    tail : List ℕ → List ℕ
    tail [] = []
    tail (a ∷ l) = l

not_owed : (at b x : ℕ) (w : Where) (xs : List ℕ) (ts : List Tag) (u : List ℕ) → eqb b x ≡ false → Begun (awaiting at w x xs) ts u → Reason u b 25 at
not_owed at b x w xs ts u h (v, cv, l, y, e, r, er, so) =
    by_reference (v, refers w ts v cv, l, y, e, r, x, xs, er, λ r' z' f. eqb-false b x h (same_next (38 ∷ y) b x z' xs (sym f ∙ so r' (b ∷ z') f ∙ er)))

-- the end of a start tag, behind white space or none
shut_holds : (at k : ℕ) (ts : List Tag) (u : List ℕ) (b : ℕ) (s : Space) → Started at k ts s.bytes u → Holds ts u b (shut at k (length u) b)
shut_holds at k ts u b s st =
    cond_both (eqb b 47) _ _ (Holds ts u b) (λ h. on_byte ts u b 47 (slashed at k) h (s, started_more at k ts s.bytes u (47 ∷ []) st))
    (λ _. cond_both (eqb b 62) _ _ (Holds ts u b) (λ h. go_byte ts u b 62 (opens at (at + 1) k ∷ []) h (shut_right st)) (λ _. by_byte_alone))
  where
    shut_right : Started at k ts s.bytes u → Right (u ++ (62 ∷ [])) (ts ++ (opens at (at + 1) k ∷ []))
    shut_right (n, l, ats, (v, r, lv, e)) =
        right_as (right_more v ts (starting n ats s) r)
        (sym (ap (λ (z : List ℕ). z ++ (62 ∷ [])) e ∙ append_assoc v _ (62 ∷ []) ∙ ap (λ (z : List ℕ). v ++ (60 ∷ z)) (append_assoc (name n) (attributes ats ++ s.bytes) (62 ∷ []) ∙ ap (λ (z : List ℕ). name n ++ z) (append_assoc (attributes ats) s.bytes (62 ∷ [])))))
        (ap (λ (z : ℕ). ts ++ (opens z (z + 1) (length (name n)) ∷ [])) lv ∙ ap (λ (z : ℕ). ts ++ (opens at (at + 1) z ∷ [])) l)

slashed_right : (at k : ℕ) (ts : List Tag) (u : List ℕ) (s : Space) → Started at k ts (s.bytes ++ codes "/") u → Right (u ++ (62 ∷ [])) (ts ++ (opens at (at + 1) k ∷ (closes at (at + 1) k ∷ [])))
slashed_right at k ts u s (n, l, ats, (v, r, lv, e)) =
    right_as (right_more v ts (empty n ats s) r)
    (sym (ap (λ (z : List ℕ). z ++ (62 ∷ [])) e ∙ append_assoc v _ (62 ∷ []) ∙ ap (λ (z : List ℕ). v ++ (60 ∷ z)) (append_assoc (name n) (attributes ats ++ (s.bytes ++ codes "/")) (62 ∷ []) ∙ ap (λ (z : List ℕ). name n ++ z) (append_assoc (attributes ats) (s.bytes ++ codes "/") (62 ∷ []) ∙ ap (λ (z : List ℕ). attributes ats ++ z) (append_assoc s.bytes (codes "/") (62 ∷ []))))))
    (ap (λ (z : ℕ). ts ++ (opens z (z + 1) (length (name n)) ∷ (closes z (z + 1) (length (name n)) ∷ []))) lv ∙ ap (λ (z : ℕ). ts ++ (opens at (at + 1) z ∷ (closes at (at + 1) z ∷ []))) l)

behind_holds : (at k : ℕ) (ts : List Tag) (u : List ℕ) (b : ℕ) → Started at k ts [] u → Holds ts u b (behind at k (length u) b)
behind_holds at k ts u b st =
    cond_both (white b) _ _ (Holds ts u b) (λ h. on_holds ts u b (spaced at k) (b, h, space_none, started_more at k ts [] u (b ∷ []) st)) (λ _. shut_holds at k ts u b space_none st)

bare : (at k : ℕ) (ts : List Tag) (u : List ℕ) → Begun (naming at k) ts u → Started at k ts [] u
bare at k ts u (n, l, a) = (n, l, [], after_as at ts _ _ u a (ap (λ (z : List ℕ). 60 ∷ z) (sym (append-nil (name n)))))

end_shut_holds : (at k : ℕ) (ts : List Tag) (u : List ℕ) (b : ℕ) → Begun (end_spaced at k) ts u → Holds ts u b (end_shut at k (length u) b)
end_shut_holds at k ts u b (n, l, s, (v, r, lv, e)) =
    cond_both (white b) _ _ (Holds ts u b)
    (λ h. on_holds ts u b (end_spaced at k) (n, l, space_more s b h, after_as at ts _ _ _ (after_more at ts _ u (b ∷ []) (v, r, lv, e)) (ap (λ (z : List ℕ). 60 ∷ (47 ∷ z)) (append_assoc (name n) s.bytes (b ∷ [])))))
    (λ _. cond_both (eqb b 62) _ _ (Holds ts u b)
    (λ h. go_byte ts u b 62 (closes at (at + 2) k ∷ []) h
    (right_as (right_more v ts (ending n s) r)
    (sym (ap (λ (z : List ℕ). z ++ (62 ∷ [])) e ∙ append_assoc v _ (62 ∷ []) ∙ ap (λ (z : List ℕ). v ++ (60 ∷ (47 ∷ z))) (append_assoc (name n) s.bytes (62 ∷ []))))
    (ap (λ (z : ℕ). ts ++ (closes z (z + 2) (length (name n)) ∷ [])) lv ∙ ap (λ (z : ℕ). ts ++ (closes at (at + 2) z ∷ [])) l)))
    (λ _. by_byte_alone))

ended : (at k : ℕ) (ts : List Tag) (u : List ℕ) → Begun (naming_end at k) ts u → Begun (end_spaced at k) ts u
ended at k ts u (n, l, a) = (n, l, space_none, after_as at ts _ _ u a (ap (λ (z : List ℕ). 60 ∷ (47 ∷ z)) (sym (append-nil (name n)))))

-- an attribute up to its `=`
opened_by : (x : ℕ) → white x ≡ true → Space → Name → Space → Opening
opened_by x h s n t = record { apart = x; is_white = h; space = s; named = n; before = t; behind = space_none }

equal_holds : (at k : ℕ) (ts : List Tag) (u : List ℕ) (b : ℕ) → Begun (attribute_named at k) ts u → Holds ts u b (equal at k (length u) b)
unfolding opened_by
equal_holds at k ts u b (x, h, s, n, t, st) =
    cond_both (eqb b 61) _ _ (Holds ts u b)
    (λ e. on_byte ts u b 61 (equals at k) e (
      opened_by x h s n t,
      started_as at k ts _ _ _ (started_more at k ts _ u (61 ∷ []) st)
          (append_assoc (x ∷ s.bytes) (name n ++ t.bytes) (61 ∷ []) ∙ ap (λ (z : List ℕ). (x ∷ s.bytes) ++ z) (append_assoc (name n) t.bytes (61 ∷ []))),
    ))
    (λ _. by_byte_alone)

named_more : (at k : ℕ) (ts : List Tag) (u : List ℕ) (b : ℕ) → white b ≡ true → Begun (attribute_named at k) ts u → Begun (attribute_named at k) ts (u ++ (b ∷ []))
named_more at k ts u b w (x, h, s, n, t, st) = (
  x,
  h,
  s,
  n,
  space_more t b w,
  started_as at k ts _ _ _ (started_more at k ts _ u (b ∷ []) st)
      (append_assoc (x ∷ s.bytes) (name n ++ t.bytes) (b ∷ []) ∙ ap (λ (z : List ℕ). (x ∷ s.bytes) ++ z) (append_assoc (name n) t.bytes (b ∷ []))),
)

just_named : (at k j : ℕ) (ts : List Tag) (u : List ℕ) → Begun (naming_attribute at k j) ts u → Begun (attribute_named at k) ts u
just_named at k j ts u (x, h, s, n, l, st) = (x, h, s, n, space_none, started_as at k ts _ _ u st (ap (λ (z : List ℕ). (x ∷ s.bytes) ++ z) (sym (append-nil (name n)))))

-- the 65th byte
too_long : (u v : List ℕ) (b k : ℕ) (n : Name) → NameMayBegin v → u ≡ v ++ name n → length (name n) ≡ k → ltb k 64 ≡ false → name_byte b ≡ true → Reason u b 24 (length u)
too_long u v b k n nv e l h ok = by_name (v, nv, n, e, (let s = short n in let g = ltb-false k 64 h in omega arith), ok)

longer : (n : Name) (k b : ℕ) → length (name n) ≡ k → length (n.others ++ (b ∷ [])) ≡ k
longer n k b l = simp length-append (omega arith)

below : (n : Name) (k : ℕ) → length (name n) ≡ k → ltb k 64 ≡ true → length (name n) < 64
below n k l h = let g = ltb-true k 64 h in omega arith

left : (v w xs u : List ℕ) → u ≡ v ++ w → u ++ xs ≡ v ++ (w ++ xs)
left v w xs u e = ap (λ (z : List ℕ). z ++ xs) e ∙ append_assoc v w xs

-- what has been read stays so, or the byte is rightly refused
pub holds : (m : Mode) (ts : List Tag) (u : List ℕ) (b : ℕ) → Begun m ts u → Holds ts u b (next (length u) m b)
holds (in_content w) ts u b st =
    cond_both (plain (stop_of w) b) _ _ (Holds ts u b) (λ h. on_holds ts u b (in_content w) (content_more w ts u (itself b h) st))
    (λ _. cond_both (eqb b 38) _ _ (Holds ts u b) (λ h. on_byte ts u b 38 (ampersand (length u) w) h (u, st, refl, refl)) (λ _. leaves w st))
  where
    leaves : (w : Where) → Content w ts u → Holds ts u b (leave w (length u) b)
    leaves text st = cond_both (eqb b 60) _ _ (Holds ts u b) (λ h. on_byte ts u b 60 (angle (length u)) h (u, st, refl, refl)) (λ _. by_byte_alone)
    leaves (value at k q) st = cond_both (eqb b (sign q)) _ _ (Holds ts u b) (λ h. on_byte ts u b (sign q) (valued at k) h (closed at k q ts u st)) (λ _. by_byte_alone)
holds (ampersand at w) ts u b (v, cv, l, e) =
    cond_both (eqb b 97) _ _ (Holds ts u b) (λ h. on_byte ts u b 97 (ampersand_a at w) h (v, cv, l, left v (codes "&") (97 ∷ []) u e))
    (λ ha. cond_both (eqb b 108) _ _ (Holds ts u b) (λ h. on_byte ts u b 108 (awaiting at w 116 (59 ∷ [])) h (v, cv, l, 108 ∷ [], left v (codes "&") (108 ∷ []) u e, lt, refl, sole_l))
    (λ hl. cond_both (eqb b 103) _ _ (Holds ts u b) (λ h. on_byte ts u b 103 (awaiting at w 116 (59 ∷ [])) h (v, cv, l, 103 ∷ [], left v (codes "&") (103 ∷ []) u e, gt, refl, sole_g))
    (λ hg. cond_both (eqb b 113) _ _ (Holds ts u b) (λ h. on_byte ts u b 113 (awaiting at w 117 (111 ∷ (116 ∷ (59 ∷ [])))) h (v, cv, l, 113 ∷ [], left v (codes "&") (113 ∷ []) u e, quot, refl, sole_q))
    (λ hq. by_reference (v, refers w ts v cv, l, [], e, amp, 97, codes "mp;", refl, none_begins b ha hl hg hq)))))
holds (ampersand_a at w) ts u b (v, cv, l, e) =
    cond_both (eqb b 109) _ _ (Holds ts u b) (λ h. on_byte ts u b 109 (awaiting at w 112 (59 ∷ [])) h (v, cv, l, 97 ∷ (109 ∷ []), left v (codes "&a") (109 ∷ []) u e, amp, refl, sole_am))
    (λ hm. cond_both (eqb b 112) _ _ (Holds ts u b) (λ h. on_byte ts u b 112 (awaiting at w 111 (115 ∷ (59 ∷ []))) h (v, cv, l, 97 ∷ (112 ∷ []), left v (codes "&a") (112 ∷ []) u e, apos, refl, sole_ap))
    (λ hp. by_reference (v, refers w ts v cv, l, 97 ∷ [], e, amp, 109, codes "p;", refl, none_begins_a b hm hp)))
holds (awaiting at w x []) ts u b (v, cv, l, y, e, r, er, so) =
    cond_both (eqb b x) _ _ (Holds ts u b)
    (λ h. on_byte ts u b x (in_content w) h (subst (λ (z : List ℕ). Content w ts z) (sym (left v (38 ∷ y) (x ∷ []) u e ∙ ap (λ (z : List ℕ). v ++ z) (sym er))) (content_more w ts v (referred r) cv)))
    (λ h. not_owed at b x w [] ts u h (v, cv, l, y, e, r, er, so))
holds (awaiting at w x (z ∷ zs)) ts u b (v, cv, l, y, e, r, er, so) =
    cond_both (eqb b x) _ _ (Holds ts u b)
    (λ h. on_byte ts u b x (awaiting at w z zs) h
    (v, cv, l, y ++ (x ∷ []), left v (38 ∷ y) (x ∷ []) u e, r, er ∙ sym (append_assoc (38 ∷ y) (x ∷ []) (z ∷ zs)), λ r' t f. so r' (x ∷ t) (f ∙ append_assoc (38 ∷ y) (x ∷ []) t)))
    (λ h. not_owed at b x w (z ∷ zs) ts u h (v, cv, l, y, e, r, er, so))
holds (angle at) ts u b (v, r, l, e) =
    cond_both (name_start b) _ _ (Holds ts u b) (λ h. on_holds ts u b (naming at 1) (name_one b h, refl, (v, r, l, left v (codes "<") (b ∷ []) u e)))
    (λ _. cond_both (eqb b 47) _ _ (Holds ts u b) (λ h. on_byte ts u b 47 (slash at) h (v, r, l, left v (codes "<") (47 ∷ []) u e))
    (λ _. cond_both (eqb b 33) _ _ (Holds ts u b) (λ h. on_byte ts u b 33 (bang at) h (v, r, l, left v (codes "<") (33 ∷ []) u e))
    (λ _. cond_both (eqb b 63) _ _ (Holds ts u b) (λ h. by_form (v, ts, r, l, inl (e, eqb-true b 63 h))) (λ _. by_byte_alone))))
holds (bang at) ts u b (v, r, l, e) =
    cond_both (eqb b 45) _ _ (Holds ts u b) (λ h. on_byte ts u b 45 (bang_hyphen at) h (v, r, l, left v (codes "<!") (45 ∷ []) u e)) (λ h. by_form (v, ts, r, l, inr (inl (e, eqb-false b 45 h))))
holds (bang_hyphen at) ts u b (v, r, l, e) =
    cond_both (eqb b 45) _ _ (Holds ts u b) (λ h. on_byte ts u b 45 in_comment h (at, [], (v, r, l, left v (codes "<!-") (45 ∷ []) u e))) (λ h. by_form (v, ts, r, l, inr (inr (e, eqb-false b 45 h))))
holds in_comment ts u b (at, cs, (v, r, l, e)) =
    cond_both (eqb b 45) _ _ (Holds ts u b) (λ h. on_byte ts u b 45 one_hyphen h (at, cs, (v, r, l, left v (codes "<!--" ++ remarks cs) (45 ∷ []) u e)))
    (λ n. cond_both (allowed b) _ _ (Holds ts u b)
    (λ ok. on_holds ts u b in_comment (at, cs ++ (byte b n ok ∷ []), (v, r, l, left v (codes "<!--" ++ remarks cs) (b ∷ []) u e ∙ ap (λ (z : List ℕ). v ++ (codes "<!--" ++ z)) (sym (remarks_more cs (byte b n ok))))))
    (λ _. by_byte_alone))
holds one_hyphen ts u b (at, cs, (v, r, l, e)) =
    cond_both (eqb b 45) _ _ (Holds ts u b)
    (λ h. on_byte ts u b 45 two_hyphens h (at, cs, (v, r, l, left v (codes "<!--" ++ (remarks cs ++ codes "-")) (45 ∷ []) u e ∙ ap (λ (z : List ℕ). v ++ (codes "<!--" ++ z)) (append_assoc (remarks cs) (codes "-") (45 ∷ [])))))
    (λ n. cond_both (allowed b) _ _ (Holds ts u b)
    (λ ok. on_holds ts u b in_comment (
      at,
      cs ++ (hyphen b n ok ∷ []),
      (
        v,
        r,
        l,
        left v (codes "<!--" ++ (remarks cs ++ codes "-")) (b ∷ []) u e
            ∙ ap (λ (z : List ℕ). v ++ (codes "<!--" ++ z)) (append_assoc (remarks cs) (codes "-") (b ∷ []) ∙ sym (remarks_more cs (hyphen b n ok))),
      ),
    ))
    (λ _. by_byte_alone))
holds two_hyphens ts u b (at, cs, (v, r, l, e)) =
    cond_both (eqb b 62) _ _ (Holds ts u b)
    (λ h. go_byte ts u b 62 [] h (right_as (right_more v ts (comment cs) r)
    (sym (left v (codes "<!--" ++ (remarks cs ++ codes "--")) (62 ∷ []) u e ∙ ap (λ (z : List ℕ). v ++ (codes "<!--" ++ z)) (append_assoc (remarks cs) (codes "--") (62 ∷ [])))) refl))
    (λ _. by_byte_alone)
holds (naming at k) ts u b (n, l, (v, r, lv, e)) =
    cond_both (name_byte b) _ _ (Holds ts u b)
    (λ h. cond_both (ltb k 64) _ _ (Holds ts u b)
    (λ g. on_holds ts u b (naming at (suc k)) (name_more n b h (below n k l g), ap suc (longer n k b l), (v, r, lv, left v (60 ∷ name n) (b ∷ []) u e)))
    (λ g. too_long u (v ++ codes "<") b k n (inl (v, ts, r, refl)) (e ∙ sym (append_assoc v (codes "<") (name n))) l g h))
    (λ _. behind_holds at k ts u b (bare at k ts u (n, l, (v, r, lv, e))))
holds (spaced at k) ts u b (x, h, s, st) =
    cond_both (white b) _ _ (Holds ts u b) (λ w. on_holds ts u b (spaced at k) (x, h, space_more s b w, started_more at k ts (x ∷ s.bytes) u (b ∷ []) st))
    (λ _. cond_both (name_start b) _ _ (Holds ts u b)
    (λ g. on_holds ts u b (naming_attribute at k 1) (x, h, s, name_one b g, refl, started_more at k ts (x ∷ s.bytes) u (b ∷ []) st))
    (λ _. shut_holds at k ts u b (record { bytes = x ∷ s.bytes; blank = and_from (white x) (all white s.bytes) h s.blank }) st))
holds (naming_attribute at k j) ts u b (x, h, s, n, l, (n₀, l₀, ats, (v, r, lv, e))) =
    cond_both (name_byte b) _ _ (Holds ts u b)
    (λ g. cond_both (ltb j 64) _ _ (Holds ts u b)
    (λ c. on_holds ts u b (naming_attribute at k (suc j)) (
      x,
      h,
      s,
      name_more n b g (below n j l c),
      ap suc (longer n j b l),
      started_as at k ts _ _ _ (started_more at k ts ((x ∷ s.bytes) ++ name n) u (b ∷ []) (n₀, l₀, ats, (v, r, lv, e))) (append_assoc (x ∷ s.bytes) (name n) (b ∷ [])),
    ))
    (λ c. too_long u (v ++ (60 ∷ (name n₀ ++ (attributes ats ++ (x ∷ s.bytes))))) b j n (inr (inr (n₀, ats, x, h, s, (v, ts, r, refl))))
    (e ∙ sym (append_assoc v (60 ∷ (name n₀ ++ (attributes ats ++ (x ∷ s.bytes)))) (name n)
    ∙ ap (λ (z : List ℕ). v ++ (60 ∷ z)) (append_assoc (name n₀) (attributes ats ++ (x ∷ s.bytes)) (name n) ∙ ap (λ (z : List ℕ). name n₀ ++ z) (append_assoc (attributes ats) (x ∷ s.bytes) (name n))))) l c g))
    (λ _. cond_both (white b) _ _ (Holds ts u b)
    (λ w. on_holds ts u b (attribute_named at k) (named_more at k ts u b w (just_named at k j ts u (x, h, s, n, l, (n₀, l₀, ats, (v, r, lv, e))))))
    (λ _. equal_holds at k ts u b (just_named at k j ts u (x, h, s, n, l, (n₀, l₀, ats, (v, r, lv, e))))))
holds (attribute_named at k) ts u b st =
    cond_both (white b) _ _ (Holds ts u b) (λ w. on_holds ts u b (attribute_named at k) (named_more at k ts u b w st)) (λ _. equal_holds at k ts u b st)
holds (equals at k) ts u b (o, st) =
    cond_both (white b) _ _ (Holds ts u b)
    (λ w. on_holds ts u b (equals at k) (
      record { apart = o.apart; is_white = o.is_white; space = o.space; named = o.named; before = o.before; behind = space_more o.behind b w },
      started_as at k ts _ _ _ (started_more at k ts (opening o) u (b ∷ []) st)
          (append_assoc (o.apart ∷ o.space.bytes) (name o.named ++ (o.before.bytes ++ (61 ∷ o.behind.bytes))) (b ∷ [])
          ∙ ap (λ (z : List ℕ). (o.apart ∷ o.space.bytes) ++ z) (append_assoc (name o.named) (o.before.bytes ++ (61 ∷ o.behind.bytes)) (b ∷ [])
          ∙ ap (λ (z : List ℕ). name o.named ++ z) (append_assoc o.before.bytes (61 ∷ o.behind.bytes) (b ∷ [])))),
    ))
    (λ _. cond_both (eqb b 34) _ _ (Holds ts u b) (λ h. on_byte ts u b 34 (in_content (value at k double)) h (o, [], started_more at k ts (opening o) u (34 ∷ []) st))
    (λ _. cond_both (eqb b 39) _ _ (Holds ts u b) (λ h. on_byte ts u b 39 (in_content (value at k single)) h (o, [], started_more at k ts (opening o) u (39 ∷ []) st)) (λ _. by_byte_alone)))
holds (valued at k) ts u b st = behind_holds at k ts u b st
holds (slashed at k) ts u b (s, st) =
    cond_both (eqb b 62) _ _ (Holds ts u b) (λ h. go_byte ts u b 62 (opens at (at + 1) k ∷ (closes at (at + 1) k ∷ [])) h (slashed_right at k ts u s st)) (λ _. by_byte_alone)
holds (slash at) ts u b (v, r, l, e) =
    cond_both (name_start b) _ _ (Holds ts u b) (λ h. on_holds ts u b (naming_end at 1) (name_one b h, refl, (v, r, l, left v (codes "</") (b ∷ []) u e))) (λ _. by_byte_alone)
holds (naming_end at k) ts u b (n, l, (v, r, lv, e)) =
    cond_both (name_byte b) _ _ (Holds ts u b)
    (λ h. cond_both (ltb k 64) _ _ (Holds ts u b)
    (λ g. on_holds ts u b (naming_end at (suc k)) (name_more n b h (below n k l g), ap suc (longer n k b l), (v, r, lv, left v (60 ∷ (47 ∷ name n)) (b ∷ []) u e)))
    (λ g. too_long u (v ++ codes "</") b k n (inr (inl (v, ts, r, refl))) (e ∙ sym (append_assoc v (codes "</") (name n))) l g h))
    (λ _. end_shut_holds at k ts u b (ended at k ts u (n, l, (v, r, lv, e))))
holds (end_spaced at k) ts u b st = end_shut_holds at k ts u b st
