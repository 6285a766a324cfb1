-- A reading from its first byte to its end.
use Rattle.std.proofs.Common.{◌≡◌, ℕ, suc, ◌≤◌, eqb, List, [], ◌∷◌, ◌++◌, length, codes, sym, refl, ap, ◌∙◌, subst, append_assoc, append-nil, arith, length-append}
use Rattle.std.proofs.lemmas.Bool.{eq-eqb, cond-true}
use Rattle.markup.specs.Grammar.{single, double, sign, Tag, Right, Viable}
use Rattle.markup.specs.Reading.{Where, text, value, Mode, in_content, ampersand, ampersand_a, awaiting, angle, bang, bang_hyphen, in_comment, one_hyphen, two_hyphens, naming, spaced, naming_attribute, attribute_named, equals, valued, slashed, slash, naming_end, end_spaced, Step, go, stop, in_text, next, Ending, finish, failed, Reading, giving, over, carried, read, reading}
use Rattle.markup.specs.Law.{TagsRead}
use Rattle.markup.proofs.RightTexts.{moved, giving_giving, reads_right}
use Rattle.markup.proofs.Begun.{After, Content, Begun, Reason, by_form, by_reference, by_name, by_byte_alone, Holds}
use Rattle.markup.proofs.Steps.{holds}

-- from u on the reading goes on in the mode m
abbrev pub Track : Mode → List Tag → List ℕ → Type 0
Track m ts u = (e : List ℕ) → reading (u ++ e) ≡ giving ts (read (length u) m e)

pub data Outcome (s : List ℕ) : Reading → Type 0 where
  o_right : {ts : List Tag} → Right s ts → Outcome s (record { given = ts; ended = finish })
  o_cut : {ts : List Tag} (m : Mode) → Begun m ts s → Track m ts s → Outcome s (record { given = ts; ended = failed 21 (length s) })
  o_refused : {ts : List Tag} {n p : ℕ} (u : List ℕ) (b : ℕ) (rest : List ℕ) (m : Mode) → s ≡ u ++ (b ∷ rest) → Begun m ts u → Track m ts u → next (length u) m b ≡ stop n p → Reason u b n p →
      Outcome s (record { given = ts; ended = failed n p })

outcome_as : {s s' : List ℕ} {r r' : Reading} → s ≡ s' → r ≡ r' → Outcome s r → Outcome s' r'
outcome_as {s} {s'} {r} {r'} e f o = subst (λ (z : Reading). Outcome s' z) f (subst (λ (z : List ℕ). Outcome z r) e o)

abbrev told : List Tag → Ending → Reading
told ts e = record { given = ts; ended = e }

last : (m : Mode) (ts : List Tag) (u : List ℕ) → Begun m ts u → Track m ts u → Outcome u (told ts (over m (length u)))
last (in_content text) ts u g t = o_right g
last (in_content (value at k q)) ts u g t = o_cut (in_content (value at k q)) g t
last (ampersand at w) ts u g t = o_cut (ampersand at w) g t
last (ampersand_a at w) ts u g t = o_cut (ampersand_a at w) g t
last (awaiting at w x xs) ts u g t = o_cut (awaiting at w x xs) g t
last (angle at) ts u g t = o_cut (angle at) g t
last (bang at) ts u g t = o_cut (bang at) g t
last (bang_hyphen at) ts u g t = o_cut (bang_hyphen at) g t
last in_comment ts u g t = o_cut in_comment g t
last one_hyphen ts u g t = o_cut one_hyphen g t
last two_hyphens ts u g t = o_cut two_hyphens g t
last (naming at k) ts u g t = o_cut (naming at k) g t
last (spaced at k) ts u g t = o_cut (spaced at k) g t
last (naming_attribute at k j) ts u g t = o_cut (naming_attribute at k j) g t
last (attribute_named at k) ts u g t = o_cut (attribute_named at k) g t
last (equals at k) ts u g t = o_cut (equals at k) g t
last (valued at k) ts u g t = o_cut (valued at k) g t
last (slashed at k) ts u g t = o_cut (slashed at k) g t
last (slash at) ts u g t = o_cut (slash at) g t
last (naming_end at k) ts u g t = o_cut (naming_end at k) g t
last (end_spaced at k) ts u g t = o_cut (end_spaced at k) g t

one_longer : (u : List ℕ) (b : ℕ) → length (u ++ (b ∷ [])) ≡ suc (length u)
one_longer u b = simp length-append (omega arith)

pub tracked : (bs : List ℕ) (m : Mode) (ts : List Tag) (u : List ℕ) → Begun m ts u → Track m ts u → Outcome (u ++ bs) (giving ts (read (length u) m bs))
tracked [] m ts u g t = outcome_as (sym (append-nil u)) (ap (λ (z : List Tag). told z (over m (length u))) (sym (append-nil ts))) (last m ts u g t)
tracked (b ∷ bs) m ts u g t = further (λ m' ts' u'. tracked bs m' ts' u') (next (length u) m b) refl (holds m ts u b g)
  where
    further : ((m' : Mode) (ts' : List Tag) (u' : List ℕ) → Begun m' ts' u' → Track m' ts' u' → Outcome (u' ++ bs) (giving ts' (read (length u') m' bs))) →
        (s : Step) → next (length u) m b ≡ s → Holds ts u b s → Outcome (u ++ (b ∷ bs)) (giving ts (carried s (λ m'. read (suc (length u)) m' bs)))
    further rec (go m' new) e h =
        outcome_as (append_assoc u (b ∷ []) bs)
        (ap (λ (k : ℕ). giving (ts ++ new) (read k m' bs)) (one_longer u b) ∙ sym (giving_giving ts new (read (suc (length u)) m' bs)))
        (rec m' (ts ++ new) (u ++ (b ∷ [])) h
        (λ x. ap (λ (z : List ℕ). reading z) (append_assoc u (b ∷ []) x) ∙ t (b ∷ x) ∙ ap (λ (s : Step). giving ts (carried s (λ m''. read (suc (length u)) m'' x))) e
        ∙ giving_giving ts new (read (suc (length u)) m' x) ∙ ap (λ (k : ℕ). giving (ts ++ new) (read k m' x)) (sym (one_longer u b))))
    further rec (stop n p) e h = outcome_as refl (ap (λ (z : List Tag). told z (failed n p)) (sym (append-nil ts))) (o_refused u b bs m refl g t e h)

pub outcome : (s : List ℕ) → Outcome s (reading s)
outcome s = tracked s in_text [] [] ([], refl, refl) (λ e. refl)

-- Every mode can be left rightly.
abbrev out : Where → List ℕ
out text = []
out (value at k q) = sign q ∷ codes ">"

leaves : (w : Where) (p : ℕ) → (read p (in_content w) (out w)).ended ≡ finish
leaves text p = refl
leaves (value at k single) p = refl
leaves (value at k double) p = refl

pays : (xs : List ℕ) (at p x : ℕ) (w : Where) → (read p (awaiting at w x xs) (x ∷ (xs ++ out w))).ended ≡ finish
pays [] at p x w = ap (λ (z : Reading). z.ended) (moved p (awaiting at w x []) (in_content w) x (out w) (cond-true (eqb x x) _ _ (eq-eqb x x refl))) ∙ leaves w (suc p)
pays (y ∷ ys) at p x w = ap (λ (z : Reading). z.ended) (moved p (awaiting at w x (y ∷ ys)) (awaiting at w y ys) x (y ∷ (ys ++ out w)) (cond-true (eqb x x) _ _ (eq-eqb x x refl))) ∙ pays ys at (suc p) y w

pub completion : (m : Mode) → (c : List ℕ) × ((p : ℕ) → (read p m c).ended ≡ finish)
completion (in_content w) = (out w, leaves w)
completion (ampersand at w) = (108 ∷ (116 ∷ (59 ∷ out w)), λ p. leaves w (suc (suc (suc p))))
completion (ampersand_a at w) = (109 ∷ (112 ∷ (59 ∷ out w)), λ p. leaves w (suc (suc (suc p))))
completion (awaiting at w x xs) = (x ∷ (xs ++ out w), λ p. pays xs at p x w)
completion (angle at) = (codes "a>", λ p. refl)
completion (bang at) = (codes "---->", λ p. refl)
completion (bang_hyphen at) = (codes "--->", λ p. refl)
completion in_comment = (codes "-->", λ p. refl)
completion one_hyphen = (codes "->", λ p. refl)
completion two_hyphens = (codes ">", λ p. refl)
completion (naming at k) = (codes ">", λ p. refl)
completion (spaced at k) = (codes ">", λ p. refl)
completion (naming_attribute at k j) = (61 ∷ (39 ∷ (39 ∷ (62 ∷ []))), λ p. refl)
completion (attribute_named at k) = (61 ∷ (39 ∷ (39 ∷ (62 ∷ []))), λ p. refl)
completion (equals at k) = (39 ∷ (39 ∷ (62 ∷ [])), λ p. refl)
completion (valued at k) = (codes ">", λ p. refl)
completion (slashed at k) = (codes ">", λ p. refl)
completion (slash at) = (codes "a>", λ p. refl)
completion (naming_end at k) = (codes ">", λ p. refl)
completion (end_spaced at k) = (codes ">", λ p. refl)

abbrev pub number : Ending → ℕ
number finish = 0
number (failed n p) = n

pub reason_number : {u : List ℕ} {b n p : ℕ} → Reason u b n p → 22 ≤ n
reason_number (by_form f) = omega arith
reason_number (by_reference f) = omega arith
reason_number (by_name f) = omega arith
reason_number by_byte_alone = omega arith

finished : {s : List ℕ} {r : Reading} → Outcome s r → number r.ended ≡ 0 → Right s r.given
finished (o_right r) e = r
finished (o_cut m g t) e = absurd (omega arith)
finished (o_refused u b rest m d g t x c) e = absurd (let k = reason_number c in omega arith)

pub viable : (m : Mode) (ts : List Tag) (u : List ℕ) → Begun m ts u → Track m ts u → Viable u
viable m ts u g t = let c = completion m in (c.0, _, finished (tracked c.0 m ts u g t) (ap number (c.1 (length u))))

-- The right text before an unfinished piece.
abbrev Before : List Tag → List ℕ → Type 0
Before ts u = (v w : List ℕ) × (v ++ w ≡ u) × Right v ts

before_more : (ts : List Tag) (v u w : List ℕ) → Before ts v → u ≡ v ++ w → Before ts u
before_more ts v u w (a, d, e, r) f = (a, d ++ w, sym (append_assoc a d w) ∙ ap (λ (z : List ℕ). z ++ w) e ∙ sym f, r)

before_after : (at : ℕ) (ts : List Tag) (w u : List ℕ) → After at ts w u → Before ts u
before_after at ts w u (v, r, l, e) = (v, w, sym e, r)

before_content : (w : Where) (ts : List Tag) (u : List ℕ) → Content w ts u → Before ts u
before_content text ts u r = (u, [], append-nil u, r)
before_content (value at k q) ts u (o, cs, (n, l, ats, a)) = before_after at ts _ u a

before : (m : Mode) (ts : List Tag) (u : List ℕ) → Begun m ts u → Before ts u
before (in_content w) ts u g = before_content w ts u g
before (ampersand at w) ts u (v, cv, l, e) = before_more ts v u _ (before_content w ts v cv) e
before (ampersand_a at w) ts u (v, cv, l, e) = before_more ts v u _ (before_content w ts v cv) e
before (awaiting at w x xs) ts u (v, cv, l, y, e, r, er, so) = before_more ts v u _ (before_content w ts v cv) e
before (angle at) ts u a = before_after at ts _ u a
before (bang at) ts u a = before_after at ts _ u a
before (bang_hyphen at) ts u a = before_after at ts _ u a
before in_comment ts u (at, cs, a) = before_after at ts _ u a
before one_hyphen ts u (at, cs, a) = before_after at ts _ u a
before two_hyphens ts u (at, cs, a) = before_after at ts _ u a
before (naming at k) ts u (n, l, a) = before_after at ts _ u a
before (spaced at k) ts u (x, h, s, (n, l, ats, a)) = before_after at ts _ u a
before (naming_attribute at k j) ts u (x, h, s, n₁, l₁, (n, l, ats, a)) = before_after at ts _ u a
before (attribute_named at k) ts u (x, h, s, n₁, t, (n, l, ats, a)) = before_after at ts _ u a
before (equals at k) ts u (o, (n, l, ats, a)) = before_after at ts _ u a
before (valued at k) ts u (n, l, ats, a) = before_after at ts _ u a
before (slashed at k) ts u (s, (n, l, ats, a)) = before_after at ts _ u a
before (slash at) ts u a = before_after at ts _ u a
before (naming_end at k) ts u (n, l, a) = before_after at ts _ u a
before (end_spaced at k) ts u (n, l, s, a) = before_after at ts _ u a

pub tags_read : (m : Mode) (ts : List Tag) (u : List ℕ) → Begun m ts u → Track m ts u → TagsRead u ts
tags_read m ts u g t = (
  before m ts u g,
  λ v w ts' e r. (
    (read (length v) in_text w).given,
    sym (append-nil ts) ∙ sym (ap (λ (z : Reading). z.given) (t [])) ∙ ap (λ (z : List ℕ). (reading z).given) (append-nil u ∙ sym e) ∙ ap (λ (z : Reading). z.given) (reads_right v ts' w r),
  ),
)
