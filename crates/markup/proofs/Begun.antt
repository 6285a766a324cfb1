-- What has been read where a reader stands: a right text, and an unfinished piece behind it.
use Rattle.std.proofs.Common.{◌≡◌, ℕ, ◌+◌, ◌<◌, true, List, [], ◌∷◌, ◌++◌, length, codes, sym, refl, ap, ◌∙◌, append_assoc, append-nil, arith, length-append}
use Rattle.std.proofs.lemmas.Bool.{and_from}
use Rattle.name_bytes.specs.Names.{name_start, name_byte}
use Rattle.markup.specs.Grammar.{white, Space, Name, name, Reference, reference, Char, char, chars, sign, Opening, opening, Attribute, attribute, attributes, Remark, remark, remarks, Piece, piece, markup, Tag, tag, tags, Right}
use Rattle.markup.specs.Reading.{Where, text, value, Mode, in_content, ampersand, ampersand_a, awaiting, angle, bang, bang_hyphen, in_comment, one_hyphen, two_hyphens, naming, spaced, naming_attribute, attribute_named, equals, valued, slashed, slash, naming_end, end_spaced, Step, go, stop}
use Rattle.markup.specs.Law.{OtherForm, BreaksReference, ExceedsName}
use Rattle.markup.proofs.Names.{goes_on, right_name_from, starts}
use Rattle.markup.proofs.ByteClasses.{all_append}

-- one more of each
abbrev pub space_none : Space
space_none = record { bytes = []; blank = refl }

abbrev pub space_more : (s : Space) (b : ℕ) → white b ≡ true → Space
space_more s b h = record { bytes = s.bytes ++ (b ∷ []); blank = all_append white s.bytes (b ∷ []) s.blank (and_from (white b) true h refl) }

abbrev pub name_one : (b : ℕ) → name_start b ≡ true → Name
name_one b h = record { first = b; others = []; right = right_name_from b [] h refl (omega arith) }

abbrev pub name_more : (n : Name) (b : ℕ) → name_byte b ≡ true → length (name n) < 64 → Name
name_more n b h l = record {
  first = n.first;
  others = n.others ++ (b ∷ []);
  right = right_name_from n.first (n.others ++ (b ∷ [])) (starts n)
      (all_append name_byte n.others (b ∷ []) (goes_on n) (and_from (name_byte b) true h refl))
      (simp length-append (omega arith));
}

pub chars_more : {stop : ℕ} (cs : List (Char stop)) (c : Char stop) → chars (cs ++ (c ∷ [])) ≡ chars cs ++ char c
chars_more [] c = append-nil (char c)
chars_more (d ∷ cs) c = ap (λ (z : List ℕ). char d ++ z) (chars_more cs c) ∙ sym (append_assoc (char d) (chars cs) (char c))

pub attributes_more : (ats : List Attribute) (a : Attribute) → attributes (ats ++ (a ∷ [])) ≡ attributes ats ++ attribute a
attributes_more [] a = append-nil (attribute a)
attributes_more (d ∷ ats) a = ap (λ (z : List ℕ). attribute d ++ z) (attributes_more ats a) ∙ sym (append_assoc (attribute d) (attributes ats) (attribute a))

pub remarks_more : (cs : List Remark) (c : Remark) → remarks (cs ++ (c ∷ [])) ≡ remarks cs ++ remark c
remarks_more [] c = append-nil (remark c)
remarks_more (d ∷ cs) c = ap (λ (z : List ℕ). remark d ++ z) (remarks_more cs c) ∙ sym (append_assoc (remark d) (remarks cs) (remark c))

markup_more : (xs : List Piece) (x : Piece) → markup (xs ++ (x ∷ [])) ≡ markup xs ++ piece x
markup_more [] x = append-nil (piece x)
markup_more (y ∷ xs) x = ap (λ (z : List ℕ). piece y ++ z) (markup_more xs x) ∙ sym (append_assoc (piece y) (markup xs) (piece x))

tags_more : (xs : List Piece) (x : Piece) (p : ℕ) → tags p (xs ++ (x ∷ [])) ≡ tags p xs ++ tag (p + length (markup xs)) x
tags_more [] x p = append-nil (tag p x) ∙ ap (λ (z : ℕ). tag z x) (let z : p ≡ p + 0 = omega arith in z)
tags_more (y ∷ xs) x p =
    let q : p + length (piece y) + length (markup xs) ≡ p + length (piece y ++ markup xs) = simp length-append (omega arith) in
    ap (λ (z : List Tag). tag p y ++ z) (tags_more xs x (p + length (piece y)) ∙ ap (λ (z : ℕ). tags (p + length (piece y)) xs ++ tag z x) q)
    ∙ sym (append_assoc (tag p y) (tags (p + length (piece y)) xs) (tag (p + length (piece y ++ markup xs)) x))

pub right_as : {v v' : List ℕ} {ts ts' : List Tag} → Right v ts → v ≡ v' → ts ≡ ts' → Right v' ts'
right_as r e f = (r.0, r.1 ∙ e, r.2 ∙ f)

pub right_more : (v : List ℕ) (ts : List Tag) (x : Piece) → Right v ts → Right (v ++ piece x) (ts ++ tag (length v) x)
right_more v ts x (xs, e, f) =
    let q : 0 + length (markup xs) ≡ length v = (let z : 0 + length (markup xs) ≡ length (markup xs) = omega arith in z) ∙ ap length e in
    (xs ++ (x ∷ []), markup_more xs x ∙ ap (λ (z : List ℕ). z ++ piece x) e, tags_more xs x 0 ∙ ap (λ (z : List Tag). z ++ tag (0 + length (markup xs)) x) f ∙ ap (λ (z : ℕ). ts ++ tag z x) q)

-- w stands behind the right text of length at
abbrev pub After : ℕ → List Tag → List ℕ → List ℕ → Type 0
After at ts w u = (v : List ℕ) × Right v ts × (length v ≡ at) × (u ≡ v ++ w)

pub after_more : (at : ℕ) (ts : List Tag) (w u xs : List ℕ) → After at ts w u → After at ts (w ++ xs) (u ++ xs)
after_more at ts w u xs (v, r, l, e) = (v, r, l, ap (λ (z : List ℕ). z ++ xs) e ∙ append_assoc v w xs)

pub after_as : (at : ℕ) (ts : List Tag) (w w' u : List ℕ) → After at ts w u → w ≡ w' → After at ts w' u
after_as at ts w w' u (v, r, l, e) f = (v, r, l, e ∙ ap (λ (z : List ℕ). v ++ z) f)

-- w stands in a start tag, behind its name and some attributes
abbrev pub Started : ℕ → ℕ → List Tag → List ℕ → List ℕ → Type 0
Started at k ts w u = (n : Name) × (length (name n) ≡ k) × (ats : List Attribute) × After at ts (60 ∷ (name n ++ (attributes ats ++ w))) u

pub started_as : (at k : ℕ) (ts : List Tag) (w w' u : List ℕ) → Started at k ts w u → w ≡ w' → Started at k ts w' u
started_as at k ts w w' u (n, l, ats, a) f = (n, l, ats, after_as at ts _ _ u a (ap (λ (z : List ℕ). 60 ∷ (name n ++ (attributes ats ++ z))) f))

pub started_more : (at k : ℕ) (ts : List Tag) (w u xs : List ℕ) → Started at k ts w u → Started at k ts (w ++ xs) (u ++ xs)
started_more at k ts w u xs (n, l, ats, a) = (
  n,
  l,
  ats,
  after_as at ts _ _ (u ++ xs) (after_more at ts _ u xs a)
      (let e : (name n ++ (attributes ats ++ w)) ++ xs ≡ name n ++ (attributes ats ++ (w ++ xs)) = append_assoc (name n) (attributes ats ++ w) xs ∙ ap (λ (z : List ℕ). name n ++ z) (append_assoc (attributes ats) w xs) in ap (λ (z : List ℕ). 60 ∷ z) e),
)

abbrev pub Content : Where → List Tag → List ℕ → Type 0
Content text ts u = Right u ts
Content (value at k q) ts u = (o : Opening) × (cs : List (Char (sign q))) × Started at k ts (opening o ++ (sign q ∷ chars cs)) u

-- r is the only reference that begins with y
abbrev pub Sole : Reference → List ℕ → Type 0
Sole r y = (r' : Reference) (z : List ℕ) → reference r' ≡ y ++ z → reference r' ≡ reference r

abbrev pub Begun : Mode → List Tag → List ℕ → Type 0
Begun (in_content w) ts u = Content w ts u
Begun (ampersand at w) ts u = (v : List ℕ) × Content w ts v × (length v ≡ at) × (u ≡ v ++ codes "&")
Begun (ampersand_a at w) ts u = (v : List ℕ) × Content w ts v × (length v ≡ at) × (u ≡ v ++ codes "&a")
Begun (awaiting at w x xs) ts u =
    (v : List ℕ) × Content w ts v × (length v ≡ at) × (y : List ℕ) × (u ≡ v ++ (38 ∷ y)) × (r : Reference) × (reference r ≡ (38 ∷ y) ++ (x ∷ xs)) × Sole r (38 ∷ y)
Begun (angle at) ts u = After at ts (codes "<") u
Begun (bang at) ts u = After at ts (codes "<!") u
Begun (bang_hyphen at) ts u = After at ts (codes "<!-") u
Begun in_comment ts u = (at : ℕ) × (cs : List Remark) × After at ts (codes "<!--" ++ remarks cs) u
Begun one_hyphen ts u = (at : ℕ) × (cs : List Remark) × After at ts (codes "<!--" ++ (remarks cs ++ codes "-")) u
Begun two_hyphens ts u = (at : ℕ) × (cs : List Remark) × After at ts (codes "<!--" ++ (remarks cs ++ codes "--")) u
Begun (naming at k) ts u = (n : Name) × (length (name n) ≡ k) × After at ts (60 ∷ name n) u
Begun (spaced at k) ts u = (x : ℕ) × (white x ≡ true) × (s : Space) × Started at k ts (x ∷ s.bytes) u
Begun (naming_attribute at k j) ts u = (x : ℕ) × (white x ≡ true) × (s : Space) × (n : Name) × (length (name n) ≡ j) × Started at k ts ((x ∷ s.bytes) ++ name n) u
Begun (attribute_named at k) ts u = (x : ℕ) × (white x ≡ true) × (s : Space) × (n : Name) × (t : Space) × Started at k ts ((x ∷ s.bytes) ++ (name n ++ t.bytes)) u
Begun (equals at k) ts u = (o : Opening) × Started at k ts (opening o) u
Begun (valued at k) ts u = Started at k ts [] u
Begun (slashed at k) ts u = (s : Space) × Started at k ts (s.bytes ++ codes "/") u
Begun (slash at) ts u = After at ts (codes "</") u
Begun (naming_end at k) ts u = (n : Name) × (length (name n) ≡ k) × After at ts (60 ∷ (47 ∷ name n)) u
Begun (end_spaced at k) ts u = (n : Name) × (length (name n) ≡ k) × (s : Space) × After at ts (60 ∷ (47 ∷ (name n ++ s.bytes))) u

-- why a byte is refused
pub data Reason (u : List ℕ) (b : ℕ) : ℕ → ℕ → Type 0 where
  by_form : {p : ℕ} → OtherForm u b p → Reason u b 23 p
  by_reference : {p : ℕ} → BreaksReference u b p → Reason u b 25 p
  by_name : ExceedsName u b → Reason u b 24 (length u)
  by_byte_alone : Reason u b 22 (length u)

abbrev pub Holds : List Tag → List ℕ → ℕ → Step → Type 0
Holds ts u b (go m new) = Begun m (ts ++ new) (u ++ (b ∷ []))
Holds ts u b (stop n p) = Reason u b n p
