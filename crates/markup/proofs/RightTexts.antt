-- The reading of what the grammar writes.
use Rattle.std.proofs.Common.{◌≡◌, ℕ, suc, ◌+◌, ◌<◌, ◌≤◌, Bool, true, false, cond, eqb, ltb, List, [], ◌∷◌, ◌++◌, length, codes, sym, refl, ap, ◌∙◌, append_assoc, append-nil, arith, length-append}
use Rattle.std.proofs.lemmas.Bool.{and_parts, cond-true, cond-false, lt-ltb}
use Rattle.name_bytes.specs.Names.{name_start, name_byte, all}
use Rattle.markup.specs.Grammar.{white, allowed, plain, Name, name, Reference, amp, lt, gt, quot, apos, reference, Char, itself, referred, char, chars, Quote, single, double, sign, Opening, opening, Attribute, attribute, attributes, Remark, byte, hyphen, remarks, Piece, content, comment, starting, empty, ending, piece, markup, Tag, opens, closes, tag, tags, Right}
use Rattle.markup.specs.Reading.{Where, text, value, stop_of, Mode, in_content, angle, in_comment, one_hyphen, naming, spaced, naming_attribute, attribute_named, equals, valued, slashed, slash, naming_end, end_spaced, Step, go, on, in_text, behind, next, finish, Reading, giving, carried, read, reading}
use Rattle.markup.proofs.Names.{goes_on, short, starts}
use Rattle.markup.proofs.ByteClasses.{white_no_name_byte, start_no_white, past, past_length}

-- one byte
pub step : (p : ℕ) (m : Mode) (b : ℕ) (bs : List ℕ) (s : Step) → next p m b ≡ s → read p m (b ∷ bs) ≡ carried s (λ m'. read (suc p) m' bs)
step p m b bs s e = ap (λ (x : Step). carried x (λ m'. read (suc p) m' bs)) e

pub moved : (p : ℕ) (m m' : Mode) (b : ℕ) (bs : List ℕ) → next p m b ≡ on m' → read p m (b ∷ bs) ≡ read (suc p) m' bs
moved p m m' b bs e = step p m b bs (on m') e

-- bytes that a mode stays at
pub stays : (m : Mode) (c : ℕ → Bool) → ((p b : ℕ) → c b ≡ true → next p m b ≡ on m) → (p : ℕ) (xs rest : List ℕ) → all c xs ≡ true →
    read p m (xs ++ rest) ≡ read (past p xs) m rest
stays m c k p [] rest h = refl
stays m c k p (x ∷ xs) rest h =
    let q = and_parts (c x) (all c xs) h in
    moved p m m x (xs ++ rest) (k p x q.0) ∙ stays m c k (suc p) xs rest q.1

pub stays_spaced : (at k p : ℕ) (xs rest : List ℕ) → all white xs ≡ true → read p (spaced at k) (xs ++ rest) ≡ read (past p xs) (spaced at k) rest
stays_spaced at k = stays (spaced at k) white (λ p b h. cond-true (white b) _ _ h)

pub stays_named : (at k p : ℕ) (xs rest : List ℕ) → all white xs ≡ true → read p (attribute_named at k) (xs ++ rest) ≡ read (past p xs) (attribute_named at k) rest
stays_named at k = stays (attribute_named at k) white (λ p b h. cond-true (white b) _ _ h)

pub stays_equals : (at k p : ℕ) (xs rest : List ℕ) → all white xs ≡ true → read p (equals at k) (xs ++ rest) ≡ read (past p xs) (equals at k) rest
stays_equals at k = stays (equals at k) white (λ p b h. cond-true (white b) _ _ h)

pub stays_ended : (at k p : ℕ) (xs rest : List ℕ) → all white xs ≡ true → read p (end_spaced at k) (xs ++ rest) ≡ read (past p xs) (end_spaced at k) rest
stays_ended at k = stays (end_spaced at k) white (λ p b h. cond-true (white b) _ _ h)

-- names
short_enough : (b : Bool) (k : ℕ) (s t u : Step) → b ≡ true → k < 64 → cond b (cond (ltb k 64) s t) u ≡ s
short_enough b k s t u h l = cond-true b _ u h ∙ cond-true (ltb k 64) s t (lt-ltb k 64 l)

pub names : (f : ℕ → Mode) → ((p k b : ℕ) → name_byte b ≡ true → k < 64 → next p (f k) b ≡ on (f (suc k))) → (p k : ℕ) (xs rest : List ℕ) → all name_byte xs ≡ true → k + length xs ≤ 64 →
    read p (f k) (xs ++ rest) ≡ read (past p xs) (f (past k xs)) rest
names f s p k [] rest h l = refl
names f s p k (x ∷ xs) rest h l =
    let q = and_parts (name_byte x) (all name_byte xs) h in
    let l₁ : k < 64 = omega arith in
    let l₂ : suc k + length xs ≤ 64 = omega arith in
    moved p (f k) (f (suc k)) x (xs ++ rest) (s p k x q.0 l₁) ∙ names f s (suc p) (suc k) xs rest q.1 l₂

pub names_start : (at p k : ℕ) (xs rest : List ℕ) → all name_byte xs ≡ true → k + length xs ≤ 64 → read p (naming at k) (xs ++ rest) ≡ read (past p xs) (naming at (past k xs)) rest
names_start at = names (naming at) (λ p k b h l. short_enough (name_byte b) k _ _ _ h l)

pub names_end : (at p k : ℕ) (xs rest : List ℕ) → all name_byte xs ≡ true → k + length xs ≤ 64 → read p (naming_end at k) (xs ++ rest) ≡ read (past p xs) (naming_end at (past k xs)) rest
names_end at = names (naming_end at) (λ p k b h l. short_enough (name_byte b) k _ _ _ h l)

pub names_attribute : (at n p k : ℕ) (xs rest : List ℕ) → all name_byte xs ≡ true → k + length xs ≤ 64 →
    read p (naming_attribute at n k) (xs ++ rest) ≡ read (past p xs) (naming_attribute at n (past k xs)) rest
names_attribute at n = names (naming_attribute at n) (λ p k b h l. short_enough (name_byte b) k _ _ _ h l)

-- references and what else stands in text and values
pub reads_reference : (r : Reference) (p : ℕ) (w : Where) (rest : List ℕ) → read p (in_content w) (reference r ++ rest) ≡ read (past p (reference r)) (in_content w) rest
reads_reference r p text rest = elim r as (λ x. read p (in_content text) (reference x ++ rest) ≡ read (past p (reference x)) (in_content text) rest) [ amp ↦ refl | lt ↦ refl | gt ↦ refl | quot ↦ refl | apos ↦ refl ]
reads_reference r p (value at k single) rest = elim r as (λ x. read p (in_content (value at k single)) (reference x ++ rest) ≡ read (past p (reference x)) (in_content (value at k single)) rest) [ amp ↦ refl | lt ↦ refl | gt ↦ refl | quot ↦ refl | apos ↦ refl ]
reads_reference r p (value at k double) rest = elim r as (λ x. read p (in_content (value at k double)) (reference x ++ rest) ≡ read (past p (reference x)) (in_content (value at k double)) rest) [ amp ↦ refl | lt ↦ refl | gt ↦ refl | quot ↦ refl | apos ↦ refl ]

pub reads_char : (w : Where) (c : Char (stop_of w)) (p : ℕ) (rest : List ℕ) → read p (in_content w) (char c ++ rest) ≡ read (past p (char c)) (in_content w) rest
reads_char w (itself b ok) p rest = moved p (in_content w) (in_content w) b rest (cond-true (plain (stop_of w) b) _ _ ok)
reads_char w (referred r) p rest = reads_reference r p w rest

pub past_append : (p : ℕ) (xs ys : List ℕ) → past p (xs ++ ys) ≡ past (past p xs) ys
past_append p [] ys = refl
past_append p (x ∷ xs) ys = past_append (suc p) xs ys

pub reads_chars : (w : Where) (cs : List (Char (stop_of w))) (p : ℕ) (rest : List ℕ) → read p (in_content w) (chars cs ++ rest) ≡ read (past p (chars cs)) (in_content w) rest
reads_chars w [] p rest = refl
reads_chars w (c ∷ cs) p rest =
    ap (λ (x : List ℕ). read p (in_content w) x) (append_assoc (char c) (chars cs) rest)
    ∙ reads_char w c p (chars cs ++ rest)
    ∙ reads_chars w cs (past p (char c)) rest
    ∙ ap (λ (x : ℕ). read x (in_content w) rest) (sym (past_append p (char c) (chars cs)))

-- behind a start tag's name or a value
pub Behind : Mode → ℕ → ℕ → Type 0
Behind m at k = (p b : ℕ) → name_byte b ≡ false → next p m b ≡ behind at k p b

pub behind_name : (at k : ℕ) → Behind (naming at k) at k
unfolding Behind
behind_name at k p b h = cond-false (name_byte b) _ _ h

pub behind_value : (at k : ℕ) → Behind (valued at k) at k
unfolding Behind
behind_value at k p b h = refl

pub behind_white : (m : Mode) (at k : ℕ) → Behind m at k → (p b : ℕ) → white b ≡ true → next p m b ≡ on (spaced at k)
unfolding Behind
behind_white m at k h p b w = h p b (white_no_name_byte b w) ∙ cond-true (white b) _ _ w

-- white space, then `=`
reads_before : (at k j p : ℕ) (xs rest : List ℕ) → all white xs ≡ true → read p (naming_attribute at k j) (xs ++ (61 ∷ rest)) ≡ read (suc (past p xs)) (equals at k) rest
reads_before at k j p [] rest h = refl
reads_before at k j p (x ∷ xs) rest h =
    let q = and_parts (white x) (all white xs) h in
    moved p (naming_attribute at k j) (attribute_named at k) x (xs ++ (61 ∷ rest)) (cond-false (name_byte x) _ _ (white_no_name_byte x q.0) ∙ cond-true (white x) _ _ q.0)
    ∙ stays_named at k (suc p) xs (61 ∷ rest) q.1

pub opens_quote : (at k p : ℕ) (q : Quote) → next p (equals at k) (sign q) ≡ on (in_content (value at k q))
opens_quote at k p single = refl
opens_quote at k p double = refl

shuts_quote : (at k p : ℕ) (q : Quote) → next p (in_content (value at k q)) (sign q) ≡ on (valued at k)
shuts_quote at k p single = refl
shuts_quote at k p double = refl

-- an attribute's parts, each behind the last
abbrev pub spelled_opening : Opening → List ℕ → List ℕ
spelled_opening o rest = o.apart ∷ (o.space.bytes ++ (o.named.first ∷ (o.named.others ++ (o.before.bytes ++ (61 ∷ (o.behind.bytes ++ rest))))))

abbrev pub past_opening : ℕ → Opening → ℕ
past_opening p o = past (suc (past (past (suc (past (suc p) o.space.bytes)) o.named.others) o.before.bytes)) o.behind.bytes

pub reads_opening : (m : Mode) (at k : ℕ) → Behind m at k → (o : Opening) (p : ℕ) (rest : List ℕ) → read p m (spelled_opening o rest) ≡ read (past_opening p o) (equals at k) rest
reads_opening m at k h o p rest =
    let p₁ = suc p in
    let p₂ = past p₁ o.space.bytes in
    let p₃ = past (suc p₂) o.named.others in
    let p₄ = suc (past p₃ o.before.bytes) in
    let l : 1 + length o.named.others ≤ 64 = omega (arith, short o.named) in
    moved p m (spaced at k) o.apart _ (behind_white m at k h p o.apart o.is_white)
    ∙ stays_spaced at k p₁ o.space.bytes _ o.space.blank
    ∙ moved p₂ (spaced at k) (naming_attribute at k 1) o.named.first _ (cond-false (white o.named.first) _ _ (start_no_white o.named.first (starts o.named)) ∙ cond-true (name_start o.named.first) _ _ (starts o.named))
    ∙ names_attribute at k (suc p₂) 1 o.named.others _ (goes_on o.named) l
    ∙ reads_before at k (past 1 o.named.others) p₃ o.before.bytes _ o.before.blank
    ∙ stays_equals at k p₄ o.behind.bytes _ o.behind.blank

abbrev pub spelled : Attribute → List ℕ → List ℕ
spelled a rest = spelled_opening a.opened (sign a.quote ∷ (chars a.value ++ (sign a.quote ∷ rest)))

abbrev pub past_attribute : ℕ → Attribute → ℕ
past_attribute p a = suc (past (suc (past_opening p a.opened)) (chars a.value))

pub reads_spelled : (m : Mode) (at k : ℕ) → Behind m at k → (a : Attribute) (p : ℕ) (rest : List ℕ) → read p m (spelled a rest) ≡ read (past_attribute p a) (valued at k) rest
reads_spelled m at k h a p rest =
    let p₅ = past_opening p a.opened in
    let p₆ = past (suc p₅) (chars a.value) in
    reads_opening m at k h a.opened p (sign a.quote ∷ (chars a.value ++ (sign a.quote ∷ rest)))
    ∙ moved p₅ (equals at k) (in_content (value at k a.quote)) (sign a.quote) _ (opens_quote at k p₅ a.quote)
    ∙ reads_chars (value at k a.quote) a.value (suc p₅) (sign a.quote ∷ rest)
    ∙ moved p₆ (in_content (value at k a.quote)) (valued at k) (sign a.quote) rest (shuts_quote at k p₆ a.quote)

pub opening_is : (o : Opening) (ys : List ℕ) →
    opening o ++ ys ≡ o.apart ∷ (o.space.bytes ++ (o.named.first ∷ (o.named.others ++ (o.before.bytes ++ (61 ∷ (o.behind.bytes ++ ys))))))
opening_is o ys = simp append_assoc

spelled_is : (a : Attribute) (rest : List ℕ) → attribute a ++ rest ≡ spelled a rest
spelled_is a rest =
    append_assoc (opening a.opened) _ rest
    ∙ ap (λ (z : List ℕ). opening a.opened ++ (sign a.quote ∷ z)) (append_assoc (chars a.value) (sign a.quote ∷ []) rest)
    ∙ opening_is a.opened _

past_spelled : (a : Attribute) (p : ℕ) → past p (attribute a) ≡ past_attribute p a
past_spelled a p = simp past_append

pub reads_attributes : (ats : List Attribute) (m : Mode) (at k : ℕ) → Behind m at k → (p : ℕ) (rest : List ℕ) →
    (m' : Mode) × Behind m' at k × (read p m (attributes ats ++ rest) ≡ read (past p (attributes ats)) m' rest)
reads_attributes [] m at k h p rest = (m, h, refl)
reads_attributes (a ∷ ats) m at k h p rest =
    let r = reads_attributes ats (valued at k) at k (behind_value at k) (past p (attribute a)) rest in (
      r.0,
      r.1,
      ap (λ (x : List ℕ). read p m x) (append_assoc (attribute a) (attributes ats) rest ∙ spelled_is a (attributes ats ++ rest))
          ∙ reads_spelled m at k h a p (attributes ats ++ rest)
          ∙ ap (λ (x : ℕ). read x (valued at k) (attributes ats ++ rest)) (sym (past_spelled a p))
          ∙ r.2
          ∙ ap (λ (x : ℕ). read x r.0 rest) (sym (past_append p (attribute a) (attributes ats))),
    )

-- the end of a tag
shuts : (m : Mode) (at k : ℕ) → Behind m at k → (p : ℕ) (xs rest : List ℕ) → all white xs ≡ true →
    read p m (xs ++ (62 ∷ rest)) ≡ giving (opens at (at + 1) k ∷ []) (read (suc (past p xs)) in_text rest)
unfolding Behind
shuts m at k h p [] rest w = step p m 62 rest (go in_text (opens at (at + 1) k ∷ [])) (h p 62 refl)
shuts m at k h p (x ∷ xs) rest w =
    let q = and_parts (white x) (all white xs) w in
    moved p m (spaced at k) x (xs ++ (62 ∷ rest)) (behind_white m at k h p x q.0) ∙ stays_spaced at k (suc p) xs (62 ∷ rest) q.1

shuts_empty : (m : Mode) (at k : ℕ) → Behind m at k → (p : ℕ) (xs rest : List ℕ) → all white xs ≡ true →
    read p m (xs ++ (47 ∷ (62 ∷ rest))) ≡ giving (opens at (at + 1) k ∷ (closes at (at + 1) k ∷ [])) (read (suc (suc (past p xs))) in_text rest)
unfolding Behind
shuts_empty m at k h p [] rest w = moved p m (slashed at k) 47 (62 ∷ rest) (h p 47 refl)
shuts_empty m at k h p (x ∷ xs) rest w =
    let q = and_parts (white x) (all white xs) w in
    moved p m (spaced at k) x (xs ++ (47 ∷ (62 ∷ rest))) (behind_white m at k h p x q.0) ∙ stays_spaced at k (suc p) xs (47 ∷ (62 ∷ rest)) q.1

shuts_end : (at k p : ℕ) (xs rest : List ℕ) → all white xs ≡ true →
    read p (naming_end at k) (xs ++ (62 ∷ rest)) ≡ giving (closes at (at + 2) k ∷ []) (read (suc (past p xs)) in_text rest)
shuts_end at k p [] rest w = refl
shuts_end at k p (x ∷ xs) rest w =
    let q = and_parts (white x) (all white xs) w in
    moved p (naming_end at k) (end_spaced at k) x (xs ++ (62 ∷ rest)) (cond-false (name_byte x) _ _ (white_no_name_byte x q.0) ∙ cond-true (white x) _ _ q.0)
    ∙ stays_ended at k (suc p) xs (62 ∷ rest) q.1

-- a start tag up to its end
pub reads_tag : (n : Name) (ats : List Attribute) (p : ℕ) (rest : List ℕ) →
    (m : Mode) × Behind m p (length (name n)) × (read p in_text (60 ∷ (name n ++ (attributes ats ++ rest))) ≡ read (past (past (suc p) (name n)) (attributes ats)) m rest)
reads_tag n ats p rest =
    let l : 1 + length n.others ≤ 64 = omega (arith, short n) in
    let k : past 1 n.others ≡ length (name n) = past_length 1 n.others ∙ omega arith in
    let r = reads_attributes ats (naming p (length (name n))) p (length (name n)) (behind_name p (length (name n))) (past (suc p) (name n)) rest in (
      r.0,
      r.1,
      moved (suc p) (angle p) (naming p 1) n.first _ (cond-true (name_start n.first) _ _ (starts n))
          ∙ names_start p (suc (suc p)) 1 n.others (attributes ats ++ rest) (goes_on n) l
          ∙ ap (λ (x : ℕ). read (past (suc p) (name n)) (naming p x) (attributes ats ++ rest)) k
          ∙ r.2,
    )

-- comments
reads_remarks : (cs : List Remark) (p : ℕ) (rest : List ℕ) → read p in_comment (remarks cs ++ rest) ≡ read (past p (remarks cs)) in_comment rest
reads_remarks [] p rest = refl
reads_remarks (byte b n ok ∷ cs) p rest =
    moved p in_comment in_comment b (remarks cs ++ rest) (cond-false (eqb b 45) _ _ n ∙ cond-true (allowed b) _ _ ok) ∙ reads_remarks cs (suc p) rest
reads_remarks (hyphen b n ok ∷ cs) p rest =
    moved (suc p) one_hyphen in_comment b (remarks cs ++ rest) (cond-false (eqb b 45) _ _ n ∙ cond-true (allowed b) _ _ ok) ∙ reads_remarks cs (suc (suc p)) rest

-- a piece
spelled_start : (n : Name) (ats : List Attribute) (xs ys rest : List ℕ) → (60 ∷ (name n ++ (attributes ats ++ (xs ++ ys)))) ++ rest ≡ 60 ∷ (name n ++ (attributes ats ++ (xs ++ (ys ++ rest))))
spelled_start n ats xs ys rest = simp append_assoc

past_start : (n : Name) (ats : List Attribute) (xs ys : List ℕ) (p : ℕ) → past p (60 ∷ (name n ++ (attributes ats ++ (xs ++ ys)))) ≡ past (past (past (past (suc p) (name n)) (attributes ats)) xs) ys
past_start n ats xs ys p = simp past_append

pub reads_piece : (x : Piece) (p : ℕ) (rest : List ℕ) → read p in_text (piece x ++ rest) ≡ giving (tag p x) (read (past p (piece x)) in_text rest)
reads_piece (content c) p rest = reads_char text c p rest
reads_piece (comment cs) p rest =
    ap (λ (x : List ℕ). read (suc (suc (suc (suc p)))) in_comment x) (append_assoc (remarks cs) (codes "-->") rest)
    ∙ reads_remarks cs (suc (suc (suc (suc p)))) (codes "-->" ++ rest)
    ∙ ap (λ (x : ℕ). read x in_text rest) (sym (past_append (suc (suc (suc (suc p)))) (remarks cs) (codes "-->")))
reads_piece (starting n ats s) p rest =
    let r = reads_tag n ats p (s.bytes ++ (62 ∷ rest)) in
    ap (λ (x : List ℕ). read p in_text x) (spelled_start n ats s.bytes (codes ">") rest)
    ∙ r.2
    ∙ shuts r.0 p (length (name n)) r.1 (past (past (suc p) (name n)) (attributes ats)) s.bytes rest s.blank
    ∙ ap (λ (x : ℕ). giving (tag p (starting n ats s)) (read x in_text rest)) (sym (past_start n ats s.bytes (codes ">") p))
reads_piece (empty n ats s) p rest =
    let r = reads_tag n ats p (s.bytes ++ (47 ∷ (62 ∷ rest))) in
    ap (λ (x : List ℕ). read p in_text x) (spelled_start n ats s.bytes (codes "/>") rest)
    ∙ r.2
    ∙ shuts_empty r.0 p (length (name n)) r.1 (past (past (suc p) (name n)) (attributes ats)) s.bytes rest s.blank
    ∙ ap (λ (x : ℕ). giving (tag p (empty n ats s)) (read x in_text rest)) (sym (past_start n ats s.bytes (codes "/>") p))
reads_piece (ending n s) p rest =
    let l : 1 + length n.others ≤ 64 = omega (arith, short n) in
    let k : past 1 n.others ≡ length (name n) = past_length 1 n.others ∙ omega arith in
    let e : (name n ++ (s.bytes ++ codes ">")) ++ rest ≡ name n ++ (s.bytes ++ (62 ∷ rest)) = simp append_assoc in
    let q : past (suc (suc p)) (name n ++ (s.bytes ++ codes ">")) ≡ suc (past (past (suc (suc p)) (name n)) s.bytes) = simp past_append in
    ap (λ (x : List ℕ). read (suc (suc p)) (slash p) x) e
    ∙ moved (suc (suc p)) (slash p) (naming_end p 1) n.first _ (cond-true (name_start n.first) _ _ (starts n))
    ∙ names_end p (suc (suc (suc p))) 1 n.others (s.bytes ++ (62 ∷ rest)) (goes_on n) l
    ∙ shuts_end p (past 1 n.others) (past (suc (suc p)) (name n)) s.bytes rest s.blank
    ∙ ap (λ (x : ℕ). giving (closes p (p + 2) x ∷ []) (read (suc (past (past (suc (suc p)) (name n)) s.bytes)) in_text rest)) k
    ∙ ap (λ (x : ℕ). giving (tag p (ending n s)) (read x in_text rest)) (sym q)

pub giving_giving : (xs ys : List Tag) (r : Reading) → giving xs (giving ys r) ≡ giving (xs ++ ys) r
giving_giving xs ys r = ap (λ (x : List Tag). record { given = x; ended = r.ended }) (sym (append_assoc xs ys r.given))

pub reads_markup : (xs : List Piece) (p : ℕ) (rest : List ℕ) → read p in_text (markup xs ++ rest) ≡ giving (tags p xs) (read (p + length (markup xs)) in_text rest)
reads_markup [] p rest = ap (λ (x : ℕ). read x in_text rest) (let z : p ≡ p + 0 = omega arith in z)
reads_markup (x ∷ xs) p rest =
    let q : p + length (piece x) + length (markup xs) ≡ p + length (piece x ++ markup xs) = simp length-append (omega arith) in
    ap (λ (z : List ℕ). read p in_text z) (append_assoc (piece x) (markup xs) rest)
    ∙ reads_piece x p (markup xs ++ rest)
    ∙ ap (λ (z : ℕ). giving (tag p x) (read z in_text (markup xs ++ rest))) (past_length p (piece x))
    ∙ ap (λ (z : Reading). giving (tag p x) z) (reads_markup xs (p + length (piece x)) rest)
    ∙ giving_giving (tag p x) (tags (p + length (piece x)) xs) _
    ∙ ap (λ (z : ℕ). giving (tags p (x ∷ xs)) (read z in_text rest)) q

-- a right beginning of a text is read as its tags
pub reads_right : (v : List ℕ) (ts : List Tag) (rest : List ℕ) → Right v ts → reading (v ++ rest) ≡ giving ts (read (length v) in_text rest)
reads_right v ts rest (xs, e, f) =
    ap (λ (z : List ℕ). reading (z ++ rest)) (sym e)
    ∙ reads_markup xs 0 rest
    ∙ ap (λ (z : List Tag). giving z (read (0 + length (markup xs)) in_text rest)) f
    ∙ ap (λ (z : ℕ). giving ts (read z in_text rest)) (let z : 0 + length (markup xs) ≡ length (markup xs) = omega arith in z ∙ ap length e)

pub right_finishes : (s : List ℕ) (ts : List Tag) → Right s ts → reading s ≡ record { given = ts; ended = finish }
right_finishes s ts r =
    ap (λ (z : List ℕ). reading z) (sym (append-nil s)) ∙ reads_right s ts [] r ∙ ap (λ (z : List Tag). record { given = z; ended = finish }) (append-nil ts)
