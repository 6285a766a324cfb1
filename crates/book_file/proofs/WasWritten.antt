-- What is read was written: each part of the bytes that a file was read from, and the bytes.
use Rattle.std.proofs.Common.{◌≡◌, ℕ, zero, suc, ◌+◌, ◌-◌, ◌*◌, ◌<◌, ◌≤◌, Bool, true, false, cond, ◌&&◌, eqb, nat_lt, nat_le, List, [], ◌∷◌, ◌++◌, length, get_or, take, drop, Some, None, Ok, Err, Option, Result, sym, refl, ap, ◌∙◌, subst, arith}
use Rattle.std.proofs.lemmas.List.{drop-drop, drop_more, length-drop, length-take-le, take-append-drop}
use Rattle.std.proofs.lemmas.Bool.{and_from, and_parts, eqb-true, leb-true, ltb-false}
use Rattle.book.specs.Limits.{most_states, tags}
use Rattle.book.specs.declared.fault.BookFault.{BookFault}
use Rattle.book.specs.declared.fault.BookFault.TheVariants.{CutOff, HeaderNumber, Letters, NameByte, ShortHeader, TableEntry, Version}
use Rattle.name_bytes.specs.Names.{all, between, name_byte, name_limit, name_start, right_name}
use Rattle.book_file.specs.declared.header.Header.{Header}
use Rattle.book_file.specs.Files.{File, Filled, Right, Rows, bytes_of, entries, file_with, first_off, header, header_of, kind_byte, kind_of, mark_size, misspelt, name_at, names_at, names_bytes, reading, right_names, table_at, tables_at, tables_size, and_then, unless}
use Rattle.book_file.specs.Table.{below}
use Rattle.book_file.proofs.FirstOff.{none_all}
use Rattle.book_file.proofs.TablesRead.{tables_behind}

-- Results ---------------------------------------------------------------------------------------------------------

module _ {A : Type 0} where
  pub ok_same : (r : Result A BookFault) (a b : A) → r ≡ Ok a → r ≡ Ok b → a ≡ b
  ok_same r a b p q = cc

  pub ok_err : (r : Result A BookFault) (a : A) (e : BookFault) → r ≡ Ok a → r ≡ Err e → ⊥
  ok_err r a e p q = cc

  -- a test that was passed
  pub passed_true : (b : Bool) (r : Result A BookFault) (e : BookFault) (a : A) → cond b r (Err e) ≡ Ok a → (b ≡ true) × (r ≡ Ok a)
  passed_true true r e a h = (refl, h)
  passed_true false r e a h = cc

  pub passed_false : (b : Bool) (r : Result A BookFault) (e : BookFault) (a : A) → cond b (Err e) r ≡ Ok a → (b ≡ false) × (r ≡ Ok a)
  passed_false true r e a h = cc
  passed_false false r e a h = (refl, h)

  pub unless_ok : (o : Option ℕ) (fault : ℕ → BookFault) (a b : A) → unless o fault a ≡ Ok b → (o ≡ None) × (b ≡ a)
  unless_ok None fault a b h = (refl, ok_same (Ok a) b a h refl)
  unless_ok (Some at) fault a b h = cc

pub and_then_ok : {A B : Type 0} (r : Result A BookFault) (f : A → Result B BookFault) (b : B) → and_then r f ≡ Ok b → (a : A) × (r ≡ Ok a) × (f a ≡ Ok b)
and_then_ok (Ok a) f b h = (a, refl, h)
and_then_ok (Err e) f b h = cc

-- The header ------------------------------------------------------------------------------------------------------

-- the numbers of a header are right, and its bytes are written from them
pub record HeaderWritten (bs : List ℕ) (h : Header) : Type 0 where
  pub states : between 1 most_states h.states ≡ true
  pub trees : between 1 most_states h.trees ≡ true
  pub columns : between 1 tags h.columns ≡ true
  pub start : nat_lt h.start h.states ≡ true
  pub bytes : bs ≡ 83 ∷ 69 ∷ 76 ∷ 1 ∷ 0 ∷ h.states ∷ h.trees ∷ h.columns ∷ kind_byte h.kind ∷ h.start ∷ drop 10 bs

ten_bytes : (bs : List ℕ) → 10 ≤ length bs →
    bs ≡ get_or bs 0 0 ∷ get_or bs 1 0 ∷ get_or bs 2 0 ∷ get_or bs 3 0 ∷ get_or bs 4 0 ∷ get_or bs 5 0 ∷ get_or bs 6 0 ∷ get_or bs 7 0 ∷ get_or bs 8 0 ∷ get_or bs 9 0 ∷ drop 10 bs
ten_bytes bs l =
    next 0 _ (omega arith) (next 1 _ (omega arith) (next 2 _ (omega arith) (next 3 _ (omega arith) (next 4 _ (omega arith)
    (next 5 _ (omega arith) (next 6 _ (omega arith) (next 7 _ (omega arith) (next 8 _ (omega arith) (next 9 _ (omega arith) refl)))))))))
  where
    next : (i : ℕ) (xs : List ℕ) → i < length bs → drop (i + 1) bs ≡ xs → drop i bs ≡ get_or bs i 0 ∷ xs
    next i xs k e = drop_more bs i 0 k ∙ ap (λ ys. get_or bs i 0 ∷ ys) e

kind_byte_of : (n : ℕ) → nat_le n 1 ≡ true → kind_byte (kind_of n) ≡ n
kind_byte_of zero h = refl
kind_byte_of (suc n) h = let l = leb-true (suc n) 1 h in omega arith

pub header_written : (bs : List ℕ) (h : Header) → header bs ≡ Ok h → HeaderWritten bs h
header_written bs h e =
    let p₀ = passed_false (nat_lt (length bs) 10) _ (ShortHeader (length bs)) h e in
    let p₁ = passed_true (eqb (get_or bs 0 0) 83 && (eqb (get_or bs 1 0) 69 && eqb (get_or bs 2 0) 76)) _ Letters h p₀.1 in
    let p₃ = passed_true (eqb (get_or bs 3 0) 1 && eqb (get_or bs 4 0) 0) _ Version h p₁.1 in
    let p₅ = passed_true (between 1 most_states (get_or bs 5 0)) _ (HeaderNumber 5) h p₃.1 in
    let p₆ = passed_true (between 1 most_states (get_or bs 6 0)) _ (HeaderNumber 6) h p₅.1 in
    let p₇ = passed_true (between 1 tags (get_or bs 7 0)) _ (HeaderNumber 7) h p₆.1 in
    let p₈ = passed_true (nat_le (get_or bs 8 0) 1) _ (HeaderNumber 8) h p₇.1 in
    let p₉ = passed_true (nat_lt (get_or bs 9 0) (get_or bs 5 0)) (Ok (header_of bs)) (HeaderNumber 9) h p₈.1 in
    let sel = and_parts (eqb (get_or bs 0 0) 83) (eqb (get_or bs 1 0) 69 && eqb (get_or bs 2 0) 76) p₁.0 in
    let el = and_parts (eqb (get_or bs 1 0) 69) (eqb (get_or bs 2 0) 76) sel.1 in
    let one = and_parts (eqb (get_or bs 3 0) 1) (eqb (get_or bs 4 0) 0) p₃.0 in
    let long : 10 ≤ length bs = ltb-false (length bs) 10 p₀.0 in
    let same : header_of bs ≡ h = ok_same (Ok (header_of bs)) (header_of bs) h refl p₉.1 in
    subst (λ k. HeaderWritten bs k) same
    (record {
      states = p₅.0;
      trees = p₆.0;
      columns = p₇.0;
      start = p₉.0;
      bytes =
          ten_bytes bs long
          ∙ letters (get_or bs 0 0) (get_or bs 1 0) (get_or bs 2 0) (get_or bs 3 0) (get_or bs 4 0) (get_or bs 8 0) _ (eqb-true (get_or bs 0 0) 83 sel.0) (eqb-true (get_or bs 1 0) 69 el.0)
          (eqb-true (get_or bs 2 0) 76 el.1) (eqb-true (get_or bs 3 0) 1 one.0) (eqb-true (get_or bs 4 0) 0 one.1) (sym (kind_byte_of (get_or bs 8 0) p₈.0));
    })
  where
    letters : (a b c d e k k' : ℕ) → a ≡ 83 → b ≡ 69 → c ≡ 76 → d ≡ 1 → e ≡ 0 → k ≡ k' →
        ◌≡◌ {A = List ℕ} (a ∷ b ∷ c ∷ d ∷ e ∷ get_or bs 5 0 ∷ get_or bs 6 0 ∷ get_or bs 7 0 ∷ k ∷ get_or bs 9 0 ∷ drop 10 bs)
        (83 ∷ 69 ∷ 76 ∷ 1 ∷ 0 ∷ get_or bs 5 0 ∷ get_or bs 6 0 ∷ get_or bs 7 0 ∷ k' ∷ get_or bs 9 0 ∷ drop 10 bs)
    letters a b c d e k k' p q r s t u = cc

-- The tables ------------------------------------------------------------------------------------------------------

-- a table that was read, and what stands behind it
table_written : (bound size at : ℕ) (bs xs : List ℕ) → size ≤ length bs → table_at bound at (take size bs) ≡ Ok xs → Filled size bound xs × (bs ≡ xs ++ drop size bs)
table_written bound size at bs xs l e =
    let p = unless_ok (first_off (λ x. nat_lt x bound) at (take size bs)) TableEntry (take size bs) xs e in (
      (ap length p.1 ∙ length-take-le size bs l, ap (below bound) p.1 ∙ none_all (λ x. nat_lt x bound) at (take size bs) p.0),
      sym (ap (λ ys. ys ++ drop size bs) p.1 ∙ take-append-drop size bs),
    )

-- each table is filled, and the bytes are written from them
pub record TablesWritten (h : Header) (bs : List ℕ) (ts : Rows) : Type 0 where
  pub accept : Filled h.states 2 ts.accept
  pub enter : Filled (entries h) h.states ts.enter
  pub mark : Filled (mark_size h.kind (entries h)) h.states ts.mark
  pub up : Filled (entries h) h.trees ts.up
  pub side : Filled (h.states * h.trees) h.states ts.side
  pub bytes : bs ≡ ts.accept ++ (ts.enter ++ (ts.mark ++ (ts.up ++ (ts.side ++ drop (tables_size h) bs))))

pub tables_written : (h : Header) (at : ℕ) (bs : List ℕ) (ts : Rows) → tables_size h ≤ length bs → tables_at h at bs ≡ Ok ts → TablesWritten h bs ts
tables_written h at bs ts l e =
    let S : ℕ = h.states in
    let E : ℕ = entries h in
    let M : ℕ = mark_size h.kind (entries h) in
    let T : ℕ = h.states * h.trees in
    let b₁ : List ℕ = drop S bs in
    let b₂ : List ℕ = drop E b₁ in
    let b₃ : List ℕ = drop M b₂ in
    let b₄ : List ℕ = drop E b₃ in
    let n₁ : length b₁ ≡ length bs - S = length-drop S bs in
    let n₂ : length b₂ ≡ length b₁ - E = length-drop E b₁ in
    let n₃ : length b₃ ≡ length b₂ - M = length-drop M b₂ in
    let n₄ : length b₄ ≡ length b₃ - E = length-drop E b₃ in
    let k₀ : S ≤ length bs = omega arith in
    let k₁ : E ≤ length b₁ = omega arith in
    let k₂ : M ≤ length b₂ = omega arith in
    let k₃ : E ≤ length b₃ = omega arith in
    let k₄ : T ≤ length b₄ = omega arith in
    let v₁ = and_then_ok (table_at 2 at (take S bs)) _ ts e in
    let v₂ = and_then_ok (table_at S (at + S) (take E b₁)) _ ts v₁.2 in
    let v₃ = and_then_ok (table_at S (at + S + E) (take M b₂)) _ ts v₂.2 in
    let v₄ = and_then_ok (table_at h.trees (at + S + E + M) (take E b₃)) _ ts v₃.2 in
    let v₅ = and_then_ok (table_at S (at + S + E + M + E) (take T b₄)) _ ts v₄.2 in
    let w₁ = table_written 2 S at bs v₁.0 k₀ v₁.1 in
    let w₂ = table_written S E (at + S) b₁ v₂.0 k₁ v₂.1 in
    let w₃ = table_written S M (at + S + E) b₂ v₃.0 k₂ v₃.1 in
    let w₄ = table_written h.trees E (at + S + E + M) b₃ v₄.0 k₃ v₄.1 in
    let w₅ = table_written S T (at + S + E + M + E) b₄ v₅.0 k₄ v₅.1 in
    let rows : Rows = record { accept = v₁.0; enter = v₂.0; mark = v₃.0; up = v₄.0; side = v₅.0 } in
    let same : rows ≡ ts = ok_same (Ok rows) rows ts refl v₅.2 in
    subst (λ t. TablesWritten h bs t) same
    (record {
      accept = w₁.0;
      enter = w₂.0;
      mark = w₃.0;
      up = w₄.0;
      side = w₅.0;
      bytes =
          w₁.1
          ∙ ap (λ xs. v₁.0 ++ xs) (w₂.1 ∙ ap (λ xs. v₂.0 ++ xs) (w₃.1 ∙ ap (λ xs. v₃.0 ++ xs) (w₄.1 ∙ ap (λ xs. v₄.0 ++ xs) (w₅.1 ∙ ap (λ xs. v₅.0 ++ xs) (tables_behind h bs)))));
    })

-- The names -------------------------------------------------------------------------------------------------------

spelt_right : (at : ℕ) (w : List ℕ) → misspelt at w ≡ None → 1 ≤ length w → nat_le (length w) name_limit ≡ true → right_name w ≡ true
spelt_right at [] h some most = absurd (omega arith)
spelt_right at (b ∷ bs) h some most = go (name_start b) refl h
  where
    go : (t : Bool) → name_start b ≡ t → cond t (first_off name_byte (suc at) bs) (Some at) ≡ None → right_name (b ∷ bs) ≡ true
    go true e k = and_from (name_start b && all name_byte bs) (nat_le (suc (length bs)) name_limit) (and_from (name_start b) (all name_byte bs) e (none_all name_byte (suc at) bs k)) most
    go false e k = cc

pub name_written : (size at : ℕ) (bs w : List ℕ) → name_at size at bs ≡ Ok w → (right_name w ≡ true) × (bs ≡ length w ∷ (w ++ drop (suc (length w)) bs))
name_written size at [] w h = cc
name_written size at (n ∷ bs) w h =
    let p = passed_true (between 1 name_limit n) _ (NameByte at) w h in
    let q = passed_true (nat_le n (length bs)) _ (CutOff size) w p.1 in
    let r = unless_ok (misspelt (suc at) (take n bs)) NameByte (take n bs) w q.1 in
    let long : length w ≡ n = ap length r.1 ∙ length-take-le n bs (leb-true n (length bs) q.0) in
    let bounds = and_parts (nat_le 1 n) (nat_le n name_limit) p.0 in
    let some : 1 ≤ length w = omega (arith, leb-true 1 n bounds.0) in (
      spelt_right (suc at) w (ap (misspelt (suc at)) r.1 ∙ r.0) some (ap (λ k. nat_le k name_limit) long ∙ bounds.1),
      ap (λ xs. n ∷ xs) (sym (take-append-drop n bs)) ∙ ap (λ xs. n ∷ (xs ++ drop n bs)) (sym r.1) ∙ ap (λ k. k ∷ (w ++ drop k bs)) (sym long),
    )

-- names that were read, so many of them, are right, and the bytes are written from them
abbrev pub NamesWritten : ℕ → List ℕ → List (List ℕ) → Type 0
NamesWritten count bs ws = (bs ≡ names_bytes ws) × (right_names ws ≡ true) × (length ws ≡ count)

pub names_written : (size count at : ℕ) (bs : List ℕ) (ws : List (List ℕ)) → names_at size count at bs ≡ Ok ws → NamesWritten count bs ws
names_written size zero at [] ws h = subst (λ vs. NamesWritten 0 [] vs) (ok_same (Ok []) [] ws refl h) (refl, refl, refl)
names_written size zero at (b ∷ bs) ws h = cc
names_written size (suc count) at bs ws h =
    let one = and_then_ok (name_at size at bs) _ ws h in
    let w : List ℕ = one.0 in
    let more = and_then_ok (names_at size count (at + suc (length w)) (drop (suc (length w)) bs)) _ ws one.2 in
    let vs : List (List ℕ) = more.0 in
    let p = name_written size at bs w one.1 in
    let q = names_written size count (at + suc (length w)) (drop (suc (length w)) bs) vs more.1 in
    let same : w ∷ vs ≡ ws = ok_same (Ok (w ∷ vs)) (w ∷ vs) ws refl more.2 in
    subst (λ us. NamesWritten (suc count) bs us) same
    (p.1 ∙ ap (λ xs. length w ∷ (w ++ xs)) q.0, and_from (right_name w) (right_names vs) p.0 q.1, ap (λ k. suc k) q.2)

-- The file --------------------------------------------------------------------------------------------------------

abbrev pub FileWritten : List ℕ → File → Type 0
FileWritten bs f = Right f × (bs ≡ bytes_of f)

pub file_written : (bs : List ℕ) (f : File) → reading bs ≡ Ok f → FileWritten bs f
file_written bs f e =
    let v₁ = and_then_ok (header bs) _ f e in
    let h : Header = v₁.0 in
    let v₂ = passed_false (nat_lt (length bs) (10 + tables_size h)) _ (CutOff (length bs)) f v₁.2 in
    let v₃ = and_then_ok (tables_at h 10 (drop 10 bs)) _ f v₂.1 in
    let ts : Rows = v₃.0 in
    let v₄ = and_then_ok (names_at (length bs) (h.columns - 1) (10 + tables_size h) (drop (10 + tables_size h) bs)) _ f v₃.2 in
    let ws : List (List ℕ) = v₄.0 in
    let whole : 10 + tables_size h ≤ length bs = ltb-false (length bs) (10 + tables_size h) v₂.0 in
    let left : length (drop 10 bs) ≡ length bs - 10 = length-drop 10 bs in
    let enough : tables_size h ≤ length (drop 10 bs) = omega arith in
    let head = header_written bs h v₁.1 in
    let tables = tables_written h 10 (drop 10 bs) ts enough v₃.1 in
    let names = names_written (length bs) (h.columns - 1) (10 + tables_size h) (drop (10 + tables_size h) bs) ws v₄.1 in
    let some : 1 ≤ h.columns = leb-true 1 h.columns (and_parts (nat_le 1 h.columns) (nat_le h.columns tags) head.columns).0 in
    let count : length ws ≡ h.columns - 1 = names.2 in
    let same : file_with h ts ws ≡ f = ok_same (Ok (file_with h ts ws)) (file_with h ts ws) f refl v₄.2 in
    subst (λ g. FileWritten bs g) same (
      record {
        states = head.states;
        trees = head.trees;
        columns = head.columns;
        start = head.start;
        accept = tables.accept;
        enter = tables.enter;
        mark = tables.mark;
        up = tables.up;
        side = tables.side;
        named = omega arith;
        names = names.1;
      },
      head.bytes
          ∙ ap (λ xs. 83 ∷ 69 ∷ 76 ∷ 1 ∷ 0 ∷ h.states ∷ h.trees ∷ h.columns ∷ kind_byte h.kind ∷ h.start ∷ xs)
          (tables.bytes ∙ ap (λ xs. ts.accept ++ (ts.enter ++ (ts.mark ++ (ts.up ++ (ts.side ++ xs))))) (drop-drop (tables_size h) 10 bs ∙ names.0)),
    )
