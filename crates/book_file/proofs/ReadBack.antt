-- What was written is read: each part of a right file, and the file.
use Rattle.std.proofs.Common.{◌≡◌, ℕ, suc, ◌+◌, ◌-◌, ◌*◌, ◌≤◌, true, cond, ◌&&◌, nat_lt, nat_le, List, [], ◌∷◌, ◌++◌, length, take, drop, Some, None, Ok, Err, Result, sym, refl, ap, ◌∙◌, arith}
use Rattle.std.proofs.lemmas.List.{drop_at, length-append, take_at}
use Rattle.std.proofs.lemmas.Bool.{and_from, and_parts, cond-false, cond-true, le-leb, le-ltb}
use Rattle.book.specs.Limits.{most_states, tags}
use Rattle.book.specs.declared.fault.BookFault.{BookFault}
use Rattle.book.specs.declared.fault.BookFault.TheVariants.{HeaderNumber, NameByte, ShortHeader, TableEntry}
use Rattle.name_bytes.specs.Names.{all, between, name_byte, name_limit, name_start, right_name}
use Rattle.book_file.specs.declared.header.Header.{Header}
use Rattle.book_file.specs.declared.header.Kind.{Kind}
use Rattle.book_file.specs.declared.header.Kind.TheVariants.{Selecting, Shape}
use Rattle.book_file.specs.Files.{File, Filled, Right, bytes_of, entries, first_off, header, kind_byte, kind_of, mark_size, misspelt, name_at, names_at, names_bytes, reading, right_names, table_at, tables_at, tables_size, and_then, unless}
use Rattle.book_file.proofs.FileRead.{file_read}
use Rattle.book_file.proofs.FirstOff.{all_none, unless_none}
use Rattle.book_file.proofs.TablesRead.{tables_behind}

-- The header ------------------------------------------------------------------------------------------------------

abbrev pub numbered : ℕ → ℕ → ℕ → Kind → ℕ → Header
numbered states trees columns kind start = record { states = states; trees = trees; columns = columns; kind = kind; start = start }

pub header_back : (states trees columns : ℕ) (kind : Kind) (start : ℕ) (rest : List ℕ) →
    between 1 most_states states ≡ true → between 1 most_states trees ≡ true → between 1 tags columns ≡ true → nat_lt start states ≡ true →
    header (83 ∷ 69 ∷ 76 ∷ 1 ∷ 0 ∷ states ∷ trees ∷ columns ∷ kind_byte kind ∷ start ∷ rest)
    ≡ Ok (numbered states trees columns kind start)
header_back states trees columns kind start rest s t c b =
    let bs : List ℕ = 83 ∷ 69 ∷ 76 ∷ 1 ∷ 0 ∷ states ∷ trees ∷ columns ∷ kind_byte kind ∷ start ∷ rest in
    let long : 10 ≤ length bs = omega arith in
    cond-false (nat_lt (length bs) 10) (Err (ShortHeader (length bs))) _ (le-ltb (length bs) 10 long) ∙ numbers kind
  where
    numbers : (k : Kind) →
        cond {A = Result Header BookFault} (between 1 most_states states)
        (cond (between 1 most_states trees)
        (cond (between 1 tags columns)
        (cond (nat_le (kind_byte k) 1)
        (cond (nat_lt start states) (Ok (numbered states trees columns (kind_of (kind_byte k)) start))
        (Err (HeaderNumber 9))) (Err (HeaderNumber 8))) (Err (HeaderNumber 7))) (Err (HeaderNumber 6))) (Err (HeaderNumber 5))
        ≡ Ok (numbered states trees columns k start)
    numbers Shape = simp (s, t, c, b)
    numbers Selecting = simp (s, t, c, b)

-- The tables ------------------------------------------------------------------------------------------------------

table_back : (bound size at : ℕ) (xs rest : List ℕ) → Filled size bound xs → table_at bound at (take size (xs ++ rest)) ≡ Ok xs
table_back bound size at xs rest f =
    ap (table_at bound at) (take_at xs rest size f.0) ∙ unless_none (first_off (λ x. nat_lt x bound) at xs) TableEntry xs (all_none (λ x. nat_lt x bound) at xs f.1)

module _ (h : Header) (at : ℕ) (accept enter mark up side rest : List ℕ)
    (accepts : Filled h.states 2 accept) (enters : Filled (entries h) h.states enter) (marks : Filled (mark_size h.kind (entries h)) h.states mark)
    (ups : Filled (entries h) h.trees up) (sides : Filled (h.states * h.trees) h.states side)
  where
    abbrev bs : List ℕ
    bs = accept ++ (enter ++ (mark ++ (up ++ (side ++ rest))))

    behind_accept : drop h.states bs ≡ enter ++ (mark ++ (up ++ (side ++ rest)))
    behind_accept = drop_at accept _ h.states accepts.0

    behind_enter : drop (entries h) (enter ++ (mark ++ (up ++ (side ++ rest)))) ≡ mark ++ (up ++ (side ++ rest))
    behind_enter = drop_at enter _ (entries h) enters.0

    behind_mark : drop (mark_size h.kind (entries h)) (mark ++ (up ++ (side ++ rest))) ≡ up ++ (side ++ rest)
    behind_mark = drop_at mark _ (mark_size h.kind (entries h)) marks.0

    behind_up : drop (entries h) (up ++ (side ++ rest)) ≡ side ++ rest
    behind_up = drop_at up _ (entries h) ups.0

    pub tables_back : tables_at h at bs ≡ Ok (record { accept = accept; enter = enter; mark = mark; up = up; side = side })
    tables_back =
        let S : ℕ = h.states in
        let E : ℕ = entries h in
        let M : ℕ = mark_size h.kind (entries h) in
        simp (
          behind_accept,
          behind_enter,
          behind_mark,
          behind_up,
          table_back 2 S at accept (enter ++ (mark ++ (up ++ (side ++ rest)))) accepts,
          table_back S E (at + S) enter (mark ++ (up ++ (side ++ rest))) enters,
          table_back S M (at + S + E) mark (up ++ (side ++ rest)) marks,
          table_back h.trees E (at + S + E + M) up (side ++ rest) ups,
          table_back S (S * h.trees) (at + S + E + M + E) side rest sides,
        )

    pub behind_back : drop (tables_size h) bs ≡ rest
    behind_back = sym (tables_behind h bs) ∙ simp (behind_accept, behind_enter, behind_mark, behind_up, drop_at side rest (h.states * h.trees) sides.0)

    pub length_back : length bs ≡ tables_size h + length rest
    length_back = simp length-append (omega (arith, accepts.0, enters.0, marks.0, ups.0, sides.0))

-- The names -------------------------------------------------------------------------------------------------------

misspelt_none : (at b : ℕ) (bs : List ℕ) → name_start b ≡ true → all name_byte bs ≡ true → misspelt at (b ∷ bs) ≡ None
misspelt_none at b bs s r = cond-true (name_start b) (first_off name_byte (suc at) bs) (Some at) s ∙ all_none name_byte (suc at) bs r

name_back : (size at : ℕ) (w rest : List ℕ) → right_name w ≡ true → name_at size at (length w ∷ (w ++ rest)) ≡ Ok w
name_back size at [] rest h = cc
name_back size at (b ∷ bs) rest h =
    let n : ℕ = suc (length bs) in
    let p = and_parts (name_start b && all name_byte bs) (nat_le n name_limit) h in
    let q = and_parts (name_start b) (all name_byte bs) p.0 in
    let some : 1 ≤ n = omega arith in
    let whole : n ≤ length ((b ∷ bs) ++ rest) = simp length-append (omega arith) in
    cond-true (between 1 name_limit n) _ _ (and_from (nat_le 1 n) (nat_le n name_limit) (le-leb 1 n some) p.1)
    ∙ cond-true (nat_le n (length ((b ∷ bs) ++ rest))) _ _ (le-leb n (length ((b ∷ bs) ++ rest)) whole)
    ∙ ap (λ v. unless (misspelt (suc at) v) NameByte v) (take_at (b ∷ bs) rest n refl)
    ∙ unless_none (misspelt (suc at) (b ∷ bs)) NameByte (b ∷ bs) (misspelt_none (suc at) b bs q.0 q.1)

pub names_back : (size at : ℕ) (ws : List (List ℕ)) → right_names ws ≡ true → names_at size (length ws) at (names_bytes ws) ≡ Ok ws
names_back size at [] h = refl
names_back size at (w ∷ ws) h =
    let p = and_parts (right_name w) (right_names ws) h in
    let next : ℕ = at + suc (length w) in
    ap (λ r. and_then r (λ v. and_then (names_at size (length ws) (at + suc (length v)) (drop (length v) (w ++ names_bytes ws))) (λ vs. Ok (v ∷ vs)))) (name_back size at w (names_bytes ws) p.0)
    ∙ ap (λ xs. and_then (names_at size (length ws) next xs) (λ vs. Ok (w ∷ vs))) (drop_at w (names_bytes ws) (length w) refl)
    ∙ ap (λ r. and_then r (λ vs. Ok (w ∷ vs))) (names_back size next ws p.1)

-- The file --------------------------------------------------------------------------------------------------------

pub read_back : (f : File) → Right f → reading (bytes_of f) ≡ Ok f
read_back f r =
    let h : Header = numbered f.tables.states f.tables.trees f.tables.columns f.kind f.tables.start in
    let bs : List ℕ = bytes_of f in
    let t = f.tables in
    let rest : List ℕ = names_bytes f.names in
    let body : List ℕ = t.accept ++ (t.enter ++ (f.mark ++ (t.up ++ (t.side ++ rest)))) in
    let long = length_back h 10 t.accept t.enter f.mark t.up t.side rest r.accept r.enter r.mark r.up r.side in
    let whole : 10 + tables_size h ≤ length bs = omega arith in
    let count : length f.names ≡ h.columns - 1 = omega (arith, r.named) in
    sym
    (file_read bs h (sym (header_back t.states t.trees t.columns f.kind t.start body r.states r.trees r.columns r.start)) whole
    (record { accept = t.accept; enter = t.enter; mark = f.mark; up = t.up; side = t.side })
    (sym (tables_back h 10 t.accept t.enter f.mark t.up t.side rest r.accept r.enter r.mark r.up r.side))
    (10 + tables_size h) rest refl
    (sym (behind_back h 10 t.accept t.enter f.mark t.up t.side rest r.accept r.enter r.mark r.up r.side))
    f.names (sym (ap (λ n. names_at (10 + tables_size h + length rest) n (10 + tables_size h) rest) (sym count) ∙ names_back (10 + tables_size h + length rest) (10 + tables_size h) f.names r.names)))
