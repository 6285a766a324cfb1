-- The pairs of a table, as its rows are written. Assumes nothing.
use Rattle.std.proofs.Common.{◌≡◌, ℕ, ◌+◌, ◌-◌, ◌<◌, ◌≤◌, Bool, true, false, ◌&&◌, ◌||◌, ltb, ◌≢◌, List, [], ◌++◌, length, get_or, set, take, drop, replicate, sym, refl, ap, ap₂, ◌∙◌, subst, inl, inr, arith, get_or-set_other, get_or-set_same}
use lib.ListN.{length-replicate, get_or-replicate, get_or-eq_default}
use Rattle.std.proofs.lemmas.List.{get_or_default, get_or-take, get_or_append_left, get_or-append_right, get_or-drop}
use Rattle.std.proofs.lemmas.Bool.{cases_eq, cases_lt, lt-ltb, le-ltb}
use Rattle.ready.specs.declared.state_set.StateSet.{StateSet}
use Rattle.ready.specs.Sets.{has}
use Rattle.ready.specs.Pairs.{lies, nothing, joined}
use Rattle.ready.proofs.BitLaws.{has_zeros, or_none}

pub lies_is : (rows : List StateSet) (q p : ℕ) → lies rows q p ≡ has (get_or rows q nothing).words p
unfolding lies
lies_is rows q p = refl

pub lies_same : (rows : List StateSet) (q : ℕ) (s : StateSet) (p : ℕ) → q < length rows → lies (set rows q s) q p ≡ has s.words p
unfolding lies
lies_same rows q s p h = ap (λ (x : StateSet). has x.words p) (get_or-set_same rows q s nothing h)

pub lies_other : (rows : List StateSet) (q : ℕ) (s : StateSet) (k p : ℕ) → k ≢ q → lies (set rows q s) k p ≡ lies rows k p
unfolding lies
lies_other rows q s k p n = ap (λ (x : StateSet). has x.words p) (get_or-set_other rows q k s nothing n)

pub lies_past : (rows : List StateSet) (q p : ℕ) → length rows ≤ q → lies rows q p ≡ false
unfolding lies
lies_past rows q p h = ap (λ (x : StateSet). has x.words p) (get_or-eq_default rows nothing h) ∙ has_zeros [] refl p

-- whatever else a row past the last is read as, if it has no member
pub lies_or : (rows : List StateSet) (d : StateSet) → ((p : ℕ) → has d.words p ≡ false) → (q p : ℕ) → has (get_or rows q d).words p ≡ lies rows q p
lies_or rows d none q p = elim (cases_lt q (length rows)) [
  | inl lt ↦ ap (λ (x : StateSet). has x.words p) (get_or_default rows q d nothing lt) ∙ sym (lies_is rows q p)
  | inr le ↦ ap (λ (x : StateSet). has x.words p) (get_or-eq_default rows d le) ∙ none p ∙ sym (lies_past rows q p le)
]

pub lies_none : (n : ℕ) (s : StateSet) → ((p : ℕ) → has s.words p ≡ false) → (q p : ℕ) → lies (replicate n s) q p ≡ false
unfolding lies
lies_none n s h q p = elim (cases_lt q n) [ inl lt ↦ inside lt | inr le ↦ outside le ]
  where
    inside : q < n → lies (replicate n s) q p ≡ false
    inside lt = ap (λ (x : StateSet). has x.words p) (get_or-replicate n q s nothing lt) ∙ h p

    outside : n ≤ q → lies (replicate n s) q p ≡ false
    outside le = lies_past (replicate n s) q p (subst (λ (k : ℕ). k ≤ q) (sym (length-replicate n s)) le)

-- one row more has been written: each row below i + 1 is `new`, and the others are `old`
pub next_row : (rows : List StateSet) (i : ℕ) (s : StateSet) → i < length rows
    → (old extra : ℕ → ℕ → Bool)
    → ((q p : ℕ) → lies rows q p ≡ (old q p || (ltb q i && extra q p)))
    → ((p : ℕ) → has s.words p ≡ (old i p || extra i p))
    → (q p : ℕ) → lies (set rows i s) q p ≡ (old q p || (ltb q (i + 1) && extra q p))
next_row rows i s lt old extra h e q p = elim (cases_eq q i) [ inl same ↦ here same | inr other ↦ there other ]
  where
    goal : Type 0
    goal = lies (set rows i s) q p ≡ (old q p || (ltb q (i + 1) && extra q p))

    below : ℕ → Bool
    below n = ltb q n

    here : q ≡ i → goal
    here same =
        ap (λ (x : ℕ). lies (set rows i s) x p) same ∙ lies_same rows i s p lt ∙ e p
        ∙ ap (λ (x : ℕ). old x p || extra x p) (sym same)
        ∙ ap (λ (b : Bool). old q p || (b && extra q p)) (sym (lt-ltb q (i + 1) (omega arith)))

    there : (q ≡ i → ⊥) → goal
    there other =
        lies_other rows i s q p other ∙ h q p
        ∙ ap (λ (b : Bool). old q p || (b && extra q p))
        (elim (cases_lt q i) [ inl l ↦ lt-ltb q i l ∙ sym (lt-ltb q (i + 1) (omega arith)) | inr g ↦ le-ltb q i g ∙ sym (le-ltb q (i + 1) (omega arith)) ])

-- a row that is left as it is
pub same_row : (rows : List StateSet) (i : ℕ)
    → (old extra : ℕ → ℕ → Bool)
    → ((q p : ℕ) → lies rows q p ≡ (old q p || (ltb q i && extra q p)))
    → ((p : ℕ) → extra i p ≡ false)
    → (q p : ℕ) → lies rows q p ≡ (old q p || (ltb q (i + 1) && extra q p))
same_row rows i old extra h e q p = h q p ∙ ap (λ (b : Bool). old q p || b) (elim (cases_eq q i) [ inl same ↦ here same | inr other ↦ there other ])
  where
    none : (b : Bool) → (b && extra i p) ≡ false
    none true = e p
    none false = refl

    here : q ≡ i → (ltb q i && extra q p) ≡ (ltb q (i + 1) && extra q p)
    here same = subst (λ (x : ℕ). (ltb x i && extra x p) ≡ (ltb x (i + 1) && extra x p)) (sym same) (none (ltb i i) ∙ sym (none (ltb i (i + 1))))

    there : (q ≡ i → ⊥) → (ltb q i && extra q p) ≡ (ltb q (i + 1) && extra q p)
    there other = ap (λ (b : Bool). b && extra q p)
        (elim (cases_lt q i) [ inl l ↦ lt-ltb q i l ∙ sym (lt-ltb q (i + 1) (omega arith)) | inr g ↦ le-ltb q i g ∙ sym (le-ltb q (i + 1) (omega arith)) ])

-- the row i is not yet written
pub untouched : (rows : List StateSet) (i : ℕ)
    → (old extra : ℕ → ℕ → Bool)
    → ((q p : ℕ) → lies rows q p ≡ (old q p || (ltb q i && extra q p)))
    → (p : ℕ) → lies rows i p ≡ old i p
untouched rows i old extra h p =
    h i p ∙ ap (λ (b : Bool). old i p || (b && extra i p)) (le-ltb i i (omega arith)) ∙ or_none (old i p)

-- the first rows
lies_take : (rows : List StateSet) (w q p : ℕ) → q < w → lies (take w rows) q p ≡ lies rows q p
unfolding lies
lies_take rows w q p h = ap (λ (x : StateSet). has x.words p) (get_or-take w rows q nothing h)

lies_before : (rows more : List StateSet) (q p : ℕ) → q < length rows → lies (rows ++ more) q p ≡ lies rows q p
unfolding lies
lies_before rows more q p h = ap (λ (x : StateSet). has x.words p) (get_or_append_left rows more nothing q h)

lies_behind : (rows all : List StateSet) (q p : ℕ) → length rows ≤ q → lies (rows ++ drop (length rows) all) q p ≡ lies all q p
unfolding lies
lies_behind rows all q p h =
    let e : length rows + (q - length rows) ≡ q = omega arith in
    ap (λ (x : StateSet). has x.words p)
    (get_or-append_right rows (drop (length rows) all) (length rows) q nothing refl h ∙ get_or-drop (length rows) all (q - length rows) nothing ∙ ap (λ (k : ℕ). get_or all k nothing) e)

-- the first w rows, those of `done`, have been written, each with its pair more
pub joined_rows : (rows done : List StateSet) (w from to : ℕ) → length done ≡ w
    → ((q p : ℕ) → lies done q p ≡ (lies (take w rows) q p || (ltb q w && (lies (take w rows) q from && lies rows to p))))
    → (q p : ℕ) → lies (done ++ drop w rows) q p ≡ joined (lies rows) w from to q p
joined_rows rows done w from to long h q p = elim (cases_lt q w) [ inl lt ↦ inside lt | inr le ↦ outside le ]
  where
    inside : q < w → lies (done ++ drop w rows) q p ≡ joined (lies rows) w from to q p
    inside lt =
        lies_before done (drop w rows) q p (omega arith) ∙ h q p
        ∙ ap₂ (λ (x y : Bool). x || (ltb q w && (y && lies rows to p))) (lies_take rows w q p lt) (lies_take rows w q from lt)

    outside : w ≤ q → lies (done ++ drop w rows) q p ≡ joined (lies rows) w from to q p
    outside le =
        ap (λ (n : ℕ). lies (done ++ drop n rows) q p) (sym long) ∙ lies_behind done rows q p (omega arith)
        ∙ sym (or_none (lies rows q p)) ∙ ap (λ (b : Bool). lies rows q p || (b && (lies rows q from && lies rows to p))) (sym (le-ltb q w le))
