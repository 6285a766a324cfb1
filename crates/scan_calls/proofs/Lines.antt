-- The checks of a call, line by line. Assumes nothing.
use Rattle.std.proofs.Common.{◌≡◌, ℕ, zero, suc, ◌-◌, ◌<◌, ◌≤◌, Bool, true, false, cond, not, eqb, leb, ◌≢◌, List, [], ◌∷◌, ◌++◌, length, get_or, set, Ok, Err, Result, sym, refl, ap, ◌∙◌, arith, get_or-set_other}
use Rattle.std.proofs.lemmas.Bool.{le-leb, lt-leb, eqb-true, not-false, both_ways}
use Rattle.book.specs.declared.event.Event.{Event}
use Rattle.book.specs.declared.answer.Refusal.{Refusal}
use Rattle.book.specs.declared.answer.Refusal.TheVariants.{BadTag, TooDeep, TooMany, HoldFull, NoneOpen, OtherTag, StillOpen}
use Rattle.book.specs.Limits.{most_open}
use Rattle.book.specs.Catalogue.{within}
use Rattle.book.specs.Checks.{scan_lines}
use Rattle.scan.specs.Tests.{is_over, is_bare, is_open, is_other, open_tags, checked}
use Rattle.scan.specs.Model.{test}
use Rattle.scan_calls.specs.declared.scanning.Scan.{Scan}
use Rattle.scan_calls.specs.Scans.{stack, place_of, model_of, meaning_of, table_of, first_lines}

-- Lines in general ------------------------------------------------------------------------------------------------

-- a line that is met, and one that is not
pub hit : {R : Type 0} (b : Bool) (r x : R) → b ≡ true → r ≡ cond b r x
hit b r x e = ap (λ (c : Bool). cond c r x) (sym e)

pub pass : {R : Type 0} (b : Bool) (r x y : R) → b ≡ false → y ≡ x → y ≡ cond b r x
pass b r x y e f = f ∙ ap (λ (c : Bool). cond c r x) (sym e)

-- an answer is no refusal
pub apart : {A C : Type 0} (a : A) (r : Refusal) → ◌≡◌ {A = Result A Refusal} (Ok a) (Err r) → C
apart a r q = let z : ◌≡◌ {A = ℕ} 0 1 = cc in absurd (omega arith)

-- of these lines none is met
abbrev pub Clear : (Refusal → Bool) → List Refusal → Type 0
Clear p [] = Unit {0}
Clear p (r ∷ rs) = (p r ≡ false) × Clear p rs

pub clear : {A : Type 0} (p : Refusal → Bool) (rs : List Refusal) (a : A) → Ok a ≡ checked p rs a → Clear p rs
clear p [] a e = tt
clear {A = A} p (r ∷ rs) a e = go (p r) refl e (clear p rs a)
  where
    go : (b : Bool) → p r ≡ b → Ok a ≡ cond b (Err r) (checked p rs a) → (Ok a ≡ checked p rs a → Clear p rs) → (p r ≡ false) × Clear p rs
    go true q f ih = apart a r f
    go false q f ih = (q, ih f)

-- another answer where none is met
abbrev pub with_value : {A B : Type 0} → B → Result A Refusal → Result B Refusal
with_value b (Ok a) = Ok b
with_value b (Err r) = Err r

pub checked_value : {A B : Type 0} (p : Refusal → Bool) (rs : List Refusal) (a : A) (b : B) → checked p rs b ≡ with_value b (checked p rs a)
checked_value p [] a b = refl
checked_value p (r ∷ rs) a b = go (p r) (checked_value p rs a b)
  where
    go : (x : Bool) → checked p rs b ≡ with_value b (checked p rs a) → cond x (Err r) (checked p rs b) ≡ with_value b (cond x (Err r) (checked p rs a))
    go true ih = refl
    go false ih = ih

pub ok_of : {A : Type 0} → A → Result A Refusal
ok_of a = Ok a

pub ok_is : {A B : Type 0} (p : Refusal → Bool) (rs : List Refusal) (a : A) (b b' : B) → Ok a ≡ checked p rs a → b ≡ b' → Ok b ≡ checked p rs b'
unfolding ok_of
ok_is p rs a b b' e f = ap ok_of f ∙ ap (with_value b') e ∙ sym (checked_value p rs a b')

pub err_is : {A B : Type 0} (p : Refusal → Bool) (rs : List Refusal) (a : A) (b : B) (r : Refusal) → Err r ≡ checked p rs a → Err r ≡ checked p rs b
err_is p rs a b r e = ap (with_value b) e ∙ sym (checked_value p rs a b)

-- lines behind lines
front_ok : {A B : Type 0} (p : Refusal → Bool) (rs qs : List Refusal) (a : A) (b : B) → Ok a ≡ checked p rs a → checked p (rs ++ qs) b ≡ checked p qs b
front_ok p [] qs a b e = refl
front_ok p (r ∷ rs) qs a b e =
    let f = clear p (r ∷ rs) a e in
    ap (λ (x : Bool). cond x (Err r) (checked p (rs ++ qs) b)) f.0 ∙ front_ok p rs qs a b (e ∙ ap (λ (x : Bool). cond x (Err r) (checked p rs a)) f.0)

front_err : {A B : Type 0} (p : Refusal → Bool) (rs qs : List Refusal) (a : A) (b : B) (l : Refusal) → Err l ≡ checked p rs a → Err l ≡ checked p (rs ++ qs) b
front_err p [] qs a b l e = apart a l (sym e)
front_err {A = A} {B = B} p (r ∷ rs) qs a b l e = go (p r) e (front_err p rs qs a b l)
  where
    go : (x : Bool) → Err l ≡ cond x (Err r) (checked p rs a) → (Err l ≡ checked p rs a → Err l ≡ checked p (rs ++ qs) b) → Err l ≡ cond x (Err r) (checked p (rs ++ qs) b)
    go true f ih = let same : l ≡ r = cc in ap (λ (x : Refusal). Err x) same
    go false f ih = ih f

-- The lines of a scan ---------------------------------------------------------------------------------------------

abbrev pub rest_lines : List Refusal
rest_lines = BadTag ∷ TooDeep ∷ TooMany ∷ HoldFull ∷ NoneOpen ∷ OtherTag ∷ StillOpen ∷ []

-- none of the first lines is met, and the others give the answer; or one of the first gives it
pub after_first : (p : Refusal → Bool) (v : Result (Unit {0}) Refusal) → Ok (tt {0}) ≡ checked p first_lines (tt {0}) → v ≡ checked p rest_lines (tt {0}) → v ≡ checked p scan_lines (tt {0})
after_first p v e f = f ∙ sym (front_ok p first_lines rest_lines tt tt e)

pub at_first : (p : Refusal → Bool) (l : Refusal) → Err l ≡ checked p first_lines (tt {0}) → Err l ≡ checked p scan_lines (tt {0})
at_first p l e = front_err p first_lines rest_lines tt tt l e

-- Where the events stand ------------------------------------------------------------------------------------------

pub going : (ended : Bool) (ts : List ℕ) → is_over (place_of ended ts) ≡ false → ended ≡ false
going true ts e = e
going false ts e = refl

tags_are : (ended : Bool) (ts : List ℕ) → ended ≡ false → open_tags (place_of ended ts) ≡ ts
tags_are ended ts e = ap (λ (b : Bool). open_tags (place_of b ts)) e

pub stack_more : (tags : List ℕ) (d : ℕ) → 1 ≤ d → stack tags d ≡ get_or tags (d - 1) 0 ∷ stack tags (d - 1)
stack_more tags zero le = absurd (omega arith)
stack_more tags (suc d) le = let e : d ≡ suc d - 1 = omega arith in ap (λ (k : ℕ). get_or tags k 0 ∷ stack tags k) e

pub stack_length : (tags : List ℕ) (d : ℕ) → length (stack tags d) ≡ d
stack_length tags zero = refl
stack_length tags (suc d) = ap suc (stack_length tags d)

-- a tag that is written above is not seen
pub stack_set : (tags : List ℕ) (k t d : ℕ) → d ≤ k → stack (set tags k t) d ≡ stack tags d
stack_set tags k t zero le = refl
stack_set tags k t (suc d) le = let ne : d ≢ k = omega arith in λ i. get_or-set_other tags k d t 0 ne i ∷ stack_set tags k t d (let z : d ≤ k = omega arith in z) i

module _ (ended : Bool) (tags : List ℕ) (d : ℕ) (on : ended ≡ false) where
  pub bare_yes : d ≡ 0 → is_bare (place_of ended (stack tags d)) ≡ true
  bare_yes z = ap (λ (b : Bool). is_bare (place_of b (stack tags d))) on ∙ ap (λ (k : ℕ). is_bare (within (stack tags k))) z

  pub bare_no : 1 ≤ d → is_bare (place_of ended (stack tags d)) ≡ false
  bare_no some = ap (λ (b : Bool). is_bare (place_of b (stack tags d))) on ∙ ap (λ (ts : List ℕ). is_bare (within ts)) (stack_more tags d some)

  pub open_yes : 1 ≤ d → is_open (open_tags (place_of ended (stack tags d))) ≡ true
  open_yes some = ap is_open (tags_are ended (stack tags d) on ∙ stack_more tags d some)

  pub open_no : d ≡ 0 → is_open (open_tags (place_of ended (stack tags d))) ≡ false
  open_no z = ap is_open (tags_are ended (stack tags d) on) ∙ ap (λ (k : ℕ). is_open (stack tags k)) z

  pub other_is : (t : ℕ) → 1 ≤ d → is_other t (open_tags (place_of ended (stack tags d))) ≡ not (eqb (get_or tags (d - 1) 0) t)
  other_is t some = ap (is_other t) (tags_are ended (stack tags d) on ∙ stack_more tags d some)

  deep_is : leb most_open (length (open_tags (place_of ended (stack tags d)))) ≡ leb most_open d
  deep_is = ap (λ (ts : List ℕ). leb most_open (length ts)) (tags_are ended (stack tags d) on) ∙ ap (leb most_open) (stack_length tags d)

  pub deep_yes : most_open ≤ d → leb most_open (length (open_tags (place_of ended (stack tags d)))) ≡ true
  deep_yes le = deep_is ∙ le-leb most_open d le

  pub deep_no : d < most_open → leb most_open (length (open_tags (place_of ended (stack tags d)))) ≡ false
  deep_no lt = deep_is ∙ lt-leb most_open d lt

  -- and back
  pub some_open : is_bare (place_of ended (stack tags d)) ≡ false → 1 ≤ d
  some_open f = go d bare_yes f
    where
      go : (k : ℕ) → (k ≡ 0 → is_bare (place_of ended (stack tags k)) ≡ true) → is_bare (place_of ended (stack tags k)) ≡ false → 1 ≤ k
      go zero bare no_bare = absurd (both_ways (is_bare (place_of ended [])) no_bare (bare refl))
      go (suc k) bare no_bare = omega arith

  pub none_open : is_open (open_tags (place_of ended (stack tags d))) ≡ false → d ≡ 0
  none_open f = go d open_yes f
    where
      go : (k : ℕ) → (1 ≤ k → is_open (open_tags (place_of ended (stack tags k))) ≡ true) → is_open (open_tags (place_of ended (stack tags k))) ≡ false → k ≡ 0
      go zero some none = refl
      go (suc k) some none = absurd (both_ways (is_open (open_tags (place_of ended (stack tags (suc k))))) none (some (omega arith)))

  pub top_is : (t : ℕ) → 1 ≤ d → is_other t (open_tags (place_of ended (stack tags d))) ≡ false → get_or tags (d - 1) 0 ≡ t
  top_is t some f = eqb-true (get_or tags (d - 1) 0) t (not-false (eqb (get_or tags (d - 1) 0) t) (sym (other_is t some) ∙ f))

-- the lines of a scan's call: one of the first gives the answer; or none of them is met, the scan goes on, and the others give it
module _ {B : Type 0} {selects : _} {book : _} (s : Scan B selects book) (room : ℕ) (e : Event) where
  abbrev lines : Refusal → Bool
  lines = test (table_of s) (meaning_of s) (model_of s) room e

  pub among_first : (l : Refusal) → Err l ≡ checked lines first_lines (tt {0}) → Err l ≡ checked lines scan_lines (tt {0})
  among_first l is = at_first lines l is

  module _ (first : Ok (tt {0}) ≡ checked lines first_lines (tt {0})) where
    pub goes_on : s.ended ≡ false
    goes_on = going s.ended _ (clear lines first_lines tt first).1.0

    pub behind_first : (v : Result (Unit {0}) Refusal) → v ≡ checked lines rest_lines (tt {0}) → v ≡ checked lines scan_lines (tt {0})
    behind_first v is = after_first lines v first is
