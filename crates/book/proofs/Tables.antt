-- The levels computed from a table that fits decide what the endings answer.
use Rattle.std.proofs.Common.{◌≡◌, ℕ, zero, suc, ◌<◌, Bool, true, false, cond, not, ◌&&◌, ◌↔◌, List, [], ◌∷◌, ◌++◌, sym, refl, ◌∙◌, subst, inl, inr, arith}
use Rattle.std.proofs.lemmas.Bool.{cases_lt, cases_Bool, and_parts, and_from, or_cases, or_left, or_right, both_ways, not-true, not_from_false}
use Rattle.book.specs.declared.event.Event.{Event}
use Rattle.book.specs.Catalogue.{within, nest, Sound}
use Rattle.book.specs.Machines.{Machine, Selecting, Lawful, Stand, last, others, run, plainly, marking, accepted, selected}
use Rattle.book.specs.Levels.{Possible, LevelsTell}
use Rattle.book.specs.Orders.{Some, Opened}
use Rattle.book.specs.Tables.{Fits, some_below, possible, may_end, TwoTests, Decided, TablesDecideItem, TablesDecideAcceptance}
use Rattle.book.proofs.Nesting.{ending, within_not_broken}
use Rattle.book.proofs.Ranges.{back_below, reach_below, plain_run_below, marked_run_below}
use Rattle.book.proofs.Levels.{levels_decide_selected, levels_decide_accepted}
use Rattle.book.proofs.Questions.{every_unless, never_unless}

-- Some number below n passes --------------------------------------------------------------------------------------

pub some_found : (n : ℕ) (test : ℕ → Bool) → some_below n test ≡ true → (k : ℕ) × (k < n) × (test k ≡ true)
some_found zero p h = cc
some_found (suc n) p h = elim (or_cases (p n) (some_below n p) h) [ inl a ↦ (n, omega arith, a) | inr b ↦ (let r = some_found n p b in (r.0, (let c = r.1 in omega arith), r.2)) ]

pub found_some : (n : ℕ) (p : ℕ → Bool) (k : ℕ) → k < n → p k ≡ true → some_below n p ≡ true
found_some zero p k lt h = absurd (omega arith)
found_some (suc n) p k lt h = elim (cases_lt k n) [
  | inl a ↦ or_right (p n) (some_below n p) (found_some n p k a h)
  | inr b ↦ or_left (p n) (some_below n p) (subst (λ (j : ℕ). p j ≡ true) (let e : k ≡ n = omega arith in e) h)
]

-- The levels, computed ------------------------------------------------------------------------------------------

answer_is : (b a : Bool) → (cond b a (not a) ≡ true) ↔ (a ≡ b)
answer_is true a = (λ h. h, λ h. h)
answer_is false a = (λ h. not-true a h, λ h. not_from_false a h)

module _ (reach : ℕ → ℕ → Bool) (m : Machine) (law : Lawful m) (some : 0 < m.width) (fits : Fits m reach) (b : Bool) where
  pub possible_is : (ts ss : List ℕ) (q : ℕ) → q < m.width → (possible reach m b ts ss q ≡ true) ↔ Possible m b ts ss q
  possible_is [] ss q h = (
    λ y. let k = some_found m.width (λ p. reach q p && cond b (m.accepts p) (not (m.accepts p))) y in
        let both = and_parts (reach q k.0) (cond b (m.accepts k.0) (not (m.accepts k.0))) k.2 in
        (k.0, (fits q k.0 h k.1).0 both.0, (answer_is b (m.accepts k.0)).0 both.1),
    λ x. let lt = reach_below m law some q x.0 h x.1 in
        found_some m.width (λ p. reach q p && cond b (m.accepts p) (not (m.accepts p))) x.0 lt
        (and_from (reach q x.0) (cond b (m.accepts x.0) (not (m.accepts x.0))) ((fits q x.0 h lt).1 x.1) ((answer_is b (m.accepts x.0)).1 x.2)),
  )
  possible_is (t ∷ ts) ss q h = (
    λ y. let k = some_found m.width (λ p. reach q p && possible reach m b ts (others ss) (m.back (last ss) p t)) y in
        let both = and_parts (reach q k.0) (possible reach m b ts (others ss) (m.back (last ss) k.0 t)) k.2 in
        (k.0, (fits q k.0 h k.1).0 both.0, (possible_is ts (others ss) (m.back (last ss) k.0 t) (back_below m law some (last ss) k.0 t)).0 both.1),
    λ x. let lt = reach_below m law some q x.0 h x.1 in
        found_some m.width (λ p. reach q p && possible reach m b ts (others ss) (m.back (last ss) p t)) x.0 lt
        (and_from (reach q x.0) (possible reach m b ts (others ss) (m.back (last ss) x.0 t)) ((fits q x.0 h lt).1 x.1)
        ((possible_is ts (others ss) (m.back (last ss) x.0 t) (back_below m law some (last ss) x.0 t)).1 x.2)),
  )

-- From the two tests to the endings -------------------------------------------------------------------------------

pub two_tests : (question : List Event → Bool) (h : List Event) (y n : Bool) → Sound h → (y ≡ true) ↔ Some question true h → (n ≡ true) ↔ Some question false h
    → TwoTests question h y n
two_tests question h true true s yes_is no_is = (yes_is.0 refl, no_is.0 refl)
two_tests question h true false s yes_is no_is = every_unless question h (λ x. both_ways false refl (no_is.1 x))
two_tests question h false true s yes_is no_is = never_unless question h (λ x. both_ways false refl (yes_is.1 x))
two_tests question h false false s yes_is no_is =
    let e = ending h s in
    elim (cases_Bool (question (h ++ e.0))) [ inl a ↦ both_ways false refl (yes_is.1 (e.0, e.1, a)) | inr a ↦ both_ways false refl (no_is.1 (e.0, e.1, a)) ]

-- of an opened item
pub decided : (m : Selecting) (h : List Event) (i : ℕ) (y n : Bool) → Opened h i → TwoTests (selected m i) h y n → Decided m h i y n
decided m h i true true o d = (o, d.0, d.1)
decided m h i true false o d = d
decided m h i false true o d = (o, d)
decided m h i false false o d = d

-- both tests, for a run whose levels tell
module _ (reach : ℕ → ℕ → Bool) (m : Machine) (law : Lawful m) (some : 0 < m.width) (fits : Fits m reach) where
  pub levels_tested : (ts : List ℕ) (c : Stand) (question : List Event → Bool) (h : List Event) → nest h ≡ within ts → c.state < m.width →
      LevelsTell m ts c question h → TwoTests question h (may_end reach m ts c true) (may_end reach m ts c false)
  levels_tested ts c question h at below tell =
      let is = (λ (b : Bool). possible_is reach m law some fits b ts c.aside c.state below) in
      two_tests question h (may_end reach m ts c true) (may_end reach m ts c false) (λ e. within_not_broken ts (sym at ∙ e))
      (λ y. (tell true).1.0 ((is true).0 y), λ x. (is true).1 ((tell true).1.1 x))
      (λ y. (tell false).1.0 ((is false).0 y), λ x. (is false).1 ((tell false).1.1 x))

pub tables_decide_item : TablesDecideItem
tables_decide_item m reach law mark_law some fits h i ts at o =
    let c : Stand = run m.shape (marking m i) h in
    decided m h i (may_end reach m.shape ts c true) (may_end reach m.shape ts c false) o
    (levels_tested reach m.shape law some fits ts c (selected m i) h at (marked_run_below m law mark_law some i h) (levels_decide_selected m h i ts at o))

pub tables_decide_acceptance : TablesDecideAcceptance
tables_decide_acceptance m reach law some fits h ts at =
    levels_tested reach m law some fits ts (run m (plainly m) h) (accepted m) h at (plain_run_below m law some h) (levels_decide_accepted m h ts at)
