-- The laws of two books as one.
use Rattle.std.proofs.Common.{◌≡◌, ℕ, suc, ◌+◌, ◌-◌, ◌*◌, ◌/◌, ◌%◌, ◌<◌, ◌≤◌, Bool, true, false, cond, ◌&&◌, eqb, ltb, leb, List, [], ◌∷◌, sym, refl, ap, ◌∙◌, subst, ap₂, zero-mul, arith}
use lib.Arith.{digits_lt, digits_div, digits_mod}
use Rattle.std.proofs.lemmas.Bool.{lt-ltb, le-leb}
use Rattle.book.specs.Limits.{most_states}
use Rattle.book.specs.declared.event.Event.{Event}
use Rattle.book.specs.declared.event.Event.TheVariants.{Open, Close, End}
use Rattle.book.specs.Catalogue.{opened}
use Rattle.book.specs.Machines.{Machine, Lawful, selecting, Entering, plainly, marking, Stand, stand, last, others, step, run}
use Rattle.kinds.specs.Both.{joined, by_parts, both, both_marks, ProductFits, BothAccepts, BothSelects}
use Rattle.kinds.proofs.Simulations.{follow_related, follow_pair, Enters, plainly_enters, marking_enters}

-- States set aside, part by part, each within its width.
data Beside (v w : ℕ) : List ℕ → List ℕ → List ℕ → Type 0 where
  none : Beside v w [] [] []
  more : {a b : ℕ} {ss xs ys : List ℕ} → a < v → b < w → Beside v w ss xs ys → Beside v w (joined w a b ∷ ss) (a ∷ xs) (b ∷ ys)

-- A run of the two stands where the runs of the parts stand.
record Stands (v w : ℕ) (s : Stand) (p : Stand × Stand) : Type 0 where
  pub state : s.state ≡ joined w p.0.state p.1.state
  pub left : p.0.state < v
  pub right : p.1.state < w
  pub aside : Beside v w s.aside p.0.aside p.1.aside
  pub left_items : p.0.items ≡ s.items
  pub right_items : p.1.items ≡ s.items

below : (v x : ℕ) → 0 < v → x ≤ v - 1 → x < v
below v x some h = omega arith

width_is : (m n : Machine) → ProductFits m n → (both m n).width ≡ m.width * n.width
width_is m n fits = ap (λ (b : Bool). cond b (m.width * n.width) 0) (le-leb (m.width * n.width) most_states fits.2)

pub both_some : (m n : Machine) → ProductFits m n → 0 < (both m n).width
both_some m n fits =
    let some : 0 * n.width + 0 < m.width * n.width = digits_lt fits.0 fits.1 in
    omega (arith, width_is m n fits)

-- The parts, whose product of widths is above 0 and within the limit.
module _ (m n : Machine) (p : Lawful m) (q : Lawful n) (fits : ProductFits m n) where
  joined_below : (a b : ℕ) → a < m.width → b < n.width → ltb (joined n.width a b) (both m n).width ≡ true
  joined_below a b ha hb =
      ap (λ (x : ℕ). ltb (joined n.width a b) x) (width_is m n fits) ∙ lt-ltb (joined n.width a b) (m.width * n.width) (digits_lt ha hb)

  -- Answers part by part ------------------------------------------------------------------------------------------

  by_parts_joined : (f g : ℕ → ℕ → ℕ) (a b t : ℕ) → a < m.width → b < n.width
      → by_parts m.width n.width f g (joined n.width a b) t ≡ joined n.width (f a t) (g b t)
  by_parts_joined f g a b t ha hb =
      ap (λ (x : Bool). cond x (joined n.width (f (joined n.width a b / n.width) t) (g (joined n.width a b % n.width) t)) 0) (joined_below a b ha hb)
      ∙ ap₂ (λ (x y : ℕ). joined n.width (f x t) (g y t)) (digits_div a hb) (digits_mod a hb)

  back_joined : (a b x y t : ℕ) → a < m.width → b < n.width → x < m.width → y < n.width
      → (both m n).back (joined n.width a b) (joined n.width x y) t ≡ joined n.width (m.back a x t) (n.back b y t)
  back_joined a b x y t ha hb hx hy =
      let s : ℕ = joined n.width a b in
      let r : ℕ = joined n.width x y in
      ap₂ (λ (c d : Bool). cond (c && d) (joined n.width (m.back (s / n.width) (r / n.width) t) (n.back (s % n.width) (r % n.width) t)) 0) (joined_below a b ha hb) (joined_below x y hx hy)
      ∙ ap₂ (λ (c d : ℕ). joined n.width (m.back c (r / n.width) t) (n.back d (r % n.width) t)) (digits_div a hb) (digits_mod a hb)
      ∙ ap₂ (λ (c d : ℕ). joined n.width (m.back a c t) (n.back b d t)) (digits_div x hy) (digits_mod x hy)

  accepts_joined : (a b : ℕ) → a < m.width → b < n.width → (both m n).accepts (joined n.width a b) ≡ (m.accepts a && n.accepts b)
  accepts_joined a b ha hb =
      ap (λ (x : Bool). x && (m.accepts (joined n.width a b / n.width) && n.accepts (joined n.width a b % n.width))) (joined_below a b ha hb)
      ∙ ap₂ (λ (x y : ℕ). m.accepts x && n.accepts y) (digits_div a hb) (digits_mod a hb)

  -- Runs part by part ---------------------------------------------------------------------------------------------

  last_beside : {ss xs ys : List ℕ} → Beside m.width n.width ss xs ys
      → (last ss ≡ joined n.width (last xs) (last ys)) × (last xs < m.width) × (last ys < n.width)
  last_beside none = (let z : 0 * n.width ≡ 0 = zero-mul n.width in omega arith, fits.0, fits.1)
  last_beside (more a b r) = (refl, a, b)

  others_beside : {ss xs ys : List ℕ} → Beside m.width n.width ss xs ys → Beside m.width n.width (others ss) (others xs) (others ys)
  others_beside none = none
  others_beside (more a b r) = r

  module _ (f g h : Entering) (left : Enters m g) (right : Enters n h)
      (enter : (k a b t : ℕ) → a < m.width → b < n.width → f k (joined n.width a b) t ≡ joined n.width (g k a t) (h k b t)) where
    keep : (s : Stand) (o : Stand × Stand) (e : Event) → Stands m.width n.width s o
        → Stands m.width n.width (step (both m n) f s e) (step m g o.0 e, step n h o.1 e)
    keep s o (Open t) r =
        record {
          state = ap (λ (x : ℕ). f (suc s.items) x t) r.state
              ∙ enter (suc s.items) o.0.state o.1.state t r.left r.right
              ∙ ap₂ (λ (x y : ℕ). joined n.width (g (suc x) o.0.state t) (h (suc y) o.1.state t)) (sym r.left_items) (sym r.right_items);
          left = below m.width (g (suc o.0.items) o.0.state t) fits.0 (left (suc o.0.items) o.0.state t);
          right = below n.width (h (suc o.1.items) o.1.state t) fits.1 (right (suc o.1.items) o.1.state t);
          aside = subst (λ (x : ℕ). Beside m.width n.width (x ∷ s.aside) (o.0.state ∷ o.0.aside) (o.1.state ∷ o.1.aside)) (sym r.state) (more r.left r.right r.aside);
          left_items = ap suc r.left_items;
          right_items = ap suc r.right_items;
        }
    keep s o (Close t) r =
        let l = last_beside r.aside in
        record {
          state = ap₂ (λ (x y : ℕ). (both m n).back x y t) l.0 r.state
              ∙ back_joined (last o.0.aside) (last o.1.aside) o.0.state o.1.state t l.1 l.2 r.left r.right;
          left = below m.width (m.back (last o.0.aside) o.0.state t) fits.0 (p.backs (last o.0.aside) o.0.state t);
          right = below n.width (n.back (last o.1.aside) o.1.state t) fits.1 (q.backs (last o.1.aside) o.1.state t);
          aside = others_beside r.aside;
          left_items = r.left_items;
          right_items = r.right_items;
        }
    keep s o End r = r

    begins : Stands m.width n.width (stand (both m n).start [] 0) (stand m.start [] 0, stand n.start [] 0)
    begins =
        record {
          state = ap (λ (b : Bool). cond b (joined n.width m.start n.start) 0) (lt-ltb 0 (both m n).width (both_some m n fits));
          left = below m.width m.start fits.0 p.starts;
          right = below n.width n.start fits.1 q.starts;
          aside = none;
          left_items = refl;
          right_items = refl;
        }

    -- the run of the two accepts just if the runs of both parts do
    run_joined : (c : List Event) → (both m n).accepts (run (both m n) f c).state ≡ (m.accepts (run m g c).state && n.accepts (run n h c).state)
    run_joined c = ap (both m n).accepts r.state ∙ accepts_joined (run m g c).state (run n h c).state r.left r.right
      where
        r : Stands m.width n.width (run (both m n) f c) (run m g c, run n h c)
        r = subst (Stands m.width n.width (run (both m n) f c)) (follow_pair (step m g) (step n h) c (stand m.start [] 0) (stand n.start [] 0))
            (follow_related (Stands m.width n.width) (step (both m n) f) (λ o e. (step m g o.0 e, step n h o.1 e)) keep c
            (stand (both m n).start [] 0) (stand m.start [] 0, stand n.start [] 0) begins)

-- Laws ------------------------------------------------------------------------------------------------------------

pub both_accepts : (m n : Machine) → Lawful m → Lawful n → BothAccepts m n
both_accepts m n p q fits c =
    run_joined m n p q fits (plainly (both m n)) (plainly m) (plainly n) (plainly_enters m p) (plainly_enters n q)
    (λ k a b t ha hb. by_parts_joined m n p q fits m.enter n.enter a b t ha hb) c

pub both_selects : (m n : Machine) → Lawful m → Lawful n → BothSelects m n
both_selects m n p q fits x y marks_x marks_y c i =
    shared (leb 1 i) (leb i (opened c)) _ _ _
    (run_joined m n p q fits (marking (selecting (both m n) (both_marks m n x y)) i) (marking (selecting m x) i) (marking (selecting n y) i)
    (marking_enters m x i p marks_x) (marking_enters n y i q marks_y)
    (λ k a b t ha hb. enter (eqb k i) a b t ha hb) c)
  where
    shared : (u z a b d : Bool) → a ≡ (b && d) → (u && z && a) ≡ ((u && z && b) && (u && z && d))
    shared true true a b d e = e
    shared true false a b d e = refl
    shared false z a b d e = refl

    enter : (here : Bool) (a b t : ℕ) → a < m.width → b < n.width
        → cond here (both_marks m n x y (joined n.width a b) t) ((both m n).enter (joined n.width a b) t)
        ≡ joined n.width (cond here (x a t) (m.enter a t)) (cond here (y b t) (n.enter b t))
    enter true a b t ha hb = by_parts_joined m n p q fits x y a b t ha hb
    enter false a b t ha hb = by_parts_joined m n p q fits m.enter n.enter a b t ha hb
