-- Every state that a lawful book answers, and every state along a run, is one of the book's states.
use Rattle.std.proofs.Common.{ℕ, suc, ◌<◌, eqb, List, [], ◌∷◌, arith}
use Rattle.std.proofs.lemmas.Bool.{cond_both}
use Rattle.book.specs.declared.event.Event.{Event}
use Rattle.book.specs.declared.event.Event.TheVariants.{Open, Close, End}
use Rattle.book.specs.Catalogue.{follow}
use Rattle.book.specs.Machines.{Machine, Selecting, Lawful, LawfulMarks, Entering, Stand, stand, last, step, run, plainly, marking}
use Rattle.book.specs.Rows.{Forest, none, item, through, Reach}

module _ (m : Machine) (law : Lawful m) (some : 0 < m.width) where
  pub start_below : m.start < m.width
  start_below = let a = law.starts in omega arith

  pub enter_below : (s t : ℕ) → m.enter s t < m.width
  enter_below s t = let a = law.enters s t in omega arith

  pub back_below : (s q t : ℕ) → m.back s q t < m.width
  back_below s q t = let a = law.backs s q t in omega arith

  pub through_below : (f : Forest) (q : ℕ) → q < m.width → through m f q < m.width
  through_below none q h = h
  through_below (item t f g) q h = through_below g (m.back q (through m f (m.enter q t)) t) (back_below q (through m f (m.enter q t)) t)

  pub reach_below : (q p : ℕ) → q < m.width → Reach m q p → p < m.width
  reach_below q p h r = let a = through_below r.0 q h in let b = r.2 in omega arith

  -- along a run
  pub follow_below : (f : Entering) → ((k s t : ℕ) → f k s t < m.width) → (e : List Event) (c : Stand) → c.state < m.width
      → (follow (step m f) c e).state < m.width
  follow_below f fb [] c h = h
  follow_below f fb (Open t ∷ e) c h = follow_below f fb e (step m f c (Open t)) (fb (suc c.items) c.state t)
  follow_below f fb (Close t ∷ e) c h = follow_below f fb e (step m f c (Close t)) (back_below (last c.aside) c.state t)
  follow_below f fb (End ∷ e) c h = follow_below f fb e c h

  pub plain_run_below : (h : List Event) → (run m (plainly m) h).state < m.width
  plain_run_below h = follow_below (plainly m) (λ k s t. enter_below s t) h (stand m.start [] 0) start_below

pub mark_below : (m : Selecting) → LawfulMarks m.shape m.mark → 0 < m.shape.width → (s t : ℕ) → m.mark s t < m.shape.width
mark_below m law some s t = let a = law.marks s t in omega arith

pub marked_run_below : (m : Selecting) → Lawful m.shape → LawfulMarks m.shape m.mark → 0 < m.shape.width → (i : ℕ) (h : List Event)
    → (run m.shape (marking m i) h).state < m.shape.width
marked_run_below m law mark_law some i h =
    follow_below m.shape law some (marking m i)
    (λ k s t. cond_both (eqb k i) (m.mark s t) (m.shape.enter s t) (λ x. x < m.shape.width) (λ _. mark_below m mark_law some s t) (λ _. enter_below m.shape law some s t))
    h (stand m.shape.start [] 0) (start_below m.shape law some)
