-- The laws of the opposite of a book.
use Rattle.std.proofs.Common.{◌≡◌, ℕ, ◌<◌, Bool, true, false, not, ◌&&◌, leb, List, refl, ap, ◌∙◌, arith}
use Rattle.std.proofs.lemmas.Bool.{lt-ltb, le-leb}
use Rattle.book.specs.declared.event.Event.{Event}
use Rattle.book.specs.Catalogue.{opened}
use Rattle.book.specs.Machines.{Machine, Lawful, selecting, Entering, plainly, marking, Stand, run}
use Rattle.kinds.specs.Opposite.{opposite, OppositeAccepts, OppositeSelects}
use Rattle.kinds.proofs.Simulations.{run_same, Enters, plainly_enters, marking_enters, run_within}

-- the opposite's run ends in the other's state, and accepts just if the other does not
run_opposite : (m : Machine) (f g : Entering) → Lawful m → 0 < m.width → ((k s t : ℕ) → f k s t ≡ g k s t) → Enters m g → (c : List Event)
    → (opposite m).accepts (run (opposite m) f c).state ≡ not (m.accepts (run m g c).state)
run_opposite m f g law some same enters c =
    let q : ℕ = (run m g c).state in
    let below : q < m.width = omega (arith, run_within m g law enters c) in
    ap (λ (s : Stand). (opposite m).accepts s.state) (run_same (opposite m) m f g refl (λ _ _ _. refl) same c)
    ∙ ap (λ (b : Bool). b && not (m.accepts q)) (lt-ltb q m.width below)

pub opposite_accepts : (m : Machine) → Lawful m → OppositeAccepts m
opposite_accepts m law some c = run_opposite m (plainly (opposite m)) (plainly m) law some (λ _ _ _. refl) (plainly_enters m law) c

pub opposite_selects : (m : Machine) → Lawful m → OppositeSelects m
opposite_selects m law some k marks c i low high =
    opened_item (leb 1 i) (leb i (opened c)) _ _ (le-leb 1 i low) (le-leb i (opened c) high)
    (run_opposite m (marking (selecting (opposite m) k) i) (marking (selecting m k) i) law some (λ _ _ _. refl) (marking_enters m k i law marks) c)
  where
    opened_item : (x y a b : Bool) → x ≡ true → y ≡ true → a ≡ not b → (x && y && a) ≡ not (x && y && b)
    opened_item true true a b p q e = e
    opened_item true false a b p q e = cc
    opened_item false y a b p q e = cc
