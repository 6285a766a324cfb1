-- Which items are opened, and which are selected.
use Rattle.std.proofs.Common.{◌≡◌, ℕ, Bool, true, ◌&&◌, leb, List, ◌++◌, ap, ◌∙◌, arith}
use Rattle.std.proofs.lemmas.Bool.{le-leb, leb-true, and_parts}
use Rattle.book.specs.declared.event.Event.{Event}
use Rattle.book.specs.Catalogue.{opened}
use Rattle.book.specs.Machines.{Selecting, run, marking, selected}
use Rattle.book.specs.Orders.{Opened}
use Rattle.book.proofs.Nesting.{opened_grows}

pub opened_on : (h e : List Event) (i : ℕ) → Opened h i → Opened (h ++ e) i
opened_on h e i o = (o.0, let g = opened_grows h e in let a = o.1 in omega arith)

-- whether an opened item is selected its run decides
pub selected_is : (m : Selecting) (i : ℕ) (c : List Event) → Opened c i → selected m i c ≡ m.shape.accepts (run m.shape (marking m i) c).state
selected_is m i c o =
    let v : Bool = m.shape.accepts (run m.shape (marking m i) c).state in
    ap (λ (b : Bool). b && leb i (opened c) && v) (le-leb 1 i o.0) ∙ ap (λ (b : Bool). b && v) (le-leb i (opened c) o.1)

-- only an opened item is selected
pub selected_opened : (m : Selecting) (i : ℕ) (c : List Event) → selected m i c ≡ true → Opened c i
selected_opened m i c s =
    let v : Bool = m.shape.accepts (run m.shape (marking m i) c).state in
    let p = and_parts (leb 1 i && leb i (opened c)) v s in
    let r = and_parts (leb 1 i) (leb i (opened c)) p.0 in
    (leb-true 1 i r.0, leb-true i (opened c) r.1)
