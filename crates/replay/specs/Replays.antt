-- Calls that were replayed: what they show, and what is promised of it.
use Rattle.std.specs.Prelude.{◌≡◌, ℕ, Bool, List, [], ◌∷◌, map, length, Some, vec_items, Result}
use Rattle.book.specs.declared.answer.Totals.{Totals}
use Rattle.book.specs.declared.answer.Refusal.{Refusal}
use Rattle.book.specs.Machines.{Selecting}
use Rattle.book.specs.Promise.{Exchange as Promised, Promise}
use Rattle.book.specs.PromiseLaws.{Asked, asked}
use Rattle.scan.specs.Model.{Model, answer, list_after, model_after}
use Rattle.replay.specs.declared.exchange.Exchange.{Exchange}

-- what is asked by a call
abbrev pub asked_by : Exchange → Asked
asked_by x = record { call = x.call; before = vec_items x.orders }

-- x as it was given, y as it was left, and z what they show of the call: what was asked, what was answered, and the list
-- after it
abbrev pub Shows : Exchange → Exchange → Promised → Type 0
Shows x y z = (asked z ≡ asked_by x) × (y.call ≡ x.call) × (y.answer ≡ Some z.answer) × (vec_items y.orders ≡ z.later)

abbrev pub AllShow : List Exchange → List Exchange → List Promised → Type 0
AllShow [] [] [] = Unit {0}
AllShow [] [] (z ∷ zs) = ⊥
AllShow [] (y ∷ ys) zs = ⊥
AllShow (x ∷ xs) [] zs = ⊥
AllShow (x ∷ xs) (y ∷ ys) [] = ⊥
AllShow (x ∷ xs) (y ∷ ys) (z ∷ zs) = Shows x y z × AllShow xs ys zs

-- The calls keep the promise of a scan of a book with the meaning m; and any answers to these calls, with these lists, that
-- keep it are the same.
abbrev pub Replayed : Selecting → List Exchange → List Exchange → Type 0
Replayed m xs ys = (zs : List Promised) × AllShow xs ys zs × Promise m zs × ((ws : List Promised) → Promise m ws → map asked ws ≡ map asked_by xs → ws ≡ zs)

-- The scan over lists ---------------------------------------------------------------------------------------------

-- what the scan over lists answers where it stands at s, and where it stands then
abbrev pub answered : (ℕ → ℕ → Bool) → Selecting → Model → Asked → Result Totals Refusal
answered reach m s q = answer reach m s (length q.before) q.call

abbrev pub onto : (ℕ → ℕ → Bool) → Selecting → Model → Asked → Model
onto reach m s q = model_after reach m s q.call (answered reach m s q)

-- the call is made as it makes it
pub record Made (reach : ℕ → ℕ → Bool) (m : Selecting) (s : Model) (x y : Exchange) : Type 0 where
  pub call : y.call ≡ x.call
  pub answer : y.answer ≡ Some (answered reach m s (asked_by x))
  pub list : vec_items y.orders ≡ list_after reach m s x.call (vec_items x.orders) (answered reach m s (asked_by x))

-- where it stands after these calls
abbrev pub standing : (ℕ → ℕ → Bool) → Selecting → Model → List Asked → Model
standing reach m s [] = s
standing reach m s (q ∷ qs) = standing reach m (onto reach m s q) qs
