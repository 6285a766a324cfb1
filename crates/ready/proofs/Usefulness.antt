-- Useful states: those from which some way on is accepted, inside some items. Assumes nothing.
use Rattle.std.proofs.Common.{◌≡◌, ℕ, ◌<◌, Bool, true, List, [], ◌∷◌, inl, inr}
use Rattle.book.specs.Machines.{Machine, Lawful}
use Rattle.book.specs.Levels.{Possible}
use Rattle.book.proofs.Ranges.{back_below, reach_below}
use Rattle.ready.specs.Pairs.{Rel}
use Rattle.ready.specs.Rounds.{RowsLead}
use Rattle.ready.specs.Dead.{Around, Useful, Stops}
use Rattle.ready.proofs.Relations.{positive}

module _ (m : Machine) (r : Rel) (lead : RowsLead m r) (useful : ℕ → Bool) where
  -- a state is useful if a row leads from it to where it may end
  pub useful_spreads : ((q : ℕ) → useful q ≡ true → Useful m q) → (q p : ℕ) → r q p ≡ true → Stops m useful p → Useful m q
  useful_spreads sound q p a (inl accepts) = ([], [], tt, (p, ((lead q p).0 a).1, accepts))
  useful_spreads sound q p a (inr close) =
      let s : ℕ = close.0 in
      let t : ℕ = close.2.0 in
      let next = sound (m.back s p t) close.2.2 in
      (t ∷ next.0, s ∷ next.1, (close.2.1, close.1, next.2), (p, ((lead q p).0 a).1, next.3))

  -- and where no state is added so, all useful states are found
  module _ (law : Lawful m) (closed : (q p : ℕ) → q < m.width → r q p ≡ true → p < m.width → Stops m useful p → useful q ≡ true) where
    pub useful_found : (ts ss : List ℕ) (q : ℕ) → q < m.width → Around m ts ss → Possible m true ts ss q → useful q ≡ true
    useful_found [] [] q hq a way =
        closed q way.0 hq ((lead q way.0).1 (hq, way.1)) (reach_below m law (positive m q hq) q way.0 hq way.1) (inl way.2)
    useful_found [] (s ∷ ss) q hq a way = absurd a
    useful_found (t ∷ ts) [] q hq a way = absurd a
    useful_found (t ∷ ts) (s ∷ ss) q hq a way =
        let p : ℕ = way.0 in
        let some = positive m q hq in
        closed q p hq ((lead q p).1 (hq, way.1)) (reach_below m law some q p hq way.1)
        (inr (s, a.1, (t, a.0, useful_found ts ss (m.back s p t) (back_below m law some s p t) a.2 way.2)))
