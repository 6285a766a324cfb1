-- What a search for pairs has found: at first, with one pair more, and where every question has been asked.
-- Assumes nothing.
use Rattle.std.proofs.Common.{◌≡◌, ℕ, ◌<◌, true, false, ◌&&◌, eqb, ltb, ◌⊎◌, sym, refl, ◌∙◌, subst, inl, inr, arith}
use Rattle.std.proofs.lemmas.Bool.{cases_Bool, both_ways, or_cases, or_left, or_right, and_parts, and_from, lt-ltb, ltb-true, eqb-true, eq-eqb}
use Rattle.book.specs.Limits.{tags}
use Rattle.book.specs.Machines.{Machine, Lawful}
use Rattle.book.specs.Rows.{Forest, none, item, tagged, through, Reach}
use Rattle.ready.specs.Pairs.{Rel, joined, Covering}
use Rattle.ready.specs.Rounds.{RowsLead, Grown, Found, Answered, each_itself}
use Rattle.book.specs.Tables.{Fits}
use Rattle.book.proofs.Rows.{reach_here, reach_then, reach_item}
use Rattle.book.proofs.Ranges.{enter_below, back_below, through_below, reach_below}
use Rattle.ready.proofs.Choices.{each_or_one}

-- a book that has a state has a width above 0
pub positive : (m : Machine) (q : ℕ) → q < m.width → 0 < m.width
positive m q h = omega arith

-- At first -----------------------------------------------------------------------------------------------------------

pub found_first : (m : Machine) (r : Rel) → ((q p : ℕ) → r q p ≡ (ltb q m.width && eqb p q)) → Found m r
found_first m r e =
    record {
      sound = λ q p a. (ltb-true q m.width (parts q p a).0, subst (λ (x : ℕ). Reach m q x) (sym (same q p a)) (reach_here m q));
      reflexive = λ q h. e q q ∙ and_from (ltb q m.width) (eqb q q) (lt-ltb q m.width h) (eq-eqb q q refl);
      transitive = λ q s p a b. subst (λ (x : ℕ). r q x ≡ true) (sym (same s p b)) a;
    }
  where
    parts : (q p : ℕ) → r q p ≡ true → (ltb q m.width ≡ true) × (eqb p q ≡ true)
    parts q p a = and_parts (ltb q m.width) (eqb p q) (sym (e q p) ∙ a)

    same : (q p : ℕ) → r q p ≡ true → p ≡ q
    same q p a = eqb-true p q (parts q p a).1

-- With one pair more -------------------------------------------------------------------------------------------------

module _ (m : Machine) (r s : Rel) (from to : ℕ) (e : (q p : ℕ) → s q p ≡ joined r m.width from to q p) where
  pub joined_grown : Grown r s
  joined_grown q p a = e q p ∙ or_left (r q p) _ a

  joined_new : (q p : ℕ) → q < m.width → r q from ≡ true → r to p ≡ true → s q p ≡ true
  joined_new q p h a b = e q p ∙ or_right (r q p) _ (and_from (ltb q m.width) _ (lt-ltb q m.width h) (and_from (r q from) (r to p) a b))

  joined_cases : (q p : ℕ) → s q p ≡ true → (r q p ≡ true) ⊎ ((r q from ≡ true) × (r to p ≡ true))
  joined_cases q p a = elim (or_cases (r q p) _ (sym (e q p) ∙ a))
      [ inl h ↦ inl h | inr h ↦ inr (and_parts (r q from) (r to p) (and_parts (ltb q m.width) _ h).1) ]

  module _ (found : Found m r) (f : from < m.width) (t : to < m.width) where
    pub joined_has : s from to ≡ true
    joined_has = joined_new from to f (found.reflexive from f) (found.reflexive to t)

    pub joined_found : Reach m from to → Found m s
    joined_found lead =
        record {
          sound = λ q p a. reached q p (joined_cases q p a);
          reflexive = λ q h. joined_grown q q (found.reflexive q h);
          transitive = λ q k p a b. meet q k p (joined_cases q k a) (joined_cases k p b);
        }
      where
        meet : (q k p : ℕ) → ((r q k ≡ true) ⊎ ((r q from ≡ true) × (r to k ≡ true))) → ((r k p ≡ true) ⊎ ((r k from ≡ true) × (r to p ≡ true))) → s q p ≡ true
        meet q k p (inl a) (inl b) = joined_grown q p (found.transitive q k p a b)
        meet q k p (inl a) (inr b) = joined_new q p (found.sound q k a).0 (found.transitive q k from a b.0) b.1
        meet q k p (inr a) (inl b) = joined_new q p (found.sound q from a.0).0 a.0 (found.transitive to k p a.1 b)
        meet q k p (inr a) (inr b) = joined_new q p (found.sound q from a.0).0 a.0 b.1

        reached : (q p : ℕ) → ((r q p ≡ true) ⊎ ((r q from ≡ true) × (r to p ≡ true))) → (q < m.width) × Reach m q p
        reached q p (inl a) = found.sound q p a
        reached q p (inr a) =
            let first = found.sound q from a.0 in
            (first.0, reach_then m q from p first.1 (reach_then m from to p lead (found.sound to p a.1).1))

-- One question -------------------------------------------------------------------------------------------------------

-- s is r with the answer to one question
module _ (m : Machine) (law : Lawful m) (r s : Rel) (found : Found m r) (q p t : ℕ) (hq : q < m.width) (ht : t < tags)
    (lead : Reach m (m.enter q t) p) where
  pub asked_new : ((x y : ℕ) → s x y ≡ joined r m.width q (m.back q p t) x y)
      → Found m s × Grown r s × (s q (m.back q p t) ≡ true)
  asked_new e =
      let to : m.back q p t < m.width = back_below m law (positive m q hq) q p t in (
        joined_found m r s q (m.back q p t) e found hq to (reach_item m q p t (lt-ltb t tags ht) lead),
        joined_grown m r s q (m.back q p t) e,
        joined_has m r s q (m.back q p t) e found hq to,
      )

-- Every question -----------------------------------------------------------------------------------------------------

-- the parts of a row whose tags are right
tagged_parts : (t : ℕ) (inside next : Forest) → tagged (item t inside next) ≡ true → (t < tags) × (tagged inside ≡ true) × (tagged next ≡ true)
tagged_parts t inside next h =
    let a = and_parts (ltb t tags && tagged inside) (tagged next) h in
    let b = and_parts (ltb t tags) (tagged inside) a.0 in
    (ltb-true t tags b.0, b.1, a.1)

-- what is found and answers all its own questions has each pair that is wanted
module _ (m : Machine) (law : Lawful m) (r : Rel) (found : Found m r) (all : Answered m r r) where
  complete : (f : Forest) (q : ℕ) → q < m.width → tagged f ≡ true → r q (through m f q) ≡ true
  complete none q h k = found.reflexive q h
  complete (item t inside next) q h k =
      let parts = tagged_parts t inside next k in
      let some = positive m q h in
      let first : m.enter q t < m.width = enter_below m law some q t in
      let p : ℕ = through m inside (m.enter q t) in
      let below : p < m.width = through_below m law some inside (m.enter q t) first in
      found.transitive q (m.back q p t) (through m next (m.back q p t))
      (all q t h parts.0 p below (complete inside (m.enter q t) first parts.1))
      (complete next (m.back q p t) (back_below m law some q p t) parts.2)

  pub rows_lead : RowsLead m r
  rows_lead q p = (found.sound q p, λ a. subst (λ (x : ℕ). r q x ≡ true) a.1.2 (complete a.1.0 q a.0 a.1.1))

-- what a search has found holds what it began with
pub from_itself : (m : Machine) (r : Rel) → Found m r → Grown (each_itself m) r
from_itself m r found q p h =
    let parts = and_parts (ltb q m.width) (eqb p q) h in
    subst (λ (x : ℕ). r q x ≡ true) (sym (eqb-true p q parts.1)) (found.reflexive q (ltb-true q m.width parts.0))

-- where the fresh pairs are all there are
pub answered_all : (m : Machine) → Lawful m → (s fresh : Rel) → Covering m.width fresh s → Answered m s fresh → Answered m s s
answered_all m law s fresh cover h q t hq ht p hp a = h q t hq ht p hp (cover (m.enter q t) p (enter_below m law (positive m q hq) q t) a)

-- where some pair is new, here is one
pub uncovered : (m : Machine) → Lawful m → (r s : Rel) → Found m s → (Covering m.width r s → ⊥)
    → (q : ℕ) × (p : ℕ) × (q < m.width) × (p < m.width) × (s q p ≡ true) × (r q p ≡ false)
uncovered m law r s found not = elim (each_or_one m.width _ _ (λ q. each_or_one m.width _ _ (one q))) [
  | inl all ↦ absurd (not (λ q p lt h. all q lt p (reach_below m law (positive m q lt) q p lt (found.sound q p h).1) h))
  | inr b ↦ (b.0, b.2.0, b.1, b.2.1, b.2.2.0, b.2.2.1)
]
  where
    one : (q p : ℕ) → (s q p ≡ true → r q p ≡ true) ⊎ ((s q p ≡ true) × (r q p ≡ false))
    one q p = elim (cases_Bool (r q p)) [
      | inl y ↦ inl (λ _. y)
      | inr n ↦ elim (cases_Bool (s q p)) [ inl y ↦ inr (y, n) | inr k ↦ inl (λ y. absurd (both_ways (s q p) k y)) ]
    ]

-- the pairs that are wanted fit the book
pub fits : (m : Machine) (r : Rel) → RowsLead m r → Fits m r
fits m r lead q p hq hp = (λ a. ((lead q p).0 a).1, λ a. (lead q p).1 (hq, a))
