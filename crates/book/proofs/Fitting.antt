-- A table fits if what it has is reached, and if it has each state with itself and goes on over one item more:
-- what making ready has to show, in whatever order it goes. And a computed test for small books.
use Rattle.std.proofs.Common.{◌≡◌, ℕ, zero, suc, ◌<◌, Bool, true, false, not, ◌&&◌, ◌||◌, eqb, ltb, refl, subst, inl, inr, arith}
use Rattle.std.proofs.lemmas.Bool.{cases_lt, and_parts, eqb-true, ltb-true, both_ways}
use Rattle.book.specs.Limits.{tags}
use Rattle.book.specs.Machines.{Machine, Lawful}
use Rattle.book.specs.Rows.{Forest, none, item, tagged, through, Reach}
use Rattle.book.specs.Tables.{Fits}
use Rattle.book.proofs.Ranges.{enter_below, back_below, through_below}

-- Closed tables ---------------------------------------------------------------------------------------------------

module _ (m : Machine) (reach : ℕ → ℕ → Bool) (law : Lawful m) (some : 0 < m.width)
    (led : (q q' : ℕ) → q < m.width → q' < m.width → reach q q' ≡ true → Reach m q q')
    (self : (q : ℕ) → q < m.width → reach q q ≡ true)
    (onward : (q p t p' : ℕ) → q < m.width → p < m.width → t < tags → p' < m.width → reach q p ≡ true → reach (m.enter p t) p' ≡ true → reach q (m.back p p' t) ≡ true) where
  -- from any state that q leads to, a row leads to states that q leads to
  leads : (f : Forest) (q p : ℕ) → q < m.width → p < m.width → tagged f ≡ true → reach q p ≡ true → reach q (through m f p) ≡ true
  leads none q p a b ok y = y
  leads (item t f g) q p a b ok y =
      let u = and_parts (ltb t tags && tagged f) (tagged g) ok in
      let v = and_parts (ltb t tags) (tagged f) u.0 in
      let e : m.enter p t < m.width = enter_below m law some p t in
      let inner = leads f (m.enter p t) (m.enter p t) e e v.1 (self (m.enter p t) e) in
      let p' : ℕ = through m f (m.enter p t) in
      leads g q (m.back p p' t) a (back_below m law some p p' t) u.1
      (onward q p t p' a b (ltb-true t tags v.0) (through_below m law some f (m.enter p t) e) y inner)

  pub fits_if_closed : Fits m reach
  fits_if_closed q q' a b = (
    led q q' a b,
    λ r. subst (λ (x : ℕ). reach q x ≡ true) r.2 (leads r.0 q q a a r.1 (self q a)),
  )

-- A computed test -------------------------------------------------------------------------------------------------

abbrev pub every_below : ℕ → (ℕ → Bool) → Bool
every_below zero p = true
every_below (suc n) p = p n && every_below n p

pub each : (n : ℕ) (p : ℕ → Bool) → every_below n p ≡ true → (k : ℕ) → k < n → p k ≡ true
each zero p h k lt = absurd (omega arith)
each (suc n) p h k lt =
    let a = and_parts (p n) (every_below n p) h in
    elim (cases_lt k n) [ inl b ↦ each n p a.1 k b | inr b ↦ subst (λ (j : ℕ). p j ≡ true) (let e : n ≡ k = omega arith in e) a.0 ]

-- implies
abbrev pub then : Bool → Bool → Bool
then a b = not a || b

pub gives : (a b : Bool) → then a b ≡ true → a ≡ true → b ≡ true
gives true b h y = h
gives false b h y = absurd (both_ways false refl y)

-- each pair of the table has a row that leads so; the table has each state with itself, and goes on over one item more
abbrev pub sound_test : Machine → (ℕ → ℕ → Bool) → (ℕ → ℕ → Forest) → Bool
sound_test m reach rows = every_below m.width (λ q. every_below m.width (λ q'. then (reach q q') (tagged (rows q q') && eqb (through m (rows q q') q) q')))

abbrev pub self_test : Machine → (ℕ → ℕ → Bool) → Bool
self_test m reach = every_below m.width (λ q. reach q q)

abbrev pub closed_test : Machine → (ℕ → ℕ → Bool) → Bool
closed_test m reach = every_below m.width (λ q. every_below m.width (λ p. then (reach q p)
    (every_below tags (λ t. every_below m.width (λ p'. then (reach (m.enter p t) p') (reach q (m.back p p' t)))))))

module _ (m : Machine) (reach : ℕ → ℕ → Bool) (rows : ℕ → ℕ → Forest) (law : Lawful m) (some : 0 < m.width)
    (t₁ : sound_test m reach rows ≡ true) (t₂ : self_test m reach ≡ true) (t₃ : closed_test m reach ≡ true) where
  led : (q q' : ℕ) → q < m.width → q' < m.width → reach q q' ≡ true → Reach m q q'
  led q q' a b y =
      let f = gives (reach q q') (tagged (rows q q') && eqb (through m (rows q q') q) q')
      (each m.width (λ z. then (reach q z) (tagged (rows q z) && eqb (through m (rows q z) q) z))
      (each m.width (λ x. every_below m.width (λ z. then (reach x z) (tagged (rows x z) && eqb (through m (rows x z) x) z))) t₁ q a) q' b) y in
      let g = and_parts (tagged (rows q q')) (eqb (through m (rows q q') q) q') f in
      (rows q q', g.0, eqb-true (through m (rows q q') q) q' g.1)

  onward : (q p t p' : ℕ) → q < m.width → p < m.width → t < tags → p' < m.width → reach q p ≡ true → reach (m.enter p t) p' ≡ true
      → reach q (m.back p p' t) ≡ true
  onward q p t p' a b c d y z =
      let f = gives (reach q p) (every_below tags (λ u. every_below m.width (λ r. then (reach (m.enter p u) r) (reach q (m.back p r u)))))
      (each m.width (λ x. then (reach q x) (every_below tags (λ u. every_below m.width (λ r. then (reach (m.enter x u) r) (reach q (m.back x r u))))))
      (each m.width (λ w. every_below m.width (λ x. then (reach w x)
      (every_below tags (λ u. every_below m.width (λ r. then (reach (m.enter x u) r) (reach w (m.back x r u))))))) t₃ q a) p b) y in
      gives (reach (m.enter p t) p') (reach q (m.back p p' t))
      (each m.width (λ r. then (reach (m.enter p t) r) (reach q (m.back p r t)))
      (each tags (λ u. every_below m.width (λ r. then (reach (m.enter p u) r) (reach q (m.back p r u)))) f t c) p' d) z

  pub fits_by_test : Fits m reach
  fits_by_test = fits_if_closed m reach law some led (each m.width (λ x. reach x x) t₂) onward
