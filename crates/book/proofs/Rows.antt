-- Rows of whole items: one after another, and what they do to events and to runs.
use Rattle.std.proofs.Common.{◌≡◌, ℕ, suc, ◌<◌, Bool, true, cond, ◌&&◌, ltb, List, ◌∷◌, ◌++◌, refl, ap, ◌∙◌, append_assoc, arith}
use Rattle.std.proofs.lemmas.Bool.{eq-eqb, and_parts, and_from}
use Rattle.book.specs.Limits.{tags}
use Rattle.book.specs.declared.event.Event.{Event}
use Rattle.book.specs.declared.event.Event.TheVariants.{Open, Close}
use Rattle.book.specs.Catalogue.{follow, within, broken, after}
use Rattle.book.specs.Machines.{Machine, Entering, stand, step}
use Rattle.book.specs.Rows.{Forest, none, item, tagged, through, events, Reach}

-- Rows side by side -----------------------------------------------------------------------------------------------

-- one row after another
pub beside : Forest → Forest → Forest
beside none g = g
beside (item t f r) g = item t f (beside r g)

beside_tagged : (f g : Forest) → tagged f ≡ true → tagged g ≡ true → tagged (beside f g) ≡ true
unfolding beside
beside_tagged none g a b = b
beside_tagged (item t f r) g a b =
    let p = and_parts (ltb t tags && tagged f) (tagged r) a in
    and_from (ltb t tags && tagged f) (tagged (beside r g)) p.0 (beside_tagged r g p.1 b)

beside_through : (m : Machine) (f g : Forest) (q : ℕ) → through m (beside f g) q ≡ through m g (through m f q)
unfolding beside
beside_through m none g q = refl
beside_through m (item t f r) g q = beside_through m r g (m.back q (through m f (m.enter q t)) t)

pub reach_here : (m : Machine) (q : ℕ) → Reach m q q
reach_here m q = (none, refl, refl)

pub reach_then : (m : Machine) (p q r : ℕ) → Reach m p q → Reach m q r → Reach m p r
reach_then m p q r a b = (
  beside a.0 b.0,
  beside_tagged a.0 b.0 a.1 b.1,
  beside_through m a.0 b.0 p ∙ ap (through m b.0) a.2 ∙ b.2,
)

pub reach_item : (m : Machine) (q q' t : ℕ) → ltb t tags ≡ true → Reach m (m.enter q t) q' → Reach m q (m.back q q' t)
reach_item m q q' t small a = (
  item t a.0 none,
  and_from (ltb t tags && tagged a.0) true (and_from (ltb t tags) (tagged a.0) small a.1) refl,
  ap (λ x. m.back q x t) a.2,
)

-- Rows as events --------------------------------------------------------------------------------------------------

-- the items above number n are entered plainly
abbrev pub PlainFrom : Machine → Entering → ℕ → Type 0
PlainFrom m f n = (k s t : ℕ) → n < k → f k s t ≡ m.enter s t

pub plain_later : (m : Machine) (f : Entering) (n : ℕ) → PlainFrom m f n → PlainFrom m f (suc n)
plain_later m f n pl k s t h = pl k s t (omega arith)

-- a row of whole items, in events, closes what it opens
pub row_nests : (r : Forest) (ts : List ℕ) (e : List Event) → tagged r ≡ true → follow after (within ts) (events r ++ e) ≡ follow after (within ts) e
row_nests none ts e ok = refl
row_nests (item t r s) ts e ok =
    let p = and_parts (ltb t tags && tagged r) (tagged s) ok in
    let p' = and_parts (ltb t tags) (tagged r) p.0 in
    ap (follow after (after (within ts) (Open t))) (append_assoc (events r) (Close t ∷ events s) e)
    ∙ ap (λ (b : Bool). follow after (cond b (within (t ∷ ts)) broken) (events r ++ (Close t ∷ (events s ++ e)))) p'.0
    ∙ row_nests r (t ∷ ts) (Close t ∷ (events s ++ e)) p'.1
    ∙ ap (λ (b : Bool). follow after (cond b (within ts) broken) (events s ++ e)) (eq-eqb t t refl)
    ∙ row_nests s ts e p.1

-- and leads a run where it leads
pub row_leads : (m : Machine) (f : Entering) (r : Forest) (ss : List ℕ) (q n : ℕ) → PlainFrom m f n
    → (k : ℕ) × PlainFrom m f k × ((e : List Event) → follow (step m f) (stand q ss n) (events r ++ e) ≡ follow (step m f) (stand (through m r q) ss k) e)
row_leads m f none ss q n pl = (n, pl, λ e. refl)
row_leads m f (item t r s) ss q n pl =
    let in₁ = row_leads m f r (q ∷ ss) (m.enter q t) (suc n) (plain_later m f n pl) in
    let in₂ = row_leads m f s ss (m.back q (through m r (m.enter q t)) t) in₁.0 in₁.1 in (
      in₂.0,
      in₂.1,
      λ e.
          ap (follow (step m f) (step m f (stand q ss n) (Open t))) (append_assoc (events r) (Close t ∷ events s) e)
          ∙ ap (λ (x : ℕ). follow (step m f) (stand x (q ∷ ss) (suc n)) (events r ++ (Close t ∷ (events s ++ e)))) (pl (suc n) q t (omega arith))
          ∙ in₁.2 (Close t ∷ (events s ++ e)) ∙ in₂.2 e,
    )

pub close_nests : (t : ℕ) (ts : List ℕ) (e : List Event) → follow after (within (t ∷ ts)) (Close t ∷ e) ≡ follow after (within ts) e
close_nests t ts e = ap (λ (b : Bool). follow after (cond b (within ts) broken) e) (eq-eqb t t refl)
