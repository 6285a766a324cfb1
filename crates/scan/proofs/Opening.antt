-- The number of the event that opens an item, as events are added. Assumes nothing.
use Rattle.std.proofs.Common.{◌≡◌, ℕ, suc, pred, ◌<◌, ◌≤◌, Bool, cond, eqb, ◌≢◌, ◌⊎◌, List, [], ◌∷◌, ◌++◌, length, sym, refl, ap, ◌∙◌, inl, inr, arith}
use Rattle.std.proofs.lemmas.Bool.{eq-eqb, ne_eqb, cases_eq}
use Rattle.book.specs.declared.event.Event.{Event}
use Rattle.book.specs.declared.event.Event.TheVariants.{Open, Close, End}
use Rattle.book.specs.Catalogue.{opened}
use Rattle.book.specs.Promise.{opening}
use Rattle.book.proofs.Nesting.{count_shift}

pub opening_old : (h d : List Event) (i : ℕ) → 1 ≤ i → i ≤ opened h → opening i (h ++ d) ≡ opening i h
opening_old [] d i lo hi = absurd (omega arith)
opening_old (Open t ∷ h) d i lo hi = go (cases_eq i 1) (opening_old h d (pred i))
  where
    go : (i ≡ 1) ⊎ (i ≡ 1 → ⊥) → (1 ≤ pred i → pred i ≤ opened h → opening (pred i) (h ++ d) ≡ opening (pred i) h) → opening i (Open t ∷ (h ++ d)) ≡ opening i (Open t ∷ h)
    go (inl e) ih = ap (λ (b : Bool). cond b 1 (suc (opening (pred i) (h ++ d)))) (eq-eqb i 1 e) ∙ ap (λ (b : Bool). cond b 1 (suc (opening (pred i) h))) (sym (eq-eqb i 1 e))
    go (inr ne) ih =
        let big : 1 < i = (let b : i ≢ 1 = ne in omega arith) in
        let c = count_shift h 0 in
        ap (λ (n : ℕ). cond (eqb i 1) 1 (suc n)) (ih (omega arith) (omega arith))
opening_old (Close t ∷ h) d i lo hi = ap suc (opening_old h d i lo hi)
opening_old (End ∷ h) d i lo hi = ap suc (opening_old h d i lo hi)

pub opening_new : (h d : List Event) (t : ℕ) → opening (suc (opened h)) (h ++ (Open t ∷ d)) ≡ suc (length h)
opening_new [] d t = refl
opening_new (Open u ∷ h) d t =
    let c : follow_one h ≡ suc (opened h) = count_shift h 0 in
    ap (λ (n : ℕ). opening (suc n) (Open u ∷ (h ++ (Open t ∷ d)))) c
    ∙ ap (λ (b : Bool). cond b 1 (suc (opening (suc (opened h)) (h ++ (Open t ∷ d))))) (ne_eqb (suc (suc (opened h))) 1 (λ e. omega arith))
    ∙ ap suc (opening_new h d t)
  where
    follow_one : List Event → ℕ
    follow_one es = opened (Open u ∷ es)
opening_new (Close u ∷ h) d t = ap suc (opening_new h d t)
opening_new (End ∷ h) d t = ap suc (opening_new h d t)
