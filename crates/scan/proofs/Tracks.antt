-- A track follows its run, event by event. Assumes nothing.
use Rattle.std.proofs.Common.{◌≡◌, ℕ, zero, suc, ◌<◌, Bool, true, false, cond, ◌&&◌, ◌||◌, eqb, ltb, List, [], ◌∷◌, ◌++◌, map, sym, refl, ap, ◌∙◌, subst, arith}
use Rattle.std.proofs.lemmas.Bool.{lt-ltb}
use Rattle.book.specs.declared.event.Event.{Event}
use Rattle.book.specs.declared.event.Event.TheVariants.{Open, Close, End}
use Rattle.book.specs.Limits.{tags}
use Rattle.book.specs.Catalogue.{Nest, within, over, broken, after, nest, Sound, opened}
use Rattle.book.specs.Machines.{Machine, Lawful, Entering, Stand, stand, last, others, step, run}
use Rattle.book.specs.Tables.{some_below, possible}
use Rattle.book.proofs.Ranges.{back_below}
use Rattle.book.proofs.Steps.{nest_more, run_more, run_opened}
use Rattle.scan.specs.Tracks.{Level, Track, level, track, answers, widened, first, entered, left, moved, state_of, Cached, Layered, Follows}

pub some_below_alike : (n : ℕ) (p p' : ℕ → Bool) → ((k : ℕ) → k < n → p k ≡ p' k) → some_below n p ≡ some_below n p'
some_below_alike zero p p' same = refl
some_below_alike (suc n) p p' same =
    ap (λ (b : Bool). b || some_below n p) (same n (omega arith)) ∙ ap (λ (b : Bool). p' n || b) (some_below_alike n p p' (λ k lt. same k (omega arith)))

module _ (reach : ℕ → ℕ → Bool) (m : Machine) where
  -- Levels --------------------------------------------------------------------------------------------------------

  widened_is : (p : ℕ → Bool) (q : ℕ) → q < m.width → widened reach m p q ≡ some_below m.width (λ q'. reach q q' && p q')
  widened_is p q lt = ap (λ (b : Bool). b && some_below m.width (λ q'. reach q q' && p q')) (lt-ltb q m.width lt)

  pub top_cached : (ts : List ℕ) (l : Level) (ls : List Level) → Layered reach m ts l ls → Cached reach m ts (map state_of ls) l
  top_cached [] l ls y = y
  top_cached (t ∷ ts) l [] y = absurd y
  top_cached (t ∷ ts) l (k ∷ ls) y = y.0

  -- the state does not matter for what is possible
  layered_in : (ts : List ℕ) (q : ℕ) (k : Level) (ls : List Level) → Layered reach m ts k ls → Layered reach m ts (level q k.can) ls
  layered_in [] q k ls y = y
  layered_in (t ∷ ts) q k [] y = y
  layered_in (t ∷ ts) q k (j ∷ ls) y = y

  -- One event -----------------------------------------------------------------------------------------------------

  pub first_follows : Follows reach m (within []) (first reach m) (stand m.start [] 0)
  first_follows = (refl, refl, λ b q lt. widened_is (answers m b) q lt)

  module _ (law : Lawful m) (some : 0 < m.width) where
    pub follows_enter : (ts : List ℕ) (x : Track) (c : Stand) (t q q' n : ℕ) → q ≡ q' → Follows reach m (within ts) x c
        → Follows reach m (within (t ∷ ts)) (entered reach m t q x) (stand q' (c.state ∷ c.aside) n)
    follows_enter ts x c t q q' n e f = (
      e,
      λ i. f.0 i ∷ f.1 i,
      (
        λ b p lt. widened_is (λ p'. x.top.can b (m.back x.top.state p' t)) p lt
            ∙ some_below_alike m.width (λ p'. reach p p' && x.top.can b (m.back x.top.state p' t)) (λ p'. reach p p' && possible reach m b ts (map state_of x.under) (m.back x.top.state p' t))
            (λ k _. ap (λ (v : Bool). reach p k && v) (top_cached ts x.top x.under f.2 b (m.back x.top.state k t) (back_below m law some x.top.state k t))),
        f.2,
      ),
    )

    follows_leave : (u : ℕ) (ts : List ℕ) (l : Level) (ls : List Level) (g : Entering) (c : Stand) (t : ℕ) → Follows reach m (within (u ∷ ts)) (track l ls) c
        → Follows reach m (within ts) (left m t l ls) (step m g c (Close t))
    follows_leave u ts l [] g c t f = absurd f.2
    follows_leave u ts l (k ∷ ks) g c t f = (λ i. m.back (last (f.1 i)) (f.0 i) t, ap others f.1, layered_in ts (m.back k.state l.state t) k ks f.2.1)

    -- an event that breaks no rule, and that enters by enter
    follows_on : (n : Nest) (e : Event) (x : Track) (c : Stand) (g : Entering) → (after n e ≡ broken → ⊥) → ((s t : ℕ) → g (suc c.items) s t ≡ m.enter s t)
        → Follows reach m n x c → Follows reach m (after n e) (moved reach m e x) (step m g c e)
    follows_on (within ts) (Open t) x c g s plain f = go (ltb t tags) s
      where
        go : (b : Bool) → (cond b (within (t ∷ ts)) broken ≡ broken → ⊥) → Follows reach m (cond b (within (t ∷ ts)) broken) (entered reach m t (m.enter x.top.state t) x) (step m g c (Open t))
        go true s = follows_enter ts x c t (m.enter x.top.state t) (g (suc c.items) c.state t) (suc c.items) (ap (λ (q : ℕ). m.enter q t) f.0 ∙ sym (plain c.state t)) f
        go false s = absurd (s refl)
    follows_on (within []) (Close t) x c g s plain f = absurd (s refl)
    follows_on (within (u ∷ ts)) (Close t) x c g s plain f = go (eqb u t) s
      where
        go : (b : Bool) → (cond b (within ts) broken ≡ broken → ⊥) → Follows reach m (cond b (within ts) broken) (left m t x.top x.under) (step m g c (Close t))
        go true s = follows_leave u ts x.top x.under g c t f
        go false s = absurd (s refl)
    follows_on (within []) End x c g s plain f = f.0
    follows_on (within (u ∷ ts)) End x c g s plain f = absurd (s refl)
    follows_on over e x c g s plain f = absurd (s refl)
    follows_on broken e x c g s plain f = absurd f

    pub run_follows : (h : List Event) (e : Event) (x : Track) (g : Entering) → Sound (h ++ (e ∷ [])) → ((s t : ℕ) → g (suc (opened h)) s t ≡ m.enter s t)
        → Follows reach m (nest h) x (run m g h) → Follows reach m (nest (h ++ (e ∷ []))) (moved reach m e x) (run m g (h ++ (e ∷ [])))
    run_follows h e x g s plain f =
        subst (λ (n : Nest). Follows reach m n (moved reach m e x) (run m g (h ++ (e ∷ [])))) (sym (nest_more h e))
        (subst (λ (c : Stand). Follows reach m (after (nest h) e) (moved reach m e x) c) (sym (run_more m g h e))
        (follows_on (nest h) e x (run m g h) g (λ b. s (nest_more h e ∙ b)) (λ q t. ap (λ (k : ℕ). g (suc k) q t) (run_opened m g h) ∙ plain q t) f))
