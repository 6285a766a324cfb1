-- Promises over lists of exchanges: one exchange more, from exchange to exchange, and that the calls fix them.
use Rattle.std.proofs.Common.{◌≡◌, ◌⊎◌, List, [], ◌∷◌, ◌++◌, map, sym, refl, ap, ◌∙◌, subst, inl, inr, append_assoc, append-nil}
use Rattle.std.proofs.lemmas.List.{map-append}
use Rattle.book.specs.declared.event.Event.{Event}

-- Lists -----------------------------------------------------------------------------------------------------------

-- where an element stands in a list with one more at its end: there, or before it
pub split_last : {A : Type 0} (xs ys zs : List A) (x y : A) → xs ++ (x ∷ []) ≡ ys ++ (y ∷ zs)
    → ((xs ≡ ys) × (x ≡ y)) ⊎ ((ws : List A) × (xs ≡ ys ++ (y ∷ ws)))
split_last [] [] zs x y e = inl (refl, (cc))
split_last [] (u ∷ []) zs x y e = cc
split_last [] (u ∷ (v ∷ ys)) zs x y e = cc
split_last (w ∷ xs) [] zs x y e = inr (xs, (cc))
split_last (w ∷ xs) (u ∷ ys) zs x y e =
    let heads : w ≡ u = cc in
    elim (split_last xs ys zs x y (cc)) [
      | inl a ↦ inl ((let b = a.0 in cc), a.1)
      | inr a ↦ inr (a.0, (let b = a.1 in cc))
    ]

-- Promises --------------------------------------------------------------------------------------------------------

-- each exchange keeps its promise, after the events that the calls before it bring
abbrev pub EachKept : {C X : Type 0} → (List C → List Event → Type 0) → (X → C) → (List Event → List X → X → Type 0) → List X → Type 0
EachKept {C} {X} so_far call keeps xs = (ys : List X) (x : X) (zs : List X) → xs ≡ ys ++ (x ∷ zs) →
    (h : List Event) × so_far (map call ys) h × keeps h ys x

module _ {C X : Type 0} (so_far : List C → List Event → Type 0) (call : X → C) (keeps : List Event → List X → X → Type 0) where
  pub kept_none : EachKept so_far call keeps []
  kept_none [] x zs e = cc
  kept_none (y ∷ ys) x zs e = cc

  pub kept_more : (xs : List X) (x : X) (h : List Event) → EachKept so_far call keeps xs → so_far (map call xs) h → keeps h xs x
      → EachKept so_far call keeps (xs ++ (x ∷ []))
  kept_more xs x h kept at k ys y zs e = elim (split_last xs ys zs x y e) [
    | inl same ↦ (h, subst (λ (l : List X). so_far (map call l) h) same.0 at, subst (λ (z : X). keeps h ys z) same.1 (subst (λ (l : List X). keeps h l x) same.0 k))
    | inr before ↦ kept ys y before.0 before.1
  ]

  -- the exchanges before another
  pub kept_before : (xs ws : List X) → EachKept so_far call keeps (xs ++ ws) → EachKept so_far call keeps xs
  kept_before xs ws kept ys x zs e = kept ys x (zs ++ ws) (ap (λ (l : List X). l ++ ws) e ∙ append_assoc ys (x ∷ zs) ws)

  module _ (same : (cs : List C) (h g : List Event) → so_far cs h → so_far cs g → h ≡ g) where
    -- after the events so far, the next exchange keeps its promise
    pub kept_at : (xs ys : List X) (x : X) (zs : List X) (h : List Event) → EachKept so_far call keeps xs → xs ≡ ys ++ (x ∷ zs) → so_far (map call ys) h
        → keeps h ys x
    kept_at xs ys x zs h kept e at = let k = kept ys x zs e in subst (λ (g : List Event). keeps g ys x) (same (map call ys) k.0 h k.1 at) k.2

    -- what lasts from exchange to exchange
    module _ (P : List X → List Event → Type 0) (next : List Event → X → List Event)
        (more : (ys : List X) (x : X) (h : List Event) → so_far (map call ys) h → P ys h → keeps h ys x → so_far (map call ys ++ (call x ∷ [])) (next h x) × P (ys ++ (x ∷ [])) (next h x)) where
      along : (xs done todo : List X) (h : List Event) → EachKept so_far call keeps xs → xs ≡ done ++ todo → so_far (map call done) h → P done h
          → (g : List Event) × so_far (map call xs) g × P xs g
      along xs done [] h kept e at p =
          let whole : done ≡ xs = sym (append-nil done) ∙ sym e in
          (h, subst (λ (l : List X). so_far (map call l) h) whole at, subst (λ (l : List X). P l h) whole p)
      along xs done (x ∷ todo) h kept e at p =
          let r = more done x h at p (kept_at xs done x todo h kept e at) in
          along xs (done ++ (x ∷ [])) todo (next h x) kept (e ∙ sym (append_assoc done (x ∷ []) todo))
          (subst (λ (l : List C). so_far l (next h x)) (sym (map-append call done (x ∷ []))) r.0) r.1

      pub through_all : (xs : List X) (h : List Event) → so_far [] h → P [] h → EachKept so_far call keeps xs → (g : List Event) × so_far (map call xs) g × P xs g
      through_all xs h at p kept = along xs [] xs h kept refl at p

    -- where the same question has one answer, the same questions give the same exchanges
    module _ {A : Type 0} (asked : X → A) (one : (h : List Event) (ys : List X) (x y : X) → asked x ≡ asked y → keeps h ys x → keeps h ys y → x ≡ y) where
      same_from : (xs ys done todo more : List X) → EachKept so_far call keeps xs → EachKept so_far call keeps ys → xs ≡ done ++ todo → ys ≡ done ++ more
          → map asked todo ≡ map asked more → todo ≡ more
      same_from xs ys done [] [] k l a b e = refl
      same_from xs ys done [] (y ∷ more) k l a b e = cc
      same_from xs ys done (x ∷ todo) [] k l a b e = cc
      same_from xs ys done (x ∷ todo) (y ∷ more) k l a b e =
          let first = k done x todo a in
          let here : x ≡ y = one first.0 done x y (cc) first.2 (kept_at ys done y more first.0 l b first.1) in
          let rest : todo ≡ more = same_from xs ys (done ++ (x ∷ [])) todo more k l
          (a ∙ sym (append_assoc done (x ∷ []) todo))
          (b ∙ ap (λ (z : X). done ++ (z ∷ more)) (sym here) ∙ sym (append_assoc done (x ∷ []) more)) (cc) in
          cc

      pub same_exchanges : (xs ys : List X) → EachKept so_far call keeps xs → EachKept so_far call keeps ys → map asked xs ≡ map asked ys → xs ≡ ys
      same_exchanges xs ys k l e = same_from xs ys [] xs ys k l refl refl e

  -- where each question has an answer, so have any questions
  module _ {A : Type 0} (asked : X → A)
      (any : (xs : List X) → EachKept so_far call keeps xs → (a : A) → (x : X) × (asked x ≡ a) × EachKept so_far call keeps (xs ++ (x ∷ []))) where
    some_from : (done : List X) (calls : List A) → EachKept so_far call keeps done
        → (xs : List X) × (map asked xs ≡ map asked done ++ calls) × EachKept so_far call keeps xs
    some_from done [] kept = (done, sym (append-nil (map asked done)), kept)
    some_from done (a ∷ calls) kept =
        let x = any done kept a in
        let r = some_from (done ++ (x.0 ∷ [])) calls x.2 in (
          r.0,
          r.1
              ∙ ap (λ (l : List A). l ++ calls) (map-append asked done (x.0 ∷ []))
              ∙ append_assoc (map asked done) (asked x.0 ∷ []) calls
              ∙ ap (λ (z : A). map asked done ++ (z ∷ calls)) x.1,
          r.2,
        )

    pub some_exchanges : (calls : List A) → (xs : List X) × (map asked xs ≡ calls) × EachKept so_far call keeps xs
    some_exchanges calls = some_from [] calls kept_none
