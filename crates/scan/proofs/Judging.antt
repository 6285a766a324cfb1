-- Two tests on a track that follows its run say what the endings answer. Assumes nothing.
use Rattle.std.proofs.Common.{◌≡◌, ℕ, ◌<◌, Bool, true, false, cond, not, ◌&&◌, eqb, ltb, ◌↔◌, List, [], ◌∷◌, ◌++◌, sym, refl, ap, ◌∙◌, subst, arith}
use Rattle.std.proofs.lemmas.Bool.{both_ways}
use Rattle.book.specs.declared.event.Event.{Event}
use Rattle.book.specs.declared.event.Event.TheVariants.{Open, Close, End}
use Rattle.book.specs.Limits.{tags}
use Rattle.book.specs.Catalogue.{Nest, within, over, broken, after, nest, Sound}
use Rattle.book.specs.Machines.{Machine, Selecting, Lawful, LawfulMarks, Entering, run, plainly, marking, accepted, selected}
use Rattle.book.specs.Levels.{LevelsTell}
use Rattle.book.specs.Orders.{Opened, Due, Held}
use Rattle.book.specs.Tables.{Fits, possible, may_end, TwoTests, Decided}
use Rattle.book.proofs.Nesting.{not_from_broken, within_not_over, within_not_broken}
use Rattle.book.proofs.Steps.{nest_more}
use Rattle.book.proofs.Selections.{selected_is}
use Rattle.book.proofs.Questions.{every_at_end}
use Rattle.book.proofs.Levels.{levels_decide_selected, levels_decide_accepted}
use Rattle.book.proofs.Ranges.{plain_run_below, marked_run_below}
use Rattle.book.proofs.Tables.{levels_tested, decided}
use Rattle.book.proofs.Earliest.{not_two}
use Rattle.scan.specs.Tracks.{Track, may, Follows}
use Rattle.scan.proofs.Tracks.{top_cached}

-- Where an event leads --------------------------------------------------------------------------------------------

tested_not_over : (b : Bool) (ts : List ℕ) → cond b (within ts) broken ≡ over → ⊥
tested_not_over true ts p = within_not_over ts p
tested_not_over false ts p = not_from_broken [] p

open_not_over : (n : Nest) (t : ℕ) → after n (Open t) ≡ over → ⊥
open_not_over (within ts) t p = tested_not_over (ltb t tags) (t ∷ ts) p
open_not_over over t p = not_from_broken [] p
open_not_over broken t p = not_from_broken [] p

close_not_over : (n : Nest) (t : ℕ) → after n (Close t) ≡ over → ⊥
close_not_over (within []) t p = not_from_broken [] p
close_not_over (within (u ∷ ts)) t p = tested_not_over (eqb u t) ts p
close_not_over over t p = not_from_broken [] p
close_not_over broken t p = not_from_broken [] p

end_not_within : (n : Nest) (ts : List ℕ) → after n End ≡ within ts → ⊥
end_not_within (within []) ts p = within_not_over ts (sym p)
end_not_within (within (u ∷ us)) ts p = within_not_broken ts (sym p)
end_not_within over ts p = within_not_broken ts (sym p)
end_not_within broken ts p = within_not_broken ts (sym p)

-- A question that the levels of a run tell ------------------------------------------------------------------------

at_end : (question : List Event → Bool) (h : List Event) → nest h ≡ over → (v : Bool) → question h ≡ v → TwoTests question h v (not v)
at_end question h at true e = (every_at_end question true h at).1 e
at_end question h at false e = (every_at_end question false h at).1 e

module _ (reach : ℕ → ℕ → Bool) (m : Machine) (law : Lawful m) (fits : Fits m reach) (some : 0 < m.width) (f : Entering) (question : List Event → Bool) (h : List Event)
    (below : (run m f h).state < m.width) (tell : (ts : List ℕ) → nest h ≡ within ts → LevelsTell m ts (run m f h) question h)
    (is : question h ≡ m.accepts (run m f h).state) (x : Track) where
  both : (y n y' n' : Bool) → y ≡ y' → n ≡ n' → TwoTests question h y' n' → TwoTests question h y n
  both y n y' n' p r d = subst (λ (b : Bool). TwoTests question h b n) (sym p) (subst (λ (b : Bool). TwoTests question h y' b) (sym r) d)

  by_levels : (n : Nest) → nest h ≡ n → (n ≡ over → ⊥) → Follows reach m n x (run m f h) → TwoTests question h (x.top.can true x.top.state) (x.top.can false x.top.state)
  by_levels (within ts) at nt y =
      let same : (b : Bool) → x.top.can b x.top.state ≡ may_end reach m ts (run m f h) b = (λ b.
      top_cached reach m ts x.top x.under y.2 b x.top.state (let e = y.0 in let lt = below in omega arith)
      ∙ (λ j. possible reach m b ts (y.1 j) (y.0 j))) in
      both (x.top.can true x.top.state) (x.top.can false x.top.state) (may_end reach m ts (run m f h) true) (may_end reach m ts (run m f h) false)
      (same true) (same false) (levels_tested reach m law some fits ts (run m f h) question h at below (tell ts at))
  by_levels over at nt y = absurd (nt refl)
  by_levels broken at nt y = absurd y

  by_end : (n : Nest) → nest h ≡ n → ((ts : List ℕ) → n ≡ within ts → ⊥) → Follows reach m n x (run m f h) → TwoTests question h (m.accepts x.top.state) (not (m.accepts x.top.state))
  by_end (within ts) at nt y = absurd (nt ts refl)
  by_end over at nt y = at_end question h at (m.accepts x.top.state) (is ∙ ap m.accepts (sym y))
  by_end broken at nt y = absurd y

  -- after the last event of h
  follows_tested : (e : Event) (p : List Event) → h ≡ p ++ (e ∷ []) → Follows reach m (nest h) x (run m f h) → TwoTests question h (may m e true x) (may m e false x)
  follows_tested (Open t) p at y = by_levels (nest h) refl (λ b. open_not_over (nest p) t (sym (nest_more p (Open t)) ∙ sym (ap nest at) ∙ b)) y
  follows_tested (Close t) p at y = by_levels (nest h) refl (λ b. close_not_over (nest p) t (sym (nest_more p (Close t)) ∙ sym (ap nest at) ∙ b)) y
  follows_tested End p at y = by_end (nest h) refl (λ ts b. end_not_within (nest p) ts (sym (nest_more p End) ∙ sym (ap nest at) ∙ b)) y

-- Acceptance and items --------------------------------------------------------------------------------------------

pub base_tested : (reach : ℕ → ℕ → Bool) (m : Machine) → Lawful m → Fits m reach → 0 < m.width → (h : List Event) (e : Event) (x : Track)
    → Follows reach m (nest (h ++ (e ∷ []))) x (run m (plainly m) (h ++ (e ∷ [])))
    → TwoTests (accepted m) (h ++ (e ∷ [])) (may m e true x) (may m e false x)
base_tested reach m law fits some h e x y =
    let now : List Event = h ++ (e ∷ []) in
    follows_tested reach m law fits some (plainly m) (accepted m) now (plain_run_below m law some now) (λ ts at. levels_decide_accepted m now ts at) refl x e h refl y

pub item_decided : (reach : ℕ → ℕ → Bool) (m : Selecting) → Lawful m.shape → LawfulMarks m.shape m.mark → Fits m.shape reach → 0 < m.shape.width
    → (h : List Event) (e : Event) (i : ℕ) → Opened (h ++ (e ∷ [])) i → (x : Track)
    → Follows reach m.shape (nest (h ++ (e ∷ []))) x (run m.shape (marking m i) (h ++ (e ∷ [])))
    → Decided m (h ++ (e ∷ [])) i (may m.shape e true x) (may m.shape e false x)
item_decided reach m law mark_law fits some h e i o x y =
    let now : List Event = h ++ (e ∷ []) in
    decided m now i (may m.shape e true x) (may m.shape e false x) o
    (follows_tested reach m.shape law fits some (marking m i) (selected m i) now (marked_run_below m law mark_law some i now)
    (λ ts at. levels_decide_selected m now i ts at o) (selected_is m i now o) x e h refl y)

-- what the two tests say of an item
module _ (m : Selecting) (h : List Event) (s : Sound h) (i : ℕ) where
  pub due_told : (y n : Bool) → Decided m h i y n → (not n ≡ true) ↔ Due m h i
  due_told true true d = (λ e. absurd (both_ways false refl e), λ u. absurd ((not_two m h i s).1 u d))
  due_told true false d = (λ e. d, λ u. refl)
  due_told false true d = (λ e. absurd (both_ways false refl e), λ u. absurd ((not_two m h i s).0 u d))
  due_told false false d = absurd d

  pub held_told : (y n : Bool) → Decided m h i y n → ((y && n) ≡ true) ↔ Held m h i
  held_told true true d = (λ e. d, λ u. refl)
  held_told true false d = (λ e. absurd (both_ways false refl e), λ u. absurd ((not_two m h i s).1 d u))
  held_told false true d = (λ e. absurd (both_ways false refl e), λ u. absurd ((not_two m h i s).2 d u))
  held_told false false d = absurd d
