-- Steps from one cursor to the next, joined to longer ones.
use Rattle.std.proofs.Common.{◌≡◌, ℕ, suc, ◌+◌, ◌-◌, ◌<◌, ◌≤◌, Bool, true, false, ◌⊎◌, List, [], length, get_or, drop, take, Ok, Err, Result, sym, refl, ap, ◌∙◌, subst, inl, inr, arith, length-drop, min, Some, None, Option, MatchOption, unwrap_or}
use Rattle.std.proofs.lemmas.List.{get_or-drop, get_or-take, length-take-le}
use Rattle.std.specs.List.{AllWithin, HoldsAt}
use Rattle.markup.specs.Grammar.{Tag, white}
use Rattle.name_bytes.specs.Names.{name_byte, name_limit}
use Rattle.std.proofs.lemmas.Bool.{cases_lt, both_ways}
use Rattle.markup.specs.Reading.{Mode, go, stop, on, next, over, in_text, naming, naming_attribute, naming_end, attribute_named, valued, spaced, end_spaced, shut, carried, Ending, Reading, failed, giving}
use Rattle.markup.specs.Faults.{fault_number, fault_place, fault_ending}
use Rattle.markup.specs.Parts.{from, left, HasByte, here, Cut, Goes, Fails, Way, Skipped, SkippedUpTo, Naming, Named}
use Rattle.markup.specs.declared.cursor.Cursor.{Cursor}
use Rattle.markup.specs.declared.fault.ReaderFault.{ReaderFault}
use Rattle.markup.specs.declared.fault.ReaderFault.TheVariants.{LongName}
use Rattle.markup.proofs.Slices.{at_byte, at_on, at_stop, at_end, runs_on, Stays, spacing, spacing_on, spacing_more, naming_attr, naming_start, naming_ends, name_ended, tag_named, end_named}

-- the same place of the same text
pub left_as : (s s' : List ℕ) (p p' : ℕ) (m : Mode) → s' ≡ s → p' ≡ p → from s p m ≡ from s' p' m
left_as s s' p p' m e f = cc

pub goes_then : (b i a : Cursor) (m m' m'' : Mode) → Goes b m i m' → Goes i m' a m'' → Goes b m a m''
goes_then b i a m m' m'' g h = record { same_text = h.same_text ∙ g.same_text; onward = omega (arith, g.onward, h.onward); same = g.same ∙ h.same }

pub way_then : {A : Type 0} (b i a : Cursor) (m m' m'' : Mode) (r : Result A ReaderFault) → Goes b m i m' → Way i m' m'' r a → Way b m m'' r a
way_then b i a m m' m'' (Ok x) g h = goes_then b i a m m' m'' g h
way_then b i a m m' m'' (Err f) g h = g.same ∙ h

-- past one byte
pub goes_byte : (b a : Cursor) (m m' : Mode) → HasByte b → next b.place m (here b) ≡ on m' → a.text.now ≡ b.text.now → a.place ≡ b.place + 1 → Goes b m a m'
goes_byte b a m m' h e t p = record {
  same_text = t;
  onward = omega arith;
  same = at_on b.text.now b.place m m' h e ∙ left_as _ _ _ _ m' t p;
}

-- past one byte, with which tags are given
pub byte_tells : (b a : Cursor) (m : Mode) (ts : List Tag) → HasByte b → next b.place m (here b) ≡ go in_text ts → a.text.now ≡ b.text.now → a.place ≡ b.place + 1 → left b m ≡ giving ts (left a in_text)
byte_tells b a m ts h e t p = at_byte b.text.now b.place m (go in_text ts) h e ∙ ap (λ (z : Reading). giving ts z) (left_as _ _ _ _ in_text t p)

-- a text that ends where more must come
pub cut_fails : (b : Cursor) (m : Mode) (f : ReaderFault) → over m b.place ≡ failed 21 b.place → Cut b f → Fails b m f
cut_fails b m f o (l, e) = at_end b.text.now b.place m l ∙ ap (λ (z : Ending). record { given = []; ended = z }) (o ∙ sym (ap fault_ending e))

-- a byte that is refused
pub byte_fails : (b : Cursor) (m : Mode) (f : ReaderFault) → HasByte b → next b.place m (here b) ≡ stop (fault_number f) (fault_place f) → Fails b m f
byte_fails b m f h e = at_stop b.text.now b.place (fault_number f) (fault_place f) m h e

-- where a byte was wanted: the text's end, or a byte that is refused for Q
pub refused : {Q : Type 0} (f : ReaderFault) (b : Cursor) (m : Mode) (e : ReaderFault) → over m b.place ≡ failed 21 b.place →
    (HasByte b → Q → next b.place m (here b) ≡ stop (fault_number f) (fault_place f)) → Cut b e ⊎ (HasByte b × Q × (e ≡ f)) → Fails b m e
refused f b m e o n (inl c) = cut_fails b m e o c
refused f b m e o n (inr (h, p, q)) = byte_fails b m f h (n h p) ∙ ap (λ (z : ReaderFault). record { given = []; ended = fault_ending z }) (sym q)

-- a test's answers are those of a class
abbrev pub Is : (ℕ → Bool) → ℕ → Bool → Type 0
Is c x r = r ≡ c x

-- past all bytes of a class, in a mode that they don't change
pub goes_skip : (c : ℕ → Bool) (b a : Cursor) (m : Mode) → Stays c m → Skipped (Is c) b a → Goes b m a m
goes_skip c b a m st (t, o, h, e) = record {
  same_text = t;
  onward = o;
  same = runs_on (λ _. m) b.text.now b.place (a.place - b.place) (λ k l. (omega (arith, a.inside, ap length t), st _ _ (sym (h (b.place + k) (omega arith) (omega arith)))))
      ∙ left_as _ _ _ _ m t (let q : a.place ≡ b.place + (a.place - b.place) = omega arith in q);
}

-- past one byte of a class and then all that follow it
pub skipped_more : (c : ℕ → Bool) (b a : Cursor) → c (here b) ≡ true →
    (a.text.now ≡ b.text.now) × (b.place + 1 ≤ a.place) × ((k : ℕ) → b.place + 1 ≤ k → k < a.place → Is c (get_or b.text.now k 0) true) × (HasByte a → Is c (here a) false) →
    Skipped (Is c) b a
skipped_more c b a f (t, o, h, l) = (
  t,
  omega arith,
  λ k m n. elim (cases_lt b.place k) [
    | inl j ↦ h k (omega arith) n
    | inr j ↦ subst (λ (z : ℕ). true ≡ c (get_or b.text.now z 0)) (let q : b.place ≡ k = omega arith in q) (sym f)
  ],
  l,
)

-- ## Names

-- past the bytes of a name that go on with it
named_by : (f : ℕ → Mode) (s : List ℕ) (p n : ℕ) → Naming f → n < 64 → ((k : ℕ) → k < n → (p + k < length s) × (name_byte (get_or s (p + k) 0) ≡ true)) → from s p (f 1) ≡ from s (p + n) (f (n + 1))
named_by f s p n m l h =
    runs_on (λ k. f (k + 1)) s p n
    (λ k i. let g = h k i in (g.0, m.0 (p + k) (k + 1) _ g.1 (omega arith) ∙ ap (λ (z : ℕ). on (f z)) (let e : k + 1 + 1 ≡ suc k + 1 = omega arith in e)))

-- past a name to its end
pub named_on : (b a : Cursor) → SkippedUpTo name_limit (Is name_byte) b a → a.place - b.place < name_limit → Named {A = Unit {0}} b (Ok tt) a
named_on b a (t, o, w, h, e) l = (
  t,
  o,
  λ f m. named_by f b.text.now b.place (a.place - b.place) m l (λ k i. (omega (arith, a.inside, ap length t), sym (h (b.place + k) (omega arith) (omega arith))))
      ∙ left_as _ _ _ _ (f (a.place - b.place + 1)) t (let q : a.place ≡ b.place + (a.place - b.place) = omega arith in q),
  λ i. sym (e (omega (arith, l)) i),
)

-- past the byte that a name has too many
pub named_full : (b a : Cursor) → SkippedUpTo name_limit (Is name_byte) b a → name_limit ≤ a.place - b.place → Named {A = Unit {0}} b (Err (LongName (a.place - 1))) a
named_full b a (t, o, w, h, e) l =
    λ f m. named_by f b.text.now b.place 63 m (omega arith) (λ k i. (omega (arith, a.inside, ap length t), sym (h (b.place + k) (omega arith) (omega arith))))
    ∙ at_stop b.text.now (b.place + 63) 24 (b.place + 63) (f 64) (omega (arith, a.inside, ap length t)) (m.1 (b.place + 63) 64 _ (sym (h (b.place + 63) (omega arith) (omega arith))) (omega arith))
    ∙ ap (λ (z : ℕ). record { given = []; ended = failed 24 z }) (let q : b.place + 63 ≡ a.place - 1 = omega arith in q)

-- to what stands behind a name: an attribute's, a start tag's, an end tag's
pub goes_named_attribute : (b a : Cursor) (x at k : ℕ) → Named {A = ℕ} b (Ok x) a → Goes b (naming_attribute at k 1) a (attribute_named at k)
goes_named_attribute b a x at k (t, o, n, e) =
    record { same_text = t; onward = o; same = n (naming_attribute at k) (naming_attr at k) ∙ name_ended a.text.now a.place at k _ e }

pub goes_named : (b a : Cursor) (x at : ℕ) → Named {A = ℕ} b (Ok x) a → Goes b (naming at 1) a (valued at (a.place - b.place + 1))
goes_named b a x at (t, o, n, e) = record { same_text = t; onward = o; same = n (naming at) (naming_start at) ∙ tag_named a.text.now a.place at _ e }

pub goes_end_named : (b a : Cursor) (x at : ℕ) → Named {A = ℕ} b (Ok x) a → Goes b (naming_end at 1) a (end_spaced at (a.place - b.place + 1))
goes_end_named b a x at (t, o, n, e) = record { same_text = t; onward = o; same = n (naming_end at) (naming_ends at) ∙ end_named a.text.now a.place at _ e }

-- ## Start tags

-- from white space behind a value past all of it
pub goes_spaced : (b a : Cursor) (at k : ℕ) → HasByte b → white (here b) ≡ true → Skipped (Is white) b a → Goes b (valued at k) a (spaced at k)
goes_spaced b a at k h w (t, o, s, e) = record {
  same_text = t;
  onward = o;
  same = runs_on (spacing at k) b.text.now b.place (a.place - b.place) (λ n l. (omega (arith, a.inside, ap length t), spacing_on at k n _ _ (sym (s (b.place + n) (omega arith) (omega arith)))))
      ∙ ap (λ (z : Mode). from b.text.now (b.place + (a.place - b.place)) z) (spacing_more at k (a.place - b.place) (omega (arith, further)))
      ∙ left_as _ _ _ _ (spaced at k) t (let q : a.place ≡ b.place + (a.place - b.place) = omega arith in q);
}
  where
    further : b.place < a.place
    further = elim (cases_lt b.place a.place) [ inl l ↦ l | inr l ↦ absurd (stays (let q : a.place ≡ b.place = omega arith in q)) ]
      where
        stays : a.place ≡ b.place → ⊥
        stays q = both_ways (white (here a)) (sym (e h')) w'
          where
            w' : white (here a) ≡ true
            w' = ap white (let z : here a ≡ here b = cc in z) ∙ w

            h' : HasByte a
            h' = omega (arith, ap length t)

-- at the byte that ends the tag or is refused
pub shuts_here : (b : Cursor) (at k x : ℕ) (m : Mode) → HasByte b → here b ≡ x → next b.place m (here b) ≡ shut at k b.place (here b) → left b m ≡ carried (shut at k b.place x) (λ m'. from b.text.now (b.place + 1) m')
shuts_here b at k x m h e n = at_byte b.text.now b.place m _ h n ∙ ap (λ (z : ℕ). carried (shut at k b.place z) (λ m'. from b.text.now (b.place + 1) m')) e
