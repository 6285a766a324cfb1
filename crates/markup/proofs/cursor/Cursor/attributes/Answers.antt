-- What is left to show of `attributes` in src/attribute.rt.
use Rattle.std.proofs.Common.{length, ap, sym, refl, ◌∙◌, arith}
use Rattle.std.proofs.lemmas.Result.{err_from_is_err_and}
use Rattle.markup.specs.Grammar.{white}
use Rattle.markup.specs.Parts.{here}
use Rattle.markup.specs.Reading.{naming_attribute, spaced, valued}
use Rattle.name_bytes.specs.Names.{name_start}
use Rattle.markup.proofs.Cursors.{cut_fails, goes_byte, goes_spaced, goes_then, shuts_here, skipped_more}
use Rattle.markup.proofs.Slices.{at_on, begins_attribute, shut_here, shut_spaced}
use Rattle.markup.proofs.cursor.Cursor.attributes.Goals as goal

pub returns-then-not-is_white : goal.returns-then-not-is_white
returns-then-not-is_white c =
    let b = c.loop-b.self in
    let i = c.loop-b.invariant in
    let h = c.in_ok-b.ensures in (
      (i 0 0).same_text,
      (i 0 0).onward,
      h.0,
      h.1,
      λ at k. (i at k).same ∙ shuts_here b at k c.in_ok-b.b (valued at k) h.0 h.1 (shut_here b.place at k (here b) (ap white h.1 ∙ sym c.if-not-is_white.ensures)),
    )

pub returns-in_err-c : goal.returns-in_err-c
returns-in_err-c c =
    let p = err_from_is_err_and c.from_residual-in_err-c.result c.from_residual-in_err-c.ensures.1 in
    rw (p.1, p.2) (λ at k. (c.loop-b.invariant at k).same ∙ (goes_spaced c.loop-b.self c.skip.new.self at k c.in_ok-b.ensures.0 (ap white c.in_ok-b.ensures.1 ∙ sym c.if-not-is_white.ensures) (skipped_more white c.loop-b.self c.skip.new.self (ap white c.in_ok-b.ensures.1 ∙ sym c.if-not-is_white.ensures) c.skip.ensures)).same ∙ cut_fails c.skip.new.self (spaced at k) _ refl c.in_err-c.ensures)

pub returns-then-not-is_name_start : goal.returns-then-not-is_name_start
returns-then-not-is_name_start c =
    let j = c.skip.new.self in
    let i = c.loop-b.invariant in
    let u = c.skip.ensures in
    let h = c.in_ok-c.ensures in (
      u.0 ∙ (i 0 0).same_text,
      omega (arith, (i 0 0).onward, u.1),
      h.0,
      h.1,
      λ at k. (i at k).same ∙ (goes_spaced c.loop-b.self c.skip.new.self at k c.in_ok-b.ensures.0 (ap white c.in_ok-b.ensures.1 ∙ sym c.if-not-is_white.ensures) (skipped_more white c.loop-b.self c.skip.new.self (ap white c.in_ok-b.ensures.1 ∙ sym c.if-not-is_white.ensures) c.skip.ensures)).same
          ∙ shuts_here j at k c.in_ok-c.c (spaced at k) h.0 h.1 (shut_spaced j.place at k (here j) (sym (u.3 h.0)) (ap name_start h.1 ∙ sym c.if-not-is_name_start.ensures)),
    )

pub loop-b-smaller : goal.loop-b-smaller
loop-b-smaller c =
    let r = c.in_ok-attribute.ensures 0 0 in
    omega (arith, c.skip.ensures.1, ap length c.skip.ensures.0, c.in_ok-c.ensures.0, r.onward, ap length r.same_text, c.attribute.new.self.inside)

pub loop-b-preserved : goal.loop-b-preserved
loop-b-preserved c = λ at k. goes_then _ _ _ _ _ _ (c.loop-b.invariant at k)
    (goes_then _ _ _ _ _ _ (goes_spaced c.loop-b.self c.skip.new.self at k c.in_ok-b.ensures.0 (ap white c.in_ok-b.ensures.1 ∙ sym c.if-not-is_white.ensures) (skipped_more white c.loop-b.self c.skip.new.self (ap white c.in_ok-b.ensures.1 ∙ sym c.if-not-is_white.ensures) c.skip.ensures))
    (goes_then _ _ _ _ _ _ (goes_byte c.skip.new.self _ (spaced at k) (naming_attribute at k 1) c.in_ok-c.ensures.0 (begins_attribute c.skip.new.self.place at k (here c.skip.new.self) (ap name_start c.in_ok-c.ensures.1 ∙ sym c.if-not-is_name_start.ensures)) refl refl) (c.in_ok-attribute.ensures at k)))

pub returns-in_err-attribute : goal.returns-in_err-attribute
returns-in_err-attribute c =
    let p = err_from_is_err_and c.from_residual-in_err-attribute.result c.from_residual-in_err-attribute.ensures.1 in
    let j = c.skip.new.self in
    let h = c.in_ok-c.ensures in
    rw (p.1, p.2) (λ at k. (c.loop-b.invariant at k).same ∙ (goes_spaced c.loop-b.self j at k c.in_ok-b.ensures.0 (ap white c.in_ok-b.ensures.1 ∙ sym c.if-not-is_white.ensures) (skipped_more white c.loop-b.self c.skip.new.self (ap white c.in_ok-b.ensures.1 ∙ sym c.if-not-is_white.ensures) c.skip.ensures)).same
    ∙ at_on j.text.now j.place (spaced at k) (naming_attribute at k 1) h.0 (begins_attribute j.place at k (here j) (ap name_start h.1 ∙ sym c.if-not-is_name_start.ensures))
    ∙ c.in_err-attribute.ensures at k)
