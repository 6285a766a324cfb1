-- What is left to show of `content` in src/content.rt.
use Rattle.std.proofs.Common.{length, ap, sym, refl, ◌∙◌, arith, rules}
use Rattle.std.proofs.lemmas.Result.{err_from_is_err_and}
use Rattle.markup.specs.Grammar.{plain}
use Rattle.markup.specs.Parts.{Skipped}
use Rattle.markup.specs.Reading.{ampersand, in_content, text}
use Rattle.markup.proofs.Cursors.{Is, goes_byte, goes_skip, goes_then}
use Rattle.markup.proofs.Slices.{amp_on, at_on, stays_plain}
use Rattle.markup.proofs.cursor.Cursor.content.Goals as goal

pub returns-then-not-is_at : goal.returns-then-not-is_at
returns-then-not-is_at c =
    let u = c.skip.ensures in
    let s : Skipped (Is (plain c.args.stop)) c.loop-stop.self c.skip.new.self = (u.0, u.1, λ k l m. (let x = u.2 k l m in search rules), λ l. (let x = u.3 l in search rules)) in
    (λ w e. goes_then _ _ _ _ _ _ (c.loop-stop.invariant w e) (goes_skip (plain c.args.stop) c.loop-stop.self c.skip.new.self (in_content w) (stays_plain w c.args.stop e) s), λ h. (sym (s.3 h), c.if-not-is_at.ensures h))

pub loop-stop-smaller : goal.loop-stop-smaller
loop-stop-smaller c =
    let r = c.in_ok-reference.ensures text in
    omega (arith, c.skip.ensures.1, ap length c.skip.ensures.0, c.if-not-is_at.ensures.0, r.onward, ap length r.same_text, c.reference.new.self.inside)

pub loop-stop-preserved : goal.loop-stop-preserved
loop-stop-preserved c =
    let u = c.skip.ensures in
    let s : Skipped (Is (plain c.args.stop)) c.loop-stop.self c.skip.new.self = (u.0, u.1, λ k l m. (let x = u.2 k l m in search rules), λ l. (let x = u.3 l in search rules)) in
    let a = c.if-not-is_at.ensures in
    λ w e. goes_then _ _ _ _ _ _ (c.loop-stop.invariant w e) (goes_then _ _ _ _ _ _ (goes_skip (plain c.args.stop) c.loop-stop.self c.skip.new.self (in_content w) (stays_plain w c.args.stop e) s)
    (goes_then _ _ _ _ _ _ (goes_byte c.skip.new.self _ (in_content w) (ampersand c.skip.new.self.place w) a.0 (amp_on c.skip.new.self.place w _ a.1) refl refl) (c.in_ok-reference.ensures w)))

pub returns-in_err-reference : goal.returns-in_err-reference
returns-in_err-reference c =
    let p = err_from_is_err_and c.from_residual.result c.from_residual.ensures.1 in
    let u = c.skip.ensures in
    let s : Skipped (Is (plain c.args.stop)) c.loop-stop.self c.skip.new.self = (u.0, u.1, λ k l m. (let x = u.2 k l m in search rules), λ l. (let x = u.3 l in search rules)) in
    let a = c.if-not-is_at.ensures in
    rw (p.1, p.2)
    (λ w e. (c.loop-stop.invariant w e).same ∙ (goes_skip (plain c.args.stop) c.loop-stop.self c.skip.new.self (in_content w) (stays_plain w c.args.stop e) s).same
    ∙ at_on c.skip.new.self.text.now c.skip.new.self.place (in_content w) (ampersand c.skip.new.self.place w) a.0 (amp_on c.skip.new.self.place w _ a.1) ∙ c.in_err-reference.ensures w)
