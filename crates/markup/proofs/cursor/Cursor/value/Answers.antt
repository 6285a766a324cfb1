-- What is left to show of `value` in src/attribute.rt.
use Rattle.std.proofs.Common.{◌≡◌, true, false, ◌||◌, eqb, ap, sym, refl, ◌∙◌, rules}
use Rattle.std.proofs.lemmas.Result.{err_from_is_err_and}
use Rattle.markup.specs.Grammar.{white, plain}
use Rattle.markup.specs.Parts.{here}
use Rattle.markup.specs.Reading.{value, in_content, valued, equals}
use Rattle.markup.proofs.Cursors.{goes_byte, goes_skip, goes_then, refused}
use Rattle.markup.proofs.Slices.{quote_of, quote_on, refuses_equals, refuses_value, shuts_value, white_equals}
use Rattle.markup.proofs.cursor.Cursor.value.Goals as goal

pub returns-in_err-quote : goal.returns-in_err-quote
returns-in_err-quote c =
    let p = err_from_is_err_and c.from_residual.result c.from_residual.ensures.1 in
    let i = c.skip.new.self in
    let u = c.skip.ensures in
    λ at k. rw (p.1, p.2)
    ((goes_skip white c.args.self.now i (equals at k) (white_equals at k) u).same
    ∙ refused _ i (equals at k) _ refl (λ h q. refuses_equals i.place at k (here i) (sym (u.3 h)) (search rules)) c.in_err-quote.ensures)

pub returns-in_err-content : goal.returns-in_err-content
returns-in_err-content c =
    let p = err_from_is_err_and c.from_residual-in_err-content.result c.from_residual-in_err-content.ensures.1 in
    let i = c.skip.new.self in
    let v = c.in_ok-quote.ensures in
    let t : (eqb c.in_ok-quote.quote 34 || eqb c.in_ok-quote.quote 39) ≡ true = search rules in
    let q = quote_of c.in_ok-quote.quote t in
    λ at k. rw (p.1, p.2)
    ((goes_skip white c.args.self.now i (equals at k) (white_equals at k) c.skip.ensures).same
    ∙ (goes_byte i c.take.new.self (equals at k) (in_content (value at k q.0)) v.0 (quote_on i.place at k _ q.0 (q.1 ∙ sym v.1)) v.3 v.4).same
    ∙ c.in_err-content.ensures (value at k q.0) q.1)

pub returns-in_err-take : goal.returns-in_err-take
returns-in_err-take c =
    let p = err_from_is_err_and c.from_residual-in_err-take.result c.from_residual-in_err-take.ensures.1 in
    let i = c.skip.new.self in
    let l = c.content.new.self in
    let v = c.in_ok-quote.ensures in
    let x = c.in_ok-content.ensures in
    let t : (eqb c.in_ok-quote.quote 34 || eqb c.in_ok-quote.quote 39) ≡ true = search rules in
    let q = quote_of c.in_ok-quote.quote t in
    λ at k. rw (p.1, p.2)
    ((goes_skip white c.args.self.now i (equals at k) (white_equals at k) c.skip.ensures).same
    ∙ (goes_byte i c.take.new.self (equals at k) (in_content (value at k q.0)) v.0 (quote_on i.place at k _ q.0 (q.1 ∙ sym v.1)) v.3 v.4).same
    ∙ (x.0 (value at k q.0) q.1).same
    ∙ refused _ l (in_content (value at k q.0)) _ refl
    (λ h n. refuses_value l.place at k q.0 (here l) (ap (λ z. plain z (here l)) q.1 ∙ (x.1 h).0) (x.1 h).1 (ap (λ z. eqb (here l) z) q.1 ∙ (let m : eqb (here l) c.in_ok-quote.quote ≡ false = search rules in m))) c.in_err-take.ensures)

pub returns : goal.returns
returns c =
    let i = c.skip.new.self in
    let l = c.content.new.self in
    let v = c.in_ok-quote.ensures in
    let y = c.in_ok-take.ensures in
    let t : (eqb c.in_ok-quote.quote 34 || eqb c.in_ok-quote.quote 39) ≡ true = search rules in
    let q = quote_of c.in_ok-quote.quote t in
    let m : here l ≡ c.in_ok-quote.quote = search rules in
    λ at k. goes_then _ _ _ _ _ _ (goes_skip white c.args.self.now i (equals at k) (white_equals at k) c.skip.ensures)
    (goes_then _ _ _ _ _ _ (goes_byte i c.take.new.self (equals at k) (in_content (value at k q.0)) v.0 (quote_on i.place at k _ q.0 (q.1 ∙ sym v.1)) v.3 v.4)
    (goes_then _ _ _ _ _ _ (c.in_ok-content.ensures.0 (value at k q.0) q.1)
    (goes_byte l c.take-2.new.self (in_content (value at k q.0)) (valued at k) y.0 (shuts_value l.place at k q.0 _ (m ∙ sym q.1)) y.3 y.4)))
