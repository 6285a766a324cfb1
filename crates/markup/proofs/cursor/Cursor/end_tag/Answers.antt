-- What is left to show of `end_tag` in src/tag.rt.
use Rattle.std.proofs.Common.{◌≡◌, ◌+◌, ◌-◌, [], ◌∷◌, ap, sym, refl, ◌∙◌, arith, rules}
use Rattle.std.proofs.lemmas.Bool.{cond-true}
use Rattle.std.proofs.lemmas.Result.{err_from_is_err_and}
use Rattle.markup.specs.Grammar.{closes, white}
use Rattle.markup.specs.Parts.{here, left}
use Rattle.markup.specs.Reading.{end_spaced, giving, in_text, naming_end, next, slash}
use Rattle.name_bytes.specs.Names.{name_start}
use Rattle.markup.proofs.Cursors.{byte_tells, goes_byte, goes_end_named, goes_skip, refused}
use Rattle.markup.proofs.Slices.{naming_ends, refuses_ended, white_ended}
use Rattle.markup.proofs.cursor.Cursor.end_tag.Goals as goal

pub returns-in_err-name_rest : goal.returns-in_err-name_rest
returns-in_err-name_rest c =
    let p = err_from_is_err_and c.from_residual-in_err-name_rest.result c.from_residual-in_err-name_rest.ensures.1 in
    let b = c.args.self.now in
    let o = c.take.new.self in
    let at = c.args.at in
    let h = c.in_ok-take.ensures in
    rw (p.1, p.2) ((goes_byte b o (slash at) (naming_end at 1) h.0 (cond-true (name_start (here b)) _ _ (ap name_start h.1 ∙ sym h.2)) h.3 h.4).same ∙ c.in_err-name_rest.ensures (naming_end at) (naming_ends at))

pub returns-in_err-take-2 : goal.returns-in_err-take-2
returns-in_err-take-2 c =
    let p = err_from_is_err_and c.from_residual-in_err-take-2.result c.from_residual-in_err-take-2.ensures.1 in
    let b = c.args.self.now in
    let o = c.take.new.self in
    let i = c.name_rest.new.self in
    let j = c.skip.new.self in
    let at = c.args.at in
    let k = i.place - o.place + 1 in
    let h = c.in_ok-take.ensures in
    let u = c.skip.ensures in
    rw (p.1, p.2)
    ((goes_byte b o (slash at) (naming_end at 1) h.0 (cond-true (name_start (here b)) _ _ (ap name_start h.1 ∙ sym h.2)) h.3 h.4).same ∙ (goes_end_named o i 0 at c.in_ok-name_rest.ensures).same ∙ (goes_skip white i j (end_spaced at k) (white_ended at k) u).same
    ∙ refused _ j (end_spaced at k) _ refl (λ l y. refuses_ended j.place at k (here j) (sym (u.3 l)) (search rules)) c.in_err-take-2.ensures)

pub returns : goal.returns
returns c =
    let b = c.args.self.now in
    let o = c.take.new.self in
    let i = c.name_rest.new.self in
    let j = c.skip.new.self in
    let at = c.args.at in
    let k = i.place - o.place + 1 in
    let h = c.in_ok-take.ensures in
    let n = c.in_ok-name_rest.ensures in
    let u = c.skip.ensures in
    let y = c.in_ok-take-2.ensures in
    let m : here j ≡ 62 = search rules in
    λ e.
    let q : k ≡ i.place - (at + 2) = omega (arith, n.1, e, h.4) in record {
      same_text = y.3 ∙ u.0 ∙ n.0 ∙ h.3;
      onward = omega (arith, n.1, u.1, h.4, y.4);
      named = omega (arith, n.1, e, h.4);
      ends = omega (arith, u.1, y.4);
      same = (goes_byte b o (slash at) (naming_end at 1) h.0 (cond-true (name_start (here b)) _ _ (ap name_start h.1 ∙ sym h.2)) h.3 h.4).same ∙ (goes_end_named o i 0 at n).same ∙ (goes_skip white i j (end_spaced at k) (white_ended at k) u).same
          ∙ byte_tells j c.take-2.new.self (end_spaced at k) (closes at (at + 2) k ∷ []) y.0 (ap (λ z. next j.place (end_spaced at k) z) m) y.3 y.4
          ∙ ap (λ z. giving (closes at (at + 2) z ∷ []) (left c.take-2.new.self in_text)) q;
    }
