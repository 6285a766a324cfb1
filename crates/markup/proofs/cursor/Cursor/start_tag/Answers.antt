-- What is left to show of `start_tag` in src/tag.rt.
use Rattle.std.proofs.Common.{◌≡◌, ◌≤◌, ◌+◌, ◌-◌, length, [], ◌∷◌, eqb, ap, refl, ◌∙◌, arith, rules}
use Rattle.std.proofs.lemmas.Bool.{cond-false}
use Rattle.std.proofs.lemmas.Result.{err_from_is_err_and}
use Rattle.markup.specs.Grammar.{closes, opens}
use Rattle.markup.specs.Parts.{from, here, left}
use Rattle.markup.specs.Reading.{carried, giving, in_text, naming, next, shut, slashed}
use Rattle.markup.specs.declared.cursor.Cursor.{Cursor}
use Rattle.markup.proofs.Cursors.{byte_tells, goes_named, refused}
use Rattle.markup.proofs.Slices.{naming_start, refuses_shut}
use Rattle.markup.proofs.cursor.Cursor.start_tag.Goals as goal

pub returns-in_err-name_rest : goal.returns-in_err-name_rest
returns-in_err-name_rest c =
    let p = err_from_is_err_and c.from_residual.result c.from_residual.ensures.1 in
    rw (p.1, p.2) (c.in_err-name_rest.ensures (naming c.args.at) (naming_start c.args.at))

pub returns-in_err-b : goal.returns-in_err-b
returns-in_err-b c =
    let p = err_from_is_err_and c.from_residual-in_err-b.result c.from_residual-in_err-b.ensures.1 in
    rw (p.1, p.2) ((goes_named c.args.self.now c.name_rest.new.self 0 c.args.at c.in_ok-name_rest.ensures).same ∙ c.in_err-b.ensures c.args.at _)

pub returns-in-62 : goal.returns-in-62
returns-in-62 c =
    let b = c.args.self.now in
    let i = c.name_rest.new.self in
    let a = c.attributes.new.self in
    let at = c.args.at in
    let k = i.place - b.place + 1 in
    let n = c.in_ok-name_rest.ensures in
    let v = c.in_ok-b.ensures in
    λ e.
    let q : k ≡ i.place - (at + 1) = omega (arith, n.1, e) in record {
      same_text = v.0 ∙ n.0;
      onward = omega (arith, n.1, v.1);
      named = omega (arith, n.1, e);
      ends = omega (arith, v.1);
      same = (goes_named b i 0 at n).same ∙ v.4 at k ∙ ap (λ z. carried (shut at k a.place z) (λ m. from a.text.now (a.place + 1) m)) c.in-62.is ∙ ap (λ z. giving (opens at (at + 1) z ∷ []) (from a.text.now (a.place + 1) in_text)) q;
    }

pub returns-in_err-take-in-47 : goal.returns-in_err-take-in-47
returns-in_err-take-in-47 c =
    let p = err_from_is_err_and c.from_residual-in_err-take-in-47.result c.from_residual-in_err-take-in-47.ensures.1 in
    let b = c.args.self.now in
    let i = c.name_rest.new.self in
    let a = c.attributes.new.self in
    let at = c.args.at in
    let k = i.place - b.place + 1 in
    let n = c.in_ok-name_rest.ensures in
    let v = c.in_ok-b.ensures in
    let j : Cursor = record { text = a.text; place = a.place + 1; inside = let l : a.place + 1 ≤ length a.text.now = omega (arith, v.2) in l } in
    rw (p.1, p.2)
    ((goes_named b i 0 at n).same ∙ v.4 at k ∙ ap (λ z. carried (shut at k a.place z) (λ m. from a.text.now (a.place + 1) m)) c.in-47.is
    ∙ refused _ j (slashed at k) _ refl (λ h y. cond-false (eqb (here j) 62) _ _ (search rules)) c.in_err-take-in-47.ensures)

pub returns-in_ok-take-in-47 : goal.returns-in_ok-take-in-47
returns-in_ok-take-in-47 c =
    let b = c.args.self.now in
    let i = c.name_rest.new.self in
    let a = c.attributes.new.self in
    let at = c.args.at in
    let k = i.place - b.place + 1 in
    let n = c.in_ok-name_rest.ensures in
    let v = c.in_ok-b.ensures in
    let j : Cursor = record { text = a.text; place = a.place + 1; inside = let l : a.place + 1 ≤ length a.text.now = omega (arith, v.2) in l } in
    let y = c.in_ok-take-in-47.ensures in
    let m : c.in_ok-take-in-47.field-0 ≡ 62 = search rules in
    λ e.
    let q : k ≡ i.place - (at + 1) = omega (arith, n.1, e) in record {
      same_text = y.3 ∙ v.0 ∙ n.0;
      onward = omega (arith, n.1, v.1, y.4);
      named = omega (arith, n.1, e);
      ends = omega (arith, v.1, y.4);
      same = (goes_named b i 0 at n).same ∙ v.4 at k ∙ ap (λ z. carried (shut at k a.place z) (λ m. from a.text.now (a.place + 1) m)) c.in-47.is
          ∙ byte_tells j c.take.new.self (slashed at k) (opens at (at + 1) k ∷ (closes at (at + 1) k ∷ [])) y.0 (ap (λ z. next (a.place + 1) (slashed at k) z) (y.1 ∙ m)) y.3 y.4
          ∙ ap (λ z. giving (opens at (at + 1) z ∷ (closes at (at + 1) z ∷ [])) (left c.take.new.self in_text)) q;
    }

pub returns-in_default : goal.returns-in_default
returns-in_default c =
    let b = c.args.self.now in
    let i = c.name_rest.new.self in
    let a = c.attributes.new.self in
    let at = c.args.at in
    let k = i.place - b.place + 1 in
    let n = c.in_ok-name_rest.ensures in
    let v = c.in_ok-b.ensures in
    (goes_named b i 0 at n).same ∙ v.4 at k ∙ ap (λ z. carried z (λ m. from a.text.now (a.place + 1) m)) (refuses_shut a.place at k c.in_ok-b.b (search rules) (search rules))
