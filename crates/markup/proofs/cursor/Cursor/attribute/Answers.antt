-- What is left to show of `attribute` in src/attribute.rt.
use Rattle.std.proofs.Common.{◌≡◌, ap, sym, refl, ◌∙◌, rules}
use Rattle.std.proofs.lemmas.Result.{err_from_is_err_and}
use Rattle.markup.specs.Grammar.{white}
use Rattle.markup.specs.Parts.{here}
use Rattle.markup.specs.Reading.{attribute_named, equals, next, naming_attribute}
use Rattle.markup.proofs.Cursors.{goes_byte, goes_named_attribute, goes_skip, goes_then, refused, way_then}
use Rattle.markup.proofs.Slices.{naming_attr, refuses_named, white_named}
use Rattle.markup.proofs.cursor.Cursor.attribute.Goals as goal

pub returns-in_err-name_rest : goal.returns-in_err-name_rest
returns-in_err-name_rest c =
    let p = err_from_is_err_and c.from_residual.result c.from_residual.ensures.1 in
    λ at k. rw (p.1, p.2) (c.in_err-name_rest.ensures (naming_attribute at k) (naming_attr at k))

pub returns-in_err-take : goal.returns-in_err-take
returns-in_err-take c =
    let p = err_from_is_err_and c.from_residual-in_err-take.result c.from_residual-in_err-take.ensures.1 in
    let i = c.name_rest.new.self in
    let j = c.skip.new.self in
    let u = c.skip.ensures in
    λ at k. rw (p.1, p.2)
    ((goes_named_attribute c.args.self.now i 0 at k c.in_ok-name_rest.ensures).same
    ∙ (goes_skip white i j (attribute_named at k) (white_named at k) u).same
    ∙ refused _ j (attribute_named at k) _ refl (λ h q. refuses_named j.place at k (here j) (sym (u.3 h)) (search rules)) c.in_err-take.ensures)

pub returns : goal.returns
returns c =
    let i = c.name_rest.new.self in
    let j = c.skip.new.self in
    let v = c.in_ok-take.ensures in
    let e : here j ≡ 61 = search rules in
    λ at k. way_then _ _ _ _ _ _ _
    (goes_then _ _ _ _ _ _ (goes_named_attribute c.args.self.now i 0 at k c.in_ok-name_rest.ensures)
    (goes_then _ _ _ _ _ _ (goes_skip white i j (attribute_named at k) (white_named at k) c.skip.ensures)
    (goes_byte j c.take.new.self (attribute_named at k) (equals at k) v.0 (ap (λ z. next j.place (attribute_named at k) z) e) v.3 v.4)))
    (c.value.ensures at k)
