-- What is left to show of `reference_rest` in src/reference.rt.
use Rattle.std.proofs.Common.{◌≡◌, get_or, ◌∙◌, arith, rules}
use Rattle.markup.proofs.Cursors.{goes_then, left_as}
use Rattle.markup.proofs.Slices.{awaited_done, awaited_on}
use Rattle.markup.proofs.cursor.Cursor.reference_rest.Goals as goal

pub loop-want-preserved : goal.loop-want-preserved
loop-want-preserved c =
    let b = c.loop-want.self in
    let rest = c.args.rest.now in
    let u = c.in_ok-take_or.ensures in
    let q : c.in_ok-take_or.field-0 ≡ get_or rest c.loop-want.want-index 0 = search rules in
    λ w. goes_then _ _ _ _ _ _ (c.loop-want.invariant w) (record {
      same_text = u.3;
      onward = omega arith;
      same = awaited_on b.text.now b.place c.args.at w rest c.loop-want.want-index u.0 c.loop-want-test.true (u.1 ∙ q) ∙ left_as _ _ _ _ _ u.3 u.4;
    })

pub returns : goal.returns
returns c = λ w.
    let g = c.loop-want.invariant w in
    let b = c.loop-want.self in
    record { same_text = g.same_text; onward = g.onward; same = g.same ∙ awaited_done b.text.now b.place c.args.at w c.args.rest.now c.loop-want.want-index (omega arith) }
