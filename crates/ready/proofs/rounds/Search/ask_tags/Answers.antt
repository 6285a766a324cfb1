use Rattle.std.proofs.Common.{ℕ, ◌<◌, sym, ap, ◌∙◌, subst}
use Rattle.std.proofs.lemmas.Bool.{and_parts}
use Rattle.book.specs.Machines.{Machine}
use Rattle.ready.specs.Sets.{has}
use Rattle.ready.specs.Pairs.{lies}
use Rattle.ready.proofs.Existence.{search_found}
use Rattle.ready.proofs.rounds.Search.ask_tags.Goals as goal

pub ask_row-requires-clause-leads : goal.ask_row-requires-clause-leads
ask_row-requires-clause-leads g c p h =
    let so-far = c.loop-tag.invariant.0 in
    let now = c.loop-tag.self in
    let m = g.B.ShapeBook.machine now.book.now in
    let outer-in = subst (λ (k : Machine). c.args.outer < k.width) (sym (ap (λ b. g.B.ShapeBook.machine b.now) so-far.same_book)) c.requires.outer_in in
    let inside = c.at-inside.ensures ∙ now.entries c.args.outer c.loop-tag.tag outer-in c.loop-tag-test.true in
    let new = (and_parts (has c.row-new.result.words p) _ (sym (c.without.ensures p) ∙ h)).0 in
    ((search_found m (g.met.B.ShapeBook.lawful now.book.now) (lies now.table.rows) now.found).sound _ p
    (so-far.growing _ p (c.requires.known _ p (ap (λ (q : ℕ). lies c.args.fresh.now.rows q p) (sym inside) ∙ sym (c.row-new.ensures p) ∙ new)))).1
