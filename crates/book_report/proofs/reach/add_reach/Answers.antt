use Rattle.std.proofs.Common.{rules, ◌≡◌, ℕ, true, ◌↔◌, ◌++◌, ap, ◌∙◌, append_assoc, subst}
use Rattle.std.proofs.lemmas.Result.{on_ok_weaker}
use Rattle.ready.specs.Dead.{Useless}
use Rattle.ready.specs.Pairs.{lies}
use Rattle.ready.specs.Sets.{has}
use Rattle.book_report.specs.Reach.{Shown, row_lines, useless_line}
use Rattle.book_report.proofs.reach.add_reach.Goals as goal

pub returns : goal.returns
returns g c =
    let ready = c.make_ready-ready.result in
    let reach = lies ready.reach.rows in
    let useless = has c.useless_states-useless.result.words in
    let w = c.width-width.result in
    let page = c.args.page.now in
    let book = c.make_ready-ready.ensures.book in
    let width = c.width-width.ensures ∙ ap (λ b. (g.B.ShapeBook.machine b).width) (c.book.ensures ∙ book) in
    on_ok_weaker {Q = Shown (g.B.ShapeBook.machine c.args.book) page c.add_states.new.page} _
    (λ e. record {
      reach = reach;
      rows = c.make_ready-ready.ensures.reach;
      useless = useless;
      never = subst (λ b. (q : ℕ) → (useless q ≡ true) ↔ Useless (g.B.ShapeBook.machine b) q) book c.useless_states-useless.ensures;
      printed =
          e
          ∙ ap (λ p. p ++ useless_line useless w) c.in_ok-add_rows.ensures
          ∙ append_assoc page (row_lines reach w) (useless_line useless w)
          ∙ ap (λ n. page ++ (row_lines reach n ++ useless_line useless n)) width;
    })
    (c.add_states.ensures useless (λ k b e. search rules))
