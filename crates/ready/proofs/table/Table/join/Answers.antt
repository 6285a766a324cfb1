use Rattle.std.proofs.Common.{◌≡◌, ℕ, ◌+◌, Bool, true, false, ◌&&◌, ◌||◌, ltb, List, take, sym, ap, ap₂, ◌∙◌, subst, rules}
use Rattle.std.proofs.lemmas.List.{set-get_or}
use Rattle.ready.specs.declared.state_set.StateSet.{StateSet}
use Rattle.ready.specs.Pairs.{lies, nothing}
use Rattle.ready.proofs.RowLaws.{lies_is, next_row, same_row, untouched, joined_rows}
use Rattle.ready.proofs.table.Table.join.Goals as goal
use Rattle.ready.proofs.table.Table.join.Goals.{then-contains, else-contains}

pub loop-row-preserved : goal.loop-row-preserved
loop-row-preserved c =
    let before = untouched rows i old extra c.loop-row.invariant in
    elim c.if-contains.branch [
      | then-contains w ↦
          let lead : old i c.args.from ≡ true = sym (before c.args.from) ∙ lies_is rows i c.args.from ∙ sym w.if-contains.ensures in
          subst Next (sym w.row-items-is)
          (next_row rows i w.union.result (search rules) old extra c.loop-row.invariant
          (λ p. w.union.ensures p ∙ ap₂ (λ (x y : Bool). x || y) (sym (lies_is rows i p) ∙ before p)
          (c.row-more.ensures p ∙ ap (λ (b : Bool). b && lies c.args.self.now.rows c.args.to p) (sym lead))))
      | else-contains w ↦
          let none : old i c.args.from ≡ false = sym (before c.args.from) ∙ lies_is rows i c.args.from ∙ sym w.if-contains.ensures in
          subst Next (sym (w.row-items-is ∙ set-get_or rows i nothing))
          (same_row rows i old extra c.loop-row.invariant (λ p. ap (λ (b : Bool). b && lies c.args.self.now.rows c.args.to p) none))
    ]
  where
    old : ℕ → ℕ → Bool
    old q p = lies (take c.args.width c.args.self.now.rows) q p

    extra : ℕ → ℕ → Bool
    extra q p = old q c.args.from && lies c.args.self.now.rows c.args.to p

    i : ℕ
    i = c.loop-row.row-index

    rows : List StateSet
    rows = c.loop-row.row-items

    Next : List StateSet → Type 0
    Next t = (q p : ℕ) → lies t q p ≡ (old q p || (ltb q (i + 1) && extra q p))

pub returns : goal.returns
returns c =
    let old = lies (take c.args.width c.args.self.now.rows) in
    let e : c.loop-row.row-index ≡ c.args.width = search rules in
    joined_rows c.args.self.now.rows c.loop-row.row-items c.args.width c.args.from c.args.to (search rules)
    (λ q p. c.loop-row.invariant q p ∙ ap (λ (n : ℕ). old q p || (ltb q n && (old q c.args.from && lies c.args.self.now.rows c.args.to p))) e)
