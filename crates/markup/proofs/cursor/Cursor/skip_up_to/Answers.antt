-- What is left to show of `skip_up_to` in src/cursor.rt.
use Rattle.std.proofs.Common.{◌≡◌, ◌<◌, ℕ, Bool, true, false, get_or, length, refl, subst, inl, inr, arith}
use Rattle.std.proofs.lemmas.Bool.{cases_lt}
use Rattle.markup.proofs.cursor.Cursor.skip_up_to.Goals as goal
use Rattle.markup.proofs.cursor.Cursor.skip_up_to.Goals.{then-loop-place-test+else-fits, else-loop-place-test}
use Rattle.markup.specs.contracts.cursor.Cursor.skip_up_to.F-Fn as bound

pub loop-place-preserved : goal.loop-place-preserved
loop-place-preserved g c =
    let s = c.args.self.now in
    let answers : ℕ → Bool → Type 0 = (bound.words g.row.F g.F.Fn).post c.args.fits in
    let now = c.loop-place.invariant in
    let fits = subst (answers _) c.if-fits.true c.fits.ensures in
    record {
      onward = omega (arith, now.onward);
      within = omega (arith, c.loop-place-test.true);
      fit = λ k l m. elim (cases_lt k c.loop-place.place) [
        | inl j ↦ now.fit k l j
        | inr j ↦ subst (λ (z : ℕ). answers (get_or s.text.now z 0) true) (let e : c.loop-place.place ≡ k = omega (arith, j, m) in e) fits
      ];
    }

pub returns : goal.returns
returns g c =
    let answers : ℕ → Bool → Type 0 = (bound.words g.row.F g.F.Fn).post c.args.fits in
    let now = c.loop-place.invariant in (
      refl,
      now.onward,
      omega (arith, now.within, c.min.ensures),
      now.fit,
      λ l h. elim c.loop-place-test.branch [
        | then-loop-place-test+else-fits w ↦ subst (answers _) w.if-fits.false w.fits.ensures
        | else-loop-place-test w ↦ absurd (omega (arith, l, h, w.loop-place-test.false, c.min.ensures))
      ],
    )
