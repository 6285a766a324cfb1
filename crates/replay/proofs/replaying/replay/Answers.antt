use Rattle.std.proofs.Common.{◌≡◌, ℕ, ◌<◌, Bool, List, map, length, get_or, take, sym, ap, ◌∙◌, subst, arith}
use Rattle.ready.specs.declared.ready.Ready.{Ready}
use Rattle.book.specs.Machines.{Selecting, selecting, LawfulMarks, Lawful}
use Rattle.book.specs.Tables.{Fits}
use Rattle.levels.specs.Sets.{reach_of}
use Rattle.scan_calls.specs.Scans.{model_of, table_of}
use Rattle.scan.specs.Model.{Model, begun}
use Rattle.replay.specs.declared.exchange.Exchange.{Exchange}
use Rattle.replay.specs.Replays.{asked_by, standing, onto, Made, Replayed}
use Rattle.replay.proofs.CallByCall.{made_more, rest_more, model_more, all_shown, replayed}
use Rattle.replay.proofs.replaying.replay.Goals as goal

pub loop-x-preserved : goal.loop-x-preserved
loop-x-preserved g c =
    let first = c.begin-scan.result in
    let now = c.loop-x.scan in
    let meaning : Ready g.row.B.Denot _ → Selecting = (λ r. selecting (g.B.ShapeBook.machine r.book) (g.B.SelectingBook.marks r.book)) in
    let reach : ℕ → ℕ → Bool = table_of first in
    let m : Selecting = meaning first.ready in
    let xs : List Exchange = c.args.exchanges.now in
    let ys : List Exchange = c.loop-x.exchanges in
    let i : ℕ = c.loop-x.x-index in
    let x : Exchange = c.x-item.result in
    let y : Exchange = c.make.new.x in
    let at : Model = model_of now in
    let v = c.loop-x.invariant in
    let made : Made reach m at x y =
    subst (λ (e : Exchange). Made reach m at e y) (sym c.x-item.is)
    (subst (λ (r : Ready g.row.B.Denot _). Made (reach_of r) (meaning r) at (get_or ys i x) y) v.same c.make.ensures.made) in
    let new : model_of c.make.new.scan ≡ onto reach m at (asked_by x) =
    subst (λ (e : Exchange). model_of c.make.new.scan ≡ onto reach m at (asked_by e)) (sym c.x-item.is)
    (subst (λ (r : Ready g.row.B.Denot _). model_of c.make.new.scan ≡ onto (reach_of r) (meaning r) at (asked_by (get_or ys i x))) v.same c.make.ensures.model) in
    let lt = c.loop-x-test.true in
    let long = c.loop-x.auto.exchanges in
    record {
      same = c.make.ensures.same ∙ v.same;
      model = model_more reach m (model_of first) xs ys i x y lt long v.made v.rest c.x-item.is at v.model made (model_of c.make.new.scan) new;
      made = made_more reach m (model_of first) xs ys i x y lt long v.made v.rest c.x-item.is at v.model made;
      rest = rest_more reach m (model_of first) xs ys i x y lt long v.made v.rest c.x-item.is at v.model made;
    }

pub returns : goal.returns
returns g c =
    let first = c.begin-scan.result in
    let book = c.args.book in
    let meaning : Ready g.row.B.Denot _ → Selecting = (λ r. selecting (g.B.ShapeBook.machine r.book) (g.B.SelectingBook.marks r.book)) in
    let ready = c.make_ready-ready.result in
    let m : Selecting = meaning ready in
    let reach : ℕ → ℕ → Bool = reach_of ready in
    let xs : List Exchange = c.args.exchanges.now in
    let ys : List Exchange = c.loop-x.exchanges in
    let i : ℕ = c.loop-x.x-index in
    let v = c.loop-x.invariant in
    let begun_on : first.ready ≡ ready = c.begin-scan.ensures.same in
    let is_book : ready.book ≡ book = c.make_ready-ready.ensures.book in
    let long : length ys ≡ length xs = c.loop-x.auto.exchanges in
    let all_made = subst (λ (s : Model). (k : ℕ) → k < i → (d : Exchange) → Made reach m (standing reach m s (map asked_by (take k xs))) (get_or xs k d) (get_or ys k d)) c.begin-scan.ensures.model
    (subst (λ (r : Ready g.row.B.Denot _). (k : ℕ) → k < i → (d : Exchange) →
    Made (reach_of r) (meaning r) (standing (reach_of r) (meaning r) (model_of first) (map asked_by (take k xs))) (get_or xs k d) (get_or ys k d)) begun_on v.made) in
    let law : Lawful m.shape = g.met.B.ShapeBook.lawful ready.book in
    let marks : LawfulMarks m.shape m.mark = subst (λ (b : g.row.B.Denot). LawfulMarks (g.B.ShapeBook.machine b) (g.B.SelectingBook.marks b)) (sym is_book) c.marked.ensures in
    let fits : Fits m.shape reach = subst (λ (b : g.row.B.Denot). Fits (g.B.ShapeBook.machine b) reach) (sym is_book) c.make_ready-ready.ensures.fits in
    let ended = c.loop-x-test.false in
    let shown = all_shown reach m (begun reach m.shape) xs ys long (λ k lt d. all_made k (omega arith) d) in
    record {
      same = c.hand_back-2.ensures ∙ ap (λ (r : Ready g.row.B.Denot _). r.book) (c.hand_back.ensures ∙ v.same ∙ begun_on) ∙ is_book;
      promise = subst (λ (b : g.row.B.Denot). Replayed (selecting (g.B.ShapeBook.machine b) (g.B.SelectingBook.marks b)) xs ys) is_book (replayed reach m xs ys law marks fits shown);
    }
