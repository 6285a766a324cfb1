use Rattle.std.proofs.Common.{◌≡◌, ℕ, suc, ◌-◌, ◌≤◌, Bool, length, ap, ◌∙◌, subst, arith}
use Rattle.book.specs.Machines.{Machine}
use Rattle.levels.specs.Sets.{machine_of, reach_of}
use Rattle.scan_calls.specs.declared.scanning.Rows.{Rows}
use Rattle.scan_calls.specs.Rows.{Only, row_of}
use Rattle.scan_calls.proofs.Views.{closed_base, closed_settled}
use Rattle.scan_calls.proofs.scanning.Rows.close.Goals as goal

pub returns : goal.returns
returns g c =
    let m : Machine = machine_of c.args.ready.now in
    let reach : ℕ → ℕ → Bool = reach_of c.args.ready.now in
    let t : ℕ = c.args.tag in
    let old : Rows = c.args.self.now in
    let left : Rows = c.leave.new.self in
    let judged : Rows = c.settle-sent.new.self in
    let later : Rows = c.lower.new.self in
    let a = c.leave.ensures in
    let b = c.settle-sent.ensures in
    let z = c.lower.ensures in
    let d : ℕ = old.depth - 1 in
    let up : old.depth ≡ suc d = omega arith in
    let one_less : judged.depth - 1 ≡ d = ap (λ (k : ℕ). k - 1) (b.depth ∙ a.depth) in
    let down : later.depth ≡ d = z.depth ∙ one_less in
    let later_only : Only d judged.cells later.cells = subst (λ (k : ℕ). Only k judged.cells later.cells) one_less z.only in
    let room : judged.count ≤ length (row_of judged) = z.wide.0 in
    let some : 1 ≤ old.count = omega arith in
    let one : 1 ≤ judged.count = omega arith in
    record {
      depth = down;
      total = (let x = b.total in let y = z.count in let w = a.count in omega arith);
      base = closed_base reach m t old left judged later d up down a.depth b.depth a.count z.count a.only b.only later_only a.left z.lowered some one b.base;
      settled = closed_settled reach m t old left judged later d up down a.depth b.depth a.count z.count a.only b.only later_only a.left z.lowered c.args.event c.args.orders.now c.settle-sent.new.orders c.settle-sent.result
          a.wide.0 (let w = a.wide.1 in omega arith) room (let w = z.wide.1 in omega arith) b.settled;
    }
