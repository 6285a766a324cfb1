use Rattle.std.proofs.Common.{◌≡◌, ℕ, ◌<◌, ◌≤◌, map, get_or, take}
use Rattle.scan_calls.specs.Scans.{model_of, meaning_of, table_of}
use Rattle.replay.specs.declared.exchange.Exchange.{Exchange}
use Rattle.replay.specs.Replays.{asked_by, standing, Made}
use Rattle.replay.proofs.replaying.replay.Given as goal

abbrev pub invariant-loop-x : goal.invariant-loop-x
invariant-loop-x g l = record {
  same : l.scan.ready ≡ l.initial.scan.ready;
  model : model_of l.scan ≡ standing (table_of l.initial.scan) (meaning_of l.initial.scan) (model_of l.initial.scan) (map asked_by (take l.x-index l.initial.exchanges));
  made : (k : ℕ) → k < l.x-index → (d : Exchange) →
      Made (table_of l.initial.scan) (meaning_of l.initial.scan)
      (standing (table_of l.initial.scan) (meaning_of l.initial.scan) (model_of l.initial.scan) (map asked_by (take k l.initial.exchanges)))
      (get_or l.initial.exchanges k d) (get_or l.exchanges k d);
  rest : (k : ℕ) → l.x-index ≤ k → (d : Exchange) → get_or l.exchanges k d ≡ get_or l.initial.exchanges k d;
}
