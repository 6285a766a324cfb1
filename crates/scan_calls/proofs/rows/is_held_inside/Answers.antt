use Rattle.std.proofs.Common.{ap, ◌∙◌}
use Rattle.book.specs.declared.event.Event.TheVariants.{Open}
use Rattle.levels.specs.Sets.{machine_of}
use Rattle.cells.specs.Cells.{Seen, alone}
use Rattle.scan.specs.Model.{is_held}
use Rattle.scan_calls.proofs.rows.is_held_inside.Goals as goal

pub returns : goal.returns
returns g c = c.is_held.ensures ∙ ap (λ (s : Seen). is_held (machine_of c.args.ready.now) (Open c.args.tag) (alone s)) c.entered-child.ensures
