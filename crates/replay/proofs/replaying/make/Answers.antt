use Rattle.std.proofs.Common.{List, Some, vec_items, Option, Result, refl, ap, ◌∙◌}
use Rattle.std.proofs.lemmas.List.{with_items_is}
use Rattle.book.specs.declared.event.Event.{Event}
use Rattle.book.specs.declared.answer.Order.{Order}
use Rattle.book.specs.declared.answer.Totals.{Totals}
use Rattle.book.specs.declared.answer.Refusal.{Refusal}
use Rattle.book.specs.Machines.{Selecting}
use Rattle.scan_calls.specs.Scans.{model_of, meaning_of, table_of}
use Rattle.scan.specs.Model.{Model}
use Rattle.replay.proofs.CallByCall.{lent_answer, lent_list, lent_model}
use Rattle.replay.proofs.replaying.make.Goals as goal

some : Result Totals Refusal → Option (Result Totals Refusal)
some a = Some a

pub returns : goal.returns
unfolding some
returns g c =
    let s = c.args.scan.now in
    let m : Selecting = meaning_of s in
    let k = c.send.ensures.stepped in
    let a : Result Totals Refusal = c.send.result in
    let e : Event = c.args.x.now.call in
    let lent : List Order = c.as_mut_slice.result.now in
    let own : List Order = vec_items c.args.x.now.orders in
    let later : List Order = c.send.new.orders in
    let old : Model = model_of s in
    let new : Model = model_of c.send.new.self in
    record {
      same = k.same;
      made = record {
        call = refl;
        answer = ap some (lent_answer (table_of s) m old new e lent own later a c.as_mut_slice.ensures.value k.answer k.list k.model);
        list = with_items_is c.args.x.now.orders later (c.send.auto.orders ∙ c.as_mut_slice.ensures.len) ∙ lent_list (table_of s) m old new e lent own later a c.as_mut_slice.ensures.value k.answer k.list k.model;
      };
      model = lent_model (table_of s) m old new e lent own later a c.as_mut_slice.ensures.value k.answer k.list k.model;
    }
