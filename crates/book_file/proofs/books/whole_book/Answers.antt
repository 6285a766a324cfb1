use Rattle.std.proofs.Common.{arith}
use Rattle.book_file.specs.Books.{shape_tables}
use Rattle.book_file.proofs.Filled.{whole_if_filled}
use Rattle.book_file.proofs.books.whole_book.Goals as goal

pub invariant_of-result : goal.invariant_of-result
invariant_of-result c =
    let w = whole_if_filled (shape_tables c.args.tables.now) c.requires in
    record {
      narrow = w.narrow;
      starts = omega (arith, w.starts);
      some = w.some;
      accept_whole = w.accept_size;
      enter_whole = w.enter_size;
      up_whole = w.up_size;
      side_whole = w.side_size;
      enters = w.enters;
      ups = w.ups;
      sides = w.sides;
    }
