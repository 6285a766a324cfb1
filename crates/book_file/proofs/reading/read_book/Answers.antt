use Rattle.std.proofs.Common.{◌≡◌, ◌+◌, ◌≤◌, length, drop, Ok, Result, ap, ◌∙◌, arith}
use Rattle.std.proofs.lemmas.Result.{err_from_is_err_and}
use Rattle.book.specs.declared.fault.BookFault.{BookFault}
use Rattle.book_file.specs.Files.{File, reading, tables_at, tables_size}
use Rattle.book_file.specs.Parts.{read_file, rows_of}
use Rattle.book_file.proofs.FileRead.{file_read, names_fault, tables_fault}
use Rattle.book_file.proofs.OwnTables.{own_tables}
use Rattle.book_file.proofs.Written.{written}
use Rattle.book_file.proofs.reading.read_book.Goals as goal

pub returns-in_err-tables : goal.returns-in_err-tables
returns-in_err-tables c =
    let bs = c.args.bytes.now in
    let h = c.in_ok-header.header in
    let whole : 10 + tables_size h ≤ length bs = omega (arith, c.if-bytes-tables.false, c.tables.ensures) in
    let p = err_from_is_err_and c.from_residual-in_err-tables.result c.from_residual-in_err-tables.ensures.1 in
    let value : read_file c.from_residual-in_err-tables.result ≡ reading bs =
    rw (p.1, p.2)
    (tables_fault bs h c.in_ok-header.ensures.value whole c.in_err-tables.field-0.0 (c.in_err-tables.ensures.value ∙ ap (tables_at h 10) c.split_at.ensures.back)) in
    record { value = value; written = written bs _ value; answers = own_tables bs _ (written bs _ value) }

pub returns-in_err-names : goal.returns-in_err-names
returns-in_err-names c =
    let bs = c.args.bytes.now in
    let h = c.in_ok-header.header in
    let tables = c.in_ok-tables.ensures in
    let behind = c.split_at.ensures.back in
    let whole : 10 + tables_size h ≤ length bs = omega (arith, c.if-bytes-tables.false, c.tables.ensures) in
    let p = err_from_is_err_and c.from_residual-in_err-names.result c.from_residual-in_err-names.ensures.1 in
    let value : read_file c.from_residual-in_err-names.result ≡ reading bs =
    rw (p.1, p.2)
    (names_fault bs h c.in_ok-header.ensures.value whole (rows_of c.in_ok-tables.tables)
    (tables.value ∙ ap (tables_at h 10) behind) c.tables-2.new.self.at c.tables-2.new.self.bytes.now tables.rest.1 (tables.rest.0 ∙ ap (drop (tables_size h)) behind)
    c.in_err-names.field-0.0 c.in_err-names.ensures) in
    record { value = value; written = written bs _ value; answers = own_tables bs _ (written bs _ value) }

pub returns : goal.returns
returns c =
    let bs = c.args.bytes.now in
    let h = c.in_ok-header.header in
    let tables = c.in_ok-tables.ensures in
    let behind = c.split_at.ensures.back in
    let whole : 10 + tables_size h ≤ length bs = omega (arith, c.if-bytes-tables.false, c.tables.ensures) in
    let value : ◌≡◌ {A = Result File BookFault} (read_file (Ok c.file_with.result)) (reading bs) =
    ap (λ f. Ok f) c.file_with.ensures
    ∙ file_read bs h c.in_ok-header.ensures.value whole (rows_of c.in_ok-tables.tables)
    (tables.value ∙ ap (tables_at h 10) behind) c.tables-2.new.self.at c.tables-2.new.self.bytes.now tables.rest.1 (tables.rest.0 ∙ ap (drop (tables_size h)) behind)
    _ c.in_ok-names.ensures in
    record { value = value; written = written bs _ value; answers = own_tables bs (Ok c.file_with.result) (written bs _ value) }
