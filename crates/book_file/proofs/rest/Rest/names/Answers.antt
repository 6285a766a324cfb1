use Rattle.std.proofs.Common.{◌+◌, [], ◌∷◌, ◌++◌, length, sym, ap, ◌∙◌}
use Rattle.std.proofs.lemmas.Result.{err_from_is_err_and}
use Rattle.book_file.specs.Files.{name_at}
use Rattle.book_file.proofs.NamesRead.{names_finish, names_more, names_passed, names_stop}
use Rattle.book_file.proofs.rest.Rest.names.Goals as goal

pub returns-in_err-_name : goal.returns-in_err-_name
returns-in_err-_name c =
    let s = c.names.self in
    let size = c.args.self.now.at + length c.args.self.now.bytes.now in
    let p = err_from_is_err_and c.from_residual.result c.from_residual.ensures.1 in
    let read = c.names.invariant.0 in
    let stop = c.in_err-_name.ensures.value ∙ ap (λ n. name_at n s.at s.bytes.now) c.names.invariant.1 in
    rw (p.1, p.2)
    (sym (read.1 ∙ names_stop size c.args.count c.names.counter s.at s.bytes.now read.0 c.in_err-_name.field-0.0 c.names-test.true stop))

pub names-preserved : goal.names-preserved
names-preserved c =
    let s = c.names.self in
    let size = c.args.self.now.at + length c.args.self.now.bytes.now in
    let w = c.in_ok-_name._name.now in
    let kept = c.in_ok-_name.ensures in
    let read = c.names.invariant.0 in
    let value = kept.value ∙ ap (λ n. name_at n s.at s.bytes.now) c.names.invariant.1 in (
      (
        read.0 ++ w ∷ [],
        read.1
            ∙ names_more size c.args.count c.names.counter s.at s.bytes.now read.0 w
            c.name.new.self.at c.name.new.self.bytes.now c.names-test.true value kept.at kept.bytes,
      ),
      kept.size ∙ c.names.invariant.1,
    )

pub returns : goal.returns
returns c =
    let s = c.args.self.now in
    let size = s.at + length s.bytes.now in
    let read = c.names.invariant.0 in
    names_passed c.finish.result size c.args.count s.at s.bytes.now read.0
    (read.1
    ∙ names_finish size c.args.count c.names.counter c.names.self.at c.names.self.bytes.now read.0 c.finish.result c.names-test.false (c.finish.ensures size))
