use Rattle.std.proofs.Common.{◌≡◌, ℕ, ◌+◌, ◌-◌, List, length}
use Rattle.book_file.specs.Files.{names_at}
use Rattle.book_file.proofs.NamesRead.{behind}
use Rattle.book_file.proofs.rest.Rest.names.Given as goal

-- some names were read, and the others are read behind them
abbrev pub invariant-names : goal.invariant-names
invariant-names l =
    let s = l.initial.self in
    let size : ℕ = s.at + length s.bytes.now in
    ((ws : List (List ℕ)) × (names_at size l.count s.at s.bytes.now ≡ behind ws (names_at size (l.count - l.counter) l.self.at l.self.bytes.now)))
    × (l.self.at + length l.self.bytes.now ≡ size)
