-- A book for a test: whatever happens it is in state 0, and its marks go to a quarter of a byte.
use Rattle.std.specs.Prelude.{ℕ, ◌/◌, false, cond, ◌&&◌, nat_lt}
use Rattle.std.proofs.Common.{refl, arith}
use Rattle.book.specs.Limits.{tags, most_states}
use Rattle.book.specs.Machines.{Machine, Marks, Lawful}

-- Meaning ---------------------------------------------------------------------------------------------------------

abbrev pub still_machine : Machine
still_machine = record { width = most_states; start = 0; enter = λ s t. 0; back = λ s q t. 0; accepts = λ s. false }

abbrev pub quarter_marks : ℕ → Marks
quarter_marks byte s t = cond (nat_lt s most_states && nat_lt t tags) (byte / 4) 0

-- Rules of range --------------------------------------------------------------------------------------------------

-- for the law of the impl's trait, which may name nothing of its own crate outside specs/
pub still_lawful : Lawful still_machine
still_lawful =
    record {
      narrow = omega arith;
      starts = omega arith;
      enters = λ s t. omega arith;
      backs = λ s q t. omega arith;
      no_enter = λ s t o. refl;
      no_back = λ s q t o. refl;
      no_accept = λ s l. refl;
    }
